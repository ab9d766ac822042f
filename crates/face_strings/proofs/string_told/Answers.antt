-- `face_strings::string_told` meets its contract. Each arm is one of the answers. Assumes nothing.
use Rattle.std.specs.Prelude.{Ok, Option, Some, None, ◌≡◌}
use Rattle.std.proofs.Common.{ap, ◌∙◌}
use Rattle.strings.specs.declared.Place.{Place}
use mir.Syntax.{w32}
use mir.Facts.{to_z-of_z}
use Rattle.face.specs.Face.{as_verdict}
use Rattle.face_values.specs.FaceValues.{as_string}
use Rattle.face_strings.proofs.string_told.Goals as goal

pub returns-in-Ok-Some : goal.returns-in-Ok-Some
unfolding as_verdict as_string
returns-in-Ok-Some c =
    let k : ◌≡◌ {A = Option Place} c.in-Ok-Some.field-0 (Some c.in-Ok-Some.s) = rw c.in-Ok-Some.is at c.in-Ok-Some.field-0-is in
    rw (c.in-Ok-Some.is ∙ ap Ok k, ← c.span.ensures, ← c.span-in-Ok-Some.ensures)

pub returns-in-Ok-None : goal.returns-in-Ok-None
unfolding as_verdict as_string
returns-in-Ok-None c =
    let k : ◌≡◌ {A = Option Place} c.in-Ok-None.field-0 None = rw c.in-Ok-None.is at c.in-Ok-None.field-0-is in
    rw (c.in-Ok-None.is ∙ ap Ok k)

pub returns-in-Err : goal.returns-in-Err
unfolding as_verdict as_string
returns-in-Err c =
    rw (
      c.in-Err.is,
      to_z-of_z {w = w32} (record { sfits = c.struct_told-1.given.1.0.1 }),
      c.told-t.ensures,
    )
