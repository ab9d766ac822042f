-- `one_trace::named` meets its contract. A trace that is there has its pointer in the pointer room. Assumes nothing.
use Rattle.std.proofs.Common.{ap, Some, sym, ◌∙◌, arith}
use lib.IntN.{ℤ}
use mir.Syntax.{w32}
use Rattle.word.specs.Signed.{handed}
use Rattle.part_number.specs.PartNumber.{whose_of}
use Rattle.reader.specs.Reach.{whose_trace}
use Rattle.one_trace.specs.Alone.{named_of}
use Rattle.one_trace.proofs.named.Goals as goal

pub own-requires : goal.own-requires
unfolding named_of
own-requires c =
    let l = (whose_trace _ _ _ (sym c.named.ensures ∙ c.in-Some-Trace.is ∙ ap Some c.in-Some-Trace.field-0-is)).1 in
    (omega (arith, l, c.requires.0, c.requires.1), c.requires.1)

pub returns-in-Some-Trace : goal.returns-in-Some-Trace
unfolding named_of
returns-in-Some-Trace c =
    rw (
      (sym (handed w32 (λ (z : ℤ). whose_of z c.args.x.n) c.args.trace c.ranges.trace.sfits c.named.ensures) ∙ c.in-Some-Trace.is ∙ ap Some c.in-Some-Trace.field-0-is),
      c.own.ensures,
    )

pub returns-in-Some-File : goal.returns-in-Some-File
unfolding named_of
returns-in-Some-File c =
    rw (
      (sym (handed w32 (λ (z : ℤ). whose_of z c.args.x.n) c.args.trace c.ranges.trace.sfits c.named.ensures) ∙ c.in-Some-File.is ∙ ap Some c.in-Some-File.field-0-is),
      c.no_trace.ensures,
    )

pub returns-in-None : goal.returns-in-None
unfolding named_of
returns-in-None c =
    rw (
      (sym (handed w32 (λ (z : ℤ). whose_of z c.args.x.n) c.args.trace c.ranges.trace.sfits c.named.ensures) ∙ c.in-None.is),
      c.no_trace-in-None.ensures,
    )
