-- What a writing answers, the length that it made or a refusal, and what it leaves in the lent memory. Assumes nothing.
use Rattle.std.specs.Prelude.{ℕ, Result, Ok, Err}
use Rattle.refusal.specs.declared.Rule.{Rule}
use Rattle.refusal.specs.declared.Part.TheVariants.{File}
use Rattle.refusal.specs.Table.{refusal}
use Rattle.refusal.specs.declared.Refusal.{Refusal}

-- a row of a writing: part -1
abbrev pub refuse : Rule → ℕ → Result ℕ Refusal
refuse r at = Err (refusal r File at)

-- a lent buffer at the end: the new one where a length is answered, else as it was
abbrev pub on_written : {A : Type 0} → Result ℕ Refusal → A → A → A
on_written (Ok end) new old = new
on_written (Err r) new old = old
