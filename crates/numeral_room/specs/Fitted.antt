-- A text against the room for it (document 02 §4): "30 no room".
-- Assumes nothing.
use Rattle.std.specs.Prelude.{List, ℕ, length, ltb, Result, Ok}
use Rattle.refusal.specs.declared.Rule.TheVariants.{NoRoom}
use Rattle.refusal.specs.Rows.{pick}
use Rattle.refusal.specs.Writing.{refuse}
use Rattle.refusal.specs.declared.Refusal.{Refusal}

-- 30, else the text's length
abbrev pub fitted : ℕ → List ℕ → Result ℕ Refusal
fitted room t = pick (ltb room (length t)) (refuse NoRoom 0) (Ok (length t))
