-- What a question asks of a string that was not refused.
-- Assumes nothing.
use Rattle.std.specs.Prelude.{◌≡◌, Result, Ok, Err, Option, Some, None}
use Rattle.refusal.specs.declared.Refusal.{Refusal}
use Rattle.strings.specs.declared.Place.{Place}
use Rattle.reader.specs.Questions.{on_string}

pub answered : {A : Type 0} (bad : Refusal → A) (s : Result (Option Place) Refusal) (x : Option Place) → s ≡ Ok x → (a : A) → on_string bad s a ≡ a
answered bad s None e a = rw e
answered bad s (Some p) e a = rw e
