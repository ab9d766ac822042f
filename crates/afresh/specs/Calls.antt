-- Any sequence of calls: a start and additions one behind the other, refused ones in between included, leave the file
-- of the traces that were accepted, in their order (document 01, "What we write": the file that a list defines).
-- Assumes nothing.
use Rattle.std.specs.Prelude.{◌≡◌, Bool, ℕ, ◌≤◌, length, drop, Result, Ok, Err, List, [], ◌∷◌}
use Rattle.refusal.specs.declared.Refusal.{Refusal}
use Rattle.layout.specs.Layout.{Trace}
use Rattle.refusal.specs.Writing.{on_written}
use Rattle.writer.specs.Answers.{add_answer, add_left}
use Rattle.afresh.specs.FileOf.{Holds}
use Rattle.writer.specs.Shown.{add_refused}

-- ---- calls one behind the other, each given the bytes and the length that the calls before it left

-- "The image's length is given beside the buffer and the new length is answered"; a refusal leaves it as it was
abbrev pub length_left : Result ℕ Refusal → ℕ → ℕ
length_left (Ok end) n = end
length_left (Err r) n = n

-- the buffer and the length after the calls
unfoldable pub after : List ℕ → ℕ → List Trace → List ℕ × ℕ
after xs n [] = (xs, n)
after xs n (x ∷ calls) = after (add_left xs n x) (length_left (add_answer xs n x) n) calls

-- what they answer
unfoldable pub answers_of : List ℕ → ℕ → List Trace → List (Result ℕ Refusal)
answers_of xs n [] = []
answers_of xs n (x ∷ calls) = add_answer xs n x ∷ answers_of (add_left xs n x) (length_left (add_answer xs n x) n) calls

-- the traces whose call answered a length, in their order
unfoldable pub accepted_of : List ℕ → ℕ → List Trace → List Trace
accepted_of xs n [] = []
accepted_of xs n (x ∷ calls) =
    let more = accepted_of (add_left xs n x) (length_left (add_answer xs n x) n) calls in
    on_written (add_answer xs n x) (x ∷ more) more

-- ---- one call

module _ (xs : List ℕ) (n : ℕ) (x : Trace) (calls : List Trace) where
  pub after_to : (end : ℕ) → add_answer xs n x ≡ Ok end → after xs n (x ∷ calls) ≡ after (add_left xs n x) end calls
  unfolding after
  after_to end h = rw h

  pub accepted_to : (end : ℕ) → add_answer xs n x ≡ Ok end → accepted_of xs n (x ∷ calls) ≡ x ∷ accepted_of (add_left xs n x) end calls
  unfolding accepted_of
  accepted_to end h = rw h

  pub answers_to : (end : ℕ) → add_answer xs n x ≡ Ok end → answers_of xs n (x ∷ calls) ≡ Ok end ∷ answers_of (add_left xs n x) end calls
  unfolding answers_of
  answers_to end h = rw h

  -- "A refusal .. changes no caller's memory": as if the call had not been made
  pub after_refused : (r : Refusal) → add_answer xs n x ≡ Err r → after xs n (x ∷ calls) ≡ after xs n calls
  unfolding after
  after_refused r h = rw (add_refused xs n x r h, h)

  pub accepted_refused : (r : Refusal) → add_answer xs n x ≡ Err r → accepted_of xs n (x ∷ calls) ≡ accepted_of xs n calls
  unfolding accepted_of
  accepted_refused r h = rw (add_refused xs n x r h, h)

module _ (high : Bool) (slots : ℕ) (sheet : List ℕ) where
  -- what calls have left of a buffer xs, where the image was of length n before them: the file of a list, and "the
  -- bytes past what they write"
  pub record Grew (ts : List Trace) (xs : List ℕ) (n : ℕ) (left : List ℕ × ℕ) : Type 0 where
    pub holds : Holds high slots sheet ts left.0 left.1
    pub longer : n ≤ left.1
    pub past : drop left.1 left.0 ≡ drop left.1 xs
    pub size : length left.0 ≡ length xs
