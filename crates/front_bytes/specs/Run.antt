-- Runs of digits, blanks and what is no blank: the bytes of a kind at the front of a text, and what is behind them. The
-- laws hold for any kind.
-- Assumes nothing.
use Rattle.std.specs.Prelude.{◌≡◌, Bool, ℕ, suc, ◌-◌, length, take, drop}
use Rattle.std.proofs.Math.Path.{refl}
use Rattle.std.proofs.Common.{ap, ◌∙◌, arith, take-append-drop, length-drop, length-take-le, take_all, take_at, drop_at}
use Rattle.std.proofs.Math.Bool.{true, false}
use mathlib.Core.List.{List, [], ◌∷◌, ◌++◌}
use Rattle.std.proofs.Math.Seq.{take-length, drop-length}
use Rattle.refusal.specs.Rows.{pick}
use Rattle.chars.specs.Runs.{run, Stops, run_le}

-- those bytes, and what is behind them
abbrev pub front : (ℕ → Bool) → List ℕ → List ℕ
front p t = take (run p t) t

abbrev pub behind : (ℕ → Bool) → List ℕ → List ℕ
behind p t = drop (run p t) t

-- every byte passes the test
abbrev pub All : (ℕ → Bool) → List ℕ → Type 0
All p [] = Unit {0}
All p (b ∷ bs) = (p b ≡ true) × All p bs

-- what `&s[n..]` is
pub rest : (n : ℕ) (s : List ℕ) → take (length s - n) (drop n s) ≡ drop n s
rest n s = take_all (length s - n) (drop n s) (simp length-drop (omega arith))

module _ (p : ℕ → Bool) where
  pub run_yes : (b : ℕ) (bs : List ℕ) → p b ≡ true → run p (b ∷ bs) ≡ suc (run p bs)
  unfolding run
  run_yes b bs e = rw e

  pub run_none : (t : List ℕ) → Stops p t → run p t ≡ 0
  unfolding run
  run_none [] h = refl
  run_none (b ∷ bs) h = rw h

  pub front_length : (t : List ℕ) → length (front p t) ≡ run p t
  front_length t = length-take-le (run p t) t (run_le p t)

  -- the two parts make the text; the first is all of the kind, and the second starts with nothing of it
  pub parts : (t : List ℕ) → front p t ++ behind p t ≡ t
  parts t = take-append-drop (run p t) t

  pub front_all : (t : List ℕ) → All p (front p t)
  unfolding run
  front_all [] = tt
  front_all (b ∷ bs) = go (p b) refl (front_all bs)
    where
      go : (q : Bool) → p b ≡ q → All p (take (run p bs) bs) → All p (take (pick q (suc (run p bs)) 0) (b ∷ bs))
      go true e h = (e, h)
      go false e h = tt

  -- and they are the only such two
  pub run_length : (xs r : List ℕ) → All p xs → Stops p r → run p (xs ++ r) ≡ length xs
  run_length [] r h s = run_none r s
  run_length (x ∷ xs) r h s = run_yes x (xs ++ r) h.0 ∙ ap suc (run_length xs r h.1 s)

  pub front_is : (xs r : List ℕ) → All p xs → Stops p r → front p (xs ++ r) ≡ xs
  front_is xs r h s = rw (run_length xs r h s) (take_at xs r (length xs) refl)

  pub behind_is : (xs r : List ℕ) → All p xs → Stops p r → behind p (xs ++ r) ≡ r
  behind_is xs r h s = rw (run_length xs r h s) (drop_at xs r (length xs) refl)

  pub run_all : (xs : List ℕ) → All p xs → run p xs ≡ length xs
  run_all [] h = run_none [] tt
  run_all (x ∷ xs) h = run_yes x xs h.0 ∙ ap suc (run_all xs h.1)

  pub behind_all : (xs : List ℕ) → All p xs → behind p xs ≡ []
  behind_all xs h = rw (run_all xs h) (drop-length xs)

  pub front_of_all : (xs : List ℕ) → All p xs → front p xs ≡ xs
  front_of_all xs h = rw (run_all xs h) (take-length xs)

  -- all of two lists, and of one among others
  pub all_append : (xs ys : List ℕ) → All p xs → All p ys → All p (xs ++ ys)
  all_append [] ys h k = k
  all_append (x ∷ xs) ys h k = (h.0, all_append xs ys h.1 k)

  pub all_among : (b : ℕ) (before after : List ℕ) → All p (before ++ b ∷ after) → p b ≡ true
  all_among b [] after h = h.0
  all_among b (x ∷ xs) after h = all_among b xs after h.1

pub all_weaker : (p q : ℕ → Bool) → ((b : ℕ) → p b ≡ true → q b ≡ true) → (xs : List ℕ) → All p xs → All q xs
all_weaker p q w [] h = tt
all_weaker p q w (x ∷ xs) h = (w x h.0, all_weaker p q w xs h.1)
