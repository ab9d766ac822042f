-- The frame of a string: the laws of rows 14 and 15, one for each answer, and what a frame says of its bytes.
-- Assumes nothing.
use Rattle.std.specs.Prelude.{◌≡◌, refl, Bool, List, [], ◌∷◌, ◌++◌, ℕ, ◌+◌, ◌-◌, ◌≤◌, ◌<◌, ltb, eqb, drop, Ok, Err, Some, None}
use Rattle.std.proofs.Common.{sym, ap, ◌∙◌, append_assoc, length-append, drop_at, drop-drop}
use Rattle.std.proofs.Math.Bool.{true, false}
use native.Mathlib.Omega.{arith, by_contra}
use Rattle.refusal.specs.Rows.{pick}
use Rattle.std.proofs.Math.ListN.{length}
use Rattle.std.proofs.Math.Seq.{drop-append_seam}
use borrow.Author.Tests.{lt-ltb, le-ltb, eq-eqb, ne_eqb, eqb-false, ltb-false}
use Rattle.word.specs.Part.{part, part_among}
use Rattle.word.specs.Word.{word_at, value_of, low_first, bytes_of}
use Rattle.word.specs.WordLaws.{length_bytes_of, word_among}
use Rattle.refusal.specs.declared.Rule.TheVariants.{StringOffset, StringEnd}
use Rattle.text.specs.declared.Manner.{Manner}
use Rattle.chars.specs.Runs.{same, same_refl}
use Rattle.text.specs.Manner.{open_end}
use Rattle.strings.specs.Strings.{offset, body, cut, frame_of}

-- where no byte is left there is no offset, and it reads as 0
pub no_offset : (high : Bool) (l : List ℕ) → length l ≡ 0 → offset high l ≡ 0
unfolding offset word_at value_of low_first
no_offset true [] e = refl
no_offset false [] e = refl
no_offset high (x ∷ l) e = absurd (omega arith)

-- two bytes or more are an offset in every manner
pub cut_two : (how : Manner) (l : List ℕ) → 2 ≤ length l → cut how l ≡ false
cut_two how l h = go (open_end how)
  where
    go : (w : Bool) → pick w (eqb (length l) 1) (ltb (length l) 2) ≡ false
    go true = ne_eqb (length l) 1 (omega arith)
    go false = le-ltb (length l) 2 h

-- ---- which answer it is, from the tests as the code makes them: o is the offset that was read
module _ (how : Manner) (high : Bool) (t l : List ℕ) where
  pub frame_short : cut how l ≡ true → Err StringOffset ≡ frame_of how high t l
  unfolding frame_of
  frame_short h = rw h

  module _ (o : ℕ) (e : o ≡ word_at 2 high l 0) (two : 2 ≤ length l) where
    pub frame_end : o ≡ 0 → Ok None ≡ frame_of how high t l
    unfolding frame_of offset
    frame_end z = rw (cut_two how l two, ← e, eq-eqb o 0 z)

    pub frame_small : 0 < o → o < 3 + length t → Err StringOffset ≡ frame_of how high t l
    unfolding frame_of offset
    frame_small z s = rw (cut_two how l two, ← e, ne_eqb o 0 (omega arith), lt-ltb _ _ s)

    pub frame_past : 3 + length t ≤ o → length l < o → Err StringOffset ≡ frame_of how high t l
    unfolding frame_of offset
    frame_past s p = rw (cut_two how l two, ← e, ne_eqb o 0 (omega arith), le-ltb o (3 + length t) s, lt-ltb _ _ p)

    pub frame_open : 3 + length t ≤ o → o ≤ length l → same (part (o - length t) o l) t ≡ false → Err StringEnd ≡ frame_of how high t l
    unfolding frame_of offset
    frame_open s p n = rw (cut_two how l two, ← e, ne_eqb o 0 (omega arith), le-ltb o (3 + length t) s, le-ltb (length l) o p, n)

    pub frame_text : 3 + length t ≤ o → o ≤ length l → same (part (o - length t) o l) t ≡ true → Ok (Some o) ≡ frame_of how high t l
    unfolding frame_of offset
    frame_text s p n = rw (cut_two how l two, ← e, ne_eqb o 0 (omega arith), le-ltb o (3 + length t) s, le-ltb (length l) o p, n)

-- ---- what a frame says: its offset o, its text x, the terminator t and what follows, r
pub record Framed (how : Manner) (high : Bool) (t x r : List ℕ) (o : ℕ) (l : List ℕ) : Type 0 where
  pub text : frame_of how high t l ≡ Ok (Some o)
  pub fit : length l ≡ o + length r
  pub size : o ≡ 2 + length x + length t
  pub next : drop o l ≡ r
  pub mid : body t o l ≡ x
  pub tail : drop 2 l ≡ x ++ (t ++ r)
