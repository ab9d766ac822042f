-- Theorems on what specs/Frames defines. They stand here, as a wrong definition there is to be refused and not to be unread.
-- Assumes nothing.
use Rattle.std.specs.Prelude.{◌≡◌, refl, Bool, List, [], ◌++◌, ℕ, ◌+◌, ◌-◌, ◌<◌, ltb, eqb, drop, Ok, None}
use Rattle.std.proofs.Common.{sym, ap, ◌∙◌, append_assoc, length-append, drop_at, drop-drop}
use Rattle.std.proofs.Math.Bool.{true, false}
use native.Mathlib.Omega.{arith, by_contra}
use Rattle.refusal.specs.Rows.{pick}
use Rattle.std.proofs.Math.ListN.{length}
use Rattle.std.proofs.Math.Seq.{drop-append_seam}
use borrow.Author.Tests.{eqb-false, ltb-false}
use Rattle.word.specs.Part.{part, part_among}
use Rattle.word.specs.Word.{word_at, bytes_of}
use Rattle.word.specs.WordLaws.{length_bytes_of, word_among}
use Rattle.text.specs.declared.Manner.{Manner}
use Rattle.chars.specs.Runs.{same_refl}
use Rattle.text.specs.Manner.{open_end}
use Rattle.strings.specs.Strings.{body, cut, frame_of}
use Rattle.strings.specs.Frames.{Framed, frame_text, no_offset}

module _ (how : Manner) (high : Bool) (t l : List ℕ) where
  -- no byte is left, and the list may end there
  pub frame_none : cut how l ≡ false → length l < 2 → Ok None ≡ frame_of how high t l
  unfolding frame_of
  frame_none h k = rw (no_offset high l none_left, h)
    where
      none_left : length l ≡ 0
      none_left = go (open_end how) h
        where
          go : (w : Bool) → pick w (eqb (length l) 1) (ltb (length l) 2) ≡ false → length l ≡ 0
          go true q = let n = eqb-false (length l) 1 q in let z = by_contra (length l) 0 (λ m. n (omega arith)) in omega arith
          go false q = absurd (let n = ltb-false (length l) 2 q in omega arith)

-- bytes that are an offset, a text, the terminator and more are framed so
pub framed : (how : Manner) (high : Bool) (t x r : List ℕ) (o : ℕ) → o ≡ 2 + length x + length t → o < 65536 → 0 < length x
    → Framed how high t x r o (bytes_of 2 high o ++ (x ++ (t ++ r)))
unfolding body
framed how high t x r o e small some =
    let l : List ℕ = bytes_of 2 high o ++ (x ++ (t ++ r)) in
    let two : length (bytes_of 2 high o) ≡ 2 = length_bytes_of 2 high o in
    let len : length l ≡ 2 + (length x + (length t + length r)) = simp (length-append, two) in
    let w : o ≡ word_at 2 high l 0 = sym (word_among 2 high o [] (x ++ (t ++ r)) 0 refl small) in
    let d : drop 2 l ≡ x ++ (t ++ r) = drop_at (bytes_of 2 high o) (x ++ (t ++ r)) 2 two in
    let u : o - length t ≡ 2 + length x = omega arith in
    let front : length (bytes_of 2 high o ++ x) ≡ 2 + length x = simp (length-append, two) in
    let lead : l ≡ (bytes_of 2 high o ++ x) ++ (t ++ r) = sym (append_assoc (bytes_of 2 high o) x (t ++ r)) in
    let m : part (o - length t) o l ≡ t = rw (u, lead) (part_among (bytes_of 2 high o ++ x) t r (2 + length x) o front (omega arith)) in
    record {
      text = sym (frame_text how high t l o w (omega arith) (omega arith) (omega arith) (rw m (same_refl t)));
      fit = omega arith;
      size = e;
      next = ap (λ (k : ℕ). drop k l) e ∙ ap (λ (z : List ℕ). drop (2 + length x + length t) z) lead
          ∙ sym (drop-drop (length t) (2 + length x) ((bytes_of 2 high o ++ x) ++ (t ++ r)))
          ∙ ap (λ (z : List ℕ). drop (length t) z) (drop_at (bytes_of 2 high o ++ x) (t ++ r) (2 + length x) front) ∙ drop-append_seam t r;
      mid = rw u (part_among (bytes_of 2 high o) x (t ++ r) 2 (2 + length x) two (omega arith));
      tail = d;
    }
