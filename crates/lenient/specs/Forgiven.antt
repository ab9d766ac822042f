-- What the lenient reading forgives, and that it forgives nothing else (document 02 §11: "it takes lower-case keyword
-- letters as upper case, accepts any order and repeats, and ends a list where no byte of the area is left", "17 and 34
-- are never given here"). The strict walk and the lenient one go side by side: up to the first strict refusal both read
-- the same strings.
-- Assumes nothing.
use Rattle.std.specs.Prelude.{◌≡◌, List, ◌⊎◌, length, drop, ltb, Result, Ok, Err, Bool, true, false, ℕ, ◌+◌, ◌<◌, eqb}
use Rattle.std.proofs.Common.{refl, sym, ◌∙◌, lt_of_not-le, arith}
use Rattle.std.proofs.Math.Decide.{dec_le}
use Rattle.word.specs.Part.{part}
use Rattle.refusal.specs.declared.Rule.{Rule}
use Rattle.refusal.specs.declared.Rule.TheVariants.{StringOffset, Character, KeywordOrder, ChannelNumber}
use Rattle.refusal.specs.declared.Part.{Part}
use Rattle.refusal.specs.declared.Part.TheVariants.{File, Trace}
use Rattle.refusal.specs.declared.Refusal.{Refusal}
use Rattle.refusal.specs.Rows.{pick}
use Rattle.text.specs.declared.Manner.{Manner}
use Rattle.text.specs.declared.Manner.TheVariants.{Strict, Lenient}
use Rattle.text.specs.Manner.{open_end, letter}
use Rattle.chars.specs.Runs.{all}
use Rattle.strings.specs.Strings.{offset, body, key_of, cut, frame_of}
use Rattle.strings.specs.Frames.{cut_two}
use Rattle.head_words.specs.HeadWords.{high_first, room_of}
use Rattle.terminators.specs.Terminators.{string_end}
use Rattle.block.specs.Block.{data_at}
use Rattle.image.specs.Keeps.{trace_at, strings_end}

-- ---- where a byte is left every manner frames a string alike

cut_one : (how : Manner) (l : List ℕ) → length l ≡ 1 → cut how l ≡ true
cut_one how l e = rw e (go (open_end how))
  where
    go : (w : Bool) → pick w (eqb 1 1) (ltb 1 2) ≡ true
    go true = refl
    go false = refl

cut_any : (how other : Manner) (l : List ℕ) → 0 < length l → cut how l ≡ cut other l
cut_any how other l h =
    elim (dec_le 2 (length l)) [
      | yes q ↦ cut_two how l q ∙ sym (cut_two other l q)
      | no q ↦
          let k = lt_of_not-le q in
          let e : length l ≡ 1 = omega arith in
          cut_one how l e ∙ sym (cut_one other l e)
    ]

pub frame_any : (how other : Manner) (high : Bool) (t l : List ℕ) → 0 < length l → frame_of how high t l ≡ frame_of other high t l
unfolding frame_of
frame_any how other high t l h = rw (cut_any how other l h)

-- ---- what is forgiven of the strings in the bytes l, which stand at `at` of the file

-- the keyword of the string that l starts with
abbrev pub keyword_of : Bool → List ℕ → List ℕ → List ℕ
keyword_of high t l = key_of (body t (offset high l) l)

pub data Forgiven (high : Bool) (t l : List ℕ) (at : ℕ) (r : Refusal) : Type 0 where
  -- 14: no byte of the area is left for an end mark
  no_mark : r.rule ≡ StringOffset → r.place ≡ at + length l → Forgiven high t l at r
  -- 16: the keyword of the string there has lower-case letters, and in upper case it is one
  small_letters : r.rule ≡ Character → (j : ℕ) → j < length l → r.place ≡ at + j → all (letter Strict) (keyword_of high t (drop j l)) ≡ false
      → all (letter Lenient) (keyword_of high t (drop j l)) ≡ true → Forgiven high t l at r
  -- 17: the string there stands in any order
  any_order : r.rule ≡ KeywordOrder → (j : ℕ) → j < length l → r.place ≡ at + j → Forgiven high t l at r

-- ---- one string: what stands between its offset and its terminator

abbrev pub EasedText : (Rule → Type 0) → Result ℕ Rule → Result ℕ Rule → Type 0
EasedText F (Ok n) j = j ≡ Ok n
EasedText F (Err r) j = (j ≡ Err r) ⊎ F r

-- a refusal of the part p that is forgiven of its strings
abbrev pub Of : Bool → List ℕ → Part → List ℕ → ℕ → Refusal → Type 0
Of high t p l at r = (r.part ≡ p) × Forgiven high t l at r

-- ---- a whole file

-- the bytes that the strings of a part stand in, from the first to the second
abbrev pub area_in : List ℕ → Part → ℕ × ℕ
area_in f File = (32 + room_of f, strings_end f)
area_in f (Trace k) = (trace_at f k + 32, data_at (high_first f) f (trace_at f k))

-- of the strings of a part, or of channel numbers
pub data ForgivenIn (f : List ℕ) (r : Refusal) : Type 0 where
  of_strings : (p : Part) → r.part ≡ p → Forgiven (high_first f) (string_end f) (part (area_in f p).0 (area_in f p).1 f) (area_in f p).0 r → ForgivenIn f r
  of_channels : r.rule ≡ ChannelNumber → ForgivenIn f r
