-- What the leaves of the questions answer, and that the questions are made of them.
-- Assumes nothing.
use Rattle.std.specs.Prelude.{◌≡◌, refl, Bool, true, false, not, List, ℕ, zero, suc, ◌+◌, ◌-◌, ◌≤◌, ◌%◌, ℤ, pos, negsuc, length, take, ltb, Result, Ok, Err, Option, Some, None}
use Rattle.word.specs.Part.{part}
use Rattle.word.specs.Word.{word_at}
use Rattle.refusal.specs.declared.Refusal.{Refusal}
use Rattle.text.specs.declared.Manner.{Manner}
use Rattle.strings.specs.Strings.{places_of, PlaceIn, nth_of, find_of}
use Rattle.head_limits.specs.declared.Purpose.TheVariants.{Read}
use Rattle.refusal.specs.Verdicts.{asked, accepted}
use Rattle.std.specs.Option.{ok_or, is_some}
use Rattle.refusal.specs.Rows.{pick}
use Rattle.sample.specs.Needed.{needed}
use Rattle.block.specs.declared.TraceBlock.{TraceBlock}
use Rattle.head_words.specs.HeadWords.{high_first, room_of}
use Rattle.head.specs.Head.{maximum}
use Rattle.terminators.specs.Terminators.{string_end}
use Rattle.block.specs.Block.{pointer_of, block_size_of}
use Rattle.image.specs.Image.{check_of}
use Rattle.part_number.specs.PartNumber.{whose_of}
use Rattle.reader.specs.Questions.{no_trace, area_named, area_asked, on_area, on_trace, is_trace, trace_number}
use Rattle.reader.specs.Questions.{places_in, there, yes_or_no, count_answer, nth_answer, find_answer, of_integers, of_bits}
use Rattle.strings.specs.declared.Place.{Place}
use Rattle.refusal.specs.Verdicts.{Verdict}
use Rattle.refusal.specs.declared.Part.TheVariants.{File}
use Rattle.refusal.specs.declared.Part.TheVariants.{Trace}

-- ---- a question on a trace: none, or that of the trace
pub on_trace_lem : {A : Type 0} (none : A) (some : ℕ → A) (z : ℤ) (n : ℕ) → on_trace (whose_of z n) none some ≡ pick (not (is_trace z n)) none (some (trace_number z))
unfolding whose_of
on_trace_lem none some (pos k) n = go (ltb k n)
  where
    go : (w : Bool) → on_trace (pick w (Some (Trace k)) None) none some ≡ pick (not w) none (some k)
    go true = refl
    go false = refl
on_trace_lem none some (negsuc zero) n = refl
on_trace_lem none some (negsuc (suc k)) n = refl

-- ---- the area of a part, as it is read
pub area_whole : (f : List ℕ) (h : Bool) (m p : ℕ) → h ≡ high_first f → m ≡ word_at 2 h f 4 → p ≡ pointer_of h f 0 → Some (32 + m, p) ≡ area_named f (Some File)
unfolding area_named room_of
area_whole f h m p e w v = rw (← e, ← w, ← v)

pub area_one : (f : List ℕ) (h : Bool) (k p b : ℕ) → h ≡ high_first f → p ≡ pointer_of h f k → b ≡ word_at 2 h f (p + 2)
    → Some (p + 32, p + b) ≡ area_named f (Some (Trace k))
unfolding area_named block_size_of
area_one f h k p b e v w = rw (← e, ← v, ← w)

-- ---- strings: the check and the area of a part in one answer

unfoldable pub opened_of : Manner → List ℕ → ℕ → ℤ → Result (ℕ × ℕ) Refusal
opened_of how xs n z = asked Err (check_of how Read xs n) (on_area {A = Result (ℕ × ℕ) Refusal} (area_asked (take n xs) z) (Err no_trace) (λ a b. Ok (a, b)))

-- the check refused, or what it accepted has the area or not
pub opened_bad : (how : Manner) (xs : List ℕ) (n : ℕ) (z : ℤ) (r : Refusal) → check_of how Read xs n ≡ Err r → Err r ≡ opened_of how xs n z
unfolding opened_of
opened_bad how xs n z r e = rw e

pub opened_or : (how : Manner) (xs : List ℕ) (n : ℕ) (z : ℤ) → check_of how Read xs n ≡ accepted
    → ok_or (area_asked (take n xs) z) no_trace ≡ opened_of how xs n z
unfolding opened_of
opened_or how xs n z e = rw e (go (area_asked (take n xs) z))
  where
    go : (w : Option (ℕ × ℕ)) → ◌≡◌ {A = Result (ℕ × ℕ) Refusal} (ok_or w no_trace) (on_area w (Err no_trace) (λ a b. Ok (a, b)))
    go None = refl
    go (Some (a, b)) = refl

abbrev pub on_opened : {A : Type 0} → Result (ℕ × ℕ) Refusal → (Refusal → A) → (ℕ → ℕ → A) → A
on_opened (Err r) bad some = bad r
on_opened (Ok (a, e)) bad some = some a e

opened_asked : {A : Type 0} (v : Verdict) (w : Option (ℕ × ℕ)) (bad : Refusal → A) (some : ℕ → ℕ → A)
    → on_opened (asked Err v (on_area {A = Result (ℕ × ℕ) Refusal} w (Err no_trace) (λ a b. Ok (a, b)))) bad some ≡ asked bad v (on_area w (bad no_trace) some)
opened_asked (Err r) w bad some = refl
opened_asked (Ok _) None bad some = refl
opened_asked (Ok _) (Some (a, e)) bad some = refl

module _ (how : Manner) (xs : List ℕ) (n : ℕ) (z : ℤ) where
  pub count_opened : on_opened (opened_of how xs n z) Err (λ a e. Ok (length (places_in how (take n xs) a e))) ≡ count_answer how xs n z
  unfolding opened_of count_answer
  count_opened = opened_asked (check_of how Read xs n) (area_asked (take n xs) z) _ _

  pub nth_opened : (i : ℕ) → on_opened (opened_of how xs n z) Err (λ a e. there (nth_of (places_in how (take n xs) a e) i)) ≡ nth_answer how xs n z i
  unfolding opened_of nth_answer
  nth_opened i = opened_asked (check_of how Read xs n) (area_asked (take n xs) z) _ _

  pub find_opened : (key : List ℕ)
      → on_opened (opened_of how xs n z) Err (λ a e. there (find_of how (take n xs) (places_in how (take n xs) a e) key)) ≡ find_answer how xs n z key
  unfolding opened_of find_answer
  find_opened key = opened_asked (check_of how Read xs n) (area_asked (take n xs) z) _ _

-- a law for each answer, with what the code has in hand
pub placed : (how : Manner) (f : List ℕ) (a e : ℕ) (h : Bool) (t : List ℕ) → h ≡ high_first f → t ≡ string_end f
    → places_of how h t (part a e f) a ≡ places_in how f a e
unfolding places_in
placed how f a e h t p q = rw (p, q)

module _ (how : Manner) (xs : List ℕ) (n : ℕ) (z : ℤ) where
  pub count_bad : (r : Refusal) → opened_of how xs n z ≡ Err r → Err r ≡ count_answer how xs n z
  count_bad r o = rw (← count_opened how xs n z, o)

  pub nth_bad : (i : ℕ) (r : Refusal) → opened_of how xs n z ≡ Err r → Err r ≡ nth_answer how xs n z i
  nth_bad i r o = rw (← nth_opened how xs n z i, o)

  pub find_bad : (key : List ℕ) (r : Refusal) → opened_of how xs n z ≡ Err r → Err r ≡ find_answer how xs n z key
  find_bad key r o = rw (← find_opened how xs n z key, o)

  module _ (a e : ℕ) (h : Bool) (t : List ℕ) (o : opened_of how xs n z ≡ Ok (a, e)) (p : h ≡ high_first (take n xs)) (q : t ≡ string_end (take n xs)) where
    pub count_told : (c : ℕ) → c ≡ length (places_of how h t (part a e (take n xs)) a) → Ok c ≡ count_answer how xs n z
    count_told c s = rw (← count_opened how xs n z, o, s, placed how (take n xs) a e h t p q)

    pub nth_told : (i : ℕ) (s : Option Place) (r : Result (Option Place) Refusal) → s ≡ nth_of (places_of how h t (part a e (take n xs)) a) i → r ≡ there s → r ≡ nth_answer how xs n z i
    nth_told i s r w v = rw (← nth_opened how xs n z i, o, v, w, placed how (take n xs) a e h t p q)

    pub find_told : (key : List ℕ) (s : Option Place) (r : Result (Option Place) Refusal) → s ≡ find_of how (take n xs) (places_of how h t (part a e (take n xs)) a) key → r ≡ there s
        → r ≡ find_answer how xs n z key
    find_told key s r w v = rw (← find_opened how xs n z key, o, v, w, placed how (take n xs) a e h t p q)

-- a keyword that was found is a yes
pub yes_told : (a : Result (Option Place) Refusal) (s : Option Place) → a ≡ Ok s → Ok (is_some s) ≡ yes_or_no a
yes_told a None e = rw e
yes_told a (Some p) e = rw e

pub yes_bad : (a : Result (Option Place) Refusal) (r : Refusal) → a ≡ Err r → Err r ≡ yes_or_no a
yes_bad a r e = rw e

-- a string that was found ends within so many bytes
abbrev pub Within : ℕ → Result (Option Place) Refusal → Type 0
Within n (Ok (Some s)) = PlaceIn n s
Within n (Ok None) = Unit {0}
Within n (Err r) = Unit {0}

-- ---- samples of the trace whose block is t

-- what the check has shown of t
pub record Fits (n : ℕ) (t : TraceBlock) : Type 0 where
  pub inside : t.p + t.b + t.d ≤ n
  pub most : n ≤ maximum
  pub groups : t.code ≡ 3 → t.s % 4 ≡ 0
  pub samples : needed t.code t.s ≤ t.d

-- a code that is none of those
pub integers_none : (code : ℕ) → (code ≡ 1 → ⊥) → (code ≡ 2 → ⊥) → (code ≡ 3 → ⊥) → false ≡ of_integers code
integers_none zero a b c = refl
integers_none (suc zero) a b c = absurd (a refl)
integers_none (suc (suc zero)) a b c = absurd (b refl)
integers_none (suc (suc (suc zero))) a b c = absurd (c refl)
integers_none (suc (suc (suc (suc zero)))) a b c = refl
integers_none (suc (suc (suc (suc (suc zero))))) a b c = refl
integers_none (suc (suc (suc (suc (suc (suc k)))))) a b c = refl

pub bits_none : (code : ℕ) → (code ≡ 4 → ⊥) → (code ≡ 5 → ⊥) → false ≡ of_bits code
bits_none zero a b = refl
bits_none (suc zero) a b = refl
bits_none (suc (suc zero)) a b = refl
bits_none (suc (suc (suc zero))) a b = refl
bits_none (suc (suc (suc (suc zero)))) a b = absurd (a refl)
bits_none (suc (suc (suc (suc (suc zero))))) a b = absurd (b refl)
bits_none (suc (suc (suc (suc (suc (suc k)))))) a b = refl
