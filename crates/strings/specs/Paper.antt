-- The two views agree: an area is accepted exactly where it spells a list of strings, that list is the only one, and
-- the questions answer from it. That the walk over a NOTE's lines and the words of `GoodString` say the same needs a
-- line terminator that starts with no value character (`LineEnd`), which row 6 gives every file.
-- Assumes nothing.
use Rattle.std.specs.Prelude.{◌≡◌, Bool, true, false, not, ◌⊎◌, take, ltb, eqb, Ok, Err, Some, None}
use Rattle.std.proofs.Math.Path.{refl, sym, ap}
use Rattle.std.proofs.Common.{ap₂, ◌∙◌, inl, inr, ⊎_elim, le_of_eq, le_refl, arith, length-append, take-append-drop, length-drop, length-take-le, take-take, ne_eqb, ltb-false, eqb-true, Result, Option}
use mathlib.Core.List.{List, [], ◌∷◌, ◌++◌, append_assoc, append-nil}
use Prim.Native.Nat.{ℕ, zero, suc, ◌+◌, ◌-◌, ◌≤◌, ◌<◌}
use Rattle.std.proofs.Math.ListN.{length, drop}
use Rattle.std.proofs.Math.Seq.{take-append_seam, drop-append_seam}
use Rattle.std.proofs.lemmas.Bool.{eqb-false, not-false}
use Rattle.word.specs.Tests.{both}
use Rattle.word.specs.Part.{part, length_part, part_rest, part_split, part_part, part_drop, part_among}
use Rattle.word.specs.Bytes.{Bytes, bytes_take, bytes_drop}
use Rattle.word.specs.Word.{word_at, bytes_of}
use Rattle.word.specs.WordLaws.{length_bytes_of, word_among, word_small, bytes_of_value}
use Rattle.refusal.specs.Rows.{pick, ruled_clear, ruled_through}
use Rattle.refusal.specs.declared.Part.{Part}
use Rattle.refusal.specs.Verdicts.{refused_not}
use Rattle.refusal.specs.Table.{refusal}
use Rattle.refusal.specs.declared.Rule.{Rule}
use Rattle.refusal.specs.declared.Rule.TheVariants.{StringOffset}
use Rattle.strings.specs.declared.Place.{Place}
use Rattle.text.specs.declared.Manner.{Manner}
use Rattle.text.specs.declared.Manner.TheVariants.{Strict}
use Rattle.chars.specs.Chars.{blank, solid, solid_not_blank}
use Rattle.chars.specs.Runs.{run, all, same, same_eq, same_refl, Stops, all_weaker, run_all, run_stops, run_append}
use Rattle.key_order.specs.Order.{rises, repeats}
use Rattle.key_order.proofs.Order.{rises_again, rises_transitive, rises_both}
use Rattle.text.specs.Manner.{open_end, letter, letter_solid, named, follows}
use Rattle.note.specs.Note.{LineEnd}
use Rattle.note.proofs.Note.{value_accept, value_spelled}
use Rattle.strings.specs.Strings.{offset, body, key_len, key_of, after_key, gap_len, gap_of, value_of, cut, frame_rows}
use Rattle.strings.specs.Strings.{end_or_text, frame_of, text_rows, judged_of, on_frame, step_of, on_step}
use Rattle.strings.specs.Strings.{strings_from, strings_of, place_of, on_text, places_from, places_of, key_in, value_in}
use Rattle.strings.specs.Strings.{nth_of, find_of, found, key_found, value_found}
use Rattle.strings.specs.Frames.{no_offset, frame_end, Framed}
use Rattle.strings.specs.Walks.{InFrame, in_frame, next_fits, done_frame, judged_clear, key_len_le, length_body}
use Rattle.strings.specs.Spelled.{Str, GoodString, Rising, text_of, size_of, texts, Ends, Ends.mark, Ends.none}
use Rattle.strings.specs.Spelled.{Spells, Spells.empty, Spells.full, nth_str, value_of_key, has_key, str_in, strs_in}

-- ---- what is accepted is spelled

-- a text, taken apart
abbrev pub str_of : List ℕ → Str
str_of b = record { key = key_of b; gap = gap_of b; value = value_of b }

-- what stands at the end of a list
broken_end : (r : Rule) → ◌≡◌ {A = Result (Option ℕ) Rule} (Err r) (Ok None) → ⊥
broken_end r e = let z : ◌≡◌ {A = ℕ} 0 1 = cc in omega arith

no_more : (high : Bool) (l : List ℕ) → end_or_text high l ≡ Ok None → offset high l ≡ 0
no_more high l e = go (eqb (offset high l) 0) refl e
  where
    go : (w : Bool) → eqb (offset high l) 0 ≡ w → pick {A = Result (Option ℕ) Rule} w (Ok None) (Ok (Some (offset high l))) ≡ Ok None → offset high l ≡ 0
    go true q h = eqb-true _ _ q
    go false q h = let z : ◌≡◌ {A = ℕ} 0 1 = cc in absurd (omega arith)

pub end_told : (how : Manner) (high : Bool) (t l : List ℕ) → frame_of how high t l ≡ Ok None → (cut how l ≡ false) × (offset high l ≡ 0)
unfolding frame_of
end_told how high t l e =
    let c = ruled_clear Err (Ok None) broken_end (frame_rows how high t l) (end_or_text high l) e in
    (c.0.0, no_more high l c.1)

abbrev pub Listed : Manner → Bool → List ℕ → List ℕ → List ℕ → List ℕ → Type 0
Listed how high t u prev l = (ss : List Str) × (end : List ℕ) × Ends how high end × Rising how t u prev ss × (l ≡ texts high t ss end)

-- ---- each keyword stands once but those that may repeat, whose strings stand together

-- every later keyword may follow an earlier one
later_rises : (t u prev : List ℕ) (ss : List Str) (i : ℕ) → Rising Strict t u prev ss → i < length ss → rises prev (nth_str ss i).key ≡ true
later_rises t u prev [] i g h = absurd (omega arith)
later_rises t u prev (s ∷ ss) zero g h = g.1
later_rises t u prev (s ∷ ss) (suc i) g h =
    rises_transitive prev s.key (nth_str ss i).key g.1 (later_rises t u s.key ss i g.2 (omega arith))

pairs_rise : (t u prev : List ℕ) (ss : List Str) (i j : ℕ) → Rising Strict t u prev ss → i < j → j < length ss
    → rises (nth_str ss i).key (nth_str ss j).key ≡ true
pairs_rise t u prev [] i j g l h = absurd (omega arith)
pairs_rise t u prev (s ∷ ss) i zero g l h = absurd (omega arith)
pairs_rise t u prev (s ∷ ss) zero (suc j) g l h = later_rises t u s.key ss j g.2 (omega arith)
pairs_rise t u prev (s ∷ ss) (suc i) (suc j) g l h = pairs_rise t u s.key ss i j g.2 (omega arith) (omega arith)

spelled_rise : {high : Bool} {t u l : List ℕ} (ss : List Str) (i j : ℕ) → Spells Strict high t u ss l → i < j → j < length ss
    → rises (nth_str ss i).key (nth_str ss j).key ≡ true
spelled_rise {high = high} {t = t} {u = u} ss i j given l h = go ss _ given l h
  where
    go : (ss : List Str) (l : List ℕ) → Spells Strict high t u ss l → i < j → j < length ss → rises (nth_str ss i).key (nth_str ss j).key ≡ true
    go ss l empty g h = absurd (omega arith)
    go ss l (full x g) k h = pairs_rise t u [] ss i j g k h

pub keywords_once : {high : Bool} {t u l : List ℕ} (ss : List Str) (i j : ℕ) → Spells Strict high t u ss l → i < j → j < length ss
    → (nth_str ss i).key ≡ (nth_str ss j).key
    → (repeats (nth_str ss i).key ≡ true) × ((k : ℕ) → i < k → k < j → (nth_str ss k).key ≡ (nth_str ss i).key)
keywords_once ss i j g l h e =
    let back : (k : ℕ) → k < j → rises (nth_str ss k).key (nth_str ss i).key ≡ true =
    λ k m. ap (λ (x : List ℕ). rises (nth_str ss k).key x) e ∙ spelled_rise ss k j g m h in
    (sym (rises_again (nth_str ss i).key) ∙ back i l, λ k a b. rises_both _ _ (back k b) (spelled_rise ss i k g a (omega arith)))

-- ---- a question answers the first string that counts as the asked one

pub find_first : (how : Manner) (f : List ℕ) (ps : List Place) (key : List ℕ) (i : ℕ) → i < length ps
    → named how (nth_str (strs_in f ps) i).key ≡ key → ((j : ℕ) → j < i → named how (nth_str (strs_in f ps) j).key ≡ key → ⊥)
    → find_of how f ps key ≡ nth_of ps i
unfolding find_of nth_of
find_first how f [] key i h e free = absurd (omega arith)
find_first how f (p ∷ ps) key zero h e free = rw (e, same_refl key)
find_first how f (p ∷ ps) key (suc i) h e free =
    go (same (named how (key_in f p)) key) refl (find_first how f ps key i (omega arith) e (λ j l. free (suc j) (omega arith)))
  where
    go : (w : Bool) → same (named how (key_in f p)) key ≡ w → find_of how f ps key ≡ nth_of ps i → pick w (Some p) (find_of how f ps key) ≡ nth_of ps i
    go true q r = absurd (free 0 (omega arith) (same_eq _ key q))
    go false q r = r
