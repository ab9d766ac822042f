-- Document 02, §7, "Channel numbers in all traces or none": "The paper says that if one trace block has it, all must. The
-- check and the addition keep this rule; the first addition is free to choose. The value must be a number by document
-- 01, 1 to 32,767, without point or E. Demands 2 and 3 read accepted with this added." So they do: `Keeps` (image/Keeps),
-- `Writable` (afresh/Afresh) and `GoodList` (GoodLists) have the rule, and their theorems hold of them. Here it is said
-- once more by what the questions answer.
-- Assumes nothing.
use Rattle.std.specs.Prelude.{◌≡◌, refl, Bool, true, ◌↔◌, ◌⊎◌, pos, Result, Ok, false, List, [], ◌∷◌, ℕ, ◌+◌, ◌≤◌, ◌<◌, take, eqb}
use Rattle.std.proofs.Common.{sym, ◌∙◌, arith, ap, eq-eqb, ne_eqb}
use Rattle.word.specs.Tests.{never}
use Rattle.word.specs.Bytes.{Bytes}
use Rattle.refusal.specs.Rows.{pick}
use Rattle.refusal.specs.declared.Refusal.{Refusal}
use Rattle.text.specs.declared.Manner.TheVariants.{Strict}
use Rattle.head_limits.specs.declared.Purpose.TheVariants.{Read}
use Rattle.strings.specs.Spelled.{Str, has_key}
use Rattle.channel.specs.Count.{count_most, count_in, wholly, pointless, Counts, counted}
use Rattle.channel.proofs.CountLaws.{counts}
use Rattle.channel.specs.Channel.{channel_number}
use Rattle.chars.specs.Runs.{all}
use Rattle.sheet.specs.Lines.{sheet_lines}
use Rattle.channel_line.specs.ChannelLine.{has_line, value_of_line}
use Rattle.sheet_channel.specs.Meant.{sheet_keeps, keeps_sheet}
use Rattle.head_words.specs.HeadWords.{high_first, count_of}
use Rattle.block.specs.Block.{data_at}
use Rattle.image.specs.Image.{check_of}
use Rattle.image.specs.Keeps.{trace_at, Keeps}
use Rattle.image.specs.Accepted.{with_of, as_first}
use Rattle.image.proofs.Accepted.{accepted_keeps}
use Rattle.reader.specs.Questions.{keyword_answer, value_answer, number_answer}
use Rattle.reader.specs.Listed.{Lists, trace_area, listed_keyword, listed_value, listed_number}
use Rattle.layout.specs.Layout.{Trace}
use Rattle.opening.specs.Opening.{wrong_channel}
use Rattle.writer.specs.Answers.{add_answer, add_left}
use Rattle.writer.specs.Shown.{added, add_left_lem}
use Rattle.growth.specs.Grows.{grown_grows}
use Rattle.growth.specs.StillKeeps.{grown_numbered}
use Rattle.growth.proofs.StillKeeps.{grown_accepted}
use Rattle.afresh.specs.FileOf.{has_channel}
use Rattle.refusal.specs.Verdicts.{accepted}

-- ---- "a number by document 01, 1 to 32,767, without point or E": how the code finds it, and the words. Rules out 0,
-- 32,768, -1, 1.0, 1E0 and a text that is no number.

pub count_exactly : (v : List ℕ) (n : ℕ) → ((count_in v ≡ n) × (0 < n)) ↔ Counts v n
count_exactly v n = (λ h. counted v n h.1 h.0, λ c. (counts v n c, c.least))

-- ---- an accepted file

yes_or_no_lem : (a b : Bool) → ◌≡◌ {A = Result Bool Refusal} (pick a (Ok true) (Ok false)) (pick b (Ok true) (Ok false)) → a ≡ b
yes_or_no_lem true true e = refl
yes_or_no_lem false false e = refl
yes_or_no_lem true false e = let z : ◌≡◌ {A = ℕ} 0 1 = cc in absurd (omega arith)
yes_or_no_lem false true e = let z : ◌≡◌ {A = ℕ} 0 1 = cc in absurd (omega arith)

module _ (xs : List ℕ) (n : ℕ) (by : Bytes xs) (ok : check_of Strict Read xs n ≡ accepted) where
  kept : Keeps Strict Read (take n xs)
  kept = (accepted_keeps Strict Read xs n by ok).1

  abbrev strings : (k : ℕ) → k < count_of (take n xs) → List Str
  strings k l = (kept.traces k l).strings.0

  listed : (k : ℕ) (l : k < count_of (take n xs)) → Lists Strict (take n xs) (pos k) (strings k l)
  listed k l =
      record {
        a = trace_at (take n xs) k + 32;
        e = data_at (high_first (take n xs)) (take n xs) (trace_at (take n xs) k);
        area = trace_area (take n xs) k l;
        spells = (kept.traces k l).strings.1;
      }

  answered : (k : ℕ) (l : k < count_of (take n xs)) → keyword_answer Strict xs n (pos k) channel_number ≡ pick (has_key Strict (strings k l) channel_number) (Ok true) (Ok false)
  answered k l = listed_keyword Strict xs n (pos k) (strings k l) ok (listed k l) channel_number

  -- "if one trace block has it, all must": the question on CHANNEL_NUMBER is answered alike by every trace. Rules out a
  -- check that lets three traces of twelve have it, or looks at some traces only.
  pub all_traces_or_none : (j k : ℕ) → j < count_of (take n xs) → k < count_of (take n xs)
      → keyword_answer Strict xs n (pos j) channel_number ≡ keyword_answer Strict xs n (pos k) channel_number
  all_traces_or_none j k a b =
      answered j a ∙ ap (λ (w : Bool). pick w (Ok true) (Ok false)) (as_first kept j a refl ∙ sym (as_first kept k b refl)) ∙ sym (answered k b)

  -- "The value must be a number by document 01, 1 to 32,767, without point or E": of every trace that has one. Rules out
  -- a check that judges trace 0's value only.
  pub each_a_good_number : (k : ℕ) → k < count_of (take n xs) → keyword_answer Strict xs n (pos k) channel_number ≡ Ok true
      → (c : ℕ) × (1 ≤ c) × (c ≤ count_most) × (number_answer Strict xs n (pos k) channel_number ≡ Ok (wholly c))
      × (all pointless (value_answer Strict xs n (pos k) channel_number) ≡ true)
  each_a_good_number k l said =
      let has = yes_or_no_lem (has_key Strict (strings k l) channel_number) true (sym (answered k l) ∙ said) in
      let c = (kept.traces k l).channel refl has in (
        c.0,
        c.1.least,
        c.1.most,
        listed_number Strict xs n (pos k) (strings k l) ok (listed k l) channel_number ∙ c.1.number,
        ap (all pointless) (listed_value Strict xs n (pos k) (strings k l) ok (listed k l) channel_number) ∙ c.1.without,
      )

  -- whether trace 0 has it is what the question on it answers
  first_has : (some : 0 < count_of (take n xs)) → keyword_answer Strict xs n (pos 0) channel_number ≡ pick (with_of Strict (take n xs)) (Ok true) (Ok false)
  first_has some = answered 0 some ∙ ap (λ (w : Bool). pick w (Ok true) (Ok false)) (as_first kept 0 some refl)

  -- ---- 35, where there is a trace: a sheet passes exactly where it has a channel number as the file's traces have, and
  -- a good one. Rules out an addition that lets a bad value, a missing one or one too many through, or refuses another.
  pub later_sheet_passes_exactly : (sheet : List ℕ) → 0 < count_of (take n xs)
      → (wrong_channel (take n xs) sheet ≡ false)
      ↔ ((keyword_answer Strict xs n (pos 0) channel_number ≡ pick (has_line (sheet_lines sheet) channel_number) (Ok true) (Ok false))
      × (has_line (sheet_lines sheet) channel_number ≡ true → (c : ℕ) × Counts (value_of_line (sheet_lines sheet) channel_number) c))
  unfolding wrong_channel
  later_sheet_passes_exactly sheet some =
      let f : List ℕ = take n xs in
      let filled : eqb (count_of f) 0 ≡ false = ne_eqb (count_of f) 0 (λ (z : count_of f ≡ 0). omega arith) in
      let v : List ℕ = value_of_line (sheet_lines sheet) channel_number in (
        λ h. (
            let k = sheet_keeps (eqb (count_of f) 0) (with_of Strict f) sheet h in
            (first_has some ∙ ap (λ (w : Bool). pick w (Ok true) (Ok false)) (sym (k.0 filled)), λ has. (count_in v, counted v _ (k.1 has) refl))),
        λ k.
            keeps_sheet (eqb (count_of f) 0) (with_of Strict f) sheet (
              λ _. yes_or_no_lem _ _ (sym k.0 ∙ first_has some),
              λ has. (let c = k.1 has in rw (counts v c.0 c.1) c.1.least),
            ),
      )

-- ---- "the first addition is free to choose": with no trace a sheet passes 35 with a good channel number and without
-- one. Rules out an addition that asks for one, or wants none, at the start.
pub first_sheet_is_free : (f sheet : List ℕ) → count_of f ≡ 0
    → (wrong_channel f sheet ≡ false)
    ↔ (has_line (sheet_lines sheet) channel_number ≡ true → (c : ℕ) × Counts (value_of_line (sheet_lines sheet) channel_number) c)
unfolding wrong_channel
first_sheet_is_free f sheet none =
    let v : List ℕ = value_of_line (sheet_lines sheet) channel_number in (
      λ h has. (count_in v, counted v _ ((sheet_keeps (eqb (count_of f) 0) (with_of Strict f) sheet h).1 has) refl),
      λ k.
          keeps_sheet (eqb (count_of f) 0) (with_of Strict f) sheet (
            λ e. absurd (never (sym e ∙ eq-eqb (count_of f) 0 none)),
            λ has. (let c = k has in rw (counts v c.0 c.1) c.1.least),
          ),
    )

-- ---- what was added: in the file that is left every trace answers as the new sheet has it. Rules out an addition that
-- leaves a file which the reader refuses by 34.
pub added_alike : (xs : List ℕ) (n : ℕ) (x : Trace) (end : ℕ) → Bytes xs → Bytes (add_left xs n x) → add_answer xs n x ≡ Ok end → (k : ℕ)
    → k < count_of (take end (add_left xs n x))
    → keyword_answer Strict (add_left xs n x) end (pos k) channel_number ≡ pick (has_channel x) (Ok true) (Ok false)
added_alike xs n x end by left to k l =
    let h = added xs n x end to in
    let ok : check_of Strict Read (add_left xs n x) end ≡ accepted = rw (add_left_lem xs n x end to) (grown_accepted Read by h) in
    let s = answered (add_left xs n x) end left ok k l in
    let w = as_first (kept (add_left xs n x) end left ok) k l refl in
    let g : with_of Strict (take end (add_left xs n x)) ≡ has_channel x = rw (add_left_lem xs n x end to) (grown_numbered (grown_grows by h)) in
    s ∙ ap (λ (b : Bool). pick b (Ok true) (Ok false)) (w ∙ g)

-- ---- lists

abbrev pub Among : Trace → List Trace → Type 0
Among x [] = ⊥
Among x (y ∷ ts) = (x ≡ y) ⊎ Among x ts
