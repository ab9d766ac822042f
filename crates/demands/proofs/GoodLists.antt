-- Theorems on what specs/GoodLists defines. They stand here, as a wrong definition there is to be refused and not to be unread.
-- Assumes nothing.
use Rattle.std.specs.Prelude.{◌≡◌, refl, Bool, true, false, List, [], ◌∷◌, ◌++◌, ◌↔◌, ◌⊎◌, ℕ, zero, suc, ◌+◌, ◌%◌, None, ◌≤◌, ◌<◌, ℤ, pos, negsuc}
use Rattle.std.specs.Prelude.{nat_abs, length, get_or, eqb}
use Rattle.std.proofs.Common.{sym, ap, ◌∙◌, inl, inr, ⊎_elim, arith, le-ltb, leb-false, eq-eqb, eqb-true}
use Rattle.std.specs.Int.Signed.{mag}
use Rattle.std.proofs.lemmas.Bool.{lt-leb}
use Rattle.word.specs.Tests.{never}
use Rattle.word.specs.Round.{round4}
use Rattle.fit.specs.Unfit.{first_from, outside, unfit_integer, unfit_pattern, unfit_integers, unfit_patterns, all_good}
use Rattle.encode.specs.Back.{reach, fit_reach}
use Rattle.refusal.specs.Rows.{pick}
use Rattle.chars.specs.Runs.{same, same_eq, same_not}
use Rattle.channel.specs.Channel.{channel_number}
use Rattle.channel_line.specs.ChannelLine.{has_line, value_of_line}
use Rattle.sheet.specs.Lines.{Line, sheet_lines}
use Rattle.sheet.specs.Area.{area_most, joined, sheet_strings, text_size, area_of, area_size}
use Rattle.sheet.specs.Sizes.{length_area}
use Rattle.sheet.specs.Paper.{sheet_of, accepted_lines, lines_read}
use Rattle.area.specs.Spelling.{measured_size, good_measured}
use Rattle.layout.specs.Layout.{nul, line_feed, Trace, Samples, Samples.integers, Samples.patterns, fitting}
use Rattle.layout.specs.Layout.{unfit}
use Rattle.afresh.specs.FileOf.{Measures, Good, EachGood, EachHas, Together}
use Rattle.afresh.proofs.FileLaws.{length_file}
use Rattle.afresh.specs.Afresh.{Writable}
use Rattle.demands.specs.GoodLists.{AllNumbered, GoodList, GoodSheet, GoodTrace, GoodTraces, Held, Held.five}
use Rattle.demands.specs.GoodLists.{Held.four, Held.one, Held.three, Held.two, NoneNumbered, Numbered, Without}
use Rattle.demands.specs.GoodLists.{number_line}

sheet_good : (sheet : List ℕ) → Measures sheet → GoodSheet sheet
sheet_good sheet m =
    let b = measured_size nul line_feed sheet m.0 m.1 in
    let l = accepted_lines sheet b.0 in
    let a = length_area false nul line_feed sheet in
    record { lines = _; bytes = l.0; good = l.1; small = omega (arith, a, b.1, b.2) }

sheet_measured : (sheet : List ℕ) → GoodSheet sheet → Measures sheet
unfolding area_size sheet_strings
sheet_measured sheet g =
    let ls = g.lines in
    let a : length (area_of false nul line_feed (sheet_of ls)) ≡ round4 (text_size nul (joined line_feed ls)) =
    length_area false nul line_feed (sheet_of ls) ∙ ap (λ (ms : List Line). round4 (text_size nul (joined line_feed ms))) (lines_read [] ls g.good) in
    let s : length (area_of false nul line_feed (sheet_of ls)) ≤ area_most = rw g.bytes at g.small in
    let m = good_measured nul line_feed ls g.good (omega arith) in
    (round4 (text_size nul (joined line_feed ls)), rw g.bytes m.0)

-- each is good, so all are
each_good : {A : Type 0} (bad : A → Bool) (d : A) (i : ℕ) (xs : List A) → ((k : ℕ) → k < length xs → bad (get_or xs k d) ≡ false) → first_from bad i xs ≡ None
unfolding first_from
each_good bad d i [] h = refl
each_good bad d i (x ∷ xs) h = rw (h 0 (omega arith)) (each_good bad d (i + 1) xs (λ k l. h (suc k) (omega arith)))

in_16 : (z : ℤ) → mag z < 32768 → unfit_integer 1 z ≡ false
unfolding unfit_integer outside
in_16 (pos n) h = le-ltb 32767 n (omega arith)
in_16 (negsuc n) h = rw (le-ltb 32767 n (omega arith))

in_30 : (z : ℤ) → nat_abs z < 1073741824 → unfit_integer 3 z ≡ false
unfolding unfit_integer
in_30 z h = lt-leb 1073741824 (nat_abs z) h

out_30 : (z : ℤ) → unfit_integer 3 z ≡ false → nat_abs z < 1073741824
unfolding unfit_integer
out_30 z h = leb-false 1073741824 (nat_abs z) h

in_32 : (n : ℕ) → n < 4294967296 → unfit_pattern 4 n ≡ false
unfolding unfit_pattern
in_32 n h = lt-leb 4294967296 n h

out_32 : (n : ℕ) → unfit_pattern 4 n ≡ false → n < 4294967296
unfolding unfit_pattern
out_32 n h = leb-false 4294967296 n h

two_holds : (z : ℤ) → unfit_integer 2 z ≡ false
unfolding unfit_integer
two_holds z = refl

five_holds : (n : ℕ) → unfit_pattern 5 n ≡ false
unfolding unfit_pattern
five_holds n = refl

all_held : (code : ℕ) (s : Samples) → Held code s → (fitting code s ≡ true) × (unfit code s ≡ None)
unfolding fitting unfit unfit_integers unfit_patterns
all_held code s (one {row} h) = (refl, each_good (unfit_integer 1) (pos 0) 0 row (λ k l. in_16 (get_or row k (pos 0)) (h k l)))
all_held code s (two {row}) = (refl, each_good (unfit_integer 2) (pos 0) 0 row (λ k l. two_holds (get_or row k (pos 0))))
all_held code s (three {row} w h) = (eq-eqb (length row % 4) 0 w, each_good (unfit_integer 3) (pos 0) 0 row (λ k l. in_30 (get_or row k (pos 0)) (h k l)))
all_held code s (four {row} h) = (refl, each_good (unfit_pattern 4) 0 0 row (λ k l. in_32 (get_or row k 0) (h k l)))
all_held code s (five {row}) = (refl, each_good (unfit_pattern 5) 0 0 row (λ k l. five_holds (get_or row k 0)))

held : (code : ℕ) (s : Samples) → fitting code s ≡ true → unfit code s ≡ None → Held code s
unfolding fitting unfit unfit_integers unfit_patterns reach
held zero (integers row) a h = never a
held (suc zero) (integers row) a h = one (fit_reach row h)
held (suc (suc zero)) (integers row) a h = two
held (suc (suc (suc zero))) (integers row) a h =
    three (eqb-true (length row % 4) 0 a) (λ k l. out_30 (get_or row k (pos 0)) (all_good (unfit_integer 3) (pos 0) 0 row h k l))
held (suc (suc (suc (suc zero)))) (integers row) a h = never a
held (suc (suc (suc (suc (suc zero))))) (integers row) a h = never a
held (suc (suc (suc (suc (suc (suc code)))))) (integers row) a h = never a
held zero (patterns row) a h = never a
held (suc zero) (patterns row) a h = never a
held (suc (suc zero)) (patterns row) a h = never a
held (suc (suc (suc zero))) (patterns row) a h = never a
held (suc (suc (suc (suc zero)))) (patterns row) a h = four (λ k l. out_32 (get_or row k 0) (all_good (unfit_pattern 4) 0 0 row h k l))
held (suc (suc (suc (suc (suc zero))))) (patterns row) a h = five
held (suc (suc (suc (suc (suc (suc code)))))) (patterns row) a h = never a

-- what the writers' tests say of these lines
other_key : (k : List ℕ) → (k ≡ channel_number → ⊥) → same k channel_number ≡ false
other_key k h = go (same k channel_number) refl
  where
    go : (w : Bool) → same k channel_number ≡ w → w ≡ false
    go true e = absurd (h (same_eq k channel_number e))
    go false e = refl

number_first : (v : List ℕ) (ls : List Line)
    → (has_line (number_line v ∷ ls) channel_number ≡ true) × (value_of_line (number_line v ∷ ls) channel_number ≡ v)
unfolding has_line value_of_line same
number_first v ls = (refl, refl)

number_later : (l : Line) (ls : List Line) (v : List ℕ) → (l.key ≡ channel_number → ⊥)
    → (has_line ls channel_number ≡ true) × (value_of_line ls channel_number ≡ v)
    → (has_line (l ∷ ls) channel_number ≡ true) × (value_of_line (l ∷ ls) channel_number ≡ v)
unfolding has_line value_of_line
number_later l ls v other h = rw (other_key l.key other) h

line_numbered : (ls : List Line) → has_line ls channel_number ≡ true → Numbered ls (value_of_line ls channel_number)
unfolding has_line value_of_line
line_numbered [] h = absurd (never h)
line_numbered (l ∷ ls) h = go (same l.key channel_number) refl h (line_numbered ls)
  where
    go : (w : Bool) → same l.key channel_number ≡ w → pick w true (has_line ls channel_number) ≡ true
        → (has_line ls channel_number ≡ true → Numbered ls (value_of_line ls channel_number))
        → Numbered (l ∷ ls) (pick w l.value (value_of_line ls channel_number))
    go true e k again =
        let q = same_eq l.key channel_number e in
        record { before = []; after = ls; is = ap (λ (y : List ℕ). record { key = y; value = l.value } ∷ ls) q; first = tt }
    go false e k again =
        let i = again k in
        record {
          before = l ∷ i.before;
          after = i.after;
          is = ap (λ (z : List Line). l ∷ z) i.is;
          first = (same_not l.key channel_number e, i.first);
        }

numbered_line : (ls : List Line) (v : List ℕ) → Numbered ls v → (has_line ls channel_number ≡ true) × (value_of_line ls channel_number ≡ v)
numbered_line ls v n = rw n.is (go n.before n.first)
  where
    go : (b : List Line) → Without b
        → (has_line (b ++ (number_line v ∷ n.after)) channel_number ≡ true) × (value_of_line (b ++ (number_line v ∷ n.after)) channel_number ≡ v)
    go [] f = number_first v n.after
    go (l ∷ b) f = number_later l (b ++ (number_line v ∷ n.after)) v f.0 (go b f.1)

line_without : (ls : List Line) → has_line ls channel_number ≡ false → Without ls
unfolding has_line
line_without [] h = tt
line_without (l ∷ ls) h = go (same l.key channel_number) refl h (line_without ls)
  where
    go : (w : Bool) → same l.key channel_number ≡ w → pick w true (has_line ls channel_number) ≡ false → (has_line ls channel_number ≡ false → Without ls)
        → (l.key ≡ channel_number → ⊥) × Without ls
    go true e k again = absurd (never (sym k))
    go false e k again = (same_not l.key channel_number e, again k)

without_line : (ls : List Line) → Without ls → has_line ls channel_number ≡ false
unfolding has_line
without_line [] h = refl
without_line (l ∷ ls) h = rw (other_key l.key h.0) (without_line ls h.1)

-- the lines of a good sheet are those that are read off it
lines_are : {sheet : List ℕ} (g : GoodSheet sheet) → sheet_lines sheet ≡ g.lines
lines_are g = ap sheet_lines g.bytes ∙ lines_read [] g.lines g.good

trace_good : (x : Trace) → Good x → GoodTrace x
trace_good x g =
    let s = sheet_good x.sheet g.measures in
    record {
      strings = s;
      channel = λ v n. (
          let l = numbered_line s.lines v n in
          let c = rw (lines_are s) at g.channel in
          rw l.1 at (c l.0));
      samples = held x.code x.samples g.kind g.held;
    }

good_trace : (x : Trace) → GoodTrace x → Good x
good_trace x g =
    let h = all_held x.code x.samples g.samples in
    let s = g.strings in
    record {
      measures = sheet_measured x.sheet s;
      channel = rw (lines_are s) (λ has. g.channel (value_of_line s.lines channel_number) (line_numbered s.lines has));
      kind = h.0;
      held = h.1;
    }

traces_good : (ts : List Trace) → EachGood ts → GoodTraces ts
traces_good [] g = tt
traces_good (x ∷ ts) g = (trace_good x g.0, traces_good ts g.1)

good_traces : (ts : List Trace) → GoodTraces ts → EachGood ts
good_traces [] g = tt
good_traces (x ∷ ts) g = (good_trace x g.0, good_traces ts g.1)

-- each has a channel number or none has, said either way
told_so : (ts : List Trace) (g : GoodTraces ts) → Together ts → AllNumbered ts g ⊎ NoneNumbered ts g
told_so ts g t = ⊎_elim (λ h. inl (each_has ts g h)) (λ h. inr (none_has ts g h)) t
  where
    each_has : (ls : List Trace) (k : GoodTraces ls) → EachHas true ls → AllNumbered ls k
    each_has [] k h = tt
    each_has (x ∷ ls) k h = let s = k.0.strings in ((_, line_numbered s.lines (rw (lines_are s) at h.0)), each_has ls k.1 h.1)

    none_has : (ls : List Trace) (k : GoodTraces ls) → EachHas false ls → NoneNumbered ls k
    none_has [] k h = tt
    none_has (x ∷ ls) k h = let s = k.0.strings in (line_without s.lines (rw (lines_are s) at h.0), none_has ls k.1 h.1)

so_told : (ts : List Trace) (g : GoodTraces ts) → AllNumbered ts g ⊎ NoneNumbered ts g → Together ts
so_told ts g t = ⊎_elim (λ h. inl (each_has ts g h)) (λ h. inr (none_has ts g h)) t
  where
    each_has : (ls : List Trace) (k : GoodTraces ls) → AllNumbered ls k → EachHas true ls
    each_has [] k h = tt
    each_has (x ∷ ls) k h = let s = k.0.strings in (rw (lines_are s) (numbered_line s.lines h.0.0 h.0.1).0, each_has ls k.1 h.1)

    none_has : (ls : List Trace) (k : GoodTraces ls) → NoneNumbered ls k → EachHas false ls
    none_has [] k h = tt
    none_has (x ∷ ls) k h = let s = k.0.strings in (rw (lines_are s) (without_line s.lines h.0), none_has ls k.1 h.1)

pub writable_is_good : {xs : List ℕ} {order slots : ℕ} {sheet : List ℕ} {ts : List Trace} → Writable xs order slots sheet ts → GoodList xs order slots sheet ts
writable_is_good {xs} {order} {slots} {sheet} {ts} w =
    let l = length_file (eqb order 1) slots sheet ts w.slotted w.good.0 in
    record {
      either = w.either;
      some = w.some;
      few = w.few;
      strings = sheet_good sheet w.measures;
      traces = traces_good ts w.good.0;
      channels = told_so ts (traces_good ts w.good.0) w.good.1;
      slotted = w.slotted;
      fits = omega (arith, l, w.fits);
      most = omega (arith, l, w.most);
    }

pub good_is_writable : {xs : List ℕ} {order slots : ℕ} {sheet : List ℕ} {ts : List Trace} → GoodList xs order slots sheet ts → Writable xs order slots sheet ts
good_is_writable {xs} {order} {slots} {sheet} {ts} g =
    let all = good_traces ts g.traces in
    let l = length_file (eqb order 1) slots sheet ts g.slotted all in
    record {
      either = g.either;
      some = g.some;
      few = g.few;
      measures = sheet_measured sheet g.strings;
      good = (all, so_told ts g.traces g.channels);
      slotted = g.slotted;
      fits = omega (arith, l, g.fits);
      most = omega (arith, l, g.most);
    }

-- Rules out a writer with a test of its own, and a description of good lists that only repeats the writers'.
pub writable_exactly_when_good : (xs : List ℕ) (order slots : ℕ) (sheet : List ℕ) (ts : List Trace)
    → Writable xs order slots sheet ts ↔ GoodList xs order slots sheet ts
writable_exactly_when_good xs order slots sheet ts = (writable_is_good, good_is_writable)
