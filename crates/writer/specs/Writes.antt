-- What each row of an addition leaves, and what the rows before the first store have shown.
-- Assumes nothing.
use Rattle.std.specs.Prelude.{◌≡◌, Bool, true, false, ◌||◌, List, ℕ, ◌+◌, ◌<◌, length, take, ltb, Result, Ok, Err}
use Rattle.std.proofs.Math.Path.{refl}
use Rattle.std.proofs.Common.{sym, ◌∙◌, arith, lt-ltb}
use Rattle.word.specs.Round.{round4}
use Rattle.word.specs.Bytes.{Bytes, bytes_take}
use Rattle.refusal.specs.Rows.{pick}
use Rattle.refusal.specs.Verdicts.{asked}
use Rattle.refusal.specs.declared.Refusal.{Refusal}
use Rattle.refusal.specs.declared.Rule.TheVariants.{NoRoom}
use Rattle.sample.specs.Needed.{room}
use Rattle.area.specs.Spelling.{measured_size}
use Rattle.head_words.specs.HeadWords.{room_of}
use Rattle.head.specs.Head.{maximum}
use Rattle.refusal.specs.Writing.{refuse}
use Rattle.start.specs.Start.{within}
use Rattle.layout.specs.Layout.{Trace, count}
use Rattle.layout.specs.LayoutLaws.{Kinded, kinded, room_enough}
use Rattle.layout.specs.Stores.{Held}
use Rattle.append.specs.Grown.{new_length}
use Rattle.append.specs.GrownLaws.{Begins}
use Rattle.opening.specs.Opening.{area_answer}
use Rattle.opening.specs.OpeningLaws.{room_small, accepted}
use Rattle.opening.proofs.OpeningLaws.{opened}
use Rattle.entry.specs.Entry.{samples_verdict, code_verdict}
use Rattle.writer.specs.Answers.{add_into, add_answer, add_needs, add_left}
use Rattle.writer.specs.Shown.{added, add_refused}
use Rattle.refusal.specs.Verdicts.{Verdict}

-- ---- every row, with what 28 and 29 say of the samples as one verdict

module _ (space : ℕ) (xs : List ℕ) (n : ℕ) (sheet : List ℕ) (code s : ℕ) (fit : Verdict) where
  pub rows_shut : {r : Refusal} → area_answer xs n sheet ≡ Err r → Err r ≡ add_into space xs n sheet code s fit
  unfolding add_into
  rows_shut h = rw h

  pub rows_ended : {size : ℕ} {w : Result ℕ Refusal} → area_answer xs n sheet ≡ Ok size
      → w ≡ asked Err fit (within space (round4 n + (32 + size + room code s))) → w ≡ add_into space xs n sheet code s fit
  unfolding add_into
  rows_ended {size} o e = rw (o, (measured_size _ _ _ _ (opened xs n sheet size o).measured).1) e

pub needs_told : (xs : List ℕ) (n : ℕ) (sheet : List ℕ) (code s : ℕ) {fit : Verdict} {w : Result ℕ Refusal} → fit ≡ code_verdict code s
    → w ≡ add_into maximum xs n sheet code s fit → w ≡ add_needs xs n sheet code s
unfolding add_needs
needs_told xs n sheet code s e h = h ∙ rw e

-- ---- row 30

-- where there are more samples than the maximum has bytes
pub too_many : (len n size code s : ℕ) → Kinded code s → maximum < s → refuse NoRoom 0 ≡ within len (round4 n + (32 + size + room code s))
too_many len n size code s k h =
    let r = (room_enough code s).0 in
    let e : ℕ = round4 n + (32 + size + room code s) in
    rw (lt-ltb maximum e (omega (arith, k.each))) (or_true (ltb len e))
  where
    or_true : (a : Bool) → refuse NoRoom 0 ≡ pick (a || true) (refuse NoRoom 0) (Ok (round4 n + (32 + size + room code s)))
    or_true true = refl
    or_true false = refl

-- ---- the answer and what is left

module _ (xs : List ℕ) (n : ℕ) (x : Trace) {fit : Verdict} {w : Result ℕ Refusal} (e : fit ≡ samples_verdict x.code x.samples)
    (h : w ≡ add_into (length xs) xs n x.sheet x.code (count x.samples) fit) where
  pub answer : w ≡ add_answer xs n x
  unfolding add_answer
  answer = rw (← e) h

  pub kept_left : {r : Refusal} → w ≡ Err r → (Err r ≡ add_answer xs n x) × (xs ≡ add_left xs n x)
  kept_left {r} g = (sym g ∙ answer, sym (add_refused xs n x r (sym answer ∙ g)))

  -- what has been shown before the first store
  pub begins : {end : ℕ} → Bytes xs → w ≡ Ok end → Begins xs n x.sheet end x.code (count x.samples) × Held x.code x.samples
  unfolding new_length
  begins {end} by g =
      let d = added xs n x end (sym answer ∙ g) in
      let a = accepted xs n refl d.accepted in
      let r : room_of (take n xs) < 65536 = room_small (take n xs) (bytes_take n xs by) in (
        record {
          slotted =
              record {
                low = a.low;
                most = a.most;
                within = a.within;
                size = a.size;
                slot = omega (arith, d.slot, a.room, a.within);
                few = omega (arith, d.slot);
              };
          strings = a.strings;
          lines = a.lines;
          sized = d.sized;
          kind = kinded x.code x.samples d.kind;
          new = d.new;
          in_buffer = d.in_buffer;
          in_maximum = d.in_maximum;
        },
        record { fits = d.kind; all = d.held },
      )
