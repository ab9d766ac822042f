-- One trace by itself: a law for each answer, and what an answered block has shown.
-- Assumes nothing.
use Rattle.std.specs.Prelude.{◌≡◌, refl, Bool, true, not, ℤ, pos, negsuc, length, take, Ok, Err}
use Rattle.std.proofs.Math.Path.{sym, ap}
use Rattle.std.proofs.Common.{◌∙◌, length-take-le, ltb-true}
use Rattle.std.proofs.Math.Bool.{false}
use mathlib.Core.List.{List, ◌∷◌}
use Prim.Native.Nat.{ℕ, ◌+◌, ◌≤◌, ◌<◌}
use Rattle.std.proofs.lemmas.Bool.{not-false}
use Rattle.word.specs.Tests.{never}
use Rattle.refusal.specs.Rows.{pick}
use Rattle.refusal.specs.Verdicts.{asked, accepted}
use Rattle.refusal.specs.FirstRow.{row, first_of, first_next, first_two, passed_met_none, asked_row, then_asked}
use Rattle.refusal.specs.Table.{refusal}
use Rattle.refusal.specs.declared.Part.TheVariants.{File}
use Rattle.refusal.specs.declared.Refusal.{Refusal}
use Rattle.refusal.specs.declared.Rule.TheVariants.{Length, NoTrace}
use Rattle.head_limits.specs.declared.Purpose.TheVariants.{Read}
use Rattle.head_words.specs.declared.FileBlock.{FileBlock}
use Rattle.head_words.specs.HeadWords.{high_first, room_of, count_of, file_block_of}
use Rattle.head.specs.Head.{maximum, head_of, head_answer}
use Rattle.head.specs.HeadLaws.{Headed, headed}
use Rattle.block.specs.declared.TraceBlock.{TraceBlock}
use Rattle.block.specs.Block.{pointer_of, pointer_row, block_of, block_answer, trace_block_of}
use Rattle.block.specs.BlockLaws.{head_at, own_block, Pointed, Blocked}
use Rattle.trace.specs.TraceLaws.{block_told, block_read}
use Rattle.file_length.specs.FileLength.{bad_length}
use Rattle.image.specs.Accepted.{unmet}
use Rattle.image.specs.Keeps.{trace_at}
use Rattle.file_length.specs.FileLength.{long_enough}
use Rattle.image.specs.ImageLaws.{file_told, head_passed, head_order, head_room, head_count}
use Rattle.reader.specs.Questions.{no_trace, is_trace, trace_number, block_at}
use Rattle.reader.specs.Leaves.{on_trace_lem}
use Rattle.one_trace.specs.Alone.{own_checks, alone_checks, alone_of, block_alone, own_of, named_of}

-- ---- the whole
module _ (xs : List ℕ) (n : ℕ) (z : ℤ) where
  pub alone_length : bad_length (length xs) n ≡ true → Err (refusal Length File 0) ≡ block_alone xs n z
  unfolding block_alone alone_of first_of
  alone_length h = rw h

  -- behind row 1
  module _ (long : bad_length (length xs) n ≡ false) where
    abbrev f : List ℕ
    f = take n xs

-- ---- what these rows have shown of a trace that they let through
pub record Alone (xs : List ℕ) (n : ℕ) (z : ℤ) : Type 0 where
  pub least : 32 ≤ n
  pub most : n ≤ maximum
  pub fits : n ≤ length xs
  pub size : length (take n xs) ≡ n
  pub head : Headed Read (take n xs)
  pub number : z ≡ pos (trace_number z)
  pub low : trace_number z < count_of (take n xs)
  pub pointed : Pointed (length (take n xs)) (32 + room_of (take n xs)) (trace_at (take n xs) (trace_number z))
  pub blocked : Blocked (high_first (take n xs)) (take n xs) (trace_at (take n xs) (trace_number z))

named_trace : (z : ℤ) (n : ℕ) → is_trace z n ≡ true → (z ≡ pos (trace_number z)) × (trace_number z < n)
named_trace (pos k) n h = (refl, ltb-true k n h)
named_trace (negsuc k) n h = never h

pub alone_passed : (xs : List ℕ) (n : ℕ) (z : ℤ) → alone_of xs n z ≡ accepted → Alone xs n z
unfolding alone_of
alone_passed xs n z e =
    let f : List ℕ = take n xs in
    let k : ℕ = trace_number z in
    let m = passed_met_none (alone_checks xs n z) e in
    let l = long_enough (length xs) n (unmet (bad_length (length xs) n) (refusal Length File 0) m.0) in
    let t = named_trace z (count_of f) (not-false (is_trace z (count_of f)) (unmet (not (is_trace z (count_of f))) no_trace m.1.1.0)) in
    record {
      least = l.0;
      most = l.1;
      fits = l.2;
      size = length-take-le n xs l.2;
      head = headed Read f m.1.0;
      number = t.0;
      low = t.1;
      pointed = Rattle.block.specs.BlockLaws.pointed (length f) k (32 + room_of f) (trace_at f k) m.1.1.1.0;
      blocked = Rattle.block.specs.BlockLaws.blocked (high_first f) f k (trace_at f k) m.1.1.1.1.0;
    }

-- ---- what an answer tells of them
pub alone_read : (xs : List ℕ) (n : ℕ) (z : ℤ) (x : TraceBlock) → block_alone xs n z ≡ Ok x
    → (alone_of xs n z ≡ accepted) × (x ≡ block_at (take n xs) (trace_number z))
unfolding block_alone
alone_read xs n z x e = block_read (alone_of xs n z) (block_at (take n xs) (trace_number z)) x e

pub alone_refused : (xs : List ℕ) (n : ℕ) (z : ℤ) (r : Refusal) → block_alone xs n z ≡ Err r → alone_of xs n z ≡ Err r
unfolding block_alone
alone_refused xs n z r e = block_told (alone_of xs n z) (block_at (take n xs) (trace_number z)) r e
