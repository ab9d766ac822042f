-- Theorems on what specs/AloneLaws defines. They stand here, as a wrong definition there is to be refused and not to be unread.
-- Assumes nothing.
use Rattle.std.specs.Prelude.{◌≡◌, Bool, not, ℤ, length, take, Result, Ok, Err}
use Rattle.std.proofs.Math.Path.{sym, ap}
use Rattle.std.proofs.Common.{◌∙◌}
use Rattle.std.proofs.Math.Bool.{false}
use mathlib.Core.List.{List, ◌∷◌}
use Prim.Native.Nat.{ℕ, ◌+◌}
use Rattle.refusal.specs.Rows.{pick}
use Rattle.refusal.specs.Verdicts.{asked, accepted}
use Rattle.refusal.specs.FirstRow.{row, first_of, first_next, first_two, asked_row, then_asked}
use Rattle.refusal.specs.declared.Part.TheVariants.{File}
use Rattle.refusal.specs.declared.Refusal.{Refusal}
use Rattle.refusal.specs.declared.Rule.TheVariants.{Length, NoTrace}
use Rattle.head_limits.specs.declared.Purpose.TheVariants.{Read}
use Rattle.head_words.specs.declared.FileBlock.{FileBlock}
use Rattle.head_words.specs.HeadWords.{high_first, room_of, count_of, file_block_of}
use Rattle.head.specs.Head.{head_of, head_answer}
use Rattle.block.specs.Block.{pointer_of, pointer_row, block_of, block_answer, trace_block_of}
use Rattle.block.specs.BlockLaws.{head_at, own_block}
use Rattle.file_length.specs.FileLength.{bad_length}
use Rattle.image.specs.ImageLaws.{file_told, head_passed, head_order, head_room, head_count}
use Rattle.reader.specs.Questions.{no_trace, is_trace, trace_number, block_at}
use Rattle.reader.specs.Leaves.{on_trace_lem}
use Rattle.one_trace.specs.Alone.{own_checks, alone_of, block_alone, own_of, named_of}
use Rattle.block.specs.declared.TraceBlock.{TraceBlock}
use Rattle.refusal.specs.Verdicts.{Verdict}

module _ (high : Bool) (f : List ℕ) (m k p : ℕ) (e : p ≡ pointer_of high f k) where
  own_chain : own_of high f m k ≡ asked Err (pointer_row (length f) k (32 + m) p) (block_answer high (head_at f p) (length f) k p)
  unfolding own_of block_answer
  own_chain =
      ap (λ (q : ℕ). asked Err (first_of (own_checks high f m k q)) (Ok (trace_block_of high f k))) (sym e)
      ∙ ap (λ (v : Verdict). asked Err v (Ok (trace_block_of high f k))) (first_two _ _)
      ∙ then_asked Err (pointer_row (length f) k (32 + m) p) (block_of high (head_at f p) (length f) k p) (Ok (trace_block_of high f k))
      ∙ rw (own_block high f k p e)

  pub own_bad : {r : Refusal} → pointer_row (length f) k (32 + m) p ≡ Err r → Err r ≡ own_of high f m k
  own_bad h = sym (own_chain ∙ rw h)

  pub own_rows_lem : {a : Result TraceBlock Refusal} → pointer_row (length f) k (32 + m) p ≡ accepted → a ≡ block_answer high (head_at f p) (length f) k p
      → a ≡ own_of high f m k
  own_rows_lem h q = q ∙ sym (own_chain ∙ rw h)

module _ (xs : List ℕ) (n : ℕ) (z : ℤ) where
  module _ (long : bad_length (length xs) n ≡ false) where
    abbrev f : List ℕ
    f = take n xs

    chain : block_alone xs n z
        ≡ asked Err (head_of Read (take 32 f) (length f))
        (pick (not (is_trace z (count_of f))) (Err no_trace) (own_of (high_first f) f (room_of f) (trace_number z)))
    unfolding block_alone alone_of own_of
    chain =
        let k : ℕ = trace_number z in
        let b : Result TraceBlock Refusal = Ok (block_at f k) in
        let own : List Verdict = own_checks (high_first f) f (room_of f) k (pointer_of (high_first f) f k) in
        let rows : List Verdict = row (not (is_trace z (count_of f))) NoTrace File 0 ∷ own in
        rw long (asked_row Err false Length File 0 (head_of Read (take 32 f) (length f) ∷ rows) b
        ∙ ap (λ (v : Verdict). asked Err v b) (first_next (head_of Read (take 32 f) (length f)) rows)
        ∙ then_asked Err (head_of Read (take 32 f) (length f)) (first_of rows) b
        ∙ ap (asked Err (head_of Read (take 32 f) (length f))) (asked_row Err (not (is_trace z (count_of f))) NoTrace File 0 own b))

    pub alone_head : {r : Refusal} → head_answer Read (take 32 f) (length f) ≡ Err r → Err r ≡ block_alone xs n z
    unfolding head_answer
    alone_head {r} e = sym (chain ∙ rw (file_told (head_of Read (take 32 f) (length f)) (file_block_of (take 32 f)) r e))

    pub alone_named : {x : FileBlock} {a : Result TraceBlock Refusal} → head_answer Read (take 32 f) (length f) ≡ Ok x → a ≡ named_of f x z
        → a ≡ block_alone xs n z
    unfolding named_of
    alone_named {x} {a} e q =
        q
        ∙ on_trace_lem (Err no_trace) (λ k. own_of x.high f x.m k) z x.n
        ∙ rw (← head_order Read f x e, ← head_room Read f x e, ← head_count Read f x e)
        (sym (chain ∙ rw (head_passed Read f x e).0))
