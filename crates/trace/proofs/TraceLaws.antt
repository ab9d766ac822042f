-- Theorems on what specs/TraceLaws defines. They stand here, as a wrong definition there is to be refused and not to be unread.
-- Assumes nothing.
use Rattle.std.specs.Prelude.{◌≡◌, Bool, List, ℕ, ◌+◌, length, Result, Ok, Err, Option}
use Rattle.std.proofs.Math.Path.{sym}
use Rattle.std.proofs.Common.{ap, ◌∙◌}
use Rattle.refusal.specs.Verdicts.{asked, and_then, accepted}
use Rattle.refusal.specs.FirstRow.{first_of, first_next, first_two}
use Rattle.refusal.specs.declared.Part.TheVariants.{Trace}
use Rattle.refusal.specs.declared.Refusal.{Refusal}
use Rattle.text.specs.declared.Manner.{Manner}
use Rattle.word.specs.Part.{part}
use Rattle.strings.specs.Strings.{places_of, find_of, found, value_found}
use Rattle.seek.specs.Sought.{span_of, span_bytes, span_there, span_told}
use Rattle.std.specs.Option.{is_some}
use Rattle.channel.specs.Channel.{channel_number}
use Rattle.block.specs.declared.TraceBlock.{TraceBlock}
use Rattle.block.specs.Block.{end_at, block_answer}
use Rattle.block.specs.BlockLaws.{head_at}
use Rattle.trace.specs.Trace.{area_verdict, channel_at, channel_row, channel_verdict, block_checks, chosen_by, chosen_at, traced}
use Rattle.trace.specs.TraceLaws.{rows_data, rows_passed, rows_size}
use Rattle.strings.specs.declared.Place.{Place}

module _ (how : Manner) (high : Bool) (t u f : List ℕ) (with : Bool) (k p : ℕ) where
  module _ (x : TraceBlock) (e : block_answer high (head_at f p) (length f) k p ≡ Ok x) where
    strings_next : first_of (block_checks how high t u f with k p)
        ≡ and_then (area_verdict how high t u f (Trace k) (p + 32) (p + x.b)) (channel_verdict how with f k p (channel_at how high t f p))
    unfolding and_then
    strings_next = first_next _ _ ∙ rw ((rows_passed high f k p x e).0, rows_size high f k p x e) (first_two _ _)

    pub strings_bad : (r : Refusal) → area_verdict how high t u f (Trace k) (p + 32) (p + x.b) ≡ Err r → Err r ≡ traced how high t u f with k p
    unfolding and_then
    strings_bad r h = sym (rw (strings_next, h))

    -- its strings were passed
    strings_past : area_verdict how high t u f (Trace k) (p + 32) (p + x.b) ≡ accepted
        → asked Err (channel_verdict how with f k p (channel_at how high t f p)) (Ok (p + x.b + x.d, with)) ≡ traced how high t u f with k p
    unfolding end_at and_then
    strings_past h = sym (rw (strings_next, h, rows_size high f k p x e, rows_data high f k p x e))

    -- what the check of them found is its channel number, whose value lies in the file
    channel_sought : find_of how f (places_of how high t (part (p + 32) (p + x.b) f) (p + 32)) channel_number ≡ channel_at how high t f p
    unfolding channel_at
    channel_sought = rw (rows_size high f k p x e)

-- so the trace is as row 34 says, with what was chosen at it
pub strings_through : (how : Manner) (high : Bool) (t u f : List ℕ) (with : Bool) (k p : ℕ) (x : TraceBlock)
    → block_answer high (head_at f p) (length f) k p ≡ Ok x → (y : Option (ℕ × ℕ)) {r : Result (ℕ × Bool) Refusal}
    → area_verdict how high t u f (Trace k) (p + 32) (p + x.b) ≡ accepted
    → y ≡ span_of (find_of how f (places_of how high t (part (p + 32) (p + x.b) f) (p + 32)) channel_number)
    → r ≡ asked Err (channel_row how (chosen_by with k (is_some y)) k p (is_some y) (span_bytes f y)) (Ok (p + x.b + x.d, chosen_by with k (is_some y)))
    → r ≡ traced how high t u f (chosen_at how high t f with k p) k p
strings_through how high t u f with k p x e y h c q =
    let s : Option Place = channel_at how high t f p in
    let d : y ≡ span_of s = rw (channel_sought how high t u f with k p x e) at c in
    let i : is_some y ≡ found s = ap is_some d ∙ span_there s in
    let v : span_bytes f y ≡ value_found f s = ap (λ z. span_bytes f z) d ∙ span_told f s in
    q
    ∙ rw (i, v)
    (strings_past how high t u f (chosen_at how high t f with k p) k p x e h)
