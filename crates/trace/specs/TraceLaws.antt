-- The laws of a trace's check, part by part: what a part has shown, and what the whole then is.
-- Assumes nothing.
use Rattle.std.specs.Prelude.{◌≡◌, refl, Bool, List, ℕ, ◌+◌, ◌≤◌, length, Ok, Err, Option, Some, None}
use Rattle.std.proofs.Math.Path.{sym}
use Rattle.std.proofs.Common.{ap, ◌∙◌, arith, Result}
use Rattle.refusal.specs.Verdicts.{pair_parts, asked, and_then, accepted}
use Rattle.refusal.specs.FirstRow.{first_of, first_next, first_two}
use Rattle.refusal.specs.declared.Part.TheVariants.{Trace}
use Rattle.refusal.specs.declared.Refusal.{Refusal}
use Rattle.text.specs.declared.Manner.{Manner}
use Rattle.word.specs.Part.{part}
use Rattle.strings.specs.Strings.{places_of, find_of}
use Rattle.seek.specs.Sought.{span_of, SpanIn}
use Rattle.lookup.specs.Lists.{find_in, area_in_lem}
use Rattle.channel.specs.Channel.{channel_number}
use Rattle.block.specs.declared.TraceBlock.{TraceBlock}
use Rattle.block.specs.Block.{block_size_of, data_size_of, end_at, block_of, block_in, block_answer}
use Rattle.block.specs.BlockLaws.{head_at, own_size, own_data, Blocked, blocked, block_size, block_data}
use Rattle.trace.specs.Trace.{area_verdict, channel_at, channel_row, channel_verdict, block_checks, chosen_by, chosen_at, traced}
use Rattle.strings.specs.declared.Place.{Place}
use Rattle.refusal.specs.Verdicts.{Verdict}

-- ---- a trace's block: the rows of its first 32 bytes, then its strings

-- an answer of the rows is their verdict
pub block_told : (v : Verdict) (y : TraceBlock) (r : Refusal) → asked Err v (Ok y) ≡ Err r → v ≡ Err r
block_told (Ok _) y r e = let z : ◌≡◌ {A = ℕ} 0 1 = cc in absurd (omega arith)
block_told (Err q) y r e = let s : q ≡ r = cc in ap Err s

pub block_read : (v : Verdict) (y x : TraceBlock) → asked Err v (Ok y) ≡ Ok x → (v ≡ accepted) × (x ≡ y)
block_read (Ok _) y x e = (refl, cc)
block_read (Err q) y x e = let z : ◌≡◌ {A = ℕ} 0 1 = cc in absurd (omega arith)

-- x is the block that the rows hand on
module _ (high : Bool) (f : List ℕ) (k p : ℕ) (x : TraceBlock) (e : block_answer high (head_at f p) (length f) k p ≡ Ok x) where
  pub rows_passed : (block_of high (head_at f p) (length f) k p ≡ accepted) × (x ≡ block_in high (head_at f p) p)
  unfolding block_answer
  rows_passed = block_read _ _ x e

  pub rows_shown : Blocked high f p
  rows_shown = blocked high f k p rows_passed.0

  pub rows_size : block_size_of high f p ≡ x.b
  rows_size = sym (own_size high f p) ∙ block_size high (head_at f p) p rows_passed.1

  pub rows_data : data_size_of high f p ≡ x.d
  rows_data = sym (own_data high f p) ∙ block_data high (head_at f p) p rows_passed.1

-- ---- a value that the check of an area found lies in the file
sought_in : (how : Manner) (high : Bool) (t f : List ℕ) (a e : ℕ) (key : List ℕ) (x : Option Place) → a ≤ e → e ≤ length f
    → find_of how f (places_of how high t (part a e f) a) key ≡ x → SpanIn f (span_of x)
unfolding span_of
sought_in how high t f a e key None low fits h = tt
sought_in how high t f a e key (Some s) low fits h =
    let i = find_in how e f (places_of how high t (part a e f) a) key s (area_in_lem how high t f a e low fits) h in
    (i.2, omega (arith, i.3))

-- ---- a trace: the rows, its strings, its channel number
module _ (how : Manner) (high : Bool) (t u f : List ℕ) (with : Bool) (k p : ℕ) where
  pub rows_bad : (r : Refusal) → block_answer high (head_at f p) (length f) k p ≡ Err r → Err r ≡ traced how high t u f with k p
  unfolding block_answer and_then
  rows_bad r e =
      let h : block_of high (head_at f p) (length f) k p ≡ Err r = block_told _ _ r e in
      let v : first_of (block_checks how high t u f with k p) ≡ Err r = first_next _ _ ∙ rw h in
      sym (rw v)

  module _ (x : TraceBlock) (e : block_answer high (head_at f p) (length f) k p ≡ Ok x) where
    pub channel_in : SpanIn f (span_of (find_of how f (places_of how high t (part (p + 32) (p + x.b) f) (p + 32)) channel_number))
    channel_in =
        let q = rows_shown high f k p x e in
        let z = rows_size high f k p x e in
        sought_in how high t f (p + 32) (p + x.b) channel_number _ (omega (arith, q.least)) (omega (arith, q.fits)) refl

-- ---- what an answer tells

pub not_through : (v : Verdict) (p : ℕ) (w : Bool) (r : Refusal) → asked {A = Result (ℕ × Bool) Refusal} Err v (Ok (p, w)) ≡ Err r → v ≡ Err r
not_through (Ok _) p w r e = let z : ◌≡◌ {A = ℕ} 0 1 = cc in absurd (omega arith)
not_through (Err q) p w r e = let s : q ≡ r = cc in ap Err s

pub was_through : (v : Verdict) (p : ℕ) (w : Bool) (q : ℕ) (x : Bool) → asked {A = Result (ℕ × Bool) Refusal} Err v (Ok (p, w)) ≡ Ok (q, x) → (v ≡ accepted) × (p ≡ q) × (w ≡ x)
was_through (Ok _) p w q x e = let i : ◌≡◌ {A = ℕ × Bool} (p, w) (q, x) = cc in let j = pair_parts i in (refl, j.0, j.1)
was_through (Err r) p w q x e = let z : ◌≡◌ {A = ℕ} 0 1 = cc in absurd (omega arith)
