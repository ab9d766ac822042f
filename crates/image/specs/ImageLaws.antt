-- The laws of the check, part by part: what a part has shown, and what the whole then is.
-- Assumes nothing.
use Rattle.std.specs.Prelude.{◌≡◌, refl, List, ℕ, ◌<◌, length, take, Result, Ok, Err}
use Rattle.std.proofs.Math.Path.{sym}
use Rattle.std.proofs.Common.{ap, ◌∙◌, arith}
use Rattle.refusal.specs.Verdicts.{asked, and_then, accepted}
use Rattle.refusal.specs.declared.Refusal.{Refusal}
use Rattle.text.specs.declared.Manner.{Manner}
use Rattle.head_limits.specs.declared.Purpose.{Purpose}
use Rattle.head_words.specs.declared.FileBlock.{FileBlock}
use Rattle.head_words.specs.HeadWords.{high_first, room_of, count_of, file_block_of}
use Rattle.head.specs.Head.{head_of, head_answer, InWords}
use Rattle.terminators.specs.Terminators.{string_end, line_end}
use Rattle.head.specs.HeadLaws.{Headed, headed, own_block, block_order, block_room, block_count}
use Rattle.image.specs.Image.{rest_of, image_of}
use Rattle.refusal.specs.Verdicts.{Verdict}
-- what row 1 has shown
pub use Rattle.file_length.specs.FileLength.{long_enough}

-- ---- rows 2 to 7, then the rest
pub file_told : (v : Verdict) (y : FileBlock) (r : Refusal) → asked Err v (Ok y) ≡ Err r → v ≡ Err r
file_told (Ok _) y r e = let z : ◌≡◌ {A = ℕ} 0 1 = cc in absurd (omega arith)
file_told (Err q) y r e = let s : q ≡ r = cc in ap Err s

file_read : (v : Verdict) (y x : FileBlock) → asked Err v (Ok y) ≡ Ok x → (v ≡ accepted) × (x ≡ y)
file_read (Ok _) y x e = (refl, cc)
file_read (Err q) y x e = let z : ◌≡◌ {A = ℕ} 0 1 = cc in absurd (omega arith)

pub in_words : (a : Result FileBlock Refusal) (x : FileBlock) → a ≡ Ok x → InWords a → (x.m < 65536) × (x.n < 65536)
in_words a x e h = rw e at h

-- x is the block that the rows hand on
module _ (purpose : Purpose) (f : List ℕ) (x : FileBlock) (e : head_answer purpose (take 32 f) (length f) ≡ Ok x) where
  pub head_passed : (head_of purpose (take 32 f) (length f) ≡ accepted) × (x ≡ file_block_of (take 32 f))
  unfolding head_answer
  head_passed = file_read _ _ x e

  pub head_shown : Headed purpose f
  head_shown = headed purpose f head_passed.0

  head_block : x ≡ file_block_of f
  head_block = head_passed.1 ∙ own_block f

  pub head_order : high_first f ≡ x.high
  head_order = block_order f head_block

  pub head_room : room_of f ≡ x.m
  head_room = block_room f head_block

  pub head_count : count_of f ≡ x.n
  head_count = block_count f head_block

  pub head_rest : (how : Manner) → rest_of how x.high (string_end f) (line_end f) f x.m x.n ≡ image_of how purpose f
  unfolding image_of and_then
  head_rest how = sym (rw (head_passed.0, head_order, head_room, head_count))

pub head_bad : (how : Manner) (purpose : Purpose) (f : List ℕ) (r : Refusal) → head_answer purpose (take 32 f) (length f) ≡ Err r
    → Err r ≡ image_of how purpose f
unfolding head_answer image_of and_then
head_bad how purpose f r e = let h : head_of purpose (take 32 f) (length f) ≡ Err r = file_told _ _ r e in sym (rw h)
