-- The answer of a listing, and what it says of the input.
-- Assumes nothing.
use Rattle.std.specs.Prelude.{◌≡◌, true, false, ℕ, ◌≤◌, ◌<◌, ltb, take, Err, Some, None, List}
use Rattle.std.proofs.Math.Path.{ap}
use Rattle.std.proofs.Common.{◌∙◌, take_all, ltb-false, lt-ltb, le-ltb, arith}
use Rattle.std.proofs.Math.ListN.{length}
use Rattle.head_limits.specs.declared.Purpose.TheVariants.{Read}
use Rattle.text.specs.declared.Manner.TheVariants.{Strict}
use Rattle.word.specs.Put.{put}
use Rattle.word.specs.Wrote.{Wrote}
use Rattle.refusal.specs.Table.{refusal}
use Rattle.refusal.specs.declared.Part.TheVariants.{File}
use Rattle.refusal.specs.declared.Rule.TheVariants.{InputSize}
use Rattle.refusal.specs.declared.Refusal.{Refusal}
use Rattle.head.specs.Head.{maximum}
use Rattle.image.specs.Image.{image_of, check_of}
use Rattle.reader.specs.Reach.{checked}
use Rattle.lines.specs.Lines.{refusal_line}
use Rattle.file_lines.specs.FileLines.{file_text}
use Rattle.listing.specs.Listing.{checked_text, listing_of, program_of, room_for, print_answer, Within, print_left}
use Rattle.refusal.specs.Verdicts.{accepted}

-- ---- the answer, where an input prints a text
pub enough : (input out : List ℕ) → ltb (length out) (room_for (length input)) ≡ false → room_for (length input) ≤ length out
enough input out e = ltb-false (length out) (room_for (length input)) e

module _ (text input out : List ℕ) where
  pub print_full : ltb (length out) (room_for (length input)) ≡ true
      → (None ≡ print_answer text input (length out)) × (Within None (length out) × (out ≡ print_left text input out))
  unfolding print_answer print_left
  print_full e = (rw e, (tt, rw e))

  pub print_told : ltb (length out) (room_for (length input)) ≡ false → (r : ℕ) (new t : List ℕ) → t ≡ text → Wrote out 0 t r new → r ≤ length out
      → (Some r ≡ print_answer text input (length out)) × (Within (Some r) (length out) × (new ≡ print_left text input out))
  unfolding print_answer print_left
  print_told q r new t e (d, w) f =
      let s : r ≡ length text = d ∙ omega arith ∙ ap length e in
      (rw q (ap Some s), (f, w ∙ rw q (ap (λ (z : List ℕ). put out 0 z) e)))

-- ---- the text
module _ (input : List ℕ) where
  pub prints_refusal : {x : Refusal} → check_of Strict Read input (length input) ≡ Err x → refusal_line x ≡ listing_of input
  unfolding listing_of checked_text
  prints_refusal e = rw e

  pub prints_file : check_of Strict Read input (length input) ≡ accepted → file_text input ≡ listing_of input
  unfolding listing_of checked_text
  prints_file e = rw e

  pub prints_large : 65536 < length input → refusal_line (refusal InputSize File 0) ≡ program_of input
  unfolding program_of
  prints_large h = rw (lt-ltb 65536 (length input) h)

  pub prints_listing : length input ≤ 65536 → listing_of input ≡ program_of input
  unfolding program_of
  prints_listing h = rw (le-ltb 65536 (length input) h)

-- an accepted input is its own image
pub whole_image : (input : List ℕ) → check_of Strict Read input (length input) ≡ accepted
    → (image_of Strict Read input ≡ accepted) × (32 ≤ length input) × (length input ≤ maximum)
whole_image input e =
    let c = checked Strict input (length input) e in
    let t : take (length input) input ≡ input = take_all (length input) input (omega arith) in
    (rw t at c.image, c.least, c.most)
