-- Demand 2, what is ignored: bytes 14 to 31, the unused second byte of a one-byte terminator, pointer slots from N on,
-- the reserved bytes of a trace block, gaps, what follows an end mark, data beyond the needed bytes and the tail behind
-- the last trace (document 01, "The file block", "The trace block", "Strings"). `Alike` (ignored/Images) has a field
-- for each byte that counts: the other bytes of two images may differ, and every answer is the same, refusals, places
-- and samples included; of images that are refused as well.
-- Assumes nothing.
use Rattle.std.specs.Prelude.{◌≡◌, List, ℕ, ◌≤◌, ℤ, length, take}
use Rattle.head_limits.specs.declared.Purpose.{Purpose}
use Rattle.text.specs.declared.Manner.TheVariants.{Strict}
use Rattle.image.specs.Image.{check_of}
use Rattle.reader.specs.Questions.{file_answer}
use Rattle.ignored.specs.Images.{Alike}
use Rattle.ignored.proofs.ReadsLaws as reads
use Rattle.demands.specs.Growing.{AnsweredAlike}

module _ (xs ys : List ℕ) (n : ℕ) (fx : n ≤ length xs) (fy : n ≤ length ys) (a : Alike (take n xs) (take n ys)) where
  -- Rules out a check that refuses for a reserved byte, or judges a slot that is not in use.
  pub ignored_by_the_check : (purpose : Purpose) → check_of Strict purpose xs n ≡ check_of Strict purpose ys n
  ignored_by_the_check = reads.alike_check xs ys n fx fy a

  pub ignored_by_the_file_block : file_answer Strict xs n ≡ file_answer Strict ys n
  ignored_by_the_file_block = reads.alike_file xs ys n fx fy a

  -- Rules out a question that looks into a gap, past an end mark or past the needed bytes.
  pub ignored_by_every_question : (z : ℤ) → AnsweredAlike xs n ys n z
  ignored_by_every_question z =
      record {
        block = reads.alike_trace xs ys n fx fy a z;
        many = reads.alike_count xs ys n fx fy a z;
        nth = reads.alike_nth xs ys n fx fy a z;
        found = reads.alike_find xs ys n fx fy a z;
        keyword = reads.alike_keyword xs ys n fx fy a z;
        value = reads.alike_value xs ys n fx fy a z;
        number = reads.alike_number xs ys n fx fy a z;
        double = reads.alike_double xs ys n fx fy a z;
        location = reads.alike_location xs ys n fx fy a z;
        integers = reads.alike_integers xs ys n fx fy a z;
        integers_left_lem = reads.alike_integers_left xs ys n fx fy a z;
        bits = reads.alike_bits xs ys n fx fy a z;
        patterns_left_lem = reads.alike_patterns_left xs ys n fx fy a z;
        classes_left_lem = reads.alike_classes_left xs ys n fx fy a z;
      }
