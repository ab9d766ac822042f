-- What stands in the first 32 bytes of a file (document 01, "The file block"): the byte order, the words, and the block
-- that they are. f is the image, or no more than its first 32 bytes.
-- Assumes nothing.
use Rattle.std.specs.Prelude.{◌≡◌, Bool, List, ℕ, get_or, eqb}
use Rattle.std.proofs.Common.{sym}
use Rattle.word.specs.Word.{word_at}
use Rattle.head_words.specs.declared.FileBlock.{FileBlock}

-- "bytes 0 and 1: 55 3A is low byte first, 3A 55 high byte first"
unfoldable pub high_first : List ℕ → Bool
high_first f = eqb (get_or f 0 0) 58

-- "Bytes 2-3 revision, 4-5 M (size of the pointer room), 6-7 N (traces)"
unfoldable pub revision_of : List ℕ → ℕ
revision_of f = word_at 2 (high_first f) f 2

unfoldable pub room_of : List ℕ → ℕ
room_of f = word_at 2 (high_first f) f 4

unfoldable pub count_of : List ℕ → ℕ
count_of f = word_at 2 (high_first f) f 6

-- order, M and N, and the lengths of the two terminators, whose characters stand in bytes 9 and 12 on
unfoldable pub file_block_of : List ℕ → FileBlock
file_block_of b = record { high = high_first b; m = room_of b; n = count_of b; strings = get_or b 8 0; lines = get_or b 11 0 }

-- ---- the words of the file block, read in an order that is the file's
module _ (f : List ℕ) (h : Bool) (e : h ≡ high_first f) (n : ℕ) where
  pub room_read : n ≡ word_at 2 h f 4 → room_of f ≡ n
  unfolding room_of
  room_read w = rw (← e) (sym w)

  pub count_read : n ≡ word_at 2 h f 6 → count_of f ≡ n
  unfolding count_of
  count_read w = rw (← e) (sym w)
