-- The bytes that a quick question reads (document 02 §5): "the file block's first 32 bytes, pointer k, the first 32 bytes
-- of that trace's block, and its strings in order only until the keyword is found or passed (that string is read whole and
-- checked)"; so too up to the i-th string, or all of them, and for samples the trace's data. xs is the lent buffer, n the
-- length given beside it, f the image: the first n bytes.
-- Assumes nothing.
use Rattle.std.specs.Prelude.{◌≡◌, Bool, not, ◌&&◌, List, [], ◌∷◌, ℕ, zero, suc, ◌+◌, ◌*◌, ℤ, length, take, drop, ltb, leb, Ok, Err}
use Rattle.word.specs.Part.{part}
use Rattle.refusal.specs.declared.Rule.TheVariants.{Length, NoTrace}
use Rattle.refusal.specs.declared.Part.{Part}
use Rattle.refusal.specs.declared.Part.TheVariants.{File, Trace}
use Rattle.refusal.specs.Rows.{pick}
use Rattle.refusal.specs.FirstRow.{row, first_of}
use Rattle.text.specs.declared.Manner.TheVariants.{Strict}
use Rattle.strings.specs.Strings.{offset, step_of}
use Rattle.head_limits.specs.declared.Purpose.TheVariants.{Read}
use Rattle.head_words.specs.HeadWords.{high_first, room_of, count_of}
use Rattle.head.specs.Head.{head_of}
use Rattle.terminators.specs.Terminators.{string_end, line_end}
use Rattle.block.specs.Block.{data_at, end_at, pointer_row, block_of}
use Rattle.block.specs.BlockLaws.{head_at}
use Rattle.file_length.specs.FileLength.{bad_length}
use Rattle.image.specs.Keeps.{trace_at}
use Rattle.until.specs.declared.Turn.{Turn}
use Rattle.until.specs.Until.{on_turn, on_step}
use Rattle.reader.specs.Questions.{is_trace, trace_number, block_at, integers_verdict, bits_verdict}
use Rattle.refusal.specs.Verdicts.{Verdict}

-- ---- of the strings: as many bytes of their area, the first (the arguments are until/Until's)

-- of a string "its offset (none where fewer than 2 bytes are left), and where rows of 14 on the offset pass, the string
-- to its end"; an offset of 0 ends the list
abbrev pub reaches : Bool → List ℕ → List ℕ → Bool
reaches high t l = leb (3 + length t) (offset high l) && leb (offset high l) (length l)

unfoldable pub string_read : Bool → List ℕ → List ℕ → ℕ
string_read high t l = pick (ltb (length l) 2) 0 (pick (reaches high t l) (offset high l) 2)

-- string by string, and none behind that which ends the walk
unfoldable pub read_from : (ℕ → List ℕ → Turn) → ℕ → Bool → List ℕ → List ℕ → Part → ℕ → List ℕ → List ℕ → ℕ → ℕ
read_from look zero high t u p j prev l at = 0
read_from look (suc m) high t u p j prev l at =
    string_read high t l
    + on_step (step_of Strict high t u p prev l at) (λ r. 0) 0
    (λ o n. on_turn (look j (take n (drop 2 l))) 0 0 (read_from look m high t u p (j + 1) (take n (drop 2 l)) (drop o l) (at + o)))

unfoldable pub read_of : (ℕ → List ℕ → Turn) → Bool → List ℕ → List ℕ → Part → List ℕ → ℕ → ℕ
read_of look high t u p l at = read_from look (length l) high t u p 0 [] l at

-- how many of the trace's strings' bytes
unfoldable pub read_in : (ℕ → List ℕ → Turn) → List ℕ → ℕ → ℕ
read_in look f k =
    let p = trace_at f k in
    read_of look (high_first f) (string_end f) (line_end f) (Trace k) (part (p + 32) (data_at (high_first f) f p) f) (p + 32)

-- ---- spans of the image, each from a place up to another

-- spans are read where the check before them was passed
abbrev pub behind : Verdict → List (ℕ × ℕ) → List (ℕ × ℕ)
behind (Ok _) ss = ss
behind (Err r) ss = []

-- the question's own: of the trace's block none more; of its strings as far as it goes; of its samples the data, behind
-- rows 33 and 32
abbrev pub block_read : List ℕ → ℕ → List (ℕ × ℕ)
block_read f k = []

abbrev pub strings_read : (ℕ → List ℕ → Turn) → List ℕ → ℕ → List (ℕ × ℕ)
strings_read look f k = (trace_at f k + 32, trace_at f k + 32 + read_in look f k) ∷ []

abbrev pub data_read : Verdict → List ℕ → ℕ → List (ℕ × ℕ)
data_read v f k = behind v ((data_at (high_first f) f (trace_at f k), end_at (high_first f) f (trace_at f k)) ∷ [])

abbrev pub integers_read : ℕ → List ℕ → ℕ → List (ℕ × ℕ)
integers_read s f k = data_read (integers_verdict (block_at f k) s) f k

abbrev pub bits_read : ℕ → ℕ → List ℕ → ℕ → List (ℕ × ℕ)
bits_read s c f k = data_read (bits_verdict (block_at f k) s c) f k

-- behind row 1 the file block's first 32 bytes; behind 2 to 7 and 18 pointer k; behind 8 the block's first 32; behind 9
-- to 13 the question's own
unfoldable pub bytes_read : (List ℕ → ℕ → List (ℕ × ℕ)) → List ℕ → ℕ → ℤ → List (ℕ × ℕ)
bytes_read own xs n z =
    let f = take n xs in
    let k = trace_number z in
    let p = trace_at f k in
    behind (row (bad_length (length xs) n) Length File 0)
    ((0, 32)
    ∷ behind (first_of (head_of Read (take 32 f) (length f) ∷ row (not (is_trace z (count_of f))) NoTrace File 0 ∷ []))
    ((32 + 4 * k, 36 + 4 * k)
    ∷ behind (pointer_row (length f) k (32 + room_of f) p)
    ((p, p + 32) ∷ behind (block_of (high_first f) (head_at f p) (length f) k p) (own f k))))

-- two images are alike on spans
abbrev pub Agree : List ℕ → List ℕ → List (ℕ × ℕ) → Type 0
Agree f g [] = Unit {0}
Agree f g (s ∷ ss) = (part s.0 s.1 f ≡ part s.0 s.1 g) × Agree f g ss
