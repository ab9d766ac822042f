-- What is written are bytes, so that the laws of one addition hold of the next: the buffer after a start or an addition
-- is a buffer of bytes again.
-- Assumes nothing.
use Rattle.std.specs.Prelude.{◌≡◌, refl, Bool, true, false, List, [], ◌∷◌, ◌++◌, ℕ, zero, suc, ◌-◌, ◌*◌, ◌^◌, ◌≤◌, ◌<◌, ℤ, length, replicate, leb, eqb, Ok}
use Rattle.std.proofs.Common.{lt_of_not-le, arith, le-leb, ne_eqb, leb-true}
use Rattle.std.proofs.Math.Decide.{dec_le}
use Rattle.std.proofs.lemmas.Bool.{lt-leb}
use Rattle.block.specs.Block.{trace_mark}
use Rattle.text.specs.declared.Manner.TheVariants.{Strict}
use Rattle.word.specs.Tests.{both, never}
use Rattle.word.specs.Bytes.{Bytes, bytes_append}
use Rattle.word.specs.Put.{put}
use Rattle.word.specs.Round.{round4}
use Rattle.word.specs.Word.{bytes_of}
use Rattle.word.specs.WordLaws.{bytes_of_bytes}
use Rattle.chars.specs.Chars.{blank, key_char, value_char, note, blank_value, control}
use Rattle.chars.specs.Runs.{all, same, same_eq, same_not}
use Rattle.note.specs.Note.{Lines, Lines.done, Lines.char, Lines.line}
use Rattle.strings.specs.Spelled.{Str, GoodString, Rising, text_of, size_of, texts, marked_end, Spells, Spells.empty}
use Rattle.strings.specs.Spelled.{Spells.full}
use Rattle.float20.specs.Float20.{mantissa_of, ones_bits}
use Rattle.group20.specs.Group20.{exponents_of, words_of, group_bytes}
use Rattle.row20.specs.Row20.{groups}
use Rattle.encode.specs.Write.{flat, residue, fixed_bytes, filled_up, integers_data, bits_data}
use Rattle.sheet.specs.Area.{area_of, area_size, padding, sheet_strings, text_size, measured_of}
use Rattle.area.specs.Spelling.{among, Terminators, terminators_end, area_spells}
use Rattle.head_words.specs.HeadWords.{high_first}
use Rattle.terminators.specs.Terminators.{string_end, line_end}
use Rattle.layout.specs.Layout.{Trace, Samples, Samples.integers, Samples.patterns, count, fitting, samples_data}
use Rattle.layout.specs.Layout.{order_mark, plain_ends, nul, line_feed, file_block, start_image, trace_block, block_bytes}
use Rattle.layout.specs.Layout.{data_bytes, trace_bytes}
use Rattle.append.specs.Grown.{new_bytes, grown}
use Rattle.start.specs.StartShown.{Started}
use Rattle.writer.specs.Shown.{Added}
use Rattle.growth.specs.Frame.{put_bytes, grown_bytes}
use Rattle.growth.specs.Grows.{Grows, grown_grows}
use Rattle.layout.specs.LayoutLaws.{kinded}
use Rattle.growth.specs.Ends.{keeps_terminators}

-- ---- characters

key_byte : (b : ℕ) → key_char b ≡ true → b < 256
key_byte b h = elim (dec_le b 126) [ yes q ↦ omega arith | no q ↦ over (lt_of_not-le q) ]
  where
    over : 126 < b → b < 256
    over l = never (rw (le-leb 33 b (omega arith), lt-leb b 96 (omega arith), le-leb 123 b (omega arith), lt-leb b 126 l) at h)

value_byte : (b : ℕ) → value_char b ≡ true → b < 256
value_byte b h = elim (dec_le b 126) [ yes q ↦ omega arith | no q ↦ over (lt_of_not-le q) ]
  where
    over : 126 < b → b < 256
    over l = never (rw (le-leb 32 b (omega arith), lt-leb b 126 l, ne_eqb b 9 (omega arith)) at h)

blank_byte : (b : ℕ) → blank b ≡ true → b < 256
blank_byte b h = value_byte b (blank_value b h)

control_byte : (b : ℕ) → control b ≡ true → b < 256
control_byte b h = let l = leb-true b 31 (both (leb b 31) _ h).0 in omega arith

all_bytes : (p : ℕ → Bool) → ((b : ℕ) → p b ≡ true → b < 256) → (l : List ℕ) → all p l ≡ true → Bytes l
unfolding all
all_bytes p h [] e = tt
all_bytes p h (b ∷ l) e = let k = both (p b) (all p l) e in (h b k.0, all_bytes p h l k.1)

-- ---- strings

lines_bytes : {u v : List ℕ} → Bytes u → Lines u v → Bytes v
lines_bytes b done = tt
lines_bytes b (char {b = c} h r) = (value_byte c h, lines_bytes b r)
lines_bytes {u} b (line {bs} r) = bytes_append u bs b (lines_bytes b r)

value_bytes : {t u : List ℕ} {s : Str} → Bytes u → GoodString Strict t u s → Bytes s.value
value_bytes {t} {u} {s} b g = go (same s.key note) refl
  where
    go : (w : Bool) → same s.key note ≡ w → Bytes s.value
    go true e = lines_bytes b (g.lines (same_eq s.key note e))
    go false e = all_bytes value_char value_byte s.value (g.values (same_not s.key note e))

text_bytes : {t u : List ℕ} {s : Str} → Bytes u → GoodString Strict t u s → Bytes (text_of s)
text_bytes {t} {u} {s} b g =
    bytes_append s.key (s.gap ++ s.value) (all_bytes key_char key_byte s.key g.keys)
    (bytes_append s.gap s.value (all_bytes blank blank_byte s.gap g.blanks) (value_bytes b g))

texts_bytes : (high : Bool) (t u prev : List ℕ) (ss : List Str) (end : List ℕ) → Bytes t → Bytes u → Bytes end → Rising Strict t u prev ss
    → Bytes (texts high t ss end)
unfolding texts
texts_bytes high t u prev [] end bt bu br g = br
texts_bytes high t u prev (s ∷ ss) end bt bu br g =
    bytes_append (bytes_of 2 high (size_of t s)) (text_of s ++ (t ++ texts high t ss end)) (bytes_of_bytes 2 high (size_of t s))
    (bytes_append (text_of s) (t ++ texts high t ss end) (text_bytes bu g.0)
    (bytes_append t (texts high t ss end) bt (texts_bytes high t u s.key ss end bt bu br g.2)))

pub zeros_bytes : (n : ℕ) → Bytes (replicate n 0)
zeros_bytes zero = tt
zeros_bytes (suc n) = (omega arith, zeros_bytes n)

-- an area is written from good strings, and filled up by zeros
spells_rising : {high : Bool} {t u : List ℕ} {ss : List Str} {l : List ℕ} → Spells Strict high t u ss l → Rising Strict t u [] ss
spells_rising empty = tt
spells_rising (full end g) = g

area_bytes : (high : Bool) (t u s : List ℕ) (n : ℕ) → Terminators t u → measured_of t u s ≡ Ok n → Bytes (area_of high t u s)
unfolding area_of
area_bytes high t u s n e m =
    let z : ℕ = text_size t (sheet_strings u s) in
    texts_bytes high t u [] (sheet_strings u s) (marked_end high (padding z)) (all_bytes control control_byte t e.t_chars)
    (all_bytes control control_byte u e.u_chars) (bytes_append (bytes_of 2 high 0) (padding z) (bytes_of_bytes 2 high 0) (zeros_bytes (round4 z - z)))
    (spells_rising (area_spells high t u s n (terminators_end t u e) m))

-- ---- samples

flat_bytes : {A : Type 0} (f : A → List ℕ) → ((x : A) → Bytes (f x)) → (xs : List A) → Bytes (flat f xs)
unfolding flat
flat_bytes f h [] = tt
flat_bytes f h (x ∷ xs) = bytes_append (f x) (flat f xs) (h x) (flat_bytes f h xs)

fixed_bytes_lem : (w : ℕ) (high : Bool) (z : ℤ) → Bytes (fixed_bytes w high z)
unfolding fixed_bytes
fixed_bytes_lem w high z = bytes_of_bytes w high (residue (256 ^ w) z)

words_bytes : (high : Bool) (w a b c d : ℕ) → Bytes (words_of high w a b c d)
unfolding words_of
words_bytes high w a b c d =
    bytes_append (bytes_of 2 high w) _ (bytes_of_bytes 2 high w)
    (bytes_append (bytes_of 2 high a) _ (bytes_of_bytes 2 high a)
    (bytes_append (bytes_of 2 high b) _ (bytes_of_bytes 2 high b)
    (bytes_append (bytes_of 2 high c) (bytes_of 2 high d) (bytes_of_bytes 2 high c) (bytes_of_bytes 2 high d))))

group_bytes_lem : (high : Bool) (a b c d : ℤ) → Bytes (group_bytes high a b c d)
unfolding group_bytes
group_bytes_lem high a b c d =
    words_bytes high (exponents_of a b c d) (ones_bits (mantissa_of a)) (ones_bits (mantissa_of b)) (ones_bits (mantissa_of c)) (ones_bits (mantissa_of d))

groups_bytes : (high : Bool) (row : List ℤ) → Bytes (groups high row)
unfolding groups
groups_bytes high [] = tt
groups_bytes high (a ∷ []) = tt
groups_bytes high (a ∷ b ∷ []) = tt
groups_bytes high (a ∷ b ∷ c ∷ []) = tt
groups_bytes high (a ∷ b ∷ c ∷ d ∷ row) =
    bytes_append (group_bytes high a b c d) (groups high row) (group_bytes_lem high a b c d) (groups_bytes high row)

filled_bytes : (bs : List ℕ) → Bytes bs → Bytes (filled_up bs)
unfolding filled_up
filled_bytes bs h = bytes_append bs (replicate (round4 (length bs) - length bs) 0) h (zeros_bytes (round4 (length bs) - length bs))

integers_bytes : (code : ℕ) (high : Bool) (row : List ℤ) → Bytes (integers_data code high row)
unfolding integers_data
integers_bytes zero high row = filled_bytes [] tt
integers_bytes (suc zero) high row = filled_bytes (flat (fixed_bytes 2 high) row) (flat_bytes (fixed_bytes 2 high) (fixed_bytes_lem 2 high) row)
integers_bytes (suc (suc zero)) high row = filled_bytes (flat (fixed_bytes 4 high) row) (flat_bytes (fixed_bytes 4 high) (fixed_bytes_lem 4 high) row)
integers_bytes (suc (suc (suc zero))) high row = filled_bytes (groups high row) (groups_bytes high row)
integers_bytes (suc (suc (suc (suc zero)))) high row = filled_bytes [] tt
integers_bytes (suc (suc (suc (suc (suc zero))))) high row = filled_bytes [] tt
integers_bytes (suc (suc (suc (suc (suc (suc code)))))) high row = filled_bytes [] tt

bits_bytes : (code : ℕ) (high : Bool) (row : List ℕ) → Bytes (bits_data code high row)
unfolding bits_data
bits_bytes zero high row = filled_bytes [] tt
bits_bytes (suc zero) high row = filled_bytes [] tt
bits_bytes (suc (suc zero)) high row = filled_bytes [] tt
bits_bytes (suc (suc (suc zero))) high row = filled_bytes [] tt
bits_bytes (suc (suc (suc (suc zero)))) high row = filled_bytes (flat (bytes_of 4 high) row) (flat_bytes (bytes_of 4 high) (bytes_of_bytes 4 high) row)
bits_bytes (suc (suc (suc (suc (suc zero))))) high row = filled_bytes (flat (bytes_of 8 high) row) (flat_bytes (bytes_of 8 high) (bytes_of_bytes 8 high) row)
bits_bytes (suc (suc (suc (suc (suc (suc code)))))) high row = filled_bytes [] tt

samples_bytes : (code : ℕ) (high : Bool) (s : Samples) → Bytes (samples_data code high s)
unfolding samples_data
samples_bytes code high (integers row) = integers_bytes code high row
samples_bytes code high (patterns row) = bits_bytes code high row

-- ---- a trace, and a file block

trace_block_bytes : (high : Bool) (b d s code : ℕ) → code ≤ 5 → Bytes (trace_block high b d s code)
unfolding trace_block
trace_block_bytes high b d s code h =
    bytes_append (bytes_of 2 high trace_mark) _ (bytes_of_bytes 2 high trace_mark)
    (bytes_append (bytes_of 2 high b) _ (bytes_of_bytes 2 high b)
    (bytes_append (bytes_of 4 high d) _ (bytes_of_bytes 4 high d)
    (bytes_append (bytes_of 4 high s) (code ∷ replicate 19 0) (bytes_of_bytes 4 high s) (omega arith, zeros_bytes 19))))

pub trace_bytes_lem : (high : Bool) (t u : List ℕ) (x : Trace) (n : ℕ) → Terminators t u → measured_of t u x.sheet ≡ Ok n
    → fitting x.code x.samples ≡ true → Bytes (trace_bytes high t u x)
unfolding trace_bytes
trace_bytes_lem high t u x n e m k =
    bytes_append (trace_block high (block_bytes t u x) (data_bytes x) (count x.samples) x.code) _
    (trace_block_bytes high (block_bytes t u x) (data_bytes x) (count x.samples) x.code (kinded x.code x.samples k).most)
    (bytes_append (area_of high t u x.sheet) (samples_data x.code high x.samples) (area_bytes high t u x.sheet n e m)
    (samples_bytes x.code high x.samples))

order_bytes : (high : Bool) → Bytes (order_mark high)
order_bytes true = (omega arith, (omega arith, tt))
order_bytes false = (omega arith, (omega arith, tt))

plain_bytes : Bytes plain_ends
plain_bytes = (omega arith, (omega arith, (omega arith, (omega arith, (omega arith, (omega arith, zeros_bytes 18))))))

pub file_block_bytes : (high : Bool) (m n : ℕ) → Bytes (file_block high m n)
unfolding file_block
file_block_bytes high m n =
    bytes_append (order_mark high) _ (order_bytes high)
    (bytes_append (bytes_of 2 high 1) _ (bytes_of_bytes 2 high 1)
    (bytes_append (bytes_of 2 high m) _ (bytes_of_bytes 2 high m) (bytes_append (bytes_of 2 high n) plain_ends (bytes_of_bytes 2 high n) plain_bytes)))

plain_pair : Terminators nul line_feed
unfolding all
plain_pair =
    record {
      t_low = omega arith;
      t_high = omega arith;
      u_low = omega arith;
      u_high = omega arith;
      t_chars = refl;
      u_chars = refl;
      apart = apart_plain;
    }
  where
    apart_plain : (b : ℕ) → among b nul ≡ true → among b line_feed ≡ false
    apart_plain zero e = refl
    apart_plain (suc b) e = let z : eqb 0 (suc b) ≡ false = ne_eqb 0 (suc b) (omega arith) in never (rw z at e)

pub start_image_bytes : (high : Bool) (slots : ℕ) (sheet : List ℕ) (n : ℕ) → measured_of nul line_feed sheet ≡ Ok n → Bytes (start_image high slots sheet)
unfolding start_image
start_image_bytes high slots sheet n m =
    bytes_append (file_block high (4 * slots) 0) _ (file_block_bytes high (4 * slots) 0)
    (bytes_append (replicate (4 * slots) 0) (area_of high nul line_feed sheet) (zeros_bytes (4 * slots)) (area_bytes high nul line_feed sheet n plain_pair m))

pub start_are_bytes : (xs : List ℕ) {space order slots : ℕ} {sheet : List ℕ} {end : ℕ} → Bytes xs → Started space order slots sheet end
    → Bytes (put xs 0 (start_image (eqb order 1) slots sheet))
start_are_bytes xs {order = order} {slots} {sheet} by h =
    put_bytes (start_image (eqb order 1) slots sheet) xs 0 (start_image_bytes (eqb order 1) slots sheet (area_size nul line_feed sheet) h.sized) by
