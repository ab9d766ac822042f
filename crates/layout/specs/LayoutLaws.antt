-- The written bytes by their places: how many they are, and what stands where (document 01, "The file block", "The
-- trace block", "What we write").
-- Assumes nothing.
use Rattle.std.specs.Prelude.{◌≡◌, refl, Bool, ◌⊎◌, ℕ, zero, suc, ◌+◌, ◌*◌, ◌%◌, ◌≤◌, ◌<◌, length, get_or, replicate, Ok}
use Rattle.std.proofs.Common.{sym, ap, ◌∙◌, arith, length-append, drop_at, get_or-append-add, eqb-true}
use Rattle.std.proofs.Math.Bool.{true, false}
use mathlib.Core.List.{List, [], ◌∷◌, ◌++◌, append_assoc, append-nil}
use Rattle.std.proofs.Math.Logic.{inl, inr}
use Rattle.std.proofs.lemmas.List.{length-replicate}
use Rattle.word.specs.Tests.{never}
use Rattle.word.specs.Part.{part, part_part, part_among, get_d_part}
use Rattle.word.specs.Word.{value_of, low_first, word_at, low_bytes, bytes_of}
use Rattle.word.specs.WordLaws.{length_bytes_of, word_among, word_drop, word_part}
use Rattle.sample.specs.Needed.{needed, room}
use Rattle.decode.specs.Sample.{integers_asked, bits_asked}
use Rattle.encode.specs.Back.{length_integers_data, length_bits_data}
use Rattle.sheet.specs.Area.{area_most, area_of, area_size, measured_of}
use Rattle.sheet.specs.Sizes.{length_area}
use Rattle.area.specs.Spelling.{measured_size}
use Rattle.head_words.specs.HeadWords.{high_first, revision_of, room_of, count_of}
use Rattle.terminators.specs.Terminators.{terminator_at, string_end, line_end}
use Rattle.block.specs.Block.{trace_mark, mark_at, block_size_of, data_size_of, sample_count_of, format_code_of}
use Rattle.layout.specs.Layout.{order_mark, plain_ends, nul, line_feed, file_block, start_image, start_size, Trace}
use Rattle.layout.specs.Layout.{Samples, integers, patterns, count, fitting, samples_data, trace_block, block_bytes}
use Rattle.layout.specs.Layout.{data_bytes, trace_size, trace_bytes}

-- ---- a file block

pub length_mark : (high : Bool) → length (order_mark high) ≡ 2
length_mark true = refl
length_mark false = refl

-- what stands before N in it
unfoldable pub front_of : Bool → ℕ → List ℕ
front_of high m = order_mark high ++ (bytes_of 2 high 1 ++ bytes_of 2 high m)

pub length_front : (high : Bool) (m : ℕ) → length (front_of high m) ≡ 6
unfolding front_of
length_front high m = simp (length-append, length_mark, length_bytes_of)

pub around_count : (high : Bool) (m n : ℕ) → file_block high m n ≡ front_of high m ++ (bytes_of 2 high n ++ plain_ends)
unfolding file_block front_of
around_count high m n =
    sym
    (append_assoc (order_mark high) (bytes_of 2 high 1 ++ bytes_of 2 high m) (bytes_of 2 high n ++ plain_ends)
    ∙ ap (λ (r : List ℕ). order_mark high ++ r) (append_assoc (bytes_of 2 high 1) (bytes_of 2 high m) (bytes_of 2 high n ++ plain_ends)))

pub length_file_block : (high : Bool) (m n : ℕ) → length (file_block high m n) ≡ 32
unfolding file_block
length_file_block high m n = simp (length-append, length_mark, length_bytes_of)

pub length_start_image : (high : Bool) (slots : ℕ) (sheet : List ℕ) → length (start_image high slots sheet) ≡ start_size slots sheet
unfolding start_image start_size
length_start_image high slots sheet =
    let b : List ℕ = file_block high (4 * slots) 0 in
    let z : List ℕ = replicate (4 * slots) 0 in
    let a : List ℕ = area_of high nul line_feed sheet in
    omega (
      arith,
      length-append b (z ++ a),
      length-append z a,
      length_file_block high (4 * slots) 0,
      length-replicate {A = ℕ} (4 * slots) 0,
      length_area high nul line_feed sheet,
    )

-- what is read there, whatever follows it: order, revision 1, M and N, "terminators 00 and 0A (length 1)"
pub record Fronted (high : Bool) (m n : ℕ) (f : List ℕ) : Type 0 where
  pub first : ((get_or f 0 0 ≡ 85) × (get_or f 1 0 ≡ 58)) ⊎ ((get_or f 0 0 ≡ 58) × (get_or f 1 0 ≡ 85))
  pub order : high_first f ≡ high
  pub revision : revision_of f ≡ 1
  pub room : room_of f ≡ m
  pub count : count_of f ≡ n
  pub strings : string_end f ≡ nul
  pub lines : line_end f ≡ line_feed
  pub ones : (get_or f 8 0 ≡ 1) × (get_or f 11 0 ≡ 1)

module _ (m n : ℕ) (r : List ℕ) (small : m < 65536) (few : n < 65536) where
  pub fronted : (high : Bool) → Fronted high m n (file_block high m n ++ r)
  unfolding file_block high_first revision_of room_of count_of terminator_at bytes_of low_bytes word_at value_of low_first
  fronted true =
      record {
        first = inr (refl, refl);
        order = refl;
        revision = refl;
        room = omega arith;
        count = omega arith;
        strings = refl;
        lines = refl;
        ones = (refl, refl);
      }
  fronted false =
      record {
        first = inl (refl, refl);
        order = refl;
        revision = refl;
        room = omega arith;
        count = omega arith;
        strings = refl;
        lines = refl;
        ones = (refl, refl);
      }

-- ---- what row 28 has shown: the code is one of the five, and under code 3 the samples are whole groups; each needs a
-- byte at least

pub record Kinded (code s : ℕ) : Type 0 where
  pub least : 1 ≤ code
  pub most : code ≤ 5
  pub groups : code ≡ 3 → s % 4 ≡ 0
  pub each : s ≤ needed code s

-- codes 1 to 3 are of integers
pub integers_kinded : (code s : ℕ) → integers_asked code s ≡ true → Kinded code s × (code ≤ 3)
unfolding needed
integers_kinded zero s h = never h
integers_kinded (suc zero) s h = (record { least = omega arith; most = omega arith; groups = λ e. absurd (omega arith); each = omega arith }, omega arith)
integers_kinded (suc (suc zero)) s h = (record { least = omega arith; most = omega arith; groups = λ e. absurd (omega arith); each = omega arith }, omega arith)
integers_kinded (suc (suc (suc zero))) s h =
    (record { least = omega arith; most = omega arith; groups = λ e. eqb-true (s % 4) 0 h; each = omega arith }, omega arith)
integers_kinded (suc (suc (suc (suc zero)))) s h = never h
integers_kinded (suc (suc (suc (suc (suc zero))))) s h = never h
integers_kinded (suc (suc (suc (suc (suc (suc code)))))) s h = never h

-- codes 4 and 5 of bit patterns
pub bits_kinded : (code s : ℕ) → bits_asked code ≡ true → Kinded code s × (4 ≤ code)
unfolding needed
bits_kinded zero s h = never h
bits_kinded (suc zero) s h = never h
bits_kinded (suc (suc zero)) s h = never h
bits_kinded (suc (suc (suc zero))) s h = never h
bits_kinded (suc (suc (suc (suc zero)))) s h =
    (record { least = omega arith; most = omega arith; groups = λ e. absurd (omega arith); each = omega arith }, omega arith)
bits_kinded (suc (suc (suc (suc (suc zero))))) s h =
    (record { least = omega arith; most = omega arith; groups = λ e. absurd (omega arith); each = omega arith }, omega arith)
bits_kinded (suc (suc (suc (suc (suc (suc code)))))) s h = never h

pub kinded : (code : ℕ) (s : Samples) → fitting code s ≡ true → Kinded code (count s)
unfolding fitting count
kinded code (integers row) h = (integers_kinded code (length row) h).0
kinded code (patterns row) h = (bits_kinded code (length row) h).0

-- "D is the needed bytes rounded up to 4": enough, and a multiple of 4
pub room_enough : (code s : ℕ) → (needed code s ≤ room code s) × (room code s % 4 ≡ 0)
unfolding room
room_enough code s = (omega arith, omega arith)

-- ---- sizes of a trace

pub length_trace_block : (high : Bool) (b d s code : ℕ) → length (trace_block high b d s code) ≡ 32
unfolding trace_block
length_trace_block high b d s code = simp (length-append, length_bytes_of)

pub length_samples_data : (code : ℕ) (high : Bool) (s : Samples) → fitting code s ≡ true → length (samples_data code high s) ≡ room code (count s)
unfolding fitting samples_data count
length_samples_data code high (integers row) h = length_integers_data code high row h
length_samples_data code high (patterns row) h = length_bits_data code high row h

-- the block and the strings are B bytes, the data is D bytes
pub length_trace_bytes : (high : Bool) (t u : List ℕ) (x : Trace) → fitting x.code x.samples ≡ true → length (trace_bytes high t u x) ≡ trace_size t u x
unfolding trace_bytes
length_trace_bytes high t u x h =
    let a = area_of high t u x.sheet in
    let d = samples_data x.code high x.samples in
    let b = trace_block high (block_bytes t u x) (data_bytes x) (count x.samples) x.code in
    omega (
      arith,
      length-append b (a ++ d),
      length-append a d,
      length_trace_block high (block_bytes t u x) (data_bytes x) (count x.samples) x.code,
      length_area high t u x.sheet,
      length_samples_data x.code high x.samples h,
    )

-- every size is a multiple of 4
pub area_whole : (t u s : List ℕ) → area_size t u s % 4 ≡ 0
unfolding area_size
area_whole t u s = omega arith

pub size_whole : (t u : List ℕ) (x : Trace) → trace_size t u x % 4 ≡ 0
size_whole t u x = let a = area_whole t u x.sheet in let b = (room_enough x.code (count x.samples)).1 in omega arith

-- ---- the words of a trace block, whatever follows it

-- behind a front
word_behind : (w : ℕ) (o : Bool) (p q : List ℕ) (k at : ℕ) → length p ≡ k → word_at w o (p ++ q) (k + at) ≡ word_at w o q at
word_behind w o p q k at h = sym (word_drop w o k (p ++ q) at) ∙ ap (λ (r : List ℕ). word_at w o r at) (drop_at p q k h)

byte_behind : (p q : List ℕ) (k at : ℕ) → length p ≡ k → get_or (p ++ q) (k + at) 0 ≡ get_or q at 0
byte_behind p q k at h = ap (λ (j : ℕ). get_or (p ++ q) (j + at) 0) (sym h) ∙ get_or-append-add p q at 0

module _ (high : Bool) (b d s code : ℕ) (rest : List ℕ) where
  pieces : trace_block high b d s code ++ rest
      ≡ bytes_of 2 high trace_mark ++ (bytes_of 2 high b ++ (bytes_of 4 high d ++ (bytes_of 4 high s ++ (code ∷ (replicate 19 0 ++ rest)))))
  unfolding trace_block
  pieces = simp append_assoc

  pub block_mark : word_at 2 high (trace_block high b d s code ++ rest) 0 ≡ trace_mark
  block_mark =
      ap (λ (r : List ℕ). word_at 2 high r 0) pieces
      ∙ word_among 2 high trace_mark [] (bytes_of 2 high b ++ (bytes_of 4 high d ++ (bytes_of 4 high s ++ (code ∷ (replicate 19 0 ++ rest))))) 0 refl (omega arith)

  pub block_size : b < 65536 → word_at 2 high (trace_block high b d s code ++ rest) 2 ≡ b
  block_size h =
      ap (λ (r : List ℕ). word_at 2 high r 2) pieces
      ∙ word_among 2 high b (bytes_of 2 high trace_mark) (bytes_of 4 high d ++ (bytes_of 4 high s ++ (code ∷ (replicate 19 0 ++ rest)))) 2
      (length_bytes_of 2 high trace_mark) h

  pub block_data : d < 4294967296 → word_at 4 high (trace_block high b d s code ++ rest) 4 ≡ d
  block_data h =
      ap (λ (r : List ℕ). word_at 4 high r 4) pieces
      ∙ word_behind 4 high (bytes_of 2 high trace_mark) (bytes_of 2 high b ++ (bytes_of 4 high d
      ++ (bytes_of 4 high s ++ (code ∷ (replicate 19 0 ++ rest))))) 2 2 (length_bytes_of 2 high trace_mark)
      ∙ word_among 4 high d (bytes_of 2 high b) (bytes_of 4 high s ++ (code ∷ (replicate 19 0 ++ rest))) 2 (length_bytes_of 2 high b) h

  pub block_count : s < 4294967296 → word_at 4 high (trace_block high b d s code ++ rest) 8 ≡ s
  block_count h =
      ap (λ (r : List ℕ). word_at 4 high r 8) pieces
      ∙ word_behind 4 high (bytes_of 2 high trace_mark) (bytes_of 2 high b ++ (bytes_of 4 high d
      ++ (bytes_of 4 high s ++ (code ∷ (replicate 19 0 ++ rest))))) 2 6 (length_bytes_of 2 high trace_mark)
      ∙ word_behind 4 high (bytes_of 2 high b) (bytes_of 4 high d ++ (bytes_of 4 high s ++ (code ∷ (replicate 19 0 ++ rest)))) 2 4 (length_bytes_of 2 high b)
      ∙ word_among 4 high s (bytes_of 4 high d) (code ∷ (replicate 19 0 ++ rest)) 4 (length_bytes_of 4 high d) h

  pub block_code : get_or (trace_block high b d s code ++ rest) 12 0 ≡ code
  block_code =
      ap (λ (r : List ℕ). get_or r 12 0) pieces
      ∙ byte_behind (bytes_of 2 high trace_mark) (bytes_of 2 high b ++ (bytes_of 4 high d ++ (bytes_of 4 high s ++ (code ∷ (replicate 19 0 ++ rest))))) 2
      10 (length_bytes_of 2 high trace_mark)
      ∙ byte_behind (bytes_of 2 high b) (bytes_of 4 high d ++ (bytes_of 4 high s ++ (code ∷ (replicate 19 0 ++ rest)))) 2 8 (length_bytes_of 2 high b)
      ∙ byte_behind (bytes_of 4 high d) (bytes_of 4 high s ++ (code ∷ (replicate 19 0 ++ rest))) 4 4 (length_bytes_of 4 high d)
      ∙ byte_behind (bytes_of 4 high s) (code ∷ (replicate 19 0 ++ rest)) 4 0 (length_bytes_of 4 high s)

-- the strings and the data of a trace
pub trace_area : (high : Bool) (t u : List ℕ) (x : Trace) → part 32 (block_bytes t u x) (trace_bytes high t u x) ≡ area_of high t u x.sheet
unfolding trace_bytes
trace_area high t u x =
    part_among (trace_block high (block_bytes t u x) (data_bytes x) (count x.samples) x.code) (area_of high t u x.sheet)
    (samples_data x.code high x.samples) 32 (block_bytes t u x)
    (length_trace_block high (block_bytes t u x) (data_bytes x) (count x.samples) x.code) (omega (arith, length_area high t u x.sheet))

pub trace_data : (high : Bool) (t u : List ℕ) (x : Trace) → fitting x.code x.samples ≡ true
    → part (block_bytes t u x) (trace_size t u x) (trace_bytes high t u x) ≡ samples_data x.code high x.samples
unfolding trace_bytes
trace_data high t u x h =
    let b : List ℕ = trace_block high (block_bytes t u x) (data_bytes x) (count x.samples) x.code in
    let a : List ℕ = area_of high t u x.sheet in
    let d : List ℕ = samples_data x.code high x.samples in
    let l : length (b ++ a) ≡ block_bytes t u x =
    omega (arith, length-append b a, length_area high t u x.sheet, length_trace_block high (block_bytes t u x) (data_bytes x) (count x.samples) x.code) in
    let w : b ++ (a ++ d) ≡ (b ++ a) ++ (d ++ []) = sym (append_assoc b a d) ∙ ap (λ (r : List ℕ). (b ++ a) ++ r) (sym (append-nil d)) in
    ap (λ (r : List ℕ). part (block_bytes t u x) (trace_size t u x) r) w
    ∙ part_among (b ++ a) d [] (block_bytes t u x) (trace_size t u x) l (omega (arith, length_samples_data x.code high x.samples h))

-- ---- what is read in a file f where the bytes of a trace stand at p

-- "At pointer p: 4422h, block size B (2 bytes), data size D (4), sample count S (4), format code (1), reserved to byte
-- 31, strings from byte 32 to B. Data occupies D bytes from p+B"
pub record Stands (high : Bool) (t u f : List ℕ) (p : ℕ) (x : Trace) : Type 0 where
  pub mark : mark_at high f p ≡ trace_mark
  pub block : block_size_of high f p ≡ block_bytes t u x
  pub bytes : data_size_of high f p ≡ data_bytes x
  pub number : sample_count_of high f p ≡ count x.samples
  pub code : format_code_of f p ≡ x.code
  pub area : part (p + 32) (p + block_bytes t u x) f ≡ area_of high t u x.sheet
  pub samples : part (p + block_bytes t u x) (p + trace_size t u x) f ≡ samples_data x.code high x.samples
  pub inside : p + trace_size t u x ≤ length f

-- a word, a byte and a part of it, wherever it stands
word_there : (w : ℕ) (o : Bool) (g tb : List ℕ) (at end i : ℕ) → part at end g ≡ tb → at + i + w ≤ end → word_at w o g (at + i) ≡ word_at w o tb i
word_there w o g tb at end i e h = sym (word_part w o at end g i h) ∙ ap (λ (r : List ℕ). word_at w o r i) e

byte_there : (g tb : List ℕ) (at end i : ℕ) → part at end g ≡ tb → at + i < end → get_or g (at + i) 0 ≡ get_or tb i 0
byte_there g tb at end i e h = sym (get_d_part 0 i at end g h) ∙ ap (λ (r : List ℕ). get_or r i 0) e

part_there : (g tb : List ℕ) (at end a e : ℕ) → part at end g ≡ tb → at + e ≤ end → part (at + a) (at + e) g ≡ part a e tb
part_there g tb at end a e q h = sym (part_part a e at end g h) ∙ ap (λ (r : List ℕ). part a e r) q

pub stands : (high : Bool) (t u f : List ℕ) (p : ℕ) (x : Trace) (n : ℕ) → measured_of t u x.sheet ≡ Ok n → fitting x.code x.samples ≡ true
    → data_bytes x < 4294967296 → p + trace_size t u x ≤ length f → part p (p + trace_size t u x) f ≡ trace_bytes high t u x → Stands high t u f p x
unfolding mark_at block_size_of data_size_of sample_count_of format_code_of trace_bytes
stands high t u f p x n m k small inside bytes =
    let b : ℕ = block_bytes t u x in
    let d : ℕ = data_bytes x in
    let s : ℕ = count x.samples in
    let end : ℕ = p + trace_size t u x in
    let tb : List ℕ = trace_bytes high t u x in
    let behind : List ℕ = area_of high t u x.sheet ++ samples_data x.code high x.samples in
    let area = measured_size t u x.sheet n m in
    let low : area_size t u x.sheet ≤ area_most = omega (arith, area.1, area.2) in
    let each : s ≤ needed x.code s = (kinded x.code x.samples k).each in
    let enough = (room_enough x.code s).0 in
    let z : p + 0 ≡ p = omega arith in
    record {
      mark = ap (λ (j : ℕ). word_at 2 high f j) (sym z) ∙ word_there 2 high f tb p end 0 bytes (omega arith) ∙ block_mark high b d s x.code behind;
      block = word_there 2 high f tb p end 2 bytes (omega arith) ∙ block_size high b d s x.code behind (omega arith);
      bytes = word_there 4 high f tb p end 4 bytes (omega arith) ∙ block_data high b d s x.code behind small;
      number = word_there 4 high f tb p end 8 bytes (omega arith) ∙ block_count high b d s x.code behind (omega arith);
      code = byte_there f tb p end 12 bytes (omega arith) ∙ block_code high b d s x.code behind;
      area = part_there f tb p end 32 b bytes (omega arith) ∙ trace_area high t u x;
      samples = part_there f tb p end b (trace_size t u x) bytes (omega arith) ∙ trace_data high t u x k;
      inside = inside;
    }
