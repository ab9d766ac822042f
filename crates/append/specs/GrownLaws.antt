-- What the code relies on while a buffer grows, and that its stores, one behind the other, are the grown buffer.
-- Assumes nothing.
use Rattle.std.specs.Prelude.{◌≡◌, refl, Bool, true, drop, Ok}
use Rattle.std.proofs.Common.{sym, ◌∙◌, length-drop, length-take-le, get_or-take, drop-cons}
use Rattle.std.proofs.Math.Path.{ap}
use mathlib.Core.List.{List, [], ◌∷◌, ◌++◌}
use Prim.Native.Nat.{ℕ, zero, suc, ◌+◌, ◌-◌, ◌*◌, ◌≤◌, ◌<◌}
use native.Mathlib.Omega.{arith}
use Rattle.std.proofs.Math.ListN.{length, get_or, take, replicate, length-append, length-replicate}
use Rattle.word.specs.Put.{put, put_append, length_put, lent_back}
use Rattle.word.specs.Round.{round4}
use Rattle.word.specs.Word.{bytes_of}
use Rattle.sample.specs.Needed.{room}
use Rattle.sheet.specs.Area.{area_size, measured_of}
use Rattle.head_words.specs.HeadWords.{high_first, count_of, file_block_of}
use Rattle.head.specs.Head.{maximum}
use Rattle.terminators.specs.Terminators.{terminator_at, string_end, line_end, good_terminator}
use Rattle.terminators.specs.TerminatorLaws.{good_most}
use Rattle.head_words.specs.declared.FileBlock.{FileBlock}
use Rattle.layout.specs.Layout.{Trace, Samples, count, fitting, trace_bytes}
use Rattle.layout.specs.LayoutLaws.{Kinded, room_enough, length_trace_bytes}
use Rattle.layout.specs.Stores.{head_bytes}
use Rattle.append.specs.Grown.{new_length, new_bytes}

-- "it is where the new trace's D bytes end"
pub length_new_bytes : (f : List ℕ) (n : ℕ) (x : Trace) → fitting x.code x.samples ≡ true → n + length (new_bytes f n x) ≡ new_length f n x
unfolding new_bytes new_length
length_new_bytes f n x h =
    let z : List ℕ = replicate (round4 n - n) 0 in
    let b = trace_bytes (high_first f) (string_end f) (line_end f) x in
    let l = length-append z b in
    let r = length-replicate {A = ℕ} (round4 n - n) 0 in
    let t = length_trace_bytes (high_first f) (string_end f) (line_end f) x h in
    omega arith

-- what stands before the samples of a new trace: the gap, the block and the strings
unfoldable pub new_front : List ℕ → ℕ → List ℕ → ℕ → ℕ → List ℕ
new_front f n sheet code s = replicate (round4 n - n) 0 ++ head_bytes (high_first f) (string_end f) (line_end f) sheet code s

-- the pointer to the trace in the first free slot, and N one more
unfoldable pub registered : List ℕ → ℕ → List ℕ
registered xs n =
    let f = take n xs in
    put (put xs (32 + 4 * count_of f) (bytes_of 4 (high_first f) (round4 n))) 6 (bytes_of 2 (high_first f) (count_of f + 1))

-- ---- what the rows have shown: a slot is free, and where the new trace ends

pub record Slotted (xs : List ℕ) (n : ℕ) : Type 0 where
  pub low : 32 ≤ n
  pub most : n ≤ maximum
  pub within : n ≤ length xs
  pub size : length (take n xs) ≡ n
  pub slot : 36 + 4 * count_of (take n xs) ≤ length xs
  pub few : count_of (take n xs) < 65535

pub record Begins (xs : List ℕ) (n : ℕ) (sheet : List ℕ) (end code s : ℕ) : Type 0 where
  pub slotted : Slotted xs n
  pub strings : good_terminator (take n xs) 8 ≡ true
  pub lines : good_terminator (take n xs) 11 ≡ true
  pub sized : measured_of (string_end (take n xs)) (line_end (take n xs)) sheet ≡ Ok (area_size (string_end (take n xs)) (line_end (take n xs)) sheet)
  pub kind : Kinded code s
  pub new : round4 n + (32 + area_size (string_end (take n xs)) (line_end (take n xs)) sheet + room code s) ≡ end
  pub in_buffer : end ≤ length xs
  pub in_maximum : end ≤ maximum

-- so the numbers of the block have room in their words
pub record Small (n end code s : ℕ) : Type 0 where
  pub code_byte : code < 256
  pub count_word : s < 4294967296
  pub data_word : room code s < 4294967296
  pub front : round4 n + 32 + room code s ≤ end

pub small : {xs : List ℕ} {n : ℕ} {sheet : List ℕ} {end code s : ℕ} → Begins xs n sheet end code s → Small n end code s
small {xs} {n} {sheet} {end} {code} {s} b =
    let e = b.new in
    let m = b.in_maximum in
    let k = b.kind.each in
    let c = b.kind.most in
    let r = (room_enough code s).0 in
    record { code_byte = omega arith; count_word = omega arith; data_word = omega arith; front = omega arith }

pub block_count : (f : List ℕ) (b : FileBlock) → b ≡ file_block_of f → b.n ≡ count_of f
unfolding file_block_of
block_count f b e = ap (λ (k : FileBlock). k.n) e

pub block_high : (f : List ℕ) (b : FileBlock) → b ≡ file_block_of f → b.high ≡ high_first f
unfolding file_block_of
block_high f b e = ap (λ (k : FileBlock). k.high) e

pub register_put : (xs : List ℕ) (n : ℕ) {b : FileBlock} {at : ℕ} → b ≡ file_block_of (take n xs) → at ≡ round4 n
    → put (put xs (32 + 4 * b.n) (bytes_of 4 b.high at)) 6 (bytes_of 2 b.high (b.n + 1)) ≡ registered xs n
unfolding registered
register_put xs n {b} e a = rw (block_count (take n xs) b e, block_high (take n xs) b e, a)

-- a terminator as the code takes it out of the buffer
pub end_taken : (xs : List ℕ) (n at k : ℕ) → at + 3 ≤ n → n ≤ length xs → good_terminator (take n xs) at ≡ true → k ≡ get_or (take n xs) at 0
    → take k (get_or xs (at + 1) 0 ∷ get_or xs (at + 2) 0 ∷ []) ≡ terminator_at (take n xs) at
unfolding terminator_at
end_taken xs n at k h l good e =
    let f : List ℕ = take n xs in
    let small = (good_most f at good).1 in
    let m : length f ≡ n = length-take-le n xs l in
    let g : at + 1 + k - (at + 1) ≡ k = omega arith in
    let b : get_or xs (at + 1) 0 ≡ get_or f (at + 1) 0 = sym (get_or-take n xs (at + 1) 0 (omega arith)) in
    let c : get_or xs (at + 2) 0 ≡ get_or f (at + 2) 0 = sym (get_or-take n xs (at + 2) 0 (omega arith)) in
    let i : suc (at + 1) ≡ at + 2 = omega arith in
    let p : drop (at + 1) f ≡ get_or f (at + 1) 0 ∷ drop (suc (at + 1)) f = drop-cons f (at + 1) 0 (omega arith) in
    rw (← e, g, b, c, p, i, drop-cons f (at + 2) 0 (omega arith)) (two k _ _ (drop (suc (at + 2)) f) (omega arith))
  where
    two : (k a b : ℕ) (rest : List ℕ) → k ≤ 2 → take k (a ∷ b ∷ []) ≡ take k (a ∷ b ∷ rest)
    two zero a b rest h = refl
    two (suc zero) a b rest h = refl
    two (suc (suc zero)) a b rest h = refl
    two (suc (suc (suc k))) a b rest h = absurd (omega arith)

-- what the file block says, as the code has it
pub record Told (xs : List ℕ) (n : ℕ) (b : FileBlock) : Type 0 where
  pub high : b.high ≡ high_first (take n xs)
  pub count : b.n ≡ count_of (take n xs)
  pub string_most : b.strings ≤ 2
  pub line_most : b.lines ≤ 2
  pub string_end_lem : take b.strings (get_or xs 9 0 ∷ get_or xs 10 0 ∷ []) ≡ string_end (take n xs)
  pub line_end_lem : take b.lines (get_or xs 12 0 ∷ get_or xs 13 0 ∷ []) ≡ line_end (take n xs)

module _ {xs : List ℕ} {n : ℕ} {sheet : List ℕ} {end code s : ℕ} (g : Begins xs n sheet end code s) where
  pub told : {b : FileBlock} → b ≡ file_block_of (take n xs) → Told xs n b
  unfolding file_block_of
  told {b} e =
      let f : List ℕ = take n xs in
      let low = g.slotted.low in
      let l = g.slotted.within in
      let t : b.strings ≡ get_or f 8 0 = ap (λ (k : FileBlock). k.strings) e in
      let u : b.lines ≡ get_or f 11 0 = ap (λ (k : FileBlock). k.lines) e in
      record {
        high = block_high f b e;
        count = block_count f b e;
        string_most = omega (arith, t, (good_most f 8 g.strings).1);
        line_most = omega (arith, u, (good_most f 11 g.lines).1);
        string_end_lem = end_taken xs n 8 b.strings (omega arith) l g.strings t;
        line_end_lem = end_taken xs n 11 b.lines (omega arith) l g.lines u;
      }

  -- the block and the strings have room, and B is what lies between the trace's place and its data's
  pub head_room : {at d : ℕ} {t u ys : List ℕ} (zs : List ℕ) → at ≡ round4 n → d ≡ room code s → t ≡ string_end (take n xs) → u ≡ line_end (take n xs)
      → ys ≡ put xs n zs → (32 + (end - d - at - 32) ≤ length (take (length ys - at) (drop at ys)))
      × (measured_of t u sheet ≡ Ok (end - d - at - 32)) × (room code s < 4294967296)
  head_room {at} {d} {t} {u} {ys} zs ea ed et eu ey =
      let z : end - d - at - 32 ≡ area_size (string_end (take n xs)) (line_end (take n xs)) sheet = omega (arith, g.new) in
      let l : length ys ≡ length xs = rw ey (length_put xs n zs) in
      let q : length (take (length ys - at) (drop at ys)) ≡ length ys - at = length-take-le _ _ (omega (arith, length-drop at ys)) in
      (omega (arith, z, g.new, g.in_buffer), rw (z, et, eu) g.sized, (small g).data_word)

-- ---- the stores, one behind the other

-- ys has the gap, zs is its free end with the block and the strings
pub front_put : (xs : List ℕ) (n : ℕ) (sheet : List ℕ) (code s : ℕ) {high : Bool} {t u : List ℕ} {at : ℕ} {ys zs : List ℕ} → high ≡ high_first (take n xs)
    → t ≡ string_end (take n xs) → u ≡ line_end (take n xs) → at ≡ round4 n → ys ≡ put xs n (replicate (at - n) 0)
    → zs ≡ put (take (length ys - at) (drop at ys)) 0 (head_bytes high t u sheet code s)
    → take at ys ++ (zs ++ drop (length ys - at) (drop at ys)) ≡ put xs n (new_front (take n xs) n sheet code s)
unfolding new_front
front_put xs n sheet code s {at = at} {ys = ys} {zs = zs} eh et eu ea ey ez =
    let e : n + (round4 n - n) ≡ round4 n = omega arith in
    let p = put_append (replicate (round4 n - n) 0) (head_bytes (high_first (take n xs)) (string_end (take n xs)) (line_end (take n xs)) sheet code s) xs n in
    let l = length-replicate {A = ℕ} (round4 n - n) 0 in
    lent_back ys _ zs at ez ∙ rw (eh, et, eu, ey, ea, p, l, e)

-- a buffer xs in which a trace is begun, then its samples stored: ys, then zs
module _ (samples : Samples) {xs : List ℕ} {n : ℕ} {sheet : List ℕ} {end code : ℕ} (b : Begins xs n sheet end code (count samples))
    {ys : List ℕ} (left : ys ≡ put xs n (new_front (take n xs) n sheet code (count samples)))
    {at : ℕ} {high : Bool} (place : (at ≡ end - room code (count samples)) × (high ≡ high_first (take n xs))) where
  pub samples_room : at + room code (count samples) ≤ length ys
  samples_room = rw (left, length_put) (omega (arith, place.0, b.in_buffer, (small b).front))
