-- What an addition leaves in the lent buffer: "This and every other writer leave the bytes past what they write"
-- (document 01, "What we write"). Only N's two bytes, the four of slot N, and those from the old end to the new end may
-- differ.
-- Assumes nothing.
use Rattle.std.specs.Prelude.{◌≡◌, Bool, List, [], ◌∷◌, ◌⊎◌, ℕ, zero, suc, ◌+◌, ◌*◌, ◌≤◌, ◌<◌, length, get_or, drop, set}
use Rattle.std.proofs.Common.{sym, ap, ◌∙◌, ⊎_elim, arith, length-take-le, get_or-take, get_or-drop}
use Rattle.std.proofs.Math.ListN.{take}
use Rattle.head_limits.specs.declared.Purpose.TheVariants.{Grow}
use Rattle.word.specs.Part.{part}
use Rattle.word.specs.Bytes.{Bytes, bytes_take}
use Rattle.word.specs.Put.{put, length_put, drop_put_after, take_put_before, part_put, part_put_before, part_put_after}
use Rattle.word.specs.Round.{round4}
use Rattle.word.specs.Word.{word_at, bytes_of}
use Rattle.word.specs.WordLaws.{length_bytes_of, bytes_of_bytes, word_put, word_put_after}
use Rattle.head_words.specs.HeadWords.{high_first, room_of, count_of}
use Rattle.layout.specs.Layout.{Trace}
use Rattle.append.specs.Grown.{new_bytes, grown}
use Rattle.opening.specs.OpeningLaws.{room_small, placed}
use Rattle.writer.specs.Shown.{Added}
use Rattle.append.specs.GrownLaws.{length_new_bytes}

-- ---- one store, byte by byte

set_bytes : (xs : List ℕ) (i b : ℕ) → b < 256 → Bytes xs → Bytes (set xs i b)
set_bytes [] i b l h = tt
set_bytes (x ∷ xs) zero b l h = (l, h.1)
set_bytes (x ∷ xs) (suc i) b l h = (h.0, set_bytes xs i b l h.1)

pub put_bytes : (bs xs : List ℕ) (at : ℕ) → Bytes bs → Bytes xs → Bytes (put xs at bs)
unfolding put
put_bytes [] xs at h k = k
put_bytes (b ∷ bs) xs at h k = put_bytes bs (set xs at b) (at + 1) h.1 (set_bytes xs at b h.0 k)

byte_before : (bs xs : List ℕ) (at i : ℕ) → i < at → get_or (put xs at bs) i 0 ≡ get_or xs i 0
byte_before bs xs at i h =
    sym (get_or-take at (put xs at bs) i 0 h) ∙ ap (λ (r : List ℕ). get_or r i 0) (take_put_before at bs xs at (omega arith)) ∙ get_or-take at xs i 0 h

byte_after : (bs xs : List ℕ) (at i : ℕ) → at + length bs ≤ i → get_or (put xs at bs) i 0 ≡ get_or xs i 0
byte_after bs xs at i h =
    let e : i + 0 ≡ i = omega arith in
    ap (λ (j : ℕ). get_or (put xs at bs) j 0) (sym e) ∙ sym (get_or-drop i (put xs at bs) 0 0)
    ∙ ap (λ (r : List ℕ). get_or r 0 0) (drop_put_after i bs xs at h)
    ∙ get_or-drop i xs 0 0 ∙ ap (λ (j : ℕ). get_or xs j 0) e

-- ---- three stores: new bytes from n on, a pointer in slot k before them, and a count in bytes 6 and 7

module _ (high : Bool) (xs new : List ℕ) (n k at c : ℕ) (apart : 36 + 4 * k ≤ n) where
  abbrev stored : List ℕ
  stored = put (put (put xs n new) (32 + 4 * k) (bytes_of 4 high at)) 6 (bytes_of 2 high c)

  two : 6 + length (bytes_of 2 high c) ≡ 8
  two = omega (arith, length_bytes_of 2 high c)

  four : 32 + 4 * k + length (bytes_of 4 high at) ≡ 36 + 4 * k
  four = omega (arith, length_bytes_of 4 high at)

  length_stored : length stored ≡ length xs
  length_stored =
      length_put (put (put xs n new) (32 + 4 * k) (bytes_of 4 high at)) 6 (bytes_of 2 high c)
      ∙ length_put (put xs n new) (32 + 4 * k) (bytes_of 4 high at)
      ∙ length_put xs n new

  stored_bytes : Bytes xs → Bytes new → Bytes stored
  stored_bytes b d =
      put_bytes (bytes_of 2 high c) (put (put xs n new) (32 + 4 * k) (bytes_of 4 high at)) 6 (bytes_of_bytes 2 high c)
      (put_bytes (bytes_of 4 high at) (put xs n new) (32 + 4 * k) (bytes_of_bytes 4 high at) (put_bytes new xs n d b))

  stored_front : (a e : ℕ) → e ≤ 6 → part a e stored ≡ part a e xs
  stored_front a e h =
      part_put_before a e (bytes_of 2 high c) (put (put xs n new) (32 + 4 * k) (bytes_of 4 high at)) 6 h
      ∙ part_put_before a e (bytes_of 4 high at) (put xs n new) (32 + 4 * k) (omega arith)
      ∙ part_put_before a e new xs n (omega arith)

  stored_middle : (a e : ℕ) → 8 ≤ a → e ≤ 32 + 4 * k → part a e stored ≡ part a e xs
  stored_middle a e h l =
      part_put_after a e (bytes_of 2 high c) (put (put xs n new) (32 + 4 * k) (bytes_of 4 high at)) 6 (omega (arith, two))
      ∙ part_put_before a e (bytes_of 4 high at) (put xs n new) (32 + 4 * k) l
      ∙ part_put_before a e new xs n (omega arith)

  stored_rest : (a e : ℕ) → 36 + 4 * k ≤ a → e ≤ n → part a e stored ≡ part a e xs
  stored_rest a e h l =
      part_put_after a e (bytes_of 2 high c) (put (put xs n new) (32 + 4 * k) (bytes_of 4 high at)) 6 (omega (arith, two))
      ∙ part_put_after a e (bytes_of 4 high at) (put xs n new) (32 + 4 * k) (omega (arith, four))
      ∙ part_put_before a e new xs n l

  stored_behind : (j : ℕ) → n + length new ≤ j → drop j stored ≡ drop j xs
  stored_behind j h =
      drop_put_after j (bytes_of 2 high c) (put (put xs n new) (32 + 4 * k) (bytes_of 4 high at)) 6 (omega (arith, two))
      ∙ drop_put_after j (bytes_of 4 high at) (put xs n new) (32 + 4 * k) (omega (arith, four))
      ∙ drop_put_after j new xs n h

  stored_new : (e : ℕ) → e ≡ n + length new → e ≤ length xs → part n e stored ≡ new
  stored_new e q h =
      part_put_after n e (bytes_of 2 high c) (put (put xs n new) (32 + 4 * k) (bytes_of 4 high at)) 6 (omega (arith, two))
      ∙ part_put_after n e (bytes_of 4 high at) (put xs n new) (32 + 4 * k) (omega (arith, four))
      ∙ part_put new xs n e q h

  stored_count : 8 ≤ length xs → c < 65536 → word_at 2 high stored 6 ≡ c
  stored_count h l =
      word_put 2 high c (put (put xs n new) (32 + 4 * k) (bytes_of 4 high at)) 6
      (omega (arith, length_put (put xs n new) (32 + 4 * k) (bytes_of 4 high at), length_put xs n new)) l

  stored_pointer : n ≤ length xs → at < 4294967296 → word_at 4 high stored (32 + 4 * k) ≡ at
  stored_pointer h l =
      word_put_after 4 high (bytes_of 2 high c) (put (put xs n new) (32 + 4 * k) (bytes_of 4 high at)) 6 (32 + 4 * k) (omega (arith, two))
      ∙ word_put 4 high at (put xs n new) (32 + 4 * k) (omega (arith, length_put xs n new)) l

  stored_byte : (i : ℕ) → (i < 6) ⊎ (8 ≤ i) → (i < 32 + 4 * k) ⊎ (36 + 4 * k ≤ i) → (i < n) ⊎ (n + length new ≤ i) → get_or stored i 0 ≡ get_or xs i 0
  stored_byte i p q r =
      ⊎_elim (λ h. byte_before (bytes_of 2 high c) (put (put xs n new) (32 + 4 * k) (bytes_of 4 high at)) 6 i h)
      (λ h. byte_after (bytes_of 2 high c) (put (put xs n new) (32 + 4 * k) (bytes_of 4 high at)) 6 i (omega (arith, two))) p
      ∙ ⊎_elim (λ h. byte_before (bytes_of 4 high at) (put xs n new) (32 + 4 * k) i h)
      (λ h. byte_after (bytes_of 4 high at) (put xs n new) (32 + 4 * k) i (omega (arith, four))) q
      ∙ ⊎_elim (λ h. byte_before new xs n i h) (λ h. byte_after new xs n i h) r

-- ---- an addition

-- where the three stores lie: the count, the free slot, which ends within the pointer room, and the free end of the
-- buffer
pub record Lies (xs : List ℕ) (n : ℕ) (x : Trace) (end : ℕ) : Type 0 where
  pub some : 32 ≤ n
  pub in_buffer : n ≤ length xs
  pub room : 32 + room_of (take n xs) ≤ n
  pub slot : 36 + 4 * count_of (take n xs) ≤ n
  pub ends : n + length (new_bytes (take n xs) n x) ≡ end

pub lies : {xs : List ℕ} {n : ℕ} {x : Trace} {end : ℕ} → Added xs n x end → Lies xs n x end
lies {xs} {n} {x} {end} h =
    let p = placed Grow xs n h.accepted in
    let l : length (take n xs) ≡ n = length-take-le n xs p.0.2 in
    let r : 32 + room_of (take n xs) ≤ length (take n xs) = p.1.fits in
    let s : 4 * count_of (take n xs) + 4 ≤ room_of (take n xs) = h.slot in
    record {
      some = p.0.0;
      in_buffer = p.0.2;
      room = omega arith;
      slot = omega arith;
      ends = length_new_bytes (take n xs) n x h.kind ∙ h.new;
    }

module _ {xs : List ℕ} {n : ℕ} {x : Trace} {end : ℕ} (h : Added xs n x end) where
  pub length_grown : length (grown xs n x) ≡ length xs
  unfolding grown
  length_grown = let f = take n xs in length_stored (high_first f) xs (new_bytes f n x) n (count_of f) (round4 n) (count_of f + 1) (lies h).slot

  -- a part before N, between N and slot N, behind it up to the old end; and what is behind the new end
  pub grown_front : (a e : ℕ) → e ≤ 6 → part a e (grown xs n x) ≡ part a e xs
  unfolding grown
  grown_front = let f = take n xs in stored_front (high_first f) xs (new_bytes f n x) n (count_of f) (round4 n) (count_of f + 1) (lies h).slot

  pub grown_middle : (a e : ℕ) → 8 ≤ a → e ≤ 32 + 4 * count_of (take n xs) → part a e (grown xs n x) ≡ part a e xs
  unfolding grown
  grown_middle = let f = take n xs in stored_middle (high_first f) xs (new_bytes f n x) n (count_of f) (round4 n) (count_of f + 1) (lies h).slot

  pub grown_rest : (a e : ℕ) → 36 + 4 * count_of (take n xs) ≤ a → e ≤ n → part a e (grown xs n x) ≡ part a e xs
  unfolding grown
  grown_rest = let f = take n xs in stored_rest (high_first f) xs (new_bytes f n x) n (count_of f) (round4 n) (count_of f + 1) (lies h).slot

  pub grown_behind : drop end (grown xs n x) ≡ drop end xs
  unfolding grown
  grown_behind =
      let f = take n xs in
      stored_behind (high_first f) xs (new_bytes f n x) n (count_of f) (round4 n) (count_of f + 1) (lies h).slot end (omega (arith, (lies h).ends))

  -- the same byte by byte: no other byte differs
  pub grown_byte : (i : ℕ) → (i < 6) ⊎ (8 ≤ i) → (i < 32 + 4 * count_of (take n xs)) ⊎ (36 + 4 * count_of (take n xs) ≤ i) → (i < n) ⊎ (end ≤ i)
      → get_or (grown xs n x) i 0 ≡ get_or xs i 0
  unfolding grown
  grown_byte i p q r =
      let f = take n xs in
      stored_byte (high_first f) xs (new_bytes f n x) n (count_of f) (round4 n) (count_of f + 1) (lies h).slot i p q (rw (lies h).ends r)

  -- and what is new
  pub grown_new : part n end (grown xs n x) ≡ new_bytes (take n xs) n x
  unfolding grown
  grown_new =
      let f = take n xs in
      stored_new (high_first f) xs (new_bytes f n x) n (count_of f) (round4 n) (count_of f + 1) (lies h).slot end (sym (lies h).ends) h.in_buffer

  pub grown_count : Bytes xs → word_at 2 (high_first (take n xs)) (grown xs n x) 6 ≡ count_of (take n xs) + 1
  unfolding grown
  grown_count by =
      let f = take n xs in
      let l = lies h in
      let r = room_small f (bytes_take n xs by) in
      stored_count (high_first f) xs (new_bytes f n x) n (count_of f) (round4 n) (count_of f + 1) l.slot (omega (arith, l.some, l.in_buffer))
      (omega (arith, h.slot))

  pub grown_pointer : word_at 4 (high_first (take n xs)) (grown xs n x) (32 + 4 * count_of (take n xs)) ≡ round4 n
  unfolding grown
  grown_pointer =
      let f = take n xs in
      let l = lies h in
      stored_pointer (high_first f) xs (new_bytes f n x) n (count_of f) (round4 n) (count_of f + 1) l.slot l.in_buffer (omega (arith, l.ends, h.in_maximum))

  pub grown_bytes : Bytes xs → Bytes (new_bytes (take n xs) n x) → Bytes (grown xs n x)
  unfolding grown
  grown_bytes =
      let f = take n xs in
      stored_bytes (high_first f) xs (new_bytes f n x) n (count_of f) (round4 n) (count_of f + 1) (lies h).slot
