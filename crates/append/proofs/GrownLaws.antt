-- Theorems on what specs/GrownLaws defines. They stand here, as a wrong definition there is to be refused and not to be unread.
-- Assumes nothing.
use Rattle.std.specs.Prelude.{◌≡◌, Bool}
use Rattle.std.proofs.Common.{sym}
use mathlib.Core.List.{List, ◌++◌, append_assoc}
use Prim.Native.Nat.{ℕ, ◌+◌, ◌-◌}
use native.Mathlib.Omega.{arith}
use Rattle.std.proofs.Math.ListN.{length, take, replicate, length-append, length-replicate}
use Rattle.word.specs.Put.{put, put_append, length_put, take_put_before}
use Rattle.word.specs.Round.{round4}
use Rattle.sample.specs.Needed.{room}
use Rattle.head_words.specs.HeadWords.{high_first}
use Rattle.terminators.specs.Terminators.{string_end, line_end}
use Rattle.layout.specs.Layout.{Samples, count, samples_data}
use Rattle.layout.specs.Stores.{head_bytes, length_head_bytes, head_samples}
use Rattle.append.specs.Grown.{new_bytes, grown}
use Rattle.append.specs.GrownLaws.{Begins, Slotted, new_front, registered}

module _ (samples : Samples) {xs : List ℕ} {n : ℕ} {sheet : List ℕ} {end code : ℕ} (b : Begins xs n sheet end code (count samples))
    {ys : List ℕ} (left : ys ≡ put xs n (new_front (take n xs) n sheet code (count samples)))
    {at : ℕ} {high : Bool} (place : (at ≡ end - room code (count samples)) × (high ≡ high_first (take n xs))) where
  module _ {zs : List ℕ} (stored : zs ≡ put ys at (samples_data code high samples)) where
    all_stored : zs ≡ put xs n (new_bytes (take n xs) n (record { sheet = sheet; code = code; samples = samples }))
    unfolding new_bytes new_front
    all_stored =
        let f : List ℕ = take n xs in
        let gap : List ℕ = replicate (round4 n - n) 0 in
        let front : List ℕ = head_bytes (high_first f) (string_end f) (line_end f) sheet code (count samples) in
        let l : at ≡ n + length (gap ++ front) = omega (
          arith,
          length-append gap front,
          length-replicate {A = ℕ} (round4 n - n) 0,
          length_head_bytes (high_first f) (string_end f) (line_end f) sheet code (count samples),
          b.new,
          place.0,
        ) in
        let h = head_samples (high_first f) (string_end f) (line_end f) (record { sheet = sheet; code = code; samples = samples }) in
        let p = put_append (gap ++ front) (samples_data code (high_first f) samples) xs n in
        rw (stored, left, place.1, l, h, ← append_assoc gap front (samples_data code (high_first f) samples)) (sym p)

    same_file : take n zs ≡ take n xs
    same_file = rw all_stored (take_put_before n _ xs n (omega arith))

    pub still_slotted : Slotted zs n
    still_slotted =
        let s = b.slotted in
        let l : length zs ≡ length xs = rw all_stored (length_put xs n _) in
        record {
          low = s.low;
          most = s.most;
          within = rw l s.within;
          size = rw same_file s.size;
          slot = rw (same_file, l) s.slot;
          few = rw same_file s.few;
        }

    pub grown_put : registered zs n ≡ grown xs n (record { sheet = sheet; code = code; samples = samples })
    unfolding registered grown
    grown_put = rw (same_file, all_stored)
