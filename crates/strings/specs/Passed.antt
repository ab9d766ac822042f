-- A string that a step of the check has passed, of the area that ends at e of f: that it lies there, which bytes its
-- keyword is, and its place.
-- Assumes nothing.
use Rattle.std.specs.Prelude.{◌≡◌, Bool, List, ℕ, ◌+◌, ◌-◌, ◌≤◌, take}
use Rattle.std.proofs.Common.{sym, ap, ◌∙◌, arith}
use Rattle.std.proofs.Math.ListN.{length, drop}
use Rattle.word.specs.Part.{part, length_part, part_part, part_drop}
use Rattle.refusal.specs.declared.Part.{Part}
use Rattle.strings.specs.declared.Place.{Place}
use Rattle.text.specs.declared.Manner.{Manner}
use Rattle.strings.specs.Strings.{body, key_len, gap_len, frame_of, step_of, place_of}
use Rattle.strings.specs.Walks.{in_frame, next_fits, judged_clear}

-- the string of `size` bytes that was seen at `hit`, its keyword up to `gap`
abbrev pub seen_place : List ℕ → List ℕ → ℕ → ℕ → ℕ → Place
seen_place t f hit gap size =
    let end = hit + (size - length t) in
    record { key = hit + 2; gap = gap; value = gap + gap_len (part gap end f); end = end }

-- a string that was seen lies in the area; the terminator has so many bytes
abbrev pub Lies : ℕ → ℕ → ℕ → ℕ → ℕ → Type 0
Lies lt e hit gap size = (lt ≤ size) × (hit + 2 ≤ gap) × (gap ≤ hit + (size - lt)) × (hit + (size - lt) ≤ e)
