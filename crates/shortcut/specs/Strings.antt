-- The strings of a trace as a quick question reads them: a walk along two areas of one length that are alike on the bytes
-- read (the first so many, Read `read_of`) ends alike; these bytes are the area's own, and where a string is found they end
-- with it. `look` is what the question does at a string, whatever it is.
-- Assumes nothing.
use Rattle.std.specs.Prelude.{◌≡◌, Result, Ok, Bool, drop, false, List, ℕ, ◌+◌, ◌≤◌, length, take}
use Rattle.std.proofs.Common.{le-ltb}
use Rattle.refusal.specs.declared.Part.{Part}
use Rattle.strings.specs.declared.Place.{Place}
use Rattle.strings.specs.Strings.{place_of}
use Rattle.until.specs.declared.Turn.{Turn}
use Rattle.until.specs.declared.Walked.{Walked}
use Rattle.until.specs.Until.{on_turn, walk_from}
use Rattle.shortcut.specs.Read.{reaches, string_read, read_from}
use Rattle.refusal.specs.declared.Refusal.{Refusal}
use Rattle.until.specs.declared.Walked.TheVariants as walked

module _ (high : Bool) (t : List ℕ) where
  pub offset_read : (l : List ℕ) → 2 ≤ length l → reaches high t l ≡ false → string_read high t l ≡ 2
  unfolding string_read
  offset_read l h w = rw (le-ltb (length l) 2 h, w)

  -- ---- the walk
  module _ (u : List ℕ) (p : Part) where
    module _ (look : ℕ → List ℕ → Turn) where
      -- what comes behind a string: the walk ends or goes on
      abbrev More : ℕ → ℕ → List ℕ → ℕ → ℕ → ℕ → ℕ
      More m j l at o k = on_turn (look j (take k (drop 2 l))) 0 0 (read_from look m high t u p (j + 1) (take k (drop 2 l)) (drop o l) (at + o))

      abbrev Walk : ℕ → ℕ → List ℕ → ℕ → ℕ → ℕ → Result Walked Refusal
      Walk m j l at o k =
          on_turn (look j (take k (drop 2 l))) (Ok (walked.At (place_of t o l at))) (Ok (walked.Over j))
          (walk_from look m high t u p (j + 1) (take k (drop 2 l)) (drop o l) (at + o))

      -- ---- and where a string is found they end with it: its value and the terminator behind it
      module _ (s : Place) where
        abbrev EndsWith : ℕ → ℕ → Type 0
        EndsWith at x = (at ≤ s.value) × (s.value ≤ s.end) × (s.end + length t ≡ at + x)
