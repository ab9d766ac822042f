-- The check of one trace behind its pointer (document 01, rows 9 to 17 in their order, and 34 of document 02; the rows
-- of a block are block/Block, of a string strings/Strings). f is the image, `how` the manner of reading.
-- Assumes nothing.
use Rattle.std.specs.Prelude.{Bool, ◌&&◌, List, [], ◌∷◌, ℕ, ◌+◌, length, eqb, Result, Ok, Err, Option}
use Rattle.word.specs.Part.{part}
use Rattle.refusal.specs.declared.Rule.TheVariants.{ChannelNumber}
use Rattle.refusal.specs.declared.Part.{Part}
use Rattle.refusal.specs.declared.Part.TheVariants.{Trace}
use Rattle.refusal.specs.Rows.{pick}
use Rattle.refusal.specs.Verdicts.{asked}
use Rattle.refusal.specs.FirstRow.{row, first_of}
use Rattle.text.specs.declared.Manner.{Manner}
use Rattle.text.specs.Manner.{asks_channels}
use Rattle.strings.specs.Strings.{strings_of, places_of, find_of, found, value_found}
use Rattle.channel.specs.Channel.{channel_number, bad_channel}
use Rattle.block.specs.Block.{block_size_of, end_at, block_of}
use Rattle.block.specs.BlockLaws.{head_at}
use Rattle.refusal.specs.declared.Refusal.{Refusal}
use Rattle.strings.specs.declared.Place.{Place}
use Rattle.refusal.specs.Verdicts.{Verdict}

-- rows 14 to 17 of an area of the file: "The file's strings fill the bytes from 32+M to the first pointer", "strings
-- from byte 32 to B"
unfoldable pub area_verdict : Manner → Bool → List ℕ → List ℕ → List ℕ → Part → ℕ → ℕ → Verdict
area_verdict how high t u f whose a e = strings_of how high t u whose (part a e f) a

-- ---- channel numbers (document 02 §7): "if one trace block has it, all must"

-- the string CHANNEL_NUMBER of the trace whose block begins at p, if it has one
unfoldable pub channel_at : Manner → Bool → List ℕ → List ℕ → ℕ → Option Place
channel_at how high t f p = find_of how f (places_of how high t (part (p + 32) (p + block_size_of high f p) f) (p + 32)) channel_number

-- 34 "at the trace's p+32, for a bad value or where only one of it and trace 0 has the string", of the trace k at p
-- that has the string or not, with the value v; `with` tells whether trace 0 has it
abbrev pub channel_row : Manner → Bool → ℕ → ℕ → Bool → List ℕ → Verdict
channel_row how with k p has v = row (asks_channels how && bad_channel with has v) ChannelNumber (Trace k) (p + 32)

abbrev pub channel_verdict : Manner → Bool → List ℕ → ℕ → ℕ → Option Place → Verdict
channel_verdict how with f k p s = channel_row how with k p (found s) (value_found f s)

-- ---- 9 to 13, 14 to 17, and 34 "after 17 within each trace", of the trace k, whose block begins at p: one list of
-- checks in their order
abbrev pub block_checks : Manner → Bool → List ℕ → List ℕ → List ℕ → Bool → ℕ → ℕ → List Verdict
block_checks how high t u f with k p =
    block_of high (head_at f p) (length f) k p
    ∷ area_verdict how high t u f (Trace k) (p + 32) (p + block_size_of high f p)
    ∷ channel_verdict how with f k p (channel_at how high t f p)
    ∷ []

-- ---- what the code answers

-- whether the file's traces have a channel number, as the walk knows it at the trace k, which has one or not: trace 0
-- chooses, and behind it `with` is handed on
abbrev pub chosen_by : Bool → ℕ → Bool → Bool
chosen_by with k has = pick (eqb k 0) has with

abbrev pub chosen_at : Manner → Bool → List ℕ → List ℕ → Bool → ℕ → ℕ → Bool
chosen_at how high t f with k p = chosen_by with k (found (channel_at how high t f p))

-- a trace at p: the refusal of its checks, or where it ends and what was chosen
abbrev pub traced : Manner → Bool → List ℕ → List ℕ → List ℕ → Bool → ℕ → ℕ → Result (ℕ × Bool) Refusal
traced how high t u f with k p = asked Err (first_of (block_checks how high t u f with k p)) (Ok (end_at high f p, with))
