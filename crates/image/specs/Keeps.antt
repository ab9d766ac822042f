-- The rules of a file in the format's own words, and in no order of checking (document 01, "The file block", "The trace
-- block", "Strings"). f is the image, `how` the manner of reading. Two records: what each trace keeps, and what the
-- whole file keeps.
-- Assumes nothing.
use Rattle.std.specs.Prelude.{◌≡◌, Bool, true, false, List, ◌⊎◌, ℕ, zero, suc, ◌+◌, ◌*◌, ◌%◌, ◌≤◌, ◌<◌, length, get_or, eqb}
use Rattle.word.specs.Part.{part}
use Rattle.refusal.specs.Rows.{pick}
use Rattle.sample.specs.Needed.{needed}
use Rattle.text.specs.declared.Manner.{Manner}
use Rattle.text.specs.Manner.{asks_channels}
use Rattle.chars.specs.Runs.{all}
use Rattle.head_limits.specs.declared.Purpose.{Purpose}
use Rattle.head_limits.specs.declared.Purpose.TheVariants.{Grow}
use Rattle.strings.specs.Spelled.{Str, Spells, value_of_key, has_key}
use Rattle.channel.specs.Count.{Counts}
use Rattle.channel.specs.Channel.{channel_number}
use Rattle.chars.specs.Chars.{control}
use Rattle.head_words.specs.HeadWords.{high_first, revision_of, room_of, count_of}
use Rattle.head.specs.Head.{maximum}
use Rattle.terminators.specs.Terminators.{terminator_at, string_end, line_end, apart}
use Rattle.block.specs.Block.{trace_mark, pointer_of, mark_at, block_size_of, data_size_of, sample_count_of, format_code_of, data_at, end_at}

-- where the trace k begins, and where what stands before it ends: the pointer room before the first, then the data of
-- the trace before
abbrev pub trace_at : List ℕ → ℕ → ℕ
trace_at f k = pointer_of (high_first f) f k

unfoldable pub end_before : List ℕ → ℕ → ℕ
end_before f zero = 32 + room_of f
end_before f (suc k) = end_at (high_first f) f (trace_at f k)

-- "The file's strings fill the bytes from 32+M to the first pointer"; "With N=0 the file's strings run to the image's
-- end"
abbrev pub strings_end : List ℕ → ℕ
strings_end f = pick (eqb (count_of f) 0) (length f) (trace_at f 0)

-- the bytes from a to e spell a list of strings
abbrev pub Strings : Manner → List ℕ → ℕ → ℕ → Type 0
Strings how f a e = (ss : List Str) × Spells how (high_first f) (string_end f) (line_end f) ss (part a e f)

-- "The value must be a number by document 01, 1 to 32,767, without point or E" (document 02 §7): of a list of strings
-- that has a channel number
abbrev pub GoodChannel : Manner → List Str → Type 0
GoodChannel how ss = has_key how ss channel_number ≡ true → (n : ℕ) × Counts (value_of_key how ss channel_number) n

-- the terminator whose length stands at a place
pub record KeepsTerminator (f : List ℕ) (at : ℕ) : Type 0 where
  pub size : (get_or f at 0 ≡ 1) ⊎ (get_or f at 0 ≡ 2)
  pub characters : all control (terminator_at f at) ≡ true

pub record KeepsTrace (how : Manner) (f : List ℕ) (k : ℕ) : Type 0 where
  pub aligned : trace_at f k % 4 ≡ 0
  pub behind : end_before f k ≤ trace_at f k
  pub mark : mark_at (high_first f) f (trace_at f k) ≡ trace_mark
  pub least : 32 ≤ block_size_of (high_first f) f (trace_at f k)
  pub whole : block_size_of (high_first f) f (trace_at f k) % 4 ≡ 0
  pub data_whole : data_size_of (high_first f) f (trace_at f k) % 4 ≡ 0
  pub inside : data_at (high_first f) f (trace_at f k) + data_size_of (high_first f) f (trace_at f k) ≤ length f
  pub code : (1 ≤ format_code_of f (trace_at f k)) × (format_code_of f (trace_at f k) ≤ 5)
  pub groups : format_code_of f (trace_at f k) ≡ 3 → sample_count_of (high_first f) f (trace_at f k) % 4 ≡ 0
  pub samples : needed (format_code_of f (trace_at f k)) (sample_count_of (high_first f) f (trace_at f k)) ≤ data_size_of (high_first f) f (trace_at f k)
  pub strings : Strings how f (trace_at f k + 32) (data_at (high_first f) f (trace_at f k))
  pub channel : asks_channels how ≡ true → GoodChannel how strings.0

-- a file that is read has a trace; an image that grows may have none
pub record KeepsFile (how : Manner) (purpose : Purpose) (f : List ℕ) : Type 0 where
  pub extent : (32 ≤ length f) × (length f ≤ maximum)
  pub first : ((get_or f 0 0 ≡ 85) × (get_or f 1 0 ≡ 58)) ⊎ ((get_or f 0 0 ≡ 58) × (get_or f 1 0 ≡ 85))
  pub revision : revision_of f ≡ 1
  pub room : (4 ≤ room_of f) × (room_of f % 4 ≡ 0) × (32 + room_of f ≤ length f)
  pub some : count_of f ≡ 0 → purpose ≡ Grow
  pub count : 4 * count_of f ≤ room_of f
  pub string_end_lem : KeepsTerminator f 8
  pub line_end_lem : KeepsTerminator f 11
  pub ends_apart : apart (string_end f) (line_end f) ≡ true
  pub strings : Strings how f (32 + room_of f) (strings_end f)

-- "if one trace block has it, all must": of n traces each has, or none has
abbrev pub AllOrNone : (n : ℕ) → ((k : ℕ) → k < n → Bool) → Type 0
AllOrNone n has = ((k : ℕ) (l : k < n) → has k l ≡ true) ⊎ ((k : ℕ) (l : k < n) → has k l ≡ false)

pub record Keeps (how : Manner) (purpose : Purpose) (f : List ℕ) : Type 0 where
  pub file : KeepsFile how purpose f
  pub traces : (k : ℕ) → k < count_of f → KeepsTrace how f k
  pub channels : asks_channels how ≡ true → AllOrNone (count_of f) (λ k l. has_key how (traces k l).strings.0 channel_number)
