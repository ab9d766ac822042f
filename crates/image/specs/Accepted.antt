-- The two views agree: an image is accepted exactly where it keeps the rules.
-- Assumes nothing.
use Rattle.std.specs.Prelude.{◌≡◌, refl, Bool, true, false, ◌&&◌, ◌||◌, List, ◌⊎◌, ℕ, zero, suc, ◌+◌, ◌-◌, ◌≤◌, ◌<◌, length, get_or, take, eqb, Err, Option}
use Rattle.std.proofs.Common.{sym, ◌∙◌, inl, inr, ⊎_elim, lt_of_not-le, add-one, arith, length-take-le, ne_eqb, eqb-true}
use Rattle.std.proofs.Math.Decide.{dec_le}
use Rattle.std.proofs.lemmas.Bool.{eqb-false}
use Rattle.refusal.specs.Verdicts.{refused_not, and_then_lem, then_and, accepted}
use Rattle.refusal.specs.FirstRow.{row, first_of, NoneMet, passed_met_none, met_none_passed}
use Rattle.word.specs.Tests.{both}
use Rattle.word.specs.Part.{part}
use Rattle.word.specs.Bytes.{Bytes, bytes_part, bytes_take}
use Rattle.refusal.specs.Rows.{pick, pick_second}
use Rattle.refusal.specs.declared.Part.{Part}
use Rattle.refusal.specs.declared.Part.TheVariants.{File, Trace}
use Rattle.refusal.specs.declared.Refusal.{Refusal}
use Rattle.refusal.specs.declared.Rule.TheVariants.{Length, ChannelNumber}
use Rattle.text.specs.declared.Manner.{Manner}
use Rattle.text.specs.Manner.{asks_channels}
use Rattle.head_limits.specs.declared.Purpose.{Purpose}
use Rattle.note.specs.Note.{LineEnd}
use Rattle.strings.specs.Strings.{found, value_found}
use Rattle.strings.specs.Spelled.{Str, Spells, value_of_key, has_key}
use Rattle.strings.proofs.Paper.{spelled_accepted, accepted_spelled, spelled_value}
use Rattle.channel.specs.Count.{count_in, counted}
use Rattle.channel.proofs.CountLaws.{counts}
use Rattle.channel.specs.Channel.{channel_number, bad_channel, keeps_channel, channel_kept}
use Rattle.head_limits.specs.HeadLimits.{known}
use Rattle.head_words.specs.HeadWords.{high_first, room_of, count_of}
use Rattle.head.specs.Head.{maximum, head_of}
use Rattle.terminators.specs.Terminators.{string_end, line_end, good_terminator}
use Rattle.head.specs.Head.{refused}
use Rattle.head.specs.HeadLaws.{Headed, headed, head_accepts}
use Rattle.terminators.specs.TerminatorLaws.{good_length, good_chars, good_ends}
use Rattle.block.specs.Block.{block_size_of, data_size_of, data_at, end_at}
use Rattle.trace.specs.Trace.{area_verdict, channel_at, channel_verdict}
use Rattle.traces.specs.Traces.{with_channel, trace_checks, trace_of, traces_from}
use Rattle.file_length.specs.FileLength.{bad_length}
use Rattle.image.specs.Image.{filled_checks, rest_of, image_of}
use Rattle.image.specs.Image.{check_of}
use Rattle.block.specs.BlockLaws.{Pointed, pointed, pointer_accepts, Blocked, blocked, block_accepts}
use Rattle.file_length.specs.FileLength.{long_enough, length_accepts}
use Rattle.image.specs.Keeps.{trace_at, end_before, strings_end, Strings, GoodChannel, KeepsTerminator, KeepsTrace}
use Rattle.image.specs.Keeps.{AllOrNone, Keeps}
use Rattle.strings.specs.declared.Place.{Place}
use Rattle.refusal.specs.Verdicts.{Verdict}

-- ---- a trace's channel number

-- the string, and whether trace 0 has one
abbrev pub channel_of : Manner → List ℕ → ℕ → Option Place
channel_of how f k = channel_at how (high_first f) (string_end f) f (trace_at f k)

abbrev pub with_of : Manner → List ℕ → Bool
with_of how f = with_channel how (high_first f) (string_end f) f

-- a row that is not met
pub unmet : (w : Bool) (r : Refusal) → pick w (Err r) accepted ≡ accepted → w ≡ false
unmet true r e = absurd (refused_not r e)
unmet false r e = refl

-- ss are the strings that the trace k spells
module _ (how : Manner) (f : List ℕ) (k : ℕ) (ss : List Str) (low : 32 ≤ block_size_of (high_first f) f (trace_at f k))
    (fits : data_at (high_first f) f (trace_at f k) ≤ length f)
    (s : Spells how (high_first f) (string_end f) (line_end f) ss (part (trace_at f k + 32) (data_at (high_first f) f (trace_at f k)) f)) where
  -- what was found is told by the strings
  pub channel_spelled : (found (channel_of how f k) ≡ has_key how ss channel_number) × (value_found f (channel_of how f k) ≡ value_of_key how ss channel_number)
  unfolding channel_at
  channel_spelled =
      spelled_value how f (string_end f) (line_end f) (high_first f) (trace_at f k + 32) (data_at (high_first f) f (trace_at f k)) ss channel_number
      (omega arith) fits s

-- ---- a trace
abbrev pub Traced : Manner → List ℕ → ℕ → Type 0
Traced how f k = trace_of how (high_first f) (string_end f) (line_end f) f k (end_before f k) ≡ accepted

-- what its checks show: the pointer, the block, the strings and the channel number
pub record Shown (how : Manner) (f : List ℕ) (k : ℕ) : Type 0 where
  pub place : Pointed (length f) (end_before f k) (trace_at f k)
  pub block : Blocked (high_first f) f (trace_at f k)
  pub strings : area_verdict how (high_first f) (string_end f) (line_end f) f (Trace k) (trace_at f k + 32) (data_at (high_first f) f (trace_at f k)) ≡ accepted
  pub channel : channel_verdict how (with_of how f) f k (trace_at f k) (channel_of how f k) ≡ accepted

pub shown : (how : Manner) (f : List ℕ) (k : ℕ) → Traced how f k → Shown how f k
unfolding trace_of
shown how f k h =
    let a = passed_met_none (trace_checks how (high_first f) (string_end f) (line_end f) f k (end_before f k)) h in
    record {
      place = pointed (length f) k (end_before f k) (trace_at f k) a.0;
      block = blocked (high_first f) f k (trace_at f k) a.1.0;
      strings = a.1.1.0;
      channel = a.1.1.1.0;
    }

-- ---- all traces
pub before_next : (f : List ℕ) (k : ℕ) → end_before f (k + 1) ≡ end_at (high_first f) f (trace_at f k)
unfolding end_before
before_next f k = rw (add-one k)

abbrev pub Walked : Manner → List ℕ → ℕ → ℕ → Type 0
Walked how f left k = traces_from how (high_first f) (string_end f) (line_end f) f left k (end_before f k) ≡ accepted

walk_each : (how : Manner) (f : List ℕ) (left k : ℕ) → Walked how f left k → (j : ℕ) → k ≤ j → j < k + left → Traced how f j
unfolding traces_from
walk_each how f zero k h j low high = absurd (omega arith)
walk_each how f (suc left) k h j low high =
    let a = and_then_lem (trace_of how (high_first f) (string_end f) (line_end f) f k (end_before f k)) _ h in
    let w : Walked how f left (k + 1) = rw (before_next f k) a.1 in
    elim (dec_le (k + 1) j) [ yes q ↦ walk_each how f left (k + 1) w j q (omega arith) | no q ↦ here a.0 (lt_of_not-le q) ]
  where
    here : Traced how f k → j < k + 1 → Traced how f j
    here t l = let e : k ≡ j = omega arith in rw e at t

pub terminator_good : (f : List ℕ) (at : ℕ) → KeepsTerminator f at → good_terminator f at ≡ true
unfolding good_terminator
terminator_good f at h = ⊎_elim (λ b. rw b h.characters) (λ b. rw b h.characters) h.size

-- its line terminator starts with a byte that no value has
pub kept_ends : {how : Manner} {purpose : Purpose} {f : List ℕ} → Keeps how purpose f → LineEnd (line_end f)
kept_ends {how} {purpose} {f} h = good_ends f 11 (omega (arith, h.file.room.2)) (terminator_good f 11 h.file.line_end_lem)

-- ---- what an accepted image gives without checking again, for a file and for an image that grows
pub image_headed : (how : Manner) (purpose : Purpose) (f : List ℕ) → image_of how purpose f ≡ accepted → Headed purpose f
unfolding image_of
image_headed how purpose f e = headed purpose f (and_then_lem (head_of purpose (take 32 f) (length f)) _ e).0

-- where there is a trace, the checks behind rows 2 to 7
abbrev pub Filled : Manner → List ℕ → List Verdict
Filled how f = filled_checks how (high_first f) (string_end f) (line_end f) f (room_of f) (count_of f)

image_filled : (how : Manner) (purpose : Purpose) (f : List ℕ) → image_of how purpose f ≡ accepted → 0 < count_of f → NoneMet (Filled how f)
unfolding image_of rest_of
image_filled how purpose f e l =
    let a = and_then_lem (head_of purpose (take 32 f) (length f)) _ e in
    let some : count_of f ≡ 0 → ⊥ = λ (z : count_of f ≡ 0). omega arith in
    passed_met_none (Filled how f) (sym (pick_second (eqb (count_of f) 0) _ _ (ne_eqb _ _ some)) ∙ a.1)

pub image_traced : (how : Manner) (purpose : Purpose) (f : List ℕ) → image_of how purpose f ≡ accepted → (k : ℕ) → k < count_of f → Traced how f k
unfolding end_before
image_traced how purpose f e k l =
    let c = image_filled how purpose f e (omega arith) in
    walk_each how f (count_of f) 0 c.1.1.0 k (omega arith) (omega arith)

-- the places of a trace that was accepted
pub traced_places : (how : Manner) (f : List ℕ) (k : ℕ) → Traced how f k
    → Pointed (length f) (end_before f k) (trace_at f k) × Blocked (high_first f) f (trace_at f k)
traced_places how f k h = let a = shown how f k h in (a.place, a.block)

-- its strings
pub traced_strings : (how : Manner) (f : List ℕ) (k : ℕ) → Traced how f k
    → area_verdict how (high_first f) (string_end f) (line_end f) f (Trace k) (trace_at f k + 32) (data_at (high_first f) f (trace_at f k)) ≡ accepted
traced_strings how f k h = (shown how f k h).strings

-- the file's strings
pub image_strings : (how : Manner) (purpose : Purpose) (f : List ℕ) → image_of how purpose f ≡ accepted
    → area_verdict how (high_first f) (string_end f) (line_end f) f File (32 + room_of f) (strings_end f) ≡ accepted
unfolding image_of rest_of
image_strings how purpose f e = go (eqb (count_of f) 0) (and_then_lem (head_of purpose (take 32 f) (length f)) _ e).1
  where
    go : (w : Bool)
        → pick w (area_verdict how (high_first f) (string_end f) (line_end f) f File (32 + room_of f) (length f)) (first_of (Filled how f)) ≡ accepted
        → area_verdict how (high_first f) (string_end f) (line_end f) f File (32 + room_of f) (pick w (length f) (trace_at f 0)) ≡ accepted
    go true h = h
    go false h = (passed_met_none (Filled how f) h).1.0

-- ---- the theorem

-- where each has as one thing tells, each has or none has
pub all_or_none : {n : ℕ} {has : (k : ℕ) → k < n → Bool} (w : Bool) → ((k : ℕ) (l : k < n) → has k l ≡ w) → AllOrNone n has
all_or_none true h = inl h
all_or_none false h = inr h

-- where the traces have a channel number or have none, each has it as trace 0 has
pub as_first : {how : Manner} {purpose : Purpose} {f : List ℕ} (h : Keeps how purpose f) (k : ℕ) (l : k < count_of f) → asks_channels how ≡ true
    → has_key how (h.traces k l).strings.0 channel_number ≡ with_of how f
as_first {how} {purpose} {f} h k l asks =
    let z : 0 < count_of f = omega arith in
    let t = h.traces 0 z in
    let i : data_at (high_first f) f (trace_at f 0) + data_size_of (high_first f) f (trace_at f 0) ≤ length f = t.inside in
    let c = (channel_spelled how f 0 t.strings.0 t.least (omega arith) t.strings.1).0 in
    ⊎_elim (λ g. g k l ∙ sym (c ∙ g 0 z)) (λ g. g k l ∙ sym (c ∙ g 0 z)) (h.channels asks)
