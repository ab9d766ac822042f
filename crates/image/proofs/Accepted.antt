-- Theorems on what specs/Accepted defines. They stand here, as a wrong definition there is to be refused and not to be unread.
-- Assumes nothing.
use Rattle.std.specs.Prelude.{◌≡◌, refl, Bool, true, false, ◌&&◌, ◌||◌, List, ◌⊎◌, ℕ, zero, suc, ◌+◌, ◌-◌, ◌≤◌, ◌<◌, length, get_or, take, eqb}
use Rattle.std.proofs.Common.{inl, inr, ⊎_elim, arith, length-take-le, ne_eqb, eqb-true}
use Rattle.std.proofs.lemmas.Bool.{eqb-false}
use Rattle.refusal.specs.Verdicts.{refused_not, then_and, accepted}
use Rattle.refusal.specs.FirstRow.{row, first_of, met_none_passed}
use Rattle.word.specs.Tests.{both}
use Rattle.word.specs.Part.{part}
use Rattle.word.specs.Bytes.{Bytes, bytes_part, bytes_take}
use Rattle.refusal.specs.Rows.{pick, pick_second}
use Rattle.refusal.specs.declared.Part.{Part}
use Rattle.refusal.specs.declared.Part.TheVariants.{File, Trace}
use Rattle.refusal.specs.declared.Rule.TheVariants.{Length, ChannelNumber}
use Rattle.text.specs.declared.Manner.{Manner}
use Rattle.text.specs.Manner.{asks_channels}
use Rattle.head_limits.specs.declared.Purpose.{Purpose}
use Rattle.note.specs.Note.{LineEnd}
use Rattle.strings.specs.Strings.{found, value_found}
use Rattle.strings.specs.Spelled.{Str, Spells, value_of_key, has_key}
use Rattle.strings.proofs.Paper.{spelled_accepted, accepted_spelled}
use Rattle.channel.specs.Count.{count_in, counted}
use Rattle.channel.proofs.CountLaws.{counts}
use Rattle.channel.specs.Channel.{channel_number, bad_channel, keeps_channel, channel_kept}
use Rattle.head_limits.specs.HeadLimits.{known}
use Rattle.head_words.specs.HeadWords.{high_first, room_of, count_of}
use Rattle.head.specs.Head.{maximum}
use Rattle.terminators.specs.Terminators.{string_end, line_end, good_terminator}
use Rattle.head.specs.Head.{refused}
use Rattle.head.specs.HeadLaws.{head_accepts}
use Rattle.terminators.specs.TerminatorLaws.{good_length, good_chars, good_ends}
use Rattle.block.specs.Block.{block_size_of, data_size_of, data_at}
use Rattle.trace.specs.Trace.{area_verdict, channel_verdict}
use Rattle.traces.specs.Traces.{trace_checks, trace_of, traces_from}
use Rattle.file_length.specs.FileLength.{bad_length}
use Rattle.image.specs.Image.{rest_of, image_of}
use Rattle.image.specs.Image.{check_of}
use Rattle.block.specs.BlockLaws.{pointer_accepts, block_accepts}
use Rattle.file_length.specs.FileLength.{long_enough, length_accepts}
use Rattle.image.specs.Keeps.{trace_at, end_before, strings_end, Strings, GoodChannel, KeepsTerminator, KeepsTrace}
use Rattle.image.specs.Keeps.{Keeps}
use Rattle.image.specs.Accepted.{Filled, Traced, Walked, all_or_none, as_first, before_next, channel_of}
use Rattle.image.specs.Accepted.{channel_spelled, image_headed, image_strings, image_traced, kept_ends, shown}
use Rattle.image.specs.Accepted.{terminator_good, unmet, with_of}

-- ---- an area
area_kept : (how : Manner) (f : List ℕ) (whose : Part) (a e : ℕ) → LineEnd (line_end f) → Bytes f
    → area_verdict how (high_first f) (string_end f) (line_end f) f whose a e ≡ accepted → Strings how f a e
unfolding area_verdict
area_kept how f whose a e ends by h = accepted_spelled how (high_first f) (string_end f) (line_end f) whose (part a e f) a ends (bytes_part a e f by) h

area_accepts : (how : Manner) (f : List ℕ) (whose : Part) (a e : ℕ) → LineEnd (line_end f) → Strings how f a e
    → area_verdict how (high_first f) (string_end f) (line_end f) f whose a e ≡ accepted
unfolding area_verdict
area_accepts how f whose a e ends s = spelled_accepted how whose a ends s.1

module _ (how : Manner) (f : List ℕ) (k : ℕ) (ss : List Str) (low : 32 ≤ block_size_of (high_first f) f (trace_at f k))
    (fits : data_at (high_first f) f (trace_at f k) ≤ length f)
    (s : Spells how (high_first f) (string_end f) (line_end f) ss (part (trace_at f k + 32) (data_at (high_first f) f (trace_at f k)) f)) where
  row_kept : (with : Bool) → channel_verdict how with f k (trace_at f k) (channel_of how f k) ≡ accepted → asks_channels how ≡ true
      → (has_key how ss channel_number ≡ with) × GoodChannel how ss
  row_kept with e asks =
      let c = (channel_spelled how f k ss low fits s) in
      let u = unmet (asks_channels how && bad_channel with (found (channel_of how f k)) (value_found f (channel_of how f k))) _ e in
      let bad : bad_channel with (has_key how ss channel_number) (value_of_key how ss channel_number) ≡ false = rw (asks, c.0, c.1) at u in
      let h = keeps_channel with (has_key how ss channel_number) (value_of_key how ss channel_number) bad in
      (h.0, λ has. (count_in (value_of_key how ss channel_number), counted (value_of_key how ss channel_number) _ (h.1 has) refl))

  row_accepts : (with : Bool) → (asks_channels how ≡ true → (has_key how ss channel_number ≡ with) × GoodChannel how ss)
      → channel_verdict how with f k (trace_at f k) (channel_of how f k) ≡ accepted
  row_accepts with h =
      let c = (channel_spelled how f k ss low fits s) in
      rw (c.0, c.1) (go (asks_channels how) h)
    where
      good : (has_key how ss channel_number ≡ with) × GoodChannel how ss
          → bad_channel with (has_key how ss channel_number) (value_of_key how ss channel_number) ≡ false
      good g =
          channel_kept with (has_key how ss channel_number) (value_of_key how ss channel_number)
          (g.0, λ has. (let n = g.1 has in rw (counts (value_of_key how ss channel_number) n.0 n.1) n.1.least))

      go : (w : Bool) → (w ≡ true → (has_key how ss channel_number ≡ with) × GoodChannel how ss)
          → row (w && bad_channel with (has_key how ss channel_number) (value_of_key how ss channel_number))
          ChannelNumber (Trace k) (trace_at f k + 32) ≡ accepted
      go false q = refl
      go true q = rw (good (q refl))

trace_kept : (how : Manner) (f : List ℕ) (k : ℕ) → LineEnd (line_end f) → Bytes f → Traced how f k → (t : KeepsTrace how f k)
    × (asks_channels how ≡ true → has_key how t.strings.0 channel_number ≡ with_of how f)
trace_kept how f k ends by h =
    let a = shown how f k h in
    let p = a.place in
    let q = a.block in
    let s = area_kept how f (Trace k) (trace_at f k + 32) (data_at (high_first f) f (trace_at f k)) ends by a.strings in
    let c = row_kept how f k s.0 q.least (omega (arith, q.data_fits)) s.1 (with_of how f) a.channel in (
      record {
        aligned = p.whole;
        behind = p.behind;
        mark = q.mark;
        least = q.least;
        whole = q.whole;
        data_whole = q.data_whole;
        inside = q.data_fits;
        code = q.code;
        groups = q.groups;
        samples = q.samples;
        strings = s;
        channel = λ asks. (c asks).1;
      },
      λ asks. (c asks).0,
    )

trace_accepts : (how : Manner) (f : List ℕ) (k : ℕ) → LineEnd (line_end f) → (h : KeepsTrace how f k)
    → (asks_channels how ≡ true → has_key how h.strings.0 channel_number ≡ with_of how f) → Traced how f k
unfolding trace_of
trace_accepts how f k ends h so =
    let l : 32 ≤ block_size_of (high_first f) f (trace_at f k) = h.least in
    let i : data_at (high_first f) f (trace_at f k) + data_size_of (high_first f) f (trace_at f k) ≤ length f = h.inside in
    met_none_passed (trace_checks how (high_first f) (string_end f) (line_end f) f k (end_before f k)) (
      pointer_accepts (length f) k (end_before f k) (trace_at f k) (record { whole = h.aligned; behind = h.behind; fits = omega arith }),
      (
        block_accepts (high_first f) f k (trace_at f k)
            (record {
              mark = h.mark;
              least = h.least;
              whole = h.whole;
              fits = omega arith;
              data_whole = h.data_whole;
              data_fits = h.inside;
              code = h.code;
              groups = h.groups;
              samples = h.samples;
            }),
        (
          area_accepts how f (Trace k) (trace_at f k + 32) (data_at (high_first f) f (trace_at f k)) ends h.strings,
          (
            row_accepts how f k h.strings.0 l (omega arith) h.strings.1 (with_of how f) (λ asks. (so asks, h.channel asks)),
            tt,
          ),
        ),
      ),
    )

each_walk : (how : Manner) (f : List ℕ) (left k : ℕ) → ((j : ℕ) → k ≤ j → j < k + left → Traced how f j) → Walked how f left k
unfolding traces_from
each_walk how f zero k h = refl
each_walk how f (suc left) k h =
    then_and _ _ (h k (omega arith) (omega arith)) (rw (before_next f k) at (each_walk how f left (k + 1) (λ j low high. h j (omega arith) (omega arith))))

-- ---- the first 32 bytes
first_bytes : (f : List ℕ) → known f ≡ true → ((get_or f 0 0 ≡ 85) × (get_or f 1 0 ≡ 58)) ⊎ ((get_or f 0 0 ≡ 58) × (get_or f 1 0 ≡ 85))
first_bytes f h = go (eqb (get_or f 0 0) 85 && eqb (get_or f 1 0) 58) refl h
  where
    go : (w : Bool) → (eqb (get_or f 0 0) 85 && eqb (get_or f 1 0) 58) ≡ w → (w || (eqb (get_or f 0 0) 58 && eqb (get_or f 1 0) 85)) ≡ true
        → ((get_or f 0 0 ≡ 85) × (get_or f 1 0 ≡ 58)) ⊎ ((get_or f 0 0 ≡ 58) × (get_or f 1 0 ≡ 85))
    go true e k = let b = both (eqb (get_or f 0 0) 85) (eqb (get_or f 1 0) 58) e in inl (eqb-true _ _ b.0, eqb-true _ _ b.1)
    go false e k = let b = both (eqb (get_or f 0 0) 58) (eqb (get_or f 1 0) 85) k in inr (eqb-true _ _ b.0, eqb-true _ _ b.1)

bytes_known : (f : List ℕ) → ((get_or f 0 0 ≡ 85) × (get_or f 1 0 ≡ 58)) ⊎ ((get_or f 0 0 ≡ 58) × (get_or f 1 0 ≡ 85)) → known f ≡ true
bytes_known f h = ⊎_elim (λ b. rw (b.0, b.1)) (λ b. rw (b.0, b.1)) h

good_terminator_lem : (f : List ℕ) (at : ℕ) → good_terminator f at ≡ true → KeepsTerminator f at
good_terminator_lem f at h = record { size = good_length f at h; characters = good_chars f at h }

pub image_keeps : (how : Manner) (purpose : Purpose) (f : List ℕ) → Bytes f → 32 ≤ length f → length f ≤ maximum → image_of how purpose f ≡ accepted
    → Keeps how purpose f
image_keeps how purpose f by low most e =
    let h = image_headed how purpose f e in
    let ends = good_ends f 11 (omega arith) h.lines in
    record {
      file = record {
        extent = (low, most);
        first = first_bytes f h.first;
        revision = h.revision;
        room = (h.room.0, h.room.1, h.fits);
        some = h.some;
        count = omega (arith, h.count);
        string_end_lem = good_terminator_lem f 8 h.strings;
        line_end_lem = good_terminator_lem f 11 h.lines;
        ends_apart = h.apart;
        strings = area_kept how f File (32 + room_of f) (strings_end f) ends by (image_strings how purpose f e);
      };
      traces = λ k l. (trace_kept how f k ends by (image_traced how purpose f e k l)).0;
      channels = λ asks. all_or_none (with_of how f) (λ k l. (trace_kept how f k ends by (image_traced how purpose f e k l)).1 asks);
    }

-- the first pointer, the file's strings and the traces, where there is a trace
rest_accepts : (how : Manner) (purpose : Purpose) (f : List ℕ) → Keeps how purpose f → 0 < count_of f → first_of (Filled how f) ≡ accepted
unfolding end_before
rest_accepts how purpose f h some =
    let k = h.traces 0 some in
    let ends = kept_ends h in
    let l : 32 ≤ block_size_of (high_first f) f (trace_at f 0) = k.least in
    let i : data_at (high_first f) f (trace_at f 0) + data_size_of (high_first f) f (trace_at f 0) ≤ length f = k.inside in
    let z : strings_end f ≡ trace_at f 0 = pick_second (eqb (count_of f) 0) (length f) (trace_at f 0) (ne_eqb (count_of f) 0 (omega arith)) in
    met_none_passed (Filled how f) (
      pointer_accepts (length f) 0 (32 + room_of f) (trace_at f 0) (record { whole = k.aligned; behind = k.behind; fits = omega arith }),
      (
        area_accepts how f File (32 + room_of f) (trace_at f 0) ends (rw z at h.file.strings),
        (each_walk how f (count_of f) 0 (λ j low high. trace_accepts how f j ends (h.traces j (omega arith)) (as_first h j (omega arith))), tt),
      ),
    )

pub keeps_image : (how : Manner) (purpose : Purpose) (f : List ℕ) → Keeps how purpose f → image_of how purpose f ≡ accepted
unfolding image_of rest_of
keeps_image how purpose f h =
    let b = h.file in
    then_and _ _
    (head_accepts purpose f
    (record {
      first = bytes_known f b.first;
      revision = b.revision;
      room = (b.room.0, b.room.1);
      some = b.some;
      count = omega (arith, b.count);
      strings = terminator_good f 8 b.string_end_lem;
      lines = terminator_good f 11 b.line_end_lem;
      apart = b.ends_apart;
      fits = b.room.2;
    }))
    (go (eqb (count_of f) 0) refl (area_accepts how f File (32 + room_of f) (strings_end f) (kept_ends h) b.strings))
  where
    go : (w : Bool) → eqb (count_of f) 0 ≡ w
        → area_verdict how (high_first f) (string_end f) (line_end f) f File (32 + room_of f) (pick w (length f) (trace_at f 0)) ≡ accepted
        → pick w (area_verdict how (high_first f) (string_end f) (line_end f) f File (32 + room_of f) (length f)) (first_of (Filled how f)) ≡ accepted
    go true e a = a
    go false e a = let n = eqb-false (count_of f) 0 e in rest_accepts how purpose f h (omega arith)

-- a buffer and a length: accepted exactly where the length is within the buffer and the image keeps the rules
pub accepted_keeps : (how : Manner) (purpose : Purpose) (xs : List ℕ) (n : ℕ) → Bytes xs → check_of how purpose xs n ≡ accepted → (n ≤ length xs)
    × Keeps how purpose (take n xs)
unfolding check_of
accepted_keeps how purpose xs n by e = go (bad_length (length xs) n) refl e
  where
    go : (w : Bool) → bad_length (length xs) n ≡ w → pick w (refused Length 0) (image_of how purpose (take n xs)) ≡ accepted → (n ≤ length xs)
        × Keeps how purpose (take n xs)
    go true q h = absurd (refused_not _ h)
    go false q h =
        let l = long_enough (length xs) n q in
        let s : length (take n xs) ≡ n = length-take-le n xs l.2 in
        (l.2, image_keeps how purpose (take n xs) (bytes_take n xs by) (omega (arith, l.0)) (omega (arith, l.1)) h)

pub keeps_accepted : (how : Manner) (purpose : Purpose) (xs : List ℕ) (n : ℕ) → n ≤ length xs → Keeps how purpose (take n xs)
    → check_of how purpose xs n ≡ accepted
unfolding check_of
keeps_accepted how purpose xs n fits h =
    let s : length (take n xs) ≡ n = length-take-le n xs fits in
    rw (length_accepts (length xs) n (omega (arith, h.file.extent.0)) (omega (arith, h.file.extent.1)) fits) (keeps_image how purpose (take n xs) h)
