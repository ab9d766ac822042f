-- The grown image is a file: it keeps all rules, with a trace or without one before it, so the reader and the next
-- addition accept it.
-- Assumes nothing.
use Rattle.std.specs.Prelude.{◌≡◌, refl, Bool, false, List, [], ◌∷◌, ◌++◌, ℕ, zero, suc, ◌+◌, ◌-◌, ◌%◌, ◌≤◌, ◌<◌, length, take, replicate, eqb}
use Rattle.std.proofs.Common.{sym, ap, ap₂, ◌∙◌, append_assoc, lt_of_not-le, arith, ne_eqb}
use Rattle.std.proofs.Math.Decide.{dec_le}
use Rattle.head_limits.specs.declared.Purpose.{Purpose}
use Rattle.head_limits.specs.declared.Purpose.TheVariants.{Read, Grow}
use Rattle.text.specs.declared.Manner.TheVariants.{Strict}
use Rattle.word.specs.Tests.{never}
use Rattle.word.specs.Part.{part, length_part, part_none, part_split}
use Rattle.word.specs.Bytes.{Bytes}
use Rattle.word.specs.Round.{round4, round4_whole, round4_up}
use Rattle.word.specs.Word.{bytes_of}
use Rattle.refusal.specs.Rows.{pick}
use Rattle.strings.specs.Spelled.{Str, text_of, size_of, texts, marked_end, Spells, Spells.empty, Ends.mark, Ends.none}
use Rattle.strings.specs.Spelled.{Spells.full, has_key}
use Rattle.channel.specs.Count.{count_in, counted}
use Rattle.channel.specs.Channel.{channel_number}
use Rattle.sheet.specs.Area as area
use Rattle.sheet.specs.Area.{area_size}
use Rattle.sheet.specs.Lines.{lines_verdict, sheet_lines}
use Rattle.channel_line.specs.ChannelLine.{has_line, value_of_line}
use Rattle.sheet_channel.specs.Meant.{has_meant, value_meant, KeepsSheet, sheet_keeps}
use Rattle.area.specs.Spelling.{measured_size, area_bounds, area_spells}
use Rattle.head_words.specs.HeadWords.{high_first, room_of, count_of}
use Rattle.terminators.specs.Terminators.{string_end, line_end}
use Rattle.block.specs.Block.{data_size_of, data_at, end_at}
use Rattle.image.specs.Image.{check_of}
use Rattle.image.specs.Keeps.{trace_at, end_before, strings_end, GoodChannel, KeepsTrace, Keeps}
use Rattle.image.specs.Accepted.{with_of, channel_spelled, all_or_none, as_first, kept_ends}
use Rattle.image.proofs.Accepted.{keeps_accepted}
use Rattle.layout.specs.Layout.{Trace, count}
use Rattle.append.specs.Grown.{grown}
use Rattle.opening.specs.Opening.{wrong_channel}
use Rattle.writer.specs.Shown.{Added}
use Rattle.growth.specs.Frame.{length_grown}
use Rattle.growth.specs.Grows.{Grows, grown_grows}
use Rattle.growth.specs.Kept.{longer, low_kept, second_kept, high_kept, revision_kept, room_kept, count_grown}
use Rattle.growth.specs.Kept.{size_kept, string_end_kept, line_end_kept, trace_at_kept, trace_at_new, part_kept}
use Rattle.growth.specs.Kept.{trace_kept}
use Rattle.layout.specs.LayoutLaws.{kinded, room_enough}
use Rattle.growth.specs.NewTrace.{has_new}
use Rattle.refusal.specs.Verdicts.{accepted}

-- ---- more bytes behind an area that spells strings are ignored, as "what follows in the area is ignored"

texts_more : (high : Bool) (t : List ℕ) (ss : List Str) (end zs : List ℕ) → texts high t ss end ++ zs ≡ texts high t ss (end ++ zs)
unfolding texts
texts_more high t [] end zs = refl
texts_more high t (s ∷ ss) end zs =
    append_assoc (bytes_of 2 high (size_of t s)) (text_of s ++ (t ++ texts high t ss end)) zs
    ∙ ap (λ (r : List ℕ). bytes_of 2 high (size_of t s) ++ r)
    (append_assoc (text_of s) (t ++ texts high t ss end) zs
    ∙ ap (λ (r : List ℕ). text_of s ++ r)
    (append_assoc t (texts high t ss end) zs ∙ ap (λ (r : List ℕ). t ++ r) (texts_more high t ss end zs)))

pub spells_more : {high : Bool} {t u : List ℕ} {ss : List Str} {l : List ℕ} (zs : List ℕ) → Spells Strict high t u ss l → 0 < length l
    → Spells Strict high t u ss (l ++ zs)
spells_more zs empty h = absurd (omega arith)
spells_more {high} {t} zs (full {ss} (mark rest) r) h =
    rw (texts_more high t ss (marked_end high rest) zs, append_assoc (bytes_of 2 high 0) rest zs) (full (mark (rest ++ zs)) r)
spells_more zs (full (none e) r) h = absurd (never e)

-- ---- the file's strings: with N=0 they ran to the old end, and now run to the new trace, over the gap's zeros

module _ {f g : List ℕ} {x : Trace} (w : Grows f g x) where
  pub strings_end_grown : strings_end g ≡ trace_at g 0
  strings_end_grown =
      let c = count_grown w in
      let some : eqb (count_of g) 0 ≡ false = ne_eqb (count_of g) 0 (λ (e : count_of g ≡ 0). omega arith) in
      rw some

  none_before : {ss : List Str} → count_of f ≡ 0 → Spells Strict (high_first f) (string_end f) (line_end f) ss (part (32 + room_of f) (length f) f)
      → Spells Strict (high_first f) (string_end f) (line_end f) ss (part (32 + room_of f) (trace_at g 0) g)
  none_before {ss} e s =
      let at : trace_at g 0 ≡ round4 (length f) = rw e at (trace_at_new w) in
      let whole : room_of f % 4 ≡ 0 = w.old.file.room.1 in
      let fits : 32 + room_of f ≤ length f = w.old.file.room.2 in
      rw at (elim (dec_le (length f) (32 + room_of f)) [ yes q ↦ tight q whole fits | no q ↦ loose (lt_of_not-le q) ])
    where
      tight : length f ≤ 32 + room_of f → room_of f % 4 ≡ 0 → 32 + room_of f ≤ length f
          → Spells Strict (high_first f) (string_end f) (line_end f) ss (part (32 + room_of f) (round4 (length f)) g)
      tight q m l =
          let a : part (32 + room_of f) (length f) f ≡ [] = part_none (32 + room_of f) (length f) f q in
          let b : part (32 + room_of f) (round4 (length f)) g ≡ [] = part_none (32 + room_of f) (round4 (length f)) g (omega arith) in
          rw b (rw a at s)

      loose : 32 + room_of f < length f → Spells Strict (high_first f) (string_end f) (line_end f) ss (part (32 + room_of f) (round4 (length f)) g)
      loose q =
          let zs : List ℕ = replicate (round4 (length f) - length f) 0 in
          let split : part (32 + room_of f) (round4 (length f)) g ≡ part (32 + room_of f) (length f) f ++ zs =
          part_split (32 + room_of f) (length f) (round4 (length f)) g (omega arith) (round4_up (length f))
          ∙ ap₂ (λ (a b : List ℕ). a ++ b) (part_kept w (32 + room_of f) (length f) (omega arith) (omega arith)) w.gap in
          let long = length_part (32 + room_of f) (length f) f (omega arith) in
          rw split (spells_more zs s (omega arith))

  some_before : {ss : List Str} → 0 < count_of f → Spells Strict (high_first f) (string_end f) (line_end f) ss (part (32 + room_of f) (trace_at f 0) f)
      → Spells Strict (high_first f) (string_end f) (line_end f) ss (part (32 + room_of f) (trace_at g 0) g)
  some_before {ss} l s =
      let k = w.old.traces 0 l in
      let fits : data_at (high_first f) f (trace_at f 0) + data_size_of (high_first f) f (trace_at f 0) ≤ length f = k.inside in
      rw (trace_at_kept w 0 l, part_kept w (32 + room_of f) (trace_at f 0) (omega arith) (omega arith)) s

  file_strings_kept : {ss : List Str} → Spells Strict (high_first f) (string_end f) (line_end f) ss (part (32 + room_of f) (strings_end f) f)
      → Spells Strict (high_first f) (string_end f) (line_end f) ss (part (32 + room_of f) (trace_at g 0) g)
  file_strings_kept {ss} s = go (count_of f) refl s
    where
      go : (c : ℕ) → count_of f ≡ c → Spells Strict (high_first f) (string_end f) (line_end f) ss (part (32 + room_of f) (pick (eqb c 0) (length f) (trace_at f 0)) f)
          → Spells Strict (high_first f) (string_end f) (line_end f) ss (part (32 + room_of f) (trace_at g 0) g)
      go zero e s = none_before e s
      go (suc c) e s = some_before (omega arith) (rw (ne_eqb (suc c) 0 (omega arith)) at s)

  -- so each list that the file's strings spelled, they spell
  pub file_spelled_kept : {ss : List Str} → Spells Strict (high_first f) (string_end f) (line_end f) ss (part (32 + room_of f) (strings_end f) f)
      → Spells Strict (high_first g) (string_end g) (line_end g) ss (part (32 + room_of g) (strings_end g) g)
  file_spelled_kept s =
      rw (strings_end_grown, room_kept w, high_kept w, string_end_kept w, line_end_kept w) (rw (high_kept w) at (file_strings_kept s))

  -- ---- the traces

  pub trace_spelled_kept : {ss : List Str} (k : ℕ) → k < count_of f
      → Spells Strict (high_first f) (string_end f) (line_end f) ss (part (trace_at f k + 32) (data_at (high_first f) f (trace_at f k)) f)
      → Spells Strict (high_first g) (string_end g) (line_end g) ss (part (trace_at g k + 32) (data_at (high_first g) g (trace_at g k)) g)
  trace_spelled_kept k l s = rw ((trace_kept w k l).strings, high_kept w, string_end_kept w, line_end_kept w) s

  ends_kept : (k : ℕ) → k ≤ count_of f → end_before g k ≡ end_before f k
  unfolding end_before
  ends_kept zero l = ap (λ (m : ℕ). 32 + m) (room_kept w)
  ends_kept (suc k) l = (trace_kept w k (omega arith)).ends

  ends_inside : (k : ℕ) → k ≤ count_of f → end_before f k ≤ length f
  unfolding end_before end_at
  ends_inside zero l = w.old.file.room.2
  ends_inside (suc k) l = (w.old.traces k (omega arith)).inside

  -- a trace that keeps the rules, with these strings
  abbrev With : ℕ → List Str → Type 0
  With k ss = (t : KeepsTrace Strict g k) × (t.strings.0 ≡ ss)

  old_keeps : (k : ℕ) (l : k < count_of f) → With k (w.old.traces k l).strings.0
  old_keeps k l =
      let t = w.old.traces k l in
      let s = trace_kept w k l in
      let inside : data_at (high_first f) f (trace_at f k) + data_size_of (high_first f) f (trace_at f k) ≤ length f = t.inside in (
        record {
          aligned = rw s.at t.aligned;
          behind = rw (ends_kept k (omega arith), s.at) t.behind;
          mark = s.mark ∙ t.mark;
          least = rw s.block t.least;
          whole = rw s.block t.whole;
          data_whole = rw s.size t.data_whole;
          inside = rw (s.begins, s.size) (omega (arith, longer w));
          code = rw s.code t.code;
          groups = rw (s.code, s.count) t.groups;
          samples = rw (s.code, s.count, s.size) t.samples;
          strings = (t.strings.0, trace_spelled_kept k l t.strings.1);
          channel = t.channel;
        },
        refl,
      )

  -- the new one's area spells the strings that its sheet means
  pub new_spelled : Spells Strict (high_first g) (string_end g) (line_end g) (area.sheet_strings (line_end f) x.sheet)
      (part (trace_at g (count_of f) + 32) (data_at (high_first g) g (trace_at g (count_of f))) g)
  new_spelled =
      let t : List ℕ = string_end f in
      let u : List ℕ = line_end f in
      rw ((has_new w).strings, high_kept w, string_end_kept w, line_end_kept w)
      (area_spells (high_first f) t u x.sheet (area_size t u x.sheet) (kept_ends w.old) w.sized)

  -- its channel number is as the sheet's line says, which row 35 let through
  abbrev news : List Str
  news = area.sheet_strings (line_end f) x.sheet

  lines : lines_verdict x.sheet ≡ accepted
  lines = (measured_size (string_end f) (line_end f) x.sheet (area_size (string_end f) (line_end f) x.sheet) w.sized).0

  kept_channel : KeepsSheet (eqb (count_of f) 0) (with_of Strict f) x.sheet
  unfolding wrong_channel
  kept_channel = sheet_keeps (eqb (count_of f) 0) (with_of Strict f) x.sheet w.channel

  new_channel : GoodChannel Strict news
  new_channel has =
      let v = value_meant (line_end f) x.sheet lines in
      let some : 0 < count_in (value_of_line (sheet_lines x.sheet) channel_number) = kept_channel.1 (sym (has_meant (line_end f) x.sheet lines) ∙ has) in
      rw v (count_in (value_of_line (sheet_lines x.sheet) channel_number), counted (value_of_line (sheet_lines x.sheet) channel_number) _ some refl)

  new_keeps : With (count_of f) news
  new_keeps =
      let s = has_new w in
      let k = kinded x.code x.samples w.kind in
      let b = area_bounds (high_first f) (string_end f) (line_end f) x.sheet (area_size (string_end f) (line_end f) x.sheet) w.sized in
      let r = room_enough x.code (count x.samples) in (
        record {
          aligned = rw s.at (round4_whole (length f));
          behind = rw (ends_kept (count_of f) (omega arith), s.at) (omega (arith, ends_inside (count_of f) (omega arith)));
          mark = s.mark;
          least = rw s.block (omega arith);
          whole = rw s.block (omega (arith, b.1));
          data_whole = rw s.size r.1;
          inside = rw (s.begins, s.size, w.size) (omega arith);
          code = rw s.code (k.least, k.most);
          groups = rw (s.code, s.count) k.groups;
          samples = rw (s.code, s.count, s.size) r.0;
          strings = (news, new_spelled);
          channel = λ _. new_channel;
        },
        refl,
      )

  -- every trace has a channel number as the new one has: an old one as trace 0 has, and so has the new one where there
  -- is a trace 0
  abbrev Alike : ℕ → Type 0
  Alike k = (t : KeepsTrace Strict g k) × (has_key Strict t.strings.0 channel_number ≡ has_key Strict news channel_number)

  as_the_first : 0 < count_of f → has_key Strict news channel_number ≡ with_of Strict f
  as_the_first some =
      has_meant (line_end f) x.sheet lines ∙ kept_channel.0 (ne_eqb (count_of f) 0 (λ (e : count_of f ≡ 0). omega arith))

  each_keeps : (k : ℕ) → k < count_of f + 1 → Alike k
  each_keeps k l = elim (dec_le (count_of f) k) [ yes q ↦ here q | no q ↦ before (lt_of_not-le q) ]
    where
      here : count_of f ≤ k → Alike k
      here q =
          let e : count_of f ≡ k = omega arith in
          let n : Alike (count_of f) = (new_keeps.0, ap (λ (ss : List Str). has_key Strict ss channel_number) new_keeps.1) in
          rw e at n

      before : k < count_of f → Alike k
      before q =
          let o = old_keeps k q in
          (o.0, ap (λ (ss : List Str). has_key Strict ss channel_number) o.1 ∙ as_first w.old k q refl ∙ sym (as_the_first (omega arith)))

  -- so trace 0 has one where the new sheet has
  pub grown_numbered : with_of Strict g ≡ has_line (sheet_lines x.sheet) channel_number
  grown_numbered =
      let t = each_keeps 0 (omega arith) in
      let i : data_at (high_first g) g (trace_at g 0) + data_size_of (high_first g) g (trace_at g 0) ≤ length g = t.0.inside in
      (channel_spelled Strict g 0 t.0.strings.0 t.0.least (omega arith) t.0.strings.1).0 ∙ t.1 ∙ has_meant (line_end f) x.sheet lines

  -- ---- the whole

  pub grows_keeps : Keeps Strict Read g
  grows_keeps =
      let c : count_of g ≡ count_of f + 1 = count_grown w in
      let o = w.old.file in
      let l = longer w in
      let s = o.strings in
      record {
        file = record {
          extent = (omega (arith, o.extent.0), w.most);
          first = rw (low_kept w, second_kept w) o.first;
          revision = revision_kept w ∙ o.revision;
          room = rw (room_kept w) (o.room.0, o.room.1, omega (arith, o.room.2));
          some = λ (e : count_of g ≡ 0). absurd (omega arith);
          count = rw (c, room_kept w) (omega (arith, w.slot));
          string_end_lem =
              record {
                size = rw (size_kept w 8 (omega arith) (omega arith)) o.string_end_lem.size;
                characters = rw (string_end_kept w) o.string_end_lem.characters;
              };
          line_end_lem = record {
            size = rw (size_kept w 11 (omega arith) (omega arith)) o.line_end_lem.size;
            characters = rw (line_end_kept w) o.line_end_lem.characters;
          };
          ends_apart = rw (string_end_kept w, line_end_kept w) o.ends_apart;
          strings = (s.0, file_spelled_kept s.1);
        };
        traces = λ k m. (each_keeps k (omega arith)).0;
        channels = λ _. all_or_none (has_key Strict news channel_number) (λ k m. (each_keeps k (omega arith)).1);
      }

-- a file is also an image that an addition takes
pub keeps_any : (purpose : Purpose) {f : List ℕ} → Keeps Strict Read f → Keeps Strict purpose f
keeps_any purpose h =
    let o = h.file in
    record {
      file = record {
        extent = o.extent;
        first = o.first;
        revision = o.revision;
        room = o.room;
        some = λ e. (let n : Read ≡ Grow = o.some e in let z : ◌≡◌ {A = ℕ} 0 1 = cc in absurd (omega arith));
        count = o.count;
        string_end_lem = o.string_end_lem;
        line_end_lem = o.line_end_lem;
        ends_apart = o.ends_apart;
        strings = o.strings;
      };
      traces = h.traces;
      channels = h.channels;
    }
