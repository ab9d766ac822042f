-- Theorems on what specs/Kept defines. They stand here, as a wrong definition there is to be refused and not to be unread.
-- Assumes nothing.
use Rattle.std.specs.Prelude.{◌≡◌, refl, Bool, true, false, get_or, take, replicate, eqb, List, [], ◌∷◌, ◌++◌, ℕ, zero, suc, ◌+◌, ◌-◌, ◌*◌, ◌%◌, ◌≤◌}
use Rattle.std.specs.Prelude.{◌<◌, length}
use Rattle.std.proofs.Common.{sym, ap, ◌∙◌, inr, arith, length-append, eqb-true, append_assoc, inl}
use Rattle.std.proofs.lemmas.List.{length-replicate}
use Rattle.std.proofs.lemmas.Bool.{eqb-false}
use Rattle.head_limits.specs.declared.Purpose.TheVariants.{Grow}
use Rattle.head_limits.specs.declared.Purpose.{Purpose}
use Rattle.text.specs.declared.Manner.TheVariants.{Strict}
use Rattle.word.specs.Part.{part, part_among}
use Rattle.refusal.specs.Rows.{pick}
use Rattle.chars.specs.Runs.{all}
use Rattle.strings.specs.Spelled.{Spells, has_key}
use Rattle.channel.specs.Channel.{channel_number}
use Rattle.sheet_channel.specs.Meant.{has_meant, value_meant}
use Rattle.sheet.specs.Area.{sheet_strings, area_of, area_size}
use Rattle.sheet.specs.Sizes.{length_area}
use Rattle.area.specs.Spelling.{measured_size, area_spells}
use Rattle.head_words.specs.HeadWords.{high_first, count_of}
use Rattle.head.specs.Head.{maximum}
use Rattle.terminators.specs.Terminators.{string_end, line_end, apart}
use Rattle.block.specs.Block.{pointer_of, data_size_of, data_at, end_at}
use Rattle.image.specs.Image.{check_of}
use Rattle.image.specs.Keeps.{trace_at, end_before, strings_end, GoodChannel, KeepsTrace, AllOrNone, Keeps}
use Rattle.image.specs.Accepted.{with_of, channel_spelled, all_or_none}
use Rattle.image.proofs.Accepted.{keeps_accepted}
use Rattle.layout.specs.Layout.{slots_most, nul, line_feed, file_block, start_size, Trace, count}
use Rattle.afresh.specs.FileOf.{pointers, blocks, file_of, file_size, Measures, has_channel, Good, EachHas, Together}
use Rattle.afresh.specs.FileOf.{AllGood, Holds}
use Rattle.layout.specs.LayoutLaws.{length_file_block, Fronted, kinded, room_enough, area_whole, Stands}
use Rattle.afresh.specs.FileLaws.{length_pointers, file_whole, size_none, size_low, file_fronted}
use Rattle.afresh.proofs.FileLaws.{length_file}
use Rattle.afresh.specs.FileLaws.{has_nth}
use Rattle.afresh.specs.Stands.{empty_trace, Traced}
use Rattle.afresh.proofs.Stands.{file_traces}
use Rattle.afresh.specs.Kept.{feed_ends}
use Rattle.refusal.specs.Verdicts.{accepted}

spelled : (high : Bool) (sheet : List ℕ) → Measures sheet → Spells Strict high nul line_feed (sheet_strings line_feed sheet) (area_of high nul line_feed sheet)
spelled high sheet m = area_spells high nul line_feed sheet m.0 feed_ends m.1

-- the channel number of a sheet's strings is that of its line
meant : (x : Trace) → Measures x.sheet → has_key Strict (sheet_strings line_feed x.sheet) channel_number ≡ has_channel x
meant x m = has_meant line_feed x.sheet (measured_size nul line_feed x.sheet m.0 m.1).0

good_channel : (x : Trace) → Good x → GoodChannel Strict (sheet_strings line_feed x.sheet)
good_channel x g has =
    let m = g.measures in
    rw (value_meant line_feed x.sheet (measured_size nul line_feed x.sheet m.0 m.1).0) (g.channel (sym (meant x m) ∙ has))

-- ---- a trace: it keeps the rules, and has a channel number where its sheet has
keeps_trace : (high : Bool) (f : List ℕ) (k p : ℕ) (x : Trace) → high_first f ≡ high → string_end f ≡ nul → line_end f ≡ line_feed → pointer_of high f k ≡ p
    → Stands high nul line_feed f p x → Good x → p % 4 ≡ 0 → end_before f k ≤ p
    → (t : KeepsTrace Strict f k) × (has_key Strict t.strings.0 channel_number ≡ has_channel x)
keeps_trace high f k p x o s l at h g w b =
    let a = area_whole nul line_feed x.sheet in
    let d = room_enough x.code (count x.samples) in
    let c = kinded x.code x.samples g.kind in
    let i = h.inside in (
      record {
        aligned = rw (o, at) w;
        behind = rw (o, at) b;
        mark = rw (o, at) h.mark;
        least = rw (o, at, h.block) (omega arith);
        whole = rw (o, at, h.block) (omega arith);
        data_whole = rw (o, at, h.bytes) d.1;
        inside = rw (o, at, h.block, h.bytes) (omega arith);
        code = rw (o, at, h.code) (c.least, c.most);
        groups = rw (o, at, h.code, h.number) c.groups;
        samples = rw (o, at, h.code, h.number, h.bytes) d.0;
        strings = (sheet_strings line_feed x.sheet, rw (o, s, l, at, h.block, h.area) (spelled high x.sheet g.measures));
        channel = λ _. good_channel x g;
      },
      meant x g.measures,
    )

-- ---- the file's strings
ends_at : (c l t e : ℕ) → (c ≡ 0 → l ≡ e) → (0 < c → t ≡ e) → pick (eqb c 0) l t ≡ e
ends_at c l t e h k = go (eqb c 0) refl
  where
    go : (w : Bool) → eqb c 0 ≡ w → pick w l t ≡ e
    go true q = h (eqb-true c 0 q)
    go false q = let z = eqb-false c 0 q in k (omega arith)

pub file_strings : (high : Bool) (slots : ℕ) (sheet : List ℕ) (ts : List Trace) → length ts ≤ slots
    → part (32 + 4 * slots) (start_size slots sheet) (file_of high slots sheet ts) ≡ area_of high nul line_feed sheet
unfolding file_of start_size
file_strings high slots sheet ts h =
    let fb = file_block high (4 * slots) (length ts) in
    let ptrs = pointers high (start_size slots sheet) ts in
    let free : List ℕ = replicate (4 * (slots - length ts)) 0 in
    let area = area_of high nul line_feed sheet in
    let a = length-append fb (ptrs ++ free) in
    let b = length-append ptrs free in
    let c = length_file_block high (4 * slots) (length ts) in
    let d = length_pointers high (start_size slots sheet) ts in
    let e = length-replicate {A = ℕ} (4 * (slots - length ts)) 0 in
    let g = length_area high nul line_feed sheet in
    let s : (fb ++ (ptrs ++ free)) ++ (area ++ blocks high ts) ≡ fb ++ (ptrs ++ (free ++ (area ++ blocks high ts))) = simp append_assoc in
    ap (λ (r : List ℕ). part (32 + 4 * slots) (32 + 4 * slots + area_size nul line_feed sheet) r) (sym s)
    ∙ part_among (fb ++ (ptrs ++ free)) area (blocks high ts) (32 + 4 * slots) (32 + 4 * slots + area_size nul line_feed sheet) (omega arith) (omega arith)

none_left : (ts : List Trace) → length ts ≡ 0 → ts ≡ []
none_left [] h = refl
none_left (x ∷ ts) h = absurd (omega arith)

module _ (high : Bool) (slots : ℕ) (sheet : List ℕ) (ts : List Trace) (few : slots ≤ slots_most) (good : AllGood ts) (slotted : length ts ≤ slots)
    (most : file_size slots sheet ts ≤ maximum) where
  abbrev file : List ℕ
  file = file_of high slots sheet ts

  front : Fronted high (4 * slots) (length ts) file
  front = file_fronted high slots sheet ts few slotted

  long : length file ≡ file_size slots sheet ts
  long = length_file high slots sheet ts slotted good.0

  here : (k : ℕ) → k < length ts → Traced high slots sheet ts k
  here = file_traces high slots sheet ts slotted good.0 most

  -- each trace begins where what stands before it ends, and the first behind the file's strings
  before : (k : ℕ) → k ≤ length ts → end_before file k ≤ file_size slots sheet (take k ts)
  unfolding end_before end_at
  before zero h = let l = size_low slots sheet [] in rw front.room l
  before (suc k) h =
      let t = here k (omega arith) in
      let s = t.here in
      let n = t.next in
      rw (front.order, t.pointer, s.block, s.bytes) (omega arith)

  strings_end_lem : strings_end file ≡ start_size slots sheet
  strings_end_lem =
      ends_at (count_of file) (length file) (trace_at file 0) (start_size slots sheet)
      (λ z.
      (let e : length ts ≡ 0 = sym front.count ∙ z in
      long ∙ ap (file_size slots sheet) (none_left ts e) ∙ size_none slots sheet))
      (λ z.
      (let e : 0 < length ts = rw front.count at z in
      let t = here 0 e in
      rw front.order (t.pointer ∙ size_none slots sheet)))

  each_keeps : (k : ℕ) → k < length ts
      → (t : KeepsTrace Strict file k) × (has_key Strict t.strings.0 channel_number ≡ has_channel (get_or ts k empty_trace))
  each_keeps k l =
      let t = here k l in
      keeps_trace high file k (file_size slots sheet (take k ts)) (get_or ts k empty_trace) front.order front.strings front.lines t.pointer t.here
      t.good (file_whole slots sheet (take k ts)) (before k (omega arith))

  -- so trace 0 has a channel number where the first of the list has
  pub file_with : 0 < length ts → with_of Strict file ≡ has_channel (get_or ts 0 empty_trace)
  file_with some =
      let t = each_keeps 0 some in
      let i : data_at (high_first file) file (trace_at file 0) + data_size_of (high_first file) file (trace_at file 0) ≤ length file = t.0.inside in
      (channel_spelled Strict file 0 t.0.strings.0 t.0.least (omega arith) t.0.strings.1).0 ∙ t.1

  pub file_keeps : 1 ≤ slots → Measures sheet → (purpose : Purpose) → (length ts ≡ 0 → purpose ≡ Grow) → Keeps Strict purpose file
  unfolding apart all
  file_keeps some measures purpose none =
      let low = size_low slots sheet ts in
      record {
        file = record {
          extent = (omega (arith, long), omega (arith, long));
          first = front.first;
          revision = front.revision;
          room = (rw front.room (omega arith), rw front.room (omega arith), rw front.room (omega (arith, long)));
          some = λ z. none (sym front.count ∙ z);
          count = rw (front.count, front.room) (omega arith);
          string_end_lem = record { size = inl front.ones.0; characters = rw front.strings };
          line_end_lem = record { size = inl front.ones.1; characters = rw front.lines };
          ends_apart = rw (front.strings, front.lines);
          strings = (
            sheet_strings line_feed sheet,
            rw (strings_end_lem, front.order, front.strings, front.lines, front.room, file_strings high slots sheet ts slotted) (spelled high sheet measures),
          );
        };
        traces = λ k h. (each_keeps k (rw front.count at h)).0;
        channels = λ _. together good.1;
      }
    where
      told : (w : Bool) → EachHas w ts → (k : ℕ) (h : k < count_of file)
          → has_key Strict (each_keeps k (rw front.count at h)).0.strings.0 channel_number ≡ w
      told w e k h = let l : k < length ts = rw front.count at h in (each_keeps k l).1 ∙ has_nth w empty_trace ts k e l

      together : Together ts → AllOrNone (count_of file) (λ k h. has_key Strict (each_keeps k (rw front.count at h)).0.strings.0 channel_number)
      together (inl e) = all_or_none true (told true e)
      together (inr e) = all_or_none false (told false e)

-- and the check accepts it, in any buffer that holds it
pub file_accepted : (purpose : Purpose) (high : Bool) (slots : ℕ) (sheet : List ℕ) (ts : List Trace) (xs : List ℕ) (n : ℕ)
    → Holds high slots sheet ts xs n → 1 ≤ slots
    → Measures sheet → n ≤ maximum → (length ts ≡ 0 → purpose ≡ Grow) → check_of Strict purpose xs n ≡ accepted
file_accepted purpose high slots sheet ts xs n is some measures most none =
    let s = is.size in
    let k = file_keeps high slots sheet ts is.few is.good is.slotted (omega arith) some measures purpose none in
    keeps_accepted Strict purpose xs n is.fits (rw is.image k)
