-- Theorems on what specs/Images defines. They stand here, as a wrong definition there is to be refused and not to be unread.
-- Assumes nothing.
use Rattle.std.specs.Prelude.{◌≡◌, length, take, drop, Bool, true, false, List, ℕ, zero, suc, ◌+◌, ◌-◌, ◌≤◌, ◌<◌, get_or, eqb}
use Rattle.std.proofs.Common.{refl, sym, ap, ◌∙◌, length-take, lt_of_not-le, get_or-take, take-take, take_all, arith, eq-eqb}
use native.Mathlib.Omega.{by_contra}
use Rattle.std.proofs.Math.Decide.{dec_le}
use Rattle.head_limits.specs.declared.Purpose.{Purpose}
use Rattle.text.specs.declared.Manner.TheVariants.{Strict}
use Rattle.word.specs.Tests.{never}
use Rattle.word.specs.Part.{part, drop_take}
use Rattle.refusal.specs.Rows.{pick}
use Rattle.refusal.specs.declared.Part.{Part}
use Rattle.refusal.specs.declared.Part.TheVariants.{File, Trace}
use Rattle.head_words.specs.HeadWords.{high_first, revision_of, room_of, count_of}
use Rattle.terminators.specs.Terminators.{terminator_at, string_end, line_end, good_terminator}
use Rattle.head.specs.Head.{head_of}
use Rattle.block.specs.Block.{pointer_of, block_size_of, data_at, end_at, block_of}
use Rattle.trace.specs.Trace.{area_verdict, channel_at}
use Rattle.traces.specs.Traces.{with_channel, trace_of, traces_from}
use Rattle.image.specs.Image.{filled_checks, rest_of, image_of}
use Rattle.block.specs.BlockLaws.{head_at, own_mark, own_size, own_data, own_samples, own_code}
use Rattle.refusal.specs.FirstRow.{first_of}
use Rattle.image.specs.Keeps.{trace_at}
use Rattle.strings.specs.declared.Place.{Place}
use Rattle.strings.specs.Strings.{places_of, find_of, found, value_found}
use Rattle.channel.specs.Channel.{channel_number}
use Rattle.ignored.specs.Areas.{SameAt, find_same, value_same}
use Rattle.ignored.proofs.Areas.{strings_same, places_same, texts_same}
use Rattle.ignored.specs.Images.{Alike, AlikeHead, AlikeStrings, AlikeTrace, file_front, front_byte, head_room}
use Rattle.ignored.specs.Images.{head_traces, head_word, of_head, part_long, same_block, same_code, same_count}
use Rattle.ignored.specs.Images.{same_data, same_end, same_mark, same_order, same_pointer, same_room, same_traces}

module _ {f g : List ℕ} (a : AlikeHead f g) where
  head_revision : revision_of f ≡ revision_of g
  unfolding revision_of
  head_revision = (head_word a) 2 (omega arith)

  head_size : get_or f 8 0 ≡ get_or g 8 0
  head_size = (front_byte a) 8 (omega arith)

  head_same : (purpose : Purpose) (end : ℕ) → head_of purpose f end ≡ head_of purpose g end
  unfolding head_of good_terminator
  head_same purpose end =
      rw (
        (front_byte a) 0 (omega arith),
        (front_byte a) 1 (omega arith),
        head_revision,
        (head_room a),
        (head_traces a),
        head_size,
        a.string_end_lem,
        a.line_size,
        a.line_end_lem,
      )

-- a front of a part is the part of a front
take_swap : (i j : ℕ) (l : List ℕ) → take i (take j l) ≡ take j (take i l)
take_swap i j l = elim (dec_le i j) [ yes h ↦ less i j h | no h ↦ sym (less j i (omega (arith, lt_of_not-le h))) ]
  where
    less : (m n : ℕ) → m ≤ n → take m (take n l) ≡ take n (take m l)
    less m n h = take-take m n l h ∙ sym (take_all n (take m l) (let k = length-take m l in omega arith))

front_end : (f : List ℕ) (at : ℕ) → at < 32 → terminator_at (take 32 f) at ≡ take (32 - (at + 1)) (terminator_at f at)
unfolding terminator_at
front_end f at h =
    rw (get_or-take 32 f at 0 h, drop_take (at + 1) 32 f) (take_swap (at + 1 + get_or f at 0 - (at + 1)) (32 - (at + 1)) (drop (at + 1) f))

front_alike : {f g : List ℕ} → AlikeHead f g → AlikeHead (take 32 f) (take 32 g)
front_alike {f} {g} a =
    record {
      front = take-take file_front 32 f (omega arith) ∙ a.front ∙ sym (take-take file_front 32 g (omega arith));
      string_end_lem = front_end f 8 (omega arith) ∙ ap (take 23) a.string_end_lem ∙ sym (front_end g 8 (omega arith));
      line_size = get_or-take 32 f 11 0 (omega arith) ∙ a.line_size ∙ sym (get_or-take 32 g 11 0 (omega arith));
      line_end_lem = front_end f 11 (omega arith) ∙ ap (take 20) a.line_end_lem ∙ sym (front_end g 11 (omega arith));
    }

module _ {f g : List ℕ} (a : Alike f g) where
  pub same_size : get_or f 8 0 ≡ get_or g 8 0
  same_size = head_size (of_head a)

  same_head : (purpose : Purpose) → head_of purpose (take 32 f) (length f) ≡ head_of purpose (take 32 g) (length g)
  same_head purpose = rw a.size (head_same (front_alike (of_head a)) purpose (length g))

  -- ---- the check

  same_area : (u : List ℕ) (whose : Part) (b e : ℕ) → AlikeStrings f g b e
      → area_verdict Strict (high_first f) (string_end f) u f whose b e ≡ area_verdict Strict (high_first f) (string_end f) u g whose b e
  unfolding area_verdict
  same_area u whose b e q = strings_same (high_first f) (string_end f) u whose (part b e f) (part b e g) b (part_long b e f g a.size) q

  same_rows : (k p : ℕ) → AlikeTrace f g p
      → block_of (high_first f) (head_at f p) (length f) k p ≡ block_of (high_first f) (head_at g p) (length g) k p
  unfolding block_of
  same_rows k p t =
      let h : Bool = high_first f in
      rw (
        own_mark h f p,
        own_size h f p,
        own_data h f p,
        own_samples h f p,
        own_code h f p,
        own_mark h g p,
        own_size h g p,
        own_data h g p,
        own_samples h g p,
        own_code h g p,
      )
      (rw ((same_mark a) t, (same_block a) t, (same_data a) t, (same_count a) t, (same_code a) t, a.size))

  -- a trace's channel number
  same_channel : (p : ℕ) → AlikeTrace f g p
      → (channel_at Strict (high_first f) (string_end f) f p ≡ channel_at Strict (high_first f) (string_end f) g p)
      × (value_found f (channel_at Strict (high_first f) (string_end f) f p) ≡ value_found g (channel_at Strict (high_first f) (string_end f) g p))
  unfolding channel_at
  same_channel p t =
      let e : ℕ = data_at (high_first f) f p in
      let ps : List Place = places_of Strict (high_first f) (string_end f) (part (p + 32) e f) (p + 32) in
      let s : SameAt f g ps = texts_same (high_first f) (string_end f) f g (p + 32) e t.strings in
      let q : ps ≡ places_of Strict (high_first f) (string_end f) (part (p + 32) (data_at (high_first f) g p) g) (p + 32) =
      places_same (high_first f) (string_end f) (part (p + 32) e f) (part (p + 32) e g) (p + 32) (part_long (p + 32) e f g a.size) t.strings
      ∙ ap (λ (b : ℕ). places_of Strict (high_first f) (string_end f) (part (p + 32) (p + b) g) (p + 32)) ((same_block a) t) in (
        find_same f g ps channel_number s ∙ ap (λ (rs : List Place). find_of Strict g rs channel_number) q,
        value_same f g ps channel_number s ∙ ap (λ (rs : List Place). value_found g (find_of Strict g rs channel_number)) q,
      )

  same_with : 0 < count_of f → with_channel Strict (high_first f) (string_end f) f ≡ with_channel Strict (high_first f) (string_end f) g
  same_with low =
      ap found (same_channel (pointer_of (high_first f) f 0) (a.traces 0 low)).0
      ∙ ap (λ (p : ℕ). found (channel_at Strict (high_first f) (string_end f) g p)) ((same_pointer a) 0 low)

  same_trace : (u : List ℕ) (k prev : ℕ) → k < count_of f
      → trace_of Strict (high_first f) (string_end f) u f k prev ≡ trace_of Strict (high_first f) (string_end f) u g k prev
  unfolding trace_of
  same_trace u k prev low =
      let t = a.traces k low in
      let q : ℕ = pointer_of (high_first f) f k in
      let c = same_channel q t in
      rw (
        same_rows k q t,
        same_area u (Trace k) (q + 32) (q + block_size_of (high_first f) f q) t.strings,
        (same_block a) t,
        a.size,
        c.1,
        c.0,
        same_with (omega arith),
        (same_pointer a) k low,
      )

  same_walk : (u : List ℕ) (left k prev : ℕ) → k + left ≡ count_of f
      → traces_from Strict (high_first f) (string_end f) u f left k prev ≡ traces_from Strict (high_first f) (string_end f) u g left k prev
  unfolding traces_from
  same_walk u zero k prev h = refl
  same_walk u (suc left) k prev h =
      let low : k < count_of f = omega arith in
      let p = (same_pointer a) k low in
      let e : end_at (high_first f) f (pointer_of (high_first f) f k) ≡ end_at (high_first f) g (pointer_of (high_first f) g k) =
      (same_end a) (a.traces k low) ∙ ap (end_at (high_first f) g) p in
      rw (same_trace u k prev low, same_walk u left (k + 1) (end_at (high_first f) f (pointer_of (high_first f) f k)) (omega arith), e)

  same_rest : rest_of Strict (high_first f) (string_end f) (line_end f) f (room_of f) (count_of f)
      ≡ rest_of Strict (high_first f) (string_end f) (line_end f) g (room_of f) (count_of f)
  unfolding rest_of
  same_rest = go (eqb (count_of f) 0) refl a.strings
    where
      go : (w : Bool) → eqb (count_of f) 0 ≡ w → AlikeStrings f g (32 + room_of f) (pick w (length f) (trace_at f 0))
          → pick w (area_verdict Strict (high_first f) (string_end f) (line_end f) f File (32 + room_of f) (length f))
          (first_of (filled_checks Strict (high_first f) (string_end f) (line_end f) f (room_of f) (count_of f)))
          ≡ pick w (area_verdict Strict (high_first f) (string_end f) (line_end f) g File (32 + room_of f) (length g))
          (first_of (filled_checks Strict (high_first f) (string_end f) (line_end f) g (room_of f) (count_of f)))
      go true e q =
          same_area (line_end f) File (32 + room_of f) (length f) q
          ∙ ap (area_verdict Strict (high_first f) (string_end f) (line_end f) g File (32 + room_of f)) a.size
      go false e q =
          let some : (count_of f ≡ 0) → ⊥ = λ (z : count_of f ≡ 0). never (sym e ∙ eq-eqb (count_of f) 0 z) in
          let low : 0 < count_of f = by_contra 1 (count_of f) (λ m. some (omega arith)) in
          rw (
            same_area (line_end f) File (32 + room_of f) (pointer_of (high_first f) f 0) q,
            same_walk (line_end f) (count_of f) 0 (32 + room_of f) (omega arith),
            (same_pointer a) 0 low,
            a.size,
          )

  -- Rules out a check that looks at a reserved byte, a free slot or a gap.
  pub same_image : (purpose : Purpose) → image_of Strict purpose f ≡ image_of Strict purpose g
  unfolding image_of
  same_image purpose =
      rw (same_head purpose, same_rest, (same_order a), a.string_end_lem, a.line_end_lem, (same_room a), (same_traces a))
