-- Theorems on what specs/Step defines. They stand here, as a wrong definition there is to be refused and not to be unread.
-- Assumes nothing.
use Rattle.std.specs.Prelude.{◌≡◌, refl, Bool, false, List, [], ◌∷◌, ◌++◌, ℕ, suc, ◌+◌, ◌-◌, ◌*◌, ◌%◌, ◌≤◌, ◌<◌, length, get_or, take, drop}
use Rattle.std.specs.Prelude.{replicate, eqb, Ok}
use Rattle.std.proofs.Common.{sym, ap, ap₂, ◌∙◌, append_assoc, inl, length-append, ne_eqb, arith}
use Rattle.std.proofs.lemmas.List.{replicate-append-replicate}
use Rattle.head_limits.specs.declared.Purpose.TheVariants.{Grow}
use Rattle.text.specs.declared.Manner.TheVariants.{Strict}
use Rattle.word.specs.Put.{put, length_put, take_put, drop_put_after, put_among, take_put_end}
use Rattle.word.specs.Round.{round4, round4_same}
use Rattle.word.specs.Word.{bytes_of}
use Rattle.word.specs.WordLaws.{length_bytes_of}
use Rattle.sheet.specs.Lines.{sheet_lines}
use Rattle.sheet.specs.Area.{area_of, area_size}
use Rattle.channel.specs.Count.{counted}
use Rattle.channel.specs.Channel.{channel_number}
use Rattle.channel_line.specs.ChannelLine.{value_of_line}
use Rattle.sheet_channel.specs.Meant.{KeepsSheet, sheet_keeps}
use Rattle.head_words.specs.HeadWords.{room_of, count_of}
use Rattle.layout.specs.Layout.{plain_ends, nul, line_feed, file_block, start_image, start_size, Trace, trace_size}
use Rattle.layout.specs.Layout.{trace_bytes}
use Rattle.start.specs.Start.{start_answer, start_left}
use Rattle.append.specs.Grown.{new_length, new_bytes, grown}
use Rattle.image.specs.Accepted.{with_of}
use Rattle.opening.specs.Opening.{wrong_channel}
use Rattle.writer.specs.Answers.{add_answer, add_left}
use Rattle.afresh.specs.FileOf.{sizes, pointers, blocks, file_of, file_size, has_channel, Good, Together, Holds}
use Rattle.layout.specs.LayoutLaws.{front_of, length_front, around_count, length_file_block, Fronted}
use Rattle.layout.specs.LayoutLaws.{length_trace_bytes}
use Rattle.start.specs.StartShown.{started, start_left_lem}
use Rattle.opening.specs.OpeningLaws.{placed}
use Rattle.writer.specs.Shown.{Added, added, add_left_lem}
use Rattle.afresh.specs.FileLaws.{file_whole, length_pointers, file_none, size_none, size_low}
use Rattle.afresh.proofs.FileLaws.{pointers_more}
use Rattle.afresh.specs.FileLaws.{length_more, good_append, behind, file_fronted, has_append}
use Rattle.afresh.proofs.FileLaws.{blocks_more, size_more}
use Rattle.afresh.specs.FileLaws.{together_first, first_together}
use Rattle.afresh.specs.Stands.{empty_trace}
use Rattle.afresh.proofs.Kept.{file_with}
use Rattle.afresh.specs.Step.{length_start, start_past}

module _ (xs : List ℕ) (order slots : ℕ) (sheet : List ℕ) (e : ℕ) (to : start_answer xs order slots sheet ≡ Ok e) where
  pub start_afresh : Holds (eqb order 1) slots sheet [] (start_left xs order slots sheet) e
  start_afresh =
      let l = (length_start xs order slots sheet e to) in
      let s = started xs order slots sheet e to in
      let z = s.in_buffer in
      let k : 0 + length (start_image (eqb order 1) slots sheet) ≡ e = omega arith in
      let i = take_put_end (start_image (eqb order 1) slots sheet) xs 0 (omega arith) in
      record {
        image = rw (start_left_lem xs order slots sheet e to) ((rw k at i) ∙ sym (file_none (eqb order 1) slots sheet));
        size = sym s.new ∙ sym (size_none slots sheet);
        fits = omega (arith, (start_past xs order slots sheet e to).1);
        good = (tt, inl tt);
        slotted = omega arith;
        few = s.few;
      }

-- ---- an addition

-- N and a slot are written over, each by as many bytes
two_puts : (a c d e p q s r : List ℕ) (at : ℕ) → length a ≡ 6 → length c ≡ length d → length (a ++ (c ++ e)) + length p ≡ at → length q ≡ length s
    → put (put ((a ++ (c ++ e)) ++ (p ++ (q ++ r))) at s) 6 d ≡ (a ++ (d ++ e)) ++ (p ++ (s ++ r))
two_puts a c d e p q s r at h k l m =
    let w = p ++ (s ++ r) in
    let n : length ((a ++ (c ++ e)) ++ p) ≡ at = length-append (a ++ (c ++ e)) p ∙ l in
    let one : put ((a ++ (c ++ e)) ++ (p ++ (q ++ r))) at s ≡ (a ++ (c ++ e)) ++ w =
    ap (λ (z : List ℕ). put z at s) (sym (append_assoc (a ++ (c ++ e)) p (q ++ r)))
    ∙ put_among ((a ++ (c ++ e)) ++ p) q s r at n m
    ∙ append_assoc (a ++ (c ++ e)) p (s ++ r) in
    let around : (b : List ℕ) → (a ++ (b ++ e)) ++ w ≡ a ++ (b ++ (e ++ w)) =
    λ (b : List ℕ). append_assoc a (b ++ e) w ∙ ap (λ (z : List ℕ). a ++ z) (append_assoc b e w) in
    ap (λ (z : List ℕ). put z 6 d) (one ∙ around c) ∙ put_among a c d (e ++ w) 6 h k ∙ sym (around d)

-- a free slot is the first of the free ones
free_slot : (slots n : ℕ) → n < slots → ◌≡◌ {A = List ℕ} (replicate (4 * (slots - n)) 0) (replicate 4 0 ++ replicate (4 * (slots - (n + 1))) 0)
free_slot slots n h =
    let e : 4 * (slots - n) ≡ 4 + 4 * (slots - (n + 1)) = omega arith in
    ap (λ (k : ℕ). replicate k 0) e ∙ sym (replicate-append-replicate 4 (4 * (slots - (n + 1))) 0)

-- the key of it: the trace behind the file, its place in slot N, and N one more
pub file_more : (high : Bool) (slots : ℕ) (sheet : List ℕ) (ts : List Trace) (x : Trace) → length ts < slots
    → put (put (file_of high slots sheet ts ++ trace_bytes high nul line_feed x) (32 + 4 * length ts) (bytes_of 4 high (file_size slots sheet ts))) 6
    (bytes_of 2 high (length ts + 1))
    ≡ file_of high slots sheet (ts ++ (x ∷ []))
unfolding file_of file_size
file_more high slots sheet ts x h =
    let n : ℕ = length ts in
    let size : ℕ = start_size slots sheet + sizes ts in
    let p = pointers high (start_size slots sheet) ts in
    let area = area_of high nul line_feed sheet in
    let b = blocks high ts in
    let t = trace_bytes high nul line_feed x in
    let free : List ℕ = replicate (4 * (slots - (n + 1))) 0 in
    let r = free ++ (area ++ (b ++ t)) in
    let front = front_of high (4 * slots) in
    let old : (file_block high (4 * slots) n ++ (p ++ (replicate (4 * (slots - n)) 0 ++ (area ++ b)))) ++ t
    ≡ (front ++ (bytes_of 2 high n ++ plain_ends)) ++ (p ++ (replicate 4 0 ++ r)) =
    behind (file_block high (4 * slots) n) p (replicate (4 * (slots - n)) 0) area b t
    ∙ ap (λ (z : List ℕ). z ++ (p ++ (replicate (4 * (slots - n)) 0 ++ (area ++ (b ++ t))))) (around_count high (4 * slots) n)
    ∙ ap (λ (z : List ℕ). (front ++ (bytes_of 2 high n ++ plain_ends)) ++ (p ++ (z ++ (area ++ (b ++ t))))) (free_slot slots n h)
    ∙ ap (λ (z : List ℕ). (front ++ (bytes_of 2 high n ++ plain_ends)) ++ (p ++ z)) (append_assoc (replicate 4 0) free (area ++ (b ++ t))) in
    let head : length (front ++ (bytes_of 2 high n ++ plain_ends)) ≡ 32 = sym (ap length (around_count high (4 * slots) n))
    ∙ length_file_block high (4 * slots) n in
    let slotted = length_pointers high (start_size slots sheet) ts in
    let puts = two_puts front (bytes_of 2 high n) (bytes_of 2 high (n + 1)) plain_ends p (replicate 4 0) (bytes_of 4 high size) r (32 + 4 * n)
    (length_front high (4 * slots)) (length_bytes_of 2 high n ∙ sym (length_bytes_of 2 high (n + 1))) (omega arith) (sym (length_bytes_of 4 high size)) in
    let new : (front ++ (bytes_of 2 high (n + 1) ++ plain_ends)) ++ (p ++ (bytes_of 4 high size ++ r))
    ≡ file_block high (4 * slots) (n + 1) ++ ((p ++ bytes_of 4 high size) ++ (free ++ (area ++ (b ++ t)))) =
    ap₂ (λ (y z : List ℕ). y ++ z) (sym (around_count high (4 * slots) (n + 1))) (sym (append_assoc p (bytes_of 4 high size) r)) in
    ap (λ (z : List ℕ). put (put z (32 + 4 * n) (bytes_of 4 high size)) 6 (bytes_of 2 high (n + 1))) old
    ∙ puts
    ∙ new
    ∙ sym (rw (length_more ts x, pointers_more high (start_size slots sheet) ts x, blocks_more high ts x))

module _ (high : Bool) (slots : ℕ) (sheet : List ℕ) (ts : List Trace) (xs : List ℕ) (n : ℕ) (x : Trace) (is : Holds high slots sheet ts xs n) where
  front : Fronted high (4 * slots) (length ts) (file_of high slots sheet ts)
  front = file_fronted high slots sheet ts is.few is.slotted

  -- n is a multiple of 4: "The new trace begins at the old length rounded up to 4" without a gap
  whole : round4 n ≡ n
  whole = round4_same n (ap (λ (k : ℕ). k % 4) is.size ∙ file_whole slots sheet ts)

  pub new_end : new_length (take n xs) n x ≡ n + trace_size nul line_feed x
  unfolding new_length
  new_end = rw (is.image, front.strings, front.lines, whole)

  grown_at : grown xs n x
      ≡ put (put (put xs n (trace_bytes high nul line_feed x)) (32 + 4 * length ts) (bytes_of 4 high n)) 6 (bytes_of 2 high (length ts + 1))
  unfolding grown new_bytes
  grown_at = let z : n - n ≡ 0 = omega arith in rw (is.image, front.order, front.count, front.strings, front.lines, whole, z)

  module _ (end : ℕ) (to : add_answer xs n x ≡ Ok end) where
    shown : Added xs n x end
    shown = added xs n x end to

    -- what row 35 let through: where there is a trace, a channel number as trace 0 has it
    kept_channel : KeepsSheet (eqb (length ts) 0) (with_of Strict (file_of high slots sheet ts)) x.sheet
    unfolding wrong_channel
    kept_channel =
        let c = rw is.image at shown.channel in
        sheet_keeps (eqb (length ts) 0) (with_of Strict (file_of high slots sheet ts)) x.sheet (rw front.count at c)

    -- what it has in common with the traces before it
    together_new : Together (ts ++ (x ∷ []))
    together_new =
        let most = (placed Grow xs n shown.accepted).0.1 in
        go ts is.good.1 kept_channel.0
        (file_with high slots sheet ts is.few is.good is.slotted (omega (arith, is.size)))
      where
        go : (l : List Trace) → Together l → (eqb (length l) 0 ≡ false → has_channel x ≡ with_of Strict (file_of high slots sheet ts))
            → (0 < length l → with_of Strict (file_of high slots sheet ts) ≡ has_channel (get_or l 0 empty_trace)) → Together (l ++ (x ∷ []))
        go [] t h k = first_together (has_channel x) (x ∷ []) (refl, tt)
        go (y ∷ l) t h k =
            first_together (has_channel y) ((y ∷ l) ++ (x ∷ []))
            (has_append (has_channel y) (y ∷ l) (x ∷ []) (together_first y l t) (h (ne_eqb (suc (length l)) 0 (omega arith)) ∙ k (omega arith), tt))

    good_new : Good x
    good_new =
        record {
          measures = (area_size nul line_feed x.sheet, rw (is.image, front.strings, front.lines) at shown.sized);
          channel = λ has. (_, counted (value_of_line (sheet_lines x.sheet) channel_number) _ (kept_channel.1 has) refl);
          kind = shown.kind;
          held = shown.held;
        }

    slot_free : length ts < slots
    slot_free =
        let a : count_of (take n xs) ≡ length ts = ap count_of is.image ∙ front.count in
        let b : room_of (take n xs) ≡ 4 * slots = ap room_of is.image ∙ front.room in
        let c = shown.slot in
        omega arith

    pub add_end : end ≡ n + trace_size nul line_feed x
    add_end = sym shown.new ∙ new_end

    add_room : n + trace_size nul line_feed x ≤ length xs
    add_room = let e = add_end in let r = shown.in_buffer in omega arith

    left_as : add_left xs n x
        ≡ put (put (put xs n (trace_bytes high nul line_feed x)) (32 + 4 * length ts) (bytes_of 4 high n)) 6 (bytes_of 2 high (length ts + 1))
    left_as = add_left_lem xs n x end to ∙ grown_at

    -- "This and every other writer leave the bytes past what they write"
    pub add_past : (drop end (add_left xs n x) ≡ drop end xs) × (length (add_left xs n x) ≡ length xs)
    add_past =
        let t = trace_bytes high nul line_feed x in
        let l : length t ≡ trace_size nul line_feed x = length_trace_bytes high nul line_feed x shown.kind in
        let s = add_end in
        let w = is.size in
        let low = size_low slots sheet ts in
        let f = slot_free in
        let one = bytes_of 4 high n in
        let two = bytes_of 2 high (length ts + 1) in
        let at : ℕ = 32 + 4 * length ts in
        let j = length_bytes_of 4 high n in
        let k = length_bytes_of 2 high (length ts + 1) in
        rw left_as (
          drop_put_after end two (put (put xs n t) at one) 6 (omega arith) ∙ drop_put_after end one (put xs n t) at (omega arith)
              ∙ drop_put_after end t xs n (omega arith),
          length_put (put (put xs n t) at one) 6 two ∙ length_put (put xs n t) at one ∙ length_put xs n t,
        )

    pub add_afresh : Holds high slots sheet (ts ++ (x ∷ [])) (add_left xs n x) end
    add_afresh =
        let t = trace_bytes high nul line_feed x in
        let l : length t ≡ trace_size nul line_feed x = length_trace_bytes high nul line_feed x shown.kind in
        let r = add_room in
        let s = add_end in
        let e : end ≡ n + length t = omega arith in
        let one = bytes_of 4 high n in
        let two = bytes_of 2 high (length ts + 1) in
        let at : ℕ = 32 + 4 * length ts in
        let w = is.size in
        record {
          image =
              ap (take end) left_as
              ∙ take_put end two (put (put xs n t) at one) 6
              ∙ ap (λ (z : List ℕ). put z 6 two) (take_put end one (put xs n t) at)
              ∙ ap (λ (z : List ℕ). put (put z at one) 6 two)
              (ap (λ (k : ℕ). take k (put xs n t)) e ∙ take_put_end t xs n (omega arith) ∙ ap (λ (z : List ℕ). z ++ t) is.image)
              ∙ ap (λ (k : ℕ). put (put (file_of high slots sheet ts ++ t) at (bytes_of 4 high k)) 6 two) is.size
              ∙ file_more high slots sheet ts x slot_free;
          size = add_end ∙ ap (λ (k : ℕ). k + trace_size nul line_feed x) is.size ∙ sym (size_more slots sheet ts x);
          fits = omega (arith, add_past.1);
          good = (good_append ts (x ∷ []) is.good.0 (good_new, tt), together_new);
          slotted = omega (arith, length_more ts x, slot_free);
          few = is.few;
        }
