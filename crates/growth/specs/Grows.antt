-- One image with a trace more than another, told by the bytes alone (document 01, "What we write": "The new trace
-- begins at the old length rounded up to 4, and is written into the free end of the buffer, the gap and all unnamed
-- bytes zero .. The image's length is given beside the buffer and the new length is answered; it is where the new
-- trace's D bytes end"). An accepted addition makes such an image.
-- Assumes nothing.
use Rattle.std.specs.Prelude.{◌≡◌, refl, true, false, List, [], ◌++◌, ℕ, ◌+◌, ◌-◌, ◌*◌, ◌≤◌, length, take, drop, replicate, Ok, None}
use Rattle.std.proofs.Common.{sym, ap, ◌∙◌, arith, length-take-le, drop_at}
use Rattle.std.proofs.lemmas.List.{length-replicate}
use Rattle.head_limits.specs.declared.Purpose.TheVariants.{Grow}
use Rattle.text.specs.declared.Manner.TheVariants.{Strict}
use Rattle.word.specs.Part.{part, part_take, part_part, part_drop, part_among}
use Rattle.word.specs.Bytes.{Bytes}
use Rattle.word.specs.Round.{round4, round4_up}
use Rattle.word.specs.Word.{word_at}
use Rattle.word.specs.WordLaws.{word_take}
use Rattle.sheet.specs.Area.{area_size, measured_of}
use Rattle.head_words.specs.HeadWords.{high_first, room_of, count_of}
use Rattle.head.specs.Head.{maximum}
use Rattle.terminators.specs.Terminators.{string_end, line_end}
use Rattle.image.specs.Keeps.{Keeps}
use Rattle.image.proofs.Accepted.{accepted_keeps}
use Rattle.layout.specs.Layout.{Trace, fitting, unfit, trace_size, trace_bytes}
use Rattle.append.specs.Grown.{new_bytes, new_length, grown}
use Rattle.opening.specs.Opening.{wrong_channel}
use Rattle.writer.specs.Shown.{Added}
use Rattle.growth.specs.Frame.{lies, length_grown, grown_front, grown_middle, grown_rest, grown_new, grown_count}
use Rattle.growth.specs.Frame.{grown_pointer}

pub record Grows (f g : List ℕ) (x : Trace) : Type 0 where
  -- the old image is one that an addition takes, has a slot, and the trace is one that fits it
  pub old : Keeps Strict Grow f
  pub slot : 4 * count_of f + 4 ≤ room_of f
  pub sized : measured_of (string_end f) (line_end f) x.sheet ≡ Ok (area_size (string_end f) (line_end f) x.sheet)
  pub channel : wrong_channel f x.sheet ≡ false
  pub kind : fitting x.code x.samples ≡ true
  pub held : unfit x.code x.samples ≡ None
  -- the old bytes but N's two and the four of slot N
  pub front : (a e : ℕ) → e ≤ 6 → part a e g ≡ part a e f
  pub middle : (a e : ℕ) → 8 ≤ a → e ≤ 32 + 4 * count_of f → part a e g ≡ part a e f
  pub rest : (a e : ℕ) → 36 + 4 * count_of f ≤ a → e ≤ length f → part a e g ≡ part a e f
  -- one more, and where it is
  pub count : word_at 2 (high_first f) g 6 ≡ count_of f + 1
  pub pointer : word_at 4 (high_first f) g (32 + 4 * count_of f) ≡ round4 (length f)
  -- zeros, the trace, and nothing behind it
  pub gap : part (length f) (round4 (length f)) g ≡ replicate (round4 (length f) - length f) 0
  pub trace : part (round4 (length f)) (length g) g ≡ trace_bytes (high_first f) (string_end f) (line_end f) x
  pub size : length g ≡ round4 (length f) + trace_size (string_end f) (line_end f) x
  pub most : length g ≤ maximum

-- the gap and the trace in what was stored from the old end on
gap_in : (l tb : List ℕ) (n at end : ℕ) → n ≤ at → at ≤ end → part n end l ≡ replicate (at - n) 0 ++ tb → part n at l ≡ replicate (at - n) 0
gap_in l tb n at end h k e =
    let z : List ℕ = replicate (at - n) 0 in
    let a : n + 0 ≡ n = omega arith in
    let b : n + (at - n) ≡ at = omega arith in
    let p : part 0 (at - n) (part n end l) ≡ part n at l = rw (a, b) at (part_part 0 (at - n) n end l (omega arith)) in
    sym p ∙ ap (λ (r : List ℕ). part 0 (at - n) r) e ∙ part_among [] z tb 0 (at - n) refl (omega (arith, length-replicate {A = ℕ} (at - n) 0))

trace_in_lem : (l tb : List ℕ) (n at end : ℕ) → n ≤ at → part n end l ≡ replicate (at - n) 0 ++ tb → part at end l ≡ tb
trace_in_lem l tb n at end h e =
    let z : List ℕ = replicate (at - n) 0 in
    let b : n + (at - n) ≡ at = omega arith in
    let p : drop (at - n) (part n end l) ≡ part at end l = rw b at (part_drop (at - n) n end l) in
    sym p ∙ ap (λ (r : List ℕ). drop (at - n) r) e ∙ drop_at z tb (at - n) (length-replicate {A = ℕ} (at - n) 0)

new_split : (f : List ℕ) (n : ℕ) (x : Trace) → new_bytes f n x ≡ replicate (round4 n - n) 0 ++ trace_bytes (high_first f) (string_end f) (line_end f) x
unfolding new_bytes
new_split f n x = refl

new_length_lem : (f : List ℕ) (n : ℕ) (x : Trace) → new_length f n x ≡ round4 n + trace_size (string_end f) (line_end f) x
unfolding new_length
new_length_lem f n x = refl

pub grown_grows : {xs : List ℕ} {n : ℕ} {x : Trace} {end : ℕ} → Bytes xs → Added xs n x end → Grows (take n xs) (take end (grown xs n x)) x
grown_grows {xs} {n} {x} {end} by h =
    let l = lies h in
    let f : List ℕ = take n xs in
    let y : List ℕ = grown xs n x in
    let tb : List ℕ = trace_bytes (high_first f) (string_end f) (line_end f) x in
    let lf : length (take n xs) ≡ n = length-take-le n xs l.in_buffer in
    let new : round4 n + trace_size (string_end f) (line_end f) x ≡ end = sym (new_length_lem f n x) ∙ h.new in
    let low : n ≤ round4 n = round4_up n in
    let fits : end ≤ length y = rw (length_grown h) h.in_buffer in
    let lg : length (take end y) ≡ end = length-take-le end y fits in
    let bytes : part n end y ≡ replicate (round4 n - n) 0 ++ tb = grown_new h ∙ new_split f n x in
    record {
      old = (accepted_keeps Strict Grow xs n by h.accepted).1;
      slot = h.slot;
      sized = h.sized;
      channel = h.channel;
      kind = h.kind;
      held = h.held;
      front = λ a e k. part_take end a e y (omega (arith, l.some)) ∙ grown_front h a e k ∙ sym (part_take n a e xs (omega (arith, l.some)));
      middle =
          λ a e j k. part_take end a e y (omega (arith, l.slot)) ∙ grown_middle h a e j k ∙ sym (part_take n a e xs (omega (arith, l.slot)));
      rest =
          λ a e j k.
          (let m : e ≤ n = omega arith in
          part_take end a e y (omega arith) ∙ grown_rest h a e j m ∙ sym (part_take n a e xs m));
      count = word_take 2 (high_first f) end y 6 (omega (arith, l.some)) ∙ grown_count h by;
      pointer = rw lf (word_take 4 (high_first f) end y (32 + 4 * count_of f) (omega (arith, l.slot)) ∙ grown_pointer h);
      gap = rw lf (part_take end n (round4 n) y (omega arith) ∙ gap_in y tb n (round4 n) end low (omega arith) bytes);
      trace = rw (lf, lg) (part_take end (round4 n) end y (omega arith) ∙ trace_in_lem y tb n (round4 n) end low bytes);
      size = rw (lf, lg) (sym new);
      most = rw lg h.in_maximum;
    }
