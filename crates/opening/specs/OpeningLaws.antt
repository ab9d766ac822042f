-- What each row of an addition before its samples has shown, and what it leaves.
-- Assumes nothing.
use Rattle.std.specs.Prelude.{◌≡◌, refl, Bool, true, false, List, ℕ, ◌+◌, ◌*◌, ◌≤◌, ◌<◌, length, take, eqb, Result, Ok, Err, Option}
use Rattle.std.proofs.Common.{sym, ◌∙◌, arith, length-take-le}
use Rattle.std.proofs.Math.Path.{ap}
use borrow.Author.Tests.{lt-ltb, le-ltb, eqb-false}
use Rattle.word.specs.Part.{part}
use Rattle.word.specs.Word.{word_at}
use Rattle.word.specs.Bytes.{Bytes}
use Rattle.word.specs.WordLaws.{word_small}
use Rattle.refusal.specs.declared.Refusal.{Refusal}
use Rattle.refusal.specs.declared.Rule.TheVariants.{Length, NoSlot, SheetChannel}
use Rattle.refusal.specs.declared.Part.TheVariants.{File}
use Rattle.refusal.specs.Table.{refusal}
use Rattle.refusal.specs.Rows.{pick}
use Rattle.refusal.specs.Verdicts as verdict
use Rattle.refusal.specs.Verdicts.{asked, refused_not, Verdict}
use Rattle.text.specs.declared.Manner.TheVariants.{Strict}
use Rattle.strings.specs.Strings.{places_of, find_of, found}
use Rattle.channel.specs.Channel.{channel_number}
use Rattle.sheet.specs.Area.{measured_of}
use Rattle.sheet_channel.specs.SheetChannel.{bad_sheet}
use Rattle.head_limits.specs.declared.Purpose.{Purpose}
use Rattle.head_limits.specs.declared.Purpose.TheVariants.{Grow}
use Rattle.head_words.specs.declared.FileBlock.{FileBlock}
use Rattle.head_words.specs.HeadWords.{high_first, room_of, count_of, file_block_of}
use Rattle.head.specs.Head.{maximum, refused}
use Rattle.head.specs.HeadLaws.{Headed}
use Rattle.terminators.specs.Terminators.{string_end, line_end, good_terminator}
use Rattle.block.specs.Block.{pointer_of, block_size_of}
use Rattle.trace.specs.Trace.{channel_at}
use Rattle.image.specs.Image.{with_channel, image_of, bad_length, check_of}
use Rattle.image.specs.ImageLaws.{long_enough}
use Rattle.image.specs.Accepted.{image_headed, image_traced, traced_places}
use Rattle.opening.specs.Opening.{wrong_channel, taken_of, area_answer}
use Rattle.strings.specs.declared.Place.{Place}

-- ---- what each step has shown

-- M is a number of two bytes
pub room_small : (f : List ℕ) → Bytes f → room_of f < 65536
unfolding room_of
room_small f by = word_small 2 (high_first f) f 4 by

-- row 1 and rows 2 to 7
pub placed : (purpose : Purpose) (xs : List ℕ) (n : ℕ) → check_of Strict purpose xs n ≡ verdict.accepted
    → ((32 ≤ n) × (n ≤ maximum) × (n ≤ length xs)) × Headed purpose (take n xs) × (image_of Strict purpose (take n xs) ≡ verdict.accepted)
unfolding check_of
placed purpose xs n e = go (bad_length (length xs) n) refl e
  where
    go : (w : Bool) → bad_length (length xs) n ≡ w → pick w (refused Length 0) (image_of Strict purpose (take n xs)) ≡ verdict.accepted
        → ((32 ≤ n) × (n ≤ maximum) × (n ≤ length xs)) × Headed purpose (take n xs) × (image_of Strict purpose (take n xs) ≡ verdict.accepted)
    go true q h = absurd (refused_not _ h)
    go false q h = (long_enough (length xs) n q, image_headed Strict purpose (take n xs) h, h)

-- rows 1 to 17 and 34, 24 to 27 and 35
pub record Opened (xs : List ℕ) (n : ℕ) (sheet : List ℕ) (size : ℕ) : Type 0 where
  pub accepted : check_of Strict Grow xs n ≡ verdict.accepted
  pub most : n ≤ maximum
  pub slot : 4 * count_of (take n xs) + 4 ≤ room_of (take n xs)
  pub measured : measured_of (string_end (take n xs)) (line_end (take n xs)) sheet ≡ Ok size
  pub channel : wrong_channel (take n xs) sheet ≡ false

-- ---- rows 1 to 17, 34 and 24 as the code tests them; b is the file block that it read

pub record Checked (xs : List ℕ) (n : ℕ) : Type 0 where
  pub low : 32 ≤ n
  pub most : n ≤ maximum
  pub within : n ≤ length xs
  pub size : length (take n xs) ≡ n
  pub room : 32 + room_of (take n xs) ≤ n
  pub strings : good_terminator (take n xs) 8 ≡ true
  pub lines : good_terminator (take n xs) 11 ≡ true
  pub image : image_of Strict Grow (take n xs) ≡ verdict.accepted

pub accepted : (xs : List ℕ) (n : ℕ) {v : Verdict} → v ≡ check_of Strict Grow xs n → v ≡ verdict.accepted → Checked xs n
accepted xs n e v =
    let p = placed Grow xs n (sym e ∙ v) in
    let l = p.0 in
    let h = p.1 in
    let k : length (take n xs) ≡ n = length-take-le n xs l.2 in
    let f : 32 + room_of (take n xs) ≤ length (take n xs) = h.fits in
    record {
      low = l.0;
      most = l.1;
      within = l.2;
      size = k;
      room = omega arith;
      strings = h.strings;
      lines = h.lines;
      image = p.2;
    }

module _ (xs : List ℕ) (n : ℕ) (sheet : List ℕ) {v : Verdict} (e : v ≡ check_of Strict Grow xs n) where
  pub opened_bad : {r : Refusal} → v ≡ Err r → Err r ≡ area_answer xs n sheet
  unfolding area_answer
  opened_bad h = rw (← e, h)

  module _ (a : v ≡ verdict.accepted) {b : FileBlock} (read : b ≡ file_block_of (take n xs)) where
    pub opened_full : b.m < 4 * b.n + 4 → Err (refusal NoSlot File 0) ≡ area_answer xs n sheet
    unfolding file_block_of area_answer
    opened_full h =
        let p : b.m ≡ room_of (take n xs) = ap (λ (k : FileBlock). k.m) read in
        let q : b.n ≡ count_of (take n xs) = ap (λ (k : FileBlock). k.n) read in
        rw (← e, a, lt-ltb (room_of (take n xs)) (4 * count_of (take n xs) + 4) (omega arith))

    pub opened_free : 4 * b.n + 4 ≤ b.m → taken_of (take n xs) sheet ≡ area_answer xs n sheet
    unfolding file_block_of area_answer
    opened_free h =
        let p : b.m ≡ room_of (take n xs) = ap (λ (k : FileBlock). k.m) read in
        let q : b.n ≡ count_of (take n xs) = ap (λ (k : FileBlock). k.n) read in
        rw (← e, a, le-ltb (room_of (take n xs)) (4 * count_of (take n xs) + 4) (omega arith))

-- ---- rows 25 to 27 and 35 of an image f that was accepted

module _ (f sheet : List ℕ) {m : Result ℕ Refusal} (e : m ≡ measured_of (string_end f) (line_end f) sheet) where
  pub taken_bad : {r : Refusal} → m ≡ Err r → Err r ≡ taken_of f sheet
  unfolding taken_of
  taken_bad h = rw (← e, h)

  module _ {b : ℕ} (h : m ≡ Ok b) where
    pub taken_wrong : wrong_channel f sheet ≡ true → Err (refusal SheetChannel File 0) ≡ taken_of f sheet
    unfolding taken_of
    taken_wrong w = rw (← e, h, w)

    pub taken_size : wrong_channel f sheet ≡ false → Ok b ≡ taken_of f sheet
    unfolding taken_of
    taken_size w = rw (← e, h, w)

-- the first addition is free to choose, whatever `with` says
pub wrong_first : (f sheet : List ℕ) {first w : Bool} → first ≡ eqb (count_of f) 0 → first ≡ true → w ≡ bad_sheet true false sheet → w ≡ wrong_channel f sheet
unfolding wrong_channel bad_sheet
wrong_first f sheet c z e = e ∙ rw (sym c ∙ z)

pub wrong_later : (f sheet : List ℕ) {first w with : Bool} → first ≡ eqb (count_of f) 0 → first ≡ false
    → with ≡ with_channel Strict (high_first f) (string_end f) f
    → w ≡ bad_sheet false with sheet → w ≡ wrong_channel f sheet
unfolding wrong_channel
wrong_later f sheet c z h e = e ∙ rw (sym c ∙ z, h)

pub some_there : (f : List ℕ) {first : Bool} → first ≡ eqb (count_of f) 0 → first ≡ false → 0 < count_of f
some_there f c z = let n = eqb-false (count_of f) 0 (sym c ∙ z) in omega arith

-- what such an image has: its terminators, and where there is a trace, the block of trace 0
pub record Image (f : List ℕ) : Type 0 where
  pub long : 36 ≤ length f
  pub strings : good_terminator f 8 ≡ true
  pub lines : good_terminator f 11 ≡ true

pub image_shown : (f : List ℕ) → image_of Strict Grow f ≡ verdict.accepted → Image f
image_shown f ok =
    let h = image_headed Strict Grow f ok in
    let r : 32 + room_of f ≤ length f = h.fits in
    record { long = omega (arith, h.room.0); strings = h.strings; lines = h.lines }

pub record First (high : Bool) (f : List ℕ) : Type 0 where
  pub block : pointer_of high f 0 + 32 ≤ length f
  pub least : 32 ≤ word_at 2 high f (pointer_of high f 0 + 2)
  pub fits : pointer_of high f 0 + word_at 2 high f (pointer_of high f 0 + 2) ≤ length f

pub first_lies : (f : List ℕ) {high : Bool} → image_of Strict Grow f ≡ verdict.accepted → 0 < count_of f → high ≡ high_first f → First high f
unfolding block_size_of
first_lies f ok some e =
    let t = traced_places Strict f 0 (image_traced Strict Grow f ok 0 some) in
    rw e (record { block = t.0.fits; least = t.1.least; fits = t.1.fits })

-- what was found in its strings is its channel number
pub first_channel : (f : List ℕ) {high : Bool} {t : List ℕ} {p w : ℕ} {s : Option Place} → high ≡ high_first f → t ≡ string_end f → p ≡ pointer_of high f 0
    → w ≡ word_at 2 high f (p + 2) → s ≡ find_of Strict f (places_of Strict high t (part (p + 32) (p + w) f) (p + 32)) channel_number
    → found s ≡ with_channel Strict (high_first f) (string_end f) f
unfolding channel_at block_size_of
first_channel f h t p w e = ap found e ∙ rw (w, p, t, h)
