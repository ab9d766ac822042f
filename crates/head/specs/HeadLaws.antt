-- The laws of the file block: its first 32 bytes, and what rows 2 to 7 have shown of an image that passes them.
-- Assumes nothing.
use Rattle.std.specs.Prelude.{◌≡◌, Bool, not, ◌&&◌, ◌||◌, List, ℕ, ◌+◌, ◌/◌, ◌%◌, ◌≤◌, ◌<◌, length, take, ltb}
use Rattle.std.proofs.Math.Path.{refl, ap}
use Rattle.std.proofs.Common.{sym, ◌∙◌, arith, get_or-take}
use Rattle.std.proofs.Math.Bool.{true, false}
use Rattle.std.proofs.Math.ListN.{get_or}
use Rattle.std.proofs.Math.Dec.{eqb}
use Rattle.std.proofs.Common.{le-ltb, eq-eqb, ltb-false, eqb-true}
use Rattle.std.proofs.lemmas.Bool.{not-false}
use Rattle.refusal.specs.Verdicts.{is_accepted, accepted}
use Rattle.word.specs.Tests.{neither, join_neither}
use Rattle.word.specs.Part.{part_take}
use Rattle.word.specs.Word.{word_at}
use Rattle.word.specs.WordLaws.{word_take}
use Rattle.refusal.specs.Rows.{clear, through}
use Rattle.head_words.specs.declared.FileBlock.{FileBlock}
use Rattle.head_limits.specs.declared.Purpose.{Purpose}
use Rattle.head_limits.specs.declared.Purpose.TheVariants.{Read, Grow}
use Rattle.chars.specs.Runs.{all}
use Rattle.chars.specs.Chars.{control}
use Rattle.head_limits.specs.HeadLimits.{known, may_be_empty}
use Rattle.head_words.specs.HeadWords.{high_first, revision_of, room_of, count_of}
use Rattle.terminators.specs.TerminatorLaws.{good_most}
use Rattle.terminators.specs.Terminators.{terminator_at, string_end}
use Rattle.head_words.specs.HeadWords.{file_block_of}
use Rattle.head.specs.Head.{head_rows, head_of}
use Rattle.terminators.specs.Terminators.{line_end, good_terminator, apart}

-- ---- the first 32 bytes say it all

module _ (f : List ℕ) where
  front_byte : (i : ℕ) → i < 32 → get_or (take 32 f) i 0 ≡ get_or f i 0
  front_byte i h = get_or-take 32 f i 0 h

  pub own_known : known (take 32 f) ≡ known f
  own_known = rw (front_byte 0 (omega arith), front_byte 1 (omega arith))

  pub own_order : high_first (take 32 f) ≡ high_first f
  unfolding high_first
  own_order = rw (front_byte 0 (omega arith))

  own_word : (at : ℕ) → at + 2 ≤ 32 → word_at 2 (high_first (take 32 f)) (take 32 f) at ≡ word_at 2 (high_first f) f at
  own_word at h = ap (λ (o : Bool). word_at 2 o (take 32 f) at) own_order ∙ word_take 2 (high_first f) 32 f at h

  pub own_revision : revision_of (take 32 f) ≡ revision_of f
  unfolding revision_of
  own_revision = own_word 2 (omega arith)

  pub own_room : room_of (take 32 f) ≡ room_of f
  unfolding room_of
  own_room = own_word 4 (omega arith)

  pub own_count : count_of (take 32 f) ≡ count_of f
  unfolding count_of
  own_count = own_word 6 (omega arith)

  -- a terminator of one or two characters, whose length stands at a place
  module _ (at : ℕ) (low : at + 3 ≤ 32) where
    own_end : get_or f at 0 ≤ 2 → terminator_at (take 32 f) at ≡ terminator_at f at
    unfolding terminator_at
    own_end h = rw (front_byte at (omega arith)) (part_take 32 (at + 1) (at + 1 + get_or f at 0) f (omega arith))

    pub own_good : good_terminator (take 32 f) at ≡ good_terminator f at
    unfolding good_terminator
    own_good = rw (front_byte at (omega arith)) (go (eqb (get_or f at 0) 1) (eqb (get_or f at 0) 2) refl refl)
      where
        go : (a b : Bool) → eqb (get_or f at 0) 1 ≡ a → eqb (get_or f at 0) 2 ≡ b
            → ((a || b) && all control (terminator_at (take 32 f) at)) ≡ ((a || b) && all control (terminator_at f at))
        go true b p q = let n = eqb-true (get_or f at 0) 1 p in ap (all control) (own_end (omega arith))
        go false true p q = let n = eqb-true (get_or f at 0) 2 q in ap (all control) (own_end (omega arith))
        go false false p q = refl

    -- so the characters of a good one are those of the image
    pub own_terminator : good_terminator f at ≡ true → terminator_at (take 32 f) at ≡ terminator_at f at
    own_terminator h = let m = good_most f at h in own_end m.1

-- the block that the first 32 bytes are
pub own_block : (f : List ℕ) → file_block_of (take 32 f) ≡ file_block_of f
unfolding file_block_of
own_block f = rw (own_order f, own_room f, own_count f, front_byte f 8 (omega arith), front_byte f 11 (omega arith))

-- ---- what rows 2 to 7 have shown of an image
pub record Headed (purpose : Purpose) (f : List ℕ) : Type 0 where
  pub first : known f ≡ true
  pub revision : revision_of f ≡ 1
  pub room : (4 ≤ room_of f) × (room_of f % 4 ≡ 0)
  pub some : count_of f ≡ 0 → purpose ≡ Grow
  pub count : count_of f ≤ room_of f / 4
  pub strings : good_terminator f 8 ≡ true
  pub lines : good_terminator f 11 ≡ true
  pub apart : apart (string_end f) (line_end f) ≡ true
  pub fits : 32 + room_of f ≤ length f

never_zero : (a : Bool) (purpose : Purpose) → (a && not (may_be_empty purpose)) ≡ false → a ≡ true → purpose ≡ Grow
never_zero true Grow h e = refl
never_zero true Read h e = let z : ◌≡◌ {A = ℕ} 0 1 = cc in absurd (omega arith)
never_zero false purpose h e = let z : ◌≡◌ {A = ℕ} 0 1 = cc in absurd (omega arith)

pub headed : (purpose : Purpose) (f : List ℕ) → head_of purpose (take 32 f) (length f) ≡ accepted → Headed purpose f
unfolding head_of
headed purpose f e =
    let b : List ℕ = take 32 f in
    let c = (clear is_accepted accepted refl (head_rows purpose b (length f)) accepted refl e).0 in
    let m = neither (ltb (room_of b) 4) (not (eqb (room_of b % 4) 0)) c.1.1.0 in
    let n = neither (eqb (count_of b) 0 && not (may_be_empty purpose)) (ltb (room_of b / 4) (count_of b)) c.1.1.1.0 in
    let u = neither (not (good_terminator b 11)) (not (Rattle.terminators.specs.Terminators.apart (string_end b) (line_end b))) c.1.1.1.1.1.0 in
    let strings : good_terminator f 8 ≡ true = sym (own_good f 8 (omega arith)) ∙ not-false _ c.1.1.1.1.0 in
    let lines : good_terminator f 11 ≡ true = sym (own_good f 11 (omega arith)) ∙ not-false _ u.0 in
    let room : room_of b ≡ room_of f = own_room f in
    let count : count_of b ≡ count_of f = own_count f in
    record {
      first = sym (own_known f) ∙ not-false _ c.0;
      revision = sym (own_revision f) ∙ eqb-true _ _ (not-false _ c.1.0);
      room = (rw room at (ltb-false (room_of b) 4 m.0), rw room at (eqb-true (room_of b % 4) 0 (not-false _ m.1)));
      some = λ z. never_zero (eqb (count_of b) 0) purpose n.0 (eq-eqb _ _ (count ∙ z));
      count = rw (room, count) at (ltb-false (room_of b / 4) (count_of b) n.1);
      strings = strings;
      lines = lines;
      apart = rw (own_terminator f 8 (omega arith) strings, own_terminator f 11 (omega arith) lines) at
          (not-false (Rattle.terminators.specs.Terminators.apart (string_end b) (line_end b)) u.1);
      fits = rw room at (ltb-false (length f) (32 + room_of b) c.1.1.1.1.1.1.0);
    }

-- and an image of which all that holds passes them
pub head_accepts : (purpose : Purpose) (f : List ℕ) → Headed purpose f → head_of purpose (take 32 f) (length f) ≡ accepted
unfolding head_of
head_accepts purpose f h =
    let b : List ℕ = take 32 f in
    let free : (eqb (count_of f) 0 && not (may_be_empty purpose)) ≡ false = go (eqb (count_of f) 0) refl purpose h.some in
    let room : room_of b ≡ room_of f = own_room f in
    let strings : good_terminator b 8 ≡ true = own_good f 8 (omega arith) ∙ h.strings in
    let lines : good_terminator b 11 ≡ true = own_good f 11 (omega arith) ∙ h.lines in
    let ends : Rattle.terminators.specs.Terminators.apart (string_end b) (line_end b) ≡ true =
    rw (own_terminator f 8 (omega arith) h.strings, own_terminator f 11 (omega arith) h.lines) h.apart in
    through (head_rows purpose b (length f)) accepted (
      ap not (own_known f ∙ h.first),
      (
        ap not (eq-eqb _ _ (own_revision f ∙ h.revision)),
        (
          join_neither _ _ (le-ltb (room_of b) 4 (rw room h.room.0)) (ap not (eq-eqb (room_of b % 4) 0 (rw room h.room.1))),
          (
            join_neither (eqb (count_of b) 0 && not (may_be_empty purpose)) (ltb (room_of b / 4) (count_of b)) (rw (own_count f) free)
                (le-ltb (room_of b / 4) (count_of b) (rw (room, own_count f) h.count)),
            (ap not strings, (join_neither _ _ (ap not lines) (ap not ends), (le-ltb (length f) (32 + room_of b) (rw room h.fits), tt))),
          ),
        ),
      ),
    )
  where
    go : (a : Bool) → eqb (count_of f) 0 ≡ a → (g : Purpose) → (count_of f ≡ 0 → g ≡ Grow) → (a && not (may_be_empty g)) ≡ false
    go true e Grow s = refl
    go true e Read s = let y = s (eqb-true _ _ e) in let z : ◌≡◌ {A = ℕ} 0 1 = cc in absurd (omega arith)
    go false e g s = refl

-- ---- a block that was read says what the tests ask for
module _ (b : List ℕ) {x : FileBlock} (e : x ≡ file_block_of b) where
  pub block_order : high_first b ≡ x.high
  unfolding file_block_of
  block_order = rw e

  pub block_room : room_of b ≡ x.m
  unfolding file_block_of
  block_room = rw e

  pub block_count : count_of b ≡ x.n
  unfolding file_block_of
  block_count = rw e

  pub block_revision : (n : ℕ) → n ≡ word_at 2 x.high b 2 → revision_of b ≡ n
  unfolding revision_of
  block_revision n w = rw block_order (sym w)
