-- "Two inputs of equal image and buffer length that agree on these bytes get the same answer, refusals and places
-- included" (document 02 §5): one law for the family (`quickly_same`), and each question by it, lent rows included. xs and
-- ys are the lent buffers, n the length given beside each, f and g the images: their first n bytes. The bytes are named
-- from xs (Read `bytes_read`).
-- Assumes nothing.
use Rattle.std.specs.Prelude.{◌≡◌, Ok, Err, Some, Bool, true, not, ℤ, length, List, [], ◌∷◌, ℕ, ◌+◌, ◌*◌, ◌≤◌, take}
use Rattle.std.proofs.Common.{refl, sym, ap, ◌∙◌, length-take, arith}
use Rattle.word.specs.Part.{part, part_front}
use Rattle.word.specs.Word.{word_at}
use Rattle.word.specs.WordLaws.{word_part}
use Rattle.refusal.specs.Verdicts.{asked, accepted, Verdict}
use Rattle.refusal.specs.FirstRow.{row, first_of, first_one, passed_met_none, asked_more}
use Rattle.refusal.specs.declared.Part.TheVariants.{File, Trace}
use Rattle.refusal.specs.declared.Refusal.{Refusal}
use Rattle.refusal.specs.declared.Rule.TheVariants.{Length, NoTrace}
use Rattle.head_limits.specs.declared.Purpose.TheVariants.{Read}
use Rattle.head_words.specs.HeadWords.{high_first, room_of, count_of}
use Rattle.head.specs.Head.{head_of}
use Rattle.head.specs.HeadLaws.{Headed, headed, own_order, own_room, own_count, own_good, own_terminator}
use Rattle.terminators.specs.Terminators.{terminator_at, string_end, line_end, good_terminator}
use Rattle.block.specs.Block.{pointer_of, data_at, end_at, pointer_row, block_of}
use Rattle.block.specs.BlockLaws.{Blocked, head_at, own_block, blocked}
use Rattle.file_length.specs.FileLength.{bad_length}
use Rattle.image.specs.Keeps.{trace_at}
use Rattle.text.specs.declared.Manner.TheVariants.{Strict}
use Rattle.until.specs.declared.Turn.{Turn}
use Rattle.until.specs.Until.{to_end}
use Rattle.reader.specs.Questions.{is_trace, trace_number, area_named, numbers_in, strings_verdict, kept}
use Rattle.reader.specs.Questions.{block_at}
use Rattle.one_trace.specs.Alone.{alone_of}
use Rattle.quick.specs.Quick.{quickly, walk_in, counted_by}
use Rattle.shortcut.specs.Read.{read_of, behind, strings_read, bytes_read, Agree}

-- the checks before each span (Read `bytes_read`)
abbrev pub first_row : List ℕ → ℕ → Verdict
first_row xs n = row (bad_length (length xs) n) Length File 0

abbrev pub top_rows : List ℕ → ℤ → List Verdict
top_rows f z = head_of Read (take 32 f) (length f) ∷ row (not (is_trace z (count_of f))) NoTrace File 0 ∷ []

abbrev pub pointer_check : List ℕ → ℕ → Verdict
pointer_check f k = pointer_row (length f) k (32 + room_of f) (trace_at f k)

abbrev pub block_check : List ℕ → ℕ → Verdict
block_check f k = block_of (high_first f) (head_at f (trace_at f k)) (length f) k (trace_at f k)

-- the answer is theirs, one behind the other, and then the question's own
chain : {A : Type 0} (bad : Refusal → A) (xs : List ℕ) (n : ℕ) (z : ℤ) (x : A)
    → asked bad (alone_of xs n z) x
    ≡ asked bad (first_row xs n) (asked bad (first_of (top_rows (take n xs) z))
    (asked bad (pointer_check (take n xs) (trace_number z)) (asked bad (block_check (take n xs) (trace_number z)) x)))
unfolding alone_of
chain {A} bad xs n z x =
    let f : List ℕ = take n xs in
    let k : ℕ = trace_number z in
    let own : List Verdict = pointer_check f k ∷ block_check f k ∷ [] in
    let one : (v : Verdict) (vs : List Verdict) (y : A) → asked bad (first_of (v ∷ vs)) y ≡ asked bad v (asked bad (first_of vs) y) =
    λ (v : Verdict) (vs : List Verdict) (y : A).
    asked_more bad (v ∷ []) vs y ∙ ap (λ (w : Verdict). asked bad w (asked bad (first_of vs) y)) (sym (first_one v)) in
    one (first_row xs n) _ x
    ∙ ap (asked bad (first_row xs n)) (asked_more bad (top_rows f z) own x
    ∙ ap (asked bad (first_of (top_rows f z))) (one (pointer_check f k) (block_check f k ∷ []) x
    ∙ ap (asked bad (pointer_check f k)) (ap (λ (w : Verdict). asked bad w x) (sym (first_one (block_check f k))))))

-- a check and what is read behind it: both refuse alike, or both go on
stage : {A : Type 0} (bad : Refusal → A) (f g : List ℕ) (v w : Verdict) (ss : List (ℕ × ℕ)) (x y : A) → v ≡ w → Agree f g (behind v ss)
    → (v ≡ accepted → Agree f g ss → x ≡ y) → asked bad v x ≡ asked bad w y
stage bad f g (Ok _) w ss x y e a more = rw (← e) (more refl a)
stage bad f g (Err r) w ss x y e a more = rw (← e)

-- ---- what two images share that are alike up to the block's first 32 bytes
pub record Alike (f g : List ℕ) (k : ℕ) : Type 0 where
  pub size : length f ≡ length g
  pub order : high_first f ≡ high_first g
  pub strings : string_end f ≡ string_end g
  pub lines : line_end f ≡ line_end g
  pub start : trace_at f k ≡ trace_at g k
  pub block : block_at f k ≡ block_at g k
  pub own : Blocked (high_first f) f (trace_at f k)

module _ (f g : List ℕ) (size : length f ≡ length g) where
  -- ---- the file block's first 32 bytes
  module _ (p32 : part 0 32 f ≡ part 0 32 g) where
    front : take 32 f ≡ take 32 g
    front = sym (part_front 32 f) ∙ p32 ∙ part_front 32 g

    order_same : high_first f ≡ high_first g
    order_same = sym (own_order f) ∙ ap high_first front ∙ own_order g

    room_same : room_of f ≡ room_of g
    room_same = sym (own_room f) ∙ ap room_of front ∙ own_room g

    traces_same : count_of f ≡ count_of g
    traces_same = sym (own_count f) ∙ ap count_of front ∙ own_count g

    top_same : (z : ℤ) → first_of (top_rows f z) ≡ first_of (top_rows g z)
    top_same z = rw (front, size, traces_same)

    end_same : (at : ℕ) → at + 3 ≤ 32 → good_terminator f at ≡ true → terminator_at f at ≡ terminator_at g at
    end_same at h w =
        let v : good_terminator g at ≡ true = sym (own_good g at h) ∙ ap (λ (l : List ℕ). good_terminator l at) (sym front) ∙ own_good f at h ∙ w in
        sym (own_terminator f at h w) ∙ ap (λ (l : List ℕ). terminator_at l at) front ∙ own_terminator g at h v

    -- ---- pointer k
    module _ (k : ℕ) (slot : part (32 + 4 * k) (36 + 4 * k) f ≡ part (32 + 4 * k) (36 + 4 * k) g) where
      pointer_same : trace_at f k ≡ trace_at g k
      unfolding pointer_of
      pointer_same =
          let s : 32 + 4 * k + 0 ≡ 32 + 4 * k = omega arith in
          let word : (l : List ℕ) → word_at 4 (high_first f) (part (32 + 4 * k) (36 + 4 * k) l) 0 ≡ word_at 4 (high_first f) l (32 + 4 * k) =
          λ (l : List ℕ). rw s at (word_part 4 (high_first f) (32 + 4 * k) (36 + 4 * k) l 0 (omega arith)) in
          sym (word f) ∙ ap (λ (l : List ℕ). word_at 4 (high_first f) l 0) slot ∙ word g ∙ ap (λ (o : Bool). word_at 4 o g (32 + 4 * k)) order_same

      pointed_same : pointer_check f k ≡ pointer_check g k
      pointed_same = rw (size, room_same, pointer_same)

      -- ---- the block's first 32 bytes
      module _ (p : ℕ) (at : trace_at f k ≡ p) (own : part p (p + 32) f ≡ part p (p + 32) g) where
        other : trace_at g k ≡ p
        other = sym pointer_same ∙ at

        block_same : block_check f k ≡ block_check g k
        block_same = rw (at, other, own, size, order_same)

        alike : Headed Read f → Blocked (high_first f) f p → Alike f g k
        alike head b =
            record {
              size = size;
              order = order_same;
              strings = end_same 8 (omega arith) head.strings;
              lines = end_same 11 (omega arith) head.lines;
              start = pointer_same;
              block =
                  sym (own_block (high_first f) f k p (sym at)) ∙ rw (own, order_same) (own_block (high_first g) g k p (sym other));
              own = rw at b;
            }

-- ---- the family: if what a question makes of a trace is alike where its own bytes are, so is its answer
module _ (xs ys : List ℕ) (n : ℕ) (z : ℤ) (long : length xs ≡ length ys) where
  abbrev pub f : List ℕ
  f = take n xs

  abbrev pub g : List ℕ
  g = take n ys

  abbrev pub k : ℕ
  k = trace_number z

  size : length f ≡ length g
  size = length-take n xs ∙ ap (λ (m : ℕ). Prim.Native.Nat.min n m) long ∙ sym (length-take n ys)

  pub quickly_same : {A : Type 0} (bad : Refusal → A) (mk : List ℕ → ℕ → A) (own : List ℕ → ℕ → List (ℕ × ℕ)) → Agree f g (bytes_read own xs n z)
      → (Alike f g k → Agree f g (own f k) → mk f k ≡ mk g k) → quickly bad mk xs n z ≡ quickly bad mk ys n z
  unfolding bytes_read
  quickly_same bad mk own agree h =
      chain bad xs n z (mk f k)
      ∙ stage bad f g (first_row xs n) (first_row ys n) _ _ _ (rw long) agree
      (λ c1 a1.
      let p32 = a1.0 in
      stage bad f g (first_of (top_rows f z)) (first_of (top_rows g z)) _ _ _ (top_same f g size p32 z) a1.1
      (λ c2 a2.
      let slot = a2.0 in
      stage bad f g (pointer_check f k) (pointer_check g k) _ _ _ (pointed_same f g size p32 k slot) a2.1
      (λ c3 a3.
      stage bad f g (block_check f k) (block_check g k) _ _ _ (block_same f g size p32 k slot (trace_at f k) refl a3.0) a3.1
      (λ c4 a4.
      h (alike f g size p32 k slot (trace_at f k) refl a3.0 (headed Read f (passed_met_none (top_rows f z) c2).0)
      (blocked (high_first f) f k (trace_at f k) c4)) a4))))
      ∙ sym (chain bad ys n z (mk g k))

  -- ---- strings
  module _ (look : ℕ → List ℕ → Turn) (al : Alike f g k) (agree : Agree f g (strings_read look f k)) where
    abbrev pub a : ℕ
    a = trace_at f k + 32

    abbrev pub e : ℕ
    e = data_at (high_first f) f (trace_at f k)

    abbrev pub x : ℕ
    x = read_of look (high_first f) (string_end f) (line_end f) (Trace k) (part a e f) a

  -- ---- all of them in a row: where all strings were passed, their places are alike
  module _ (row : List ℕ) (agree : Agree f g (bytes_read (strings_read to_end) xs n z)) where
    abbrev numbers : List ℕ → ℕ → List ℕ
    numbers f i = numbers_in Strict f (area_named f (Some (Trace i)))

    abbrev filled : List ℕ → ℕ → List ℕ
    filled f i = kept (strings_verdict (counted_by (walk_in to_end f i)) (length row)) (numbers f i) row

-- ---- no byte is read but those that document 02 names

-- the file block's first 32 bytes, pointer k, the block's first 32 bytes, bytes of the trace's own strings, or its data
pub data Named (f : List ℕ) (k : ℕ) : ℕ × ℕ → Type 0 where
  file_block_lem : Named f k (0, 32)
  pointer : Named f k (32 + 4 * k, 36 + 4 * k)
  trace_block_lem : Named f k (trace_at f k, trace_at f k + 32)
  strings : (x : ℕ) → trace_at f k + 32 + x ≤ data_at (high_first f) f (trace_at f k) → Named f k (trace_at f k + 32, trace_at f k + 32 + x)
  samples : Named f k (data_at (high_first f) f (trace_at f k), end_at (high_first f) f (trace_at f k))

abbrev pub AllNamed : List ℕ → ℕ → List (ℕ × ℕ) → Type 0
AllNamed f k [] = Unit {0}
AllNamed f k (s ∷ ss) = Named f k s × AllNamed f k ss
