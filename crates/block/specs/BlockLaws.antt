-- The laws of the trace block: what rows 8 to 13 have shown, and what passes them.
-- Assumes nothing.
use Rattle.std.specs.Prelude.{◌≡◌, refl, Bool, true, false, not, ◌&&◌, ◌||◌, List, ℕ, ◌+◌, ◌*◌, ◌%◌, ◌≤◌, length, ltb, eqb}
use Rattle.std.proofs.Common.{ap, le-ltb, eq-eqb, ltb-false, eqb-true}
use Rattle.std.proofs.Common.{arith}
use Rattle.std.proofs.lemmas.Bool.{not-false}
use Rattle.refusal.specs.Verdicts.{is_accepted, refused_not, accepted}
use Rattle.word.specs.Tests.{neither, join_neither, not_both}
use Rattle.word.specs.Part.{part, get_d_part}
use Rattle.word.specs.WordLaws.{word_part}
use Rattle.refusal.specs.Rows.{pick, clear, through}
use Rattle.refusal.specs.declared.Rule.TheVariants.{Pointer}
use Rattle.sample.specs.Needed.{needed}
use Rattle.block.specs.declared.TraceBlock.{TraceBlock}
use Rattle.block.specs.Block.{trace_mark, pointer_of, mark_at, block_size_of, data_size_of, sample_count_of, format_code_of, data_at}
use Rattle.limits.specs.Limits.{bad_pointer}
use Rattle.block.specs.Block.{wrong, pointer_row, block_rows, block_of, block_in, trace_block_of}

-- ---- what row 8 has shown of the pointer p, and what passes it
pub record Pointed (end prev p : ℕ) : Type 0 where
  pub whole : p % 4 ≡ 0
  pub behind : prev ≤ p
  pub fits : p + 32 ≤ end

pub pointed : (end k prev p : ℕ) → pointer_row end k prev p ≡ accepted → Pointed end prev p
unfolding pointer_row
pointed end k prev p e = go (bad_pointer end prev p) refl e
  where
    go : (w : Bool) → bad_pointer end prev p ≡ w → pick w (wrong Pointer k (32 + 4 * k)) accepted ≡ accepted → Pointed end prev p
    go true q h = absurd (refused_not _ h)
    go false q h =
        let a = neither (not (eqb (p % 4) 0)) (ltb p prev || ltb end (p + 32)) q in
        let b = neither (ltb p prev) (ltb end (p + 32)) a.1 in
        record { whole = eqb-true _ _ (not-false _ a.0); behind = ltb-false _ _ b.0; fits = ltb-false end (p + 32) b.1 }

pub pointer_accepts : (end k prev p : ℕ) → Pointed end prev p → pointer_row end k prev p ≡ accepted
unfolding pointer_row
pointer_accepts end k prev p h =
    rw (join_neither (not (eqb (p % 4) 0)) (ltb p prev || ltb end (p + 32)) (ap not (eq-eqb _ _ h.whole))
    (join_neither (ltb p prev) (ltb end (p + 32)) (le-ltb _ _ h.behind) (le-ltb end (p + 32) h.fits)))

-- ---- a block's first 32 bytes say it all

-- those of the block at p
abbrev pub head_at : List ℕ → ℕ → List ℕ
head_at f p = part p (p + 32) f

module _ (high : Bool) (f : List ℕ) (p : ℕ) where
  pub own_mark : mark_at high (head_at f p) 0 ≡ mark_at high f p
  unfolding mark_at
  own_mark = let z : p + 0 ≡ p = omega arith in rw z at (word_part 2 high p (p + 32) f 0 (omega arith))

  pub own_size : block_size_of high (head_at f p) 0 ≡ block_size_of high f p
  unfolding block_size_of
  own_size = word_part 2 high p (p + 32) f 2 (omega arith)

  pub own_data : data_size_of high (head_at f p) 0 ≡ data_size_of high f p
  unfolding data_size_of
  own_data = word_part 4 high p (p + 32) f 4 (omega arith)

  pub own_samples : sample_count_of high (head_at f p) 0 ≡ sample_count_of high f p
  unfolding sample_count_of
  own_samples = word_part 4 high p (p + 32) f 8 (omega arith)

  pub own_code : format_code_of (head_at f p) 0 ≡ format_code_of f p
  unfolding format_code_of
  own_code = get_d_part 0 12 p (p + 32) f (omega arith)

-- the block of the trace k is the one that its 32 bytes are
pub own_block : (high : Bool) (f : List ℕ) (k p : ℕ) → p ≡ pointer_of high f k → block_in high (head_at f p) p ≡ trace_block_of high f k
unfolding block_in trace_block_of
own_block high f k p e = rw (own_size high f p, own_data high f p, own_samples high f p, own_code high f p, e)

-- ---- what rows 9 to 13 have shown, and what passes them
pub record Blocked (high : Bool) (f : List ℕ) (p : ℕ) : Type 0 where
  pub mark : mark_at high f p ≡ trace_mark
  pub least : 32 ≤ block_size_of high f p
  pub whole : block_size_of high f p % 4 ≡ 0
  pub fits : data_at high f p ≤ length f
  pub data_whole : data_size_of high f p % 4 ≡ 0
  pub data_fits : data_at high f p + data_size_of high f p ≤ length f
  pub code : (1 ≤ format_code_of f p) × (format_code_of f p ≤ 5)
  pub groups : format_code_of f p ≡ 3 → sample_count_of high f p % 4 ≡ 0
  pub samples : needed (format_code_of f p) (sample_count_of high f p) ≤ data_size_of high f p

pub blocked : (high : Bool) (f : List ℕ) (k p : ℕ) → block_of high (head_at f p) (length f) k p ≡ accepted → Blocked high f p
unfolding block_of
blocked high f k p e =
    let c = rw (own_mark high f p, own_size high f p, own_data high f p, own_samples high f p, own_code high f p)
    at (clear is_accepted accepted refl (block_rows high (head_at f p) (length f) k p) accepted refl e).0 in
    let b = neither (ltb (block_size_of high f p) 32) (not (eqb (block_size_of high f p % 4) 0) || ltb (length f) (p + block_size_of high f p)) c.1.0 in
    let g = neither (not (eqb (block_size_of high f p % 4) 0)) (ltb (length f) (p + block_size_of high f p)) b.1 in
    let d = neither (not (eqb (data_size_of high f p % 4) 0)) (ltb (length f) (data_at high f p + data_size_of high f p)) c.1.1.0 in
    let q = neither (ltb (format_code_of f p) 1) (ltb 5 (format_code_of f p)) c.1.1.1.0 in
    let s = neither (eqb (format_code_of f p) 3 && not (eqb (sample_count_of high f p % 4) 0))
    (ltb (data_size_of high f p) (needed (format_code_of f p) (sample_count_of high f p))) c.1.1.1.1.0 in
    record {
      mark = eqb-true _ _ (not-false _ c.0);
      least = ltb-false _ _ b.0;
      whole = eqb-true _ _ (not-false _ g.0);
      fits = ltb-false (length f) (p + block_size_of high f p) g.1;
      data_whole = eqb-true _ _ (not-false _ d.0);
      data_fits = ltb-false (length f) (data_at high f p + data_size_of high f p) d.1;
      code = (ltb-false _ _ q.0, ltb-false _ _ q.1);
      groups = λ z. eqb-true _ _ (not-false _ (not_both (eqb (format_code_of f p) 3) (not (eqb (sample_count_of high f p % 4) 0)) s.0 (eq-eqb _ _ z)));
      samples = ltb-false _ _ s.1;
    }

pub block_accepts : (high : Bool) (f : List ℕ) (k p : ℕ) → Blocked high f p → block_of high (head_at f p) (length f) k p ≡ accepted
unfolding block_of
block_accepts high f k p h =
    let groups : (eqb (format_code_of f p) 3 && not (eqb (sample_count_of high f p % 4) 0)) ≡ false = go (eqb (format_code_of f p) 3) refl in
    through (block_rows high (head_at f p) (length f) k p) accepted
    (rw (own_mark high f p, own_size high f p, own_data high f p, own_samples high f p, own_code high f p) (
      ap not (eq-eqb _ _ h.mark),
      (
        join_neither _ _ (le-ltb _ _ h.least) (join_neither _ _ (ap not (eq-eqb _ _ h.whole)) (le-ltb (length f) (p + block_size_of high f p) h.fits)),
        (
          join_neither _ _ (ap not (eq-eqb _ _ h.data_whole)) (le-ltb (length f) (data_at high f p + data_size_of high f p) h.data_fits),
          (join_neither _ _ (le-ltb _ _ h.code.0) (le-ltb _ _ h.code.1), (join_neither _ _ groups (le-ltb _ _ h.samples), tt)),
        ),
      ),
    ))
  where
    go : (w : Bool) → eqb (format_code_of f p) 3 ≡ w → (w && not (eqb (sample_count_of high f p % 4) 0)) ≡ false
    go true e = ap not (eq-eqb _ _ (h.groups (eqb-true _ _ e)))
    go false e = refl

-- ---- a block that was read
module _ (high : Bool) (b : List ℕ) (p : ℕ) {x : TraceBlock} (e : x ≡ block_in high b p) where
  pub block_size : block_size_of high b 0 ≡ x.b
  unfolding block_in
  block_size = rw e

  pub block_data : data_size_of high b 0 ≡ x.d
  unfolding block_in
  block_data = rw e

  pub block_samples : sample_count_of high b 0 ≡ x.s
  unfolding block_in
  block_samples = rw e

  pub block_code : format_code_of b 0 ≡ x.code
  unfolding block_in
  block_code = rw e
