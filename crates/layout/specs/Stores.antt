-- The stores of a start and of a trace, one behind the other, are the layout.
-- Assumes nothing.
use Rattle.std.specs.Prelude.{◌≡◌, refl, Bool, true, false, List, [], ◌∷◌, ◌++◌, ℕ, ◌+◌, ◌-◌, ◌*◌, ◌%◌, ℤ, length, replicate, Ok, None}
use Rattle.std.proofs.Common.{sym, append_assoc, arith, length-append}
use Rattle.std.proofs.lemmas.List.{length-replicate}
use Rattle.block.specs.Block.{trace_mark}
use Rattle.word.specs.Put.{put, put_append}
use Rattle.word.specs.Word.{low_bytes, bytes_of}
use Rattle.word.specs.WordLaws.{length_bytes_of}
use Rattle.sample.specs.Needed.{room}
use Rattle.fit.specs.Unfit.{unfit_integers}
use Rattle.sheet.specs.Area.{area_of, area_size, measured_of}
use Rattle.sheet.specs.Sizes.{length_area}
use Rattle.area.specs.Spelling.{measured_size}
use Rattle.layout.specs.Layout.{order_mark, plain_ends, nul, line_feed, file_block, start_image, Trace, Samples}
use Rattle.layout.specs.Layout.{integers, patterns, count, fitting, unfit, samples_data, trace_block, block_bytes}
use Rattle.layout.specs.Layout.{data_bytes, trace_bytes}
use Rattle.layout.specs.LayoutLaws.{length_mark, length_file_block, length_trace_block, integers_kinded}
use Rattle.layout.specs.LayoutLaws.{bits_kinded}

-- ---- a start

-- 3A55h in the file's order
mark_word : (high : Bool) → order_mark high ≡ bytes_of 2 high 14933
unfolding bytes_of low_bytes
mark_word true = refl
mark_word false = refl

pub file_block_put : (high : Bool) (m : ℕ) (xs : List ℕ)
    → put (put (put (put (put (put xs 0 (bytes_of 2 high 14933)) 2 (bytes_of 2 high 1)) 4 (bytes_of 2 high m)) 6 (bytes_of 2 high 0)) 8
    (1 ∷ 0 ∷ 0 ∷ 1 ∷ 10 ∷ 0 ∷ [])) 14
    (replicate 18 0)
    ≡ put xs 0 (file_block high m 0)
unfolding file_block
file_block_put high m xs =
    sym (rw (
      put_append (order_mark high) (bytes_of 2 high 1 ++ (bytes_of 2 high m ++ (bytes_of 2 high 0 ++ plain_ends))) xs 0,
      length_mark high,
      mark_word high,
      put_append (bytes_of 2 high 1) (bytes_of 2 high m ++ (bytes_of 2 high 0 ++ plain_ends)),
      length_bytes_of 2 high 1,
      put_append (bytes_of 2 high m) (bytes_of 2 high 0 ++ plain_ends),
      length_bytes_of 2 high m,
      put_append (bytes_of 2 high 0) plain_ends,
      length_bytes_of 2 high 0,
    )
    (put_append (1 ∷ 0 ∷ 0 ∷ 1 ∷ 10 ∷ 0 ∷ []) (replicate 18 0) _ 8))

pub start_put : (high : Bool) (slots : ℕ) (sheet xs : List ℕ)
    → put (put (put xs 0 (file_block high (4 * slots) 0)) 32 (replicate (32 + 4 * slots - 32) 0)) (32 + 4 * slots) (area_of high nul line_feed sheet)
    ≡ put xs 0 (start_image high slots sheet)
unfolding start_image
start_put high slots sheet xs =
    let e : 32 + 4 * slots - 32 ≡ 4 * slots = omega arith in
    sym (rw (
      put_append (file_block high (4 * slots) 0) (replicate (4 * slots) 0 ++ area_of high nul line_feed sheet) xs 0,
      length_file_block high (4 * slots) 0,
      put_append (replicate (4 * slots) 0) (area_of high nul line_feed sheet),
      length-replicate {A = ℕ} (4 * slots) 0,
      e,
    ))

-- ---- the bytes of a trace

pub block_put : (high : Bool) (b d s code : ℕ) (xs : List ℕ)
    → put (put (put (put (put (put xs 0 (bytes_of 2 high trace_mark)) 2 (bytes_of 2 high b)) 4 (bytes_of 4 high d)) 8 (bytes_of 4 high s)) 12 (code ∷ []))
    13 (replicate 19 0)
    ≡ put xs 0 (trace_block high b d s code)
unfolding trace_block
block_put high b d s code xs =
    sym (rw (
      put_append (bytes_of 2 high trace_mark) (bytes_of 2 high b ++ (bytes_of 4 high d ++ (bytes_of 4 high s ++ (code ∷ replicate 19 0)))) xs 0,
      length_bytes_of 2 high trace_mark,
      put_append (bytes_of 2 high b) (bytes_of 4 high d ++ (bytes_of 4 high s ++ (code ∷ replicate 19 0))),
      length_bytes_of 2 high b,
      put_append (bytes_of 4 high d) (bytes_of 4 high s ++ (code ∷ replicate 19 0)),
      length_bytes_of 4 high d,
      put_append (bytes_of 4 high s) (code ∷ replicate 19 0),
      length_bytes_of 4 high s,
    )
    (put_append (code ∷ []) (replicate 19 0) _ 12))

-- all of a trace before its samples: the block and the strings
unfoldable pub head_bytes : Bool → List ℕ → List ℕ → List ℕ → ℕ → ℕ → List ℕ
head_bytes high t u sheet code s = trace_block high (32 + area_size t u sheet) (room code s) s code ++ area_of high t u sheet

pub length_head_bytes : (high : Bool) (t u sheet : List ℕ) (code s : ℕ) → length (head_bytes high t u sheet code s) ≡ 32 + area_size t u sheet
unfolding head_bytes
length_head_bytes high t u sheet code s =
    let b : List ℕ = trace_block high (32 + area_size t u sheet) (room code s) s code in
    omega (arith, length-append b (area_of high t u sheet), length_trace_block high (32 + area_size t u sheet) (room code s) s code, length_area high t u sheet)

pub head_put : (high : Bool) (t u sheet : List ℕ) (size code s : ℕ) (xs : List ℕ) → measured_of t u sheet ≡ Ok size
    → put (put xs 0 (trace_block high (32 + size) (room code s) s code)) 32 (area_of high t u sheet) ≡ put xs 0 (head_bytes high t u sheet code s)
unfolding head_bytes
head_put high t u sheet size code s xs m =
    sym (rw (
      (measured_size t u sheet size m).1,
      put_append (trace_block high (32 + size) (room code s) s code) (area_of high t u sheet) xs 0,
      length_trace_block high (32 + size) (room code s) s code,
    ))

-- behind it the samples
pub head_samples : (high : Bool) (t u : List ℕ) (x : Trace)
    → trace_bytes high t u x ≡ head_bytes high t u x.sheet x.code (count x.samples) ++ samples_data x.code high x.samples
unfolding trace_bytes head_bytes
head_samples high t u x =
    sym (append_assoc (trace_block high (block_bytes t u x) (data_bytes x) (count x.samples) x.code) (area_of high t u x.sheet)
    (samples_data x.code high x.samples))

-- ---- the samples

-- what rows 28 and 29 have shown
pub record Held (code : ℕ) (samples : Samples) : Type 0 where
  pub fits : fitting code samples ≡ true
  pub all : unfit code samples ≡ None

-- of the codes of integers the one that is neither 1 nor 2
pub third : {code : ℕ} {row : List ℤ} → Held code (integers row) → (code ≡ 1 → ⊥) → (code ≡ 2 → ⊥)
    → (code ≡ 3) × (length row % 4 ≡ 0) × (unfit_integers 3 row ≡ None)
unfolding fitting unfit
third {code} {row} h a b =
    let k = integers_kinded code (length row) h.fits in
    let e : code ≡ 3 = omega (arith, k.0.least, k.1, a, b) in
    (e, k.0.groups e, rw e at h.all)

-- of those of bit patterns the one that is not 4
pub fifth : {code : ℕ} {row : List ℕ} → Held code (patterns row) → (code ≡ 4 → ⊥) → code ≡ 5
unfolding fitting
fifth {code} {row} h a = let k = bits_kinded code (length row) h.fits in omega (arith, k.0.most, k.1, a)
