-- The walk over a file's traces: a law for each turn, what it has written, and what is left.
-- Assumes nothing.
use Rattle.std.specs.Prelude.{◌≡◌, refl, List, [], ◌++◌, ℕ, suc, ◌+◌, ◌-◌, ◌≤◌, ◌<◌, length}
use Rattle.std.proofs.Common.{arith}
use Rattle.word.specs.Wrote.{Room, Wrote, Left, left_start, left_room, left_turn, left_over}
use Rattle.file_lines.specs.FileLines.{trace_text, traces_text}

pub trace_next : (f : List ℕ) (n k : ℕ) → k < n → traces_text f (n - k) k ≡ trace_text f k ++ traces_text f (n - (k + 1)) (k + 1)
unfolding traces_text
trace_next f n k h = let e : n - k ≡ suc (n - (k + 1)) = omega arith in rw e

pub traces_over : (f : List ℕ) (n k : ℕ) → n ≤ k → traces_text f (n - k) k ≡ []
unfolding traces_text
traces_over f n k h = let e : n - k ≡ 0 = omega arith in rw e

-- ---- the traces of f from k on
module _ (out₀ : List ℕ) (at : ℕ) (f : List ℕ) (n : ℕ) where
  abbrev pub Tracing : ℕ → ℕ → List ℕ → Type 0
  Tracing k to out = (k ≤ n) × (length out ≡ length out₀) × Left out₀ at (traces_text f n 0) to (traces_text f (n - k) k) out

  pub tracing_start : Tracing 0 at out₀
  tracing_start = let e : n - 0 ≡ n = omega arith in (omega arith, refl, rw e (left_start out₀ at _))

  module _ (k to : ℕ) (out : List ℕ) (l : Tracing k to out) where
    pub tracing_over : n ≤ k → Wrote out₀ at (traces_text f n 0) to out
    tracing_over h = left_over out₀ at _ to _ out l.2 (traces_over f n k h)

    pub tracing_room : k < n → Room out₀ at (traces_text f n 0) → Room out to (trace_text f k)
    tracing_room h r = left_room out₀ at _ to _ out l.2 (trace_text f k) _ (trace_next f n k h) r

    pub tracing_turn : k < n → (r : ℕ) (new : List ℕ) → Wrote out to (trace_text f k) r new → Tracing (k + 1) r new
    tracing_turn h r new w =
        let t = left_turn out₀ at _ to _ out l.2 (trace_text f k) _ (trace_next f n k h) r new w in
        (omega arith, t.2, t)
