-- `store_bytes::zeros` meets its contract: what stands before the zeros, the zeros, what stands behind. Assumes nothing.
use Rattle.std.proofs.Common.{◌≡◌, ◌++◌, ◌+◌, ◌-◌, ◌≤◌, sym, replicate, List, length, take, drop, ℕ, length-take-le, length-drop, drop-drop, arith}
use Rattle.std.proofs.lemmas.List.{length-replicate}
use Rattle.word.specs.Put.{put, put_none, put_split}
use Rattle.store_bytes.proofs.zeros.Goals as goal

filled : (s zs : List ℕ) (a n : ℕ) → a + n ≤ length s → zs ≡ replicate (length (take n (drop a s))) 0
    → take a s ++ (zs ++ drop n (drop a s)) ≡ put s a (replicate n 0)
filled s zs a n h e =
    let z : List ℕ = replicate n 0 in
    let k : length z ≡ n = length-replicate {A = ℕ} n 0 in
    let l : length (take n (drop a s)) ≡ n = length-take-le n (drop a s) (rw (length-drop a s) (omega arith)) in
    let p : put s a z ≡ take a s ++ (z ++ drop (a + length z) s) = put_split z s a (omega arith) in
    rw (e, l, drop-drop n a s) (sym (rw k at p))

pub returns-then-a-e : goal.returns-then-a-e
returns-then-a-e c =
    filled c.args.buf.now _ c.args.a (c.args.e - c.args.a) (omega arith) (c.fill.ensures.after (λ y h. h))

pub returns-else-a-e : goal.returns-else-a-e
returns-else-a-e c =
    let n : c.args.e - c.args.a ≡ 0 = omega arith in rw (n, put_none)
