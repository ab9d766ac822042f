-- Tests that are put together: the laws that the rows of every check use.
-- Assumes nothing.
use Rattle.std.specs.Prelude.{◌≡◌, refl, Bool, true, false, ◌&&◌, ◌||◌, ℕ, ◌≤◌, ltb}
use Rattle.std.proofs.Common.{arith, ltb-false}

-- neither of two tests
pub neither : (a b : Bool) → (a || b) ≡ false → (a ≡ false) × (b ≡ false)
neither true b h = let z : ◌≡◌ {A = ℕ} 0 1 = cc in absurd (omega arith)
neither false b h = (refl, h)

pub join_neither : (a b : Bool) → a ≡ false → b ≡ false → (a || b) ≡ false
join_neither a b h k = rw (h, k)

-- not both of two tests
pub not_both : (a b : Bool) → (a && b) ≡ false → a ≡ true → b ≡ false
not_both true b h e = h
not_both false b h e = let z : ◌≡◌ {A = ℕ} 0 1 = cc in absurd (omega arith)

-- neither below nor above
pub at_most : (n low most : ℕ) → (ltb n low || ltb most n) ≡ false → n ≤ most
at_most n low most h = ltb-false most n (neither (ltb n low) (ltb most n) h).1

-- both of two tests
pub both : (b w : Bool) → (b && w) ≡ true → (b ≡ true) × (w ≡ true)
both true w h = (refl, h)
both false w h = let z : ◌≡◌ {A = ℕ} 0 1 = cc in absurd (omega arith)

pub and_false : (b : Bool) → (b && false) ≡ false
and_false true = refl
and_false false = refl

-- a test that holds and does not
pub never : {A : Type 0} → false ≡ true → A
never e = absurd (let z : ◌≡◌ {A = ℕ} 0 1 = cc in omega arith)
