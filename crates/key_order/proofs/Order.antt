-- Theorems on what specs/Order defines. They stand here, as a wrong definition there is to be refused and not to be unread.
-- Assumes nothing.
use Rattle.std.specs.Prelude.{◌≡◌, refl, Bool, true, false, List, ℕ, ◌+◌, ◌<◌, ◌≤◌, Some, length, get_or, drop, ltb}
use Rattle.std.proofs.Math.Arith.{lt_of_le-ne}
use borrow.Author.Tests.{ltb-true, ltb-false, lt-ltb, le-ltb}
use Rattle.std.specs.Cmp.Lexicographic.{slice_partial_cmp}
use Rattle.std.specs.Ordering.{is_some_and, is_lt, nat_cmp}
use Rattle.std.proofs.lemmas.Bool.Decides.{nat_tests}
use Rattle.std.proofs.lemmas.Cmp.{same_from_slice_cmp_tested}
use Rattle.std.proofs.Common.{sym, ◌∙◌, ⊎_elim, arith}
use Rattle.word.specs.Tests.{never}
use Rattle.refusal.specs.Rows.{pick}
use Rattle.chars.specs.Chars.{note}
use Rattle.chars.specs.Runs.{same, same_eq, same_refl}
use Rattle.key_order.specs.Order.{before, less, less_irreflexive, less_transitive, less_below, less_above, less_next, less_short, less_longer, less_ended, repeats, rises, rises_later, rises_so}

-- a keyword does not come before itself
before_irreflexive : (k : List ℕ) → before k k ≡ false
unfolding before
before_irreflexive k = go (same k note)
  where
    go : (w : Bool) → pick w false (pick w true (less k k)) ≡ false
    go true = refl
    go false = less_irreflexive k

before_transitive : (a b c : List ℕ) → before a b ≡ true → before b c ≡ true → before a c ≡ true
unfolding before
before_transitive a b c h k = go (same a note) (same b note) (same c note) h k
  where
    go : (u v w : Bool) → pick u false (pick v true (less a b)) ≡ true → pick v false (pick w true (less b c)) ≡ true
        → pick u false (pick w true (less a c)) ≡ true
    go true v w p q = p
    go false true w p q = let z : ◌≡◌ {A = ℕ} 0 1 = cc in absurd (omega arith)
    go false false true p q = refl
    go false false false p q = less_transitive a b c p q

-- what comes before a keyword is another
pub before_other : (a b : List ℕ) → before a b ≡ true → same b a ≡ false
before_other a b h = go (same b a) refl
  where
    go : (w : Bool) → same b a ≡ w → w ≡ false
    go true e = never (sym (before_irreflexive a) ∙ rw (same_eq b a e) at h)
    go false e = refl

-- a keyword follows itself exactly where it may repeat
pub rises_again : (k : List ℕ) → rises k k ≡ repeats k
unfolding rises
rises_again k = rw (before_irreflexive k, same_refl k)

-- what follows a follower follows
pub rises_transitive : (a b c : List ℕ) → rises a b ≡ true → rises b c ≡ true → rises a c ≡ true
rises_transitive a b c h k =
    ⊎_elim
    (λ x. ⊎_elim (λ y. rises_later a c (before_transitive a b c x y)) (λ y. rw (← y.0) h) (rises_so b c k))
    (λ x. rw x.0 k)
    (rises_so a b h)

-- and what comes before a keyword comes before its followers
pub before_rises : (a b c : List ℕ) → before a b ≡ true → rises b c ≡ true → before a c ≡ true
before_rises a b c h k = ⊎_elim (λ x. before_transitive a b c h x) (λ x. rw (← x.0) h) (rises_so b c k)

-- of two that follow each other both are the same
pub rises_both : (a b : List ℕ) → rises a b ≡ true → rises b a ≡ true → a ≡ b
rises_both a b h k =
    ⊎_elim
    (λ x. ⊎_elim (λ y. never (sym (before_irreflexive a) ∙ before_transitive a b a x y)) (λ y. sym y.0) (rises_so b a k))
    (λ x. x.0)
    (rises_so a b h)

-- the order of slices, as the library has it, is this order
pub less_slices : (xs ys : List ℕ) (r : Bool) → r ≡ is_some_and is_lt (slice_partial_cmp (λ x y. Some (nat_cmp x y)) xs ys) → r ≡ less xs ys
unfolding less
less_slices = same_from_slice_cmp_tested nat_cmp is_lt less refl (λ _ _. refl) (λ _ _. refl) (λ x y xs ys o h. grind (arith, nat_tests))

-- ---- the loop that compares: the first byte that differs decides, and where there is none, the lengths

pub less_other : (p k : List ℕ) (i : ℕ) → i < length p → i < length k → (get_or p i 0 ≡ get_or k i 0 → ⊥)
    → ltb (get_or p i 0) (get_or k i 0) ≡ less (drop i p) (drop i k)
less_other p k i h g n = go (ltb (get_or p i 0) (get_or k i 0)) refl
  where
    go : (w : Bool) → ltb (get_or p i 0) (get_or k i 0) ≡ w → w ≡ less (drop i p) (drop i k)
    go true e = less_below p k i h g (ltb-true _ _ e)
    go false e = less_above p k i h g (lt_of_le-ne (ltb-false _ _ e) (λ q. n (sym q)))

pub less_same : (p k : List ℕ) (i : ℕ) → i < length p → i < length k → get_or p i 0 ≡ get_or k i 0
    → less (drop (i + 1) p) (drop (i + 1) k) ≡ less (drop i p) (drop i k)
less_same p k i h g e = less_next p k i h g (omega arith) (omega arith)

pub less_rest : (p k : List ℕ) (i : ℕ) → i ≤ length p → i ≤ length k → (i < length p → i < length k → ⊥)
    → ltb (length p) (length k) ≡ less (drop i p) (drop i k)
less_rest p k i h g n = go (ltb i (length p)) (ltb i (length k)) refl refl
  where
    go : (v w : Bool) → ltb i (length p) ≡ v → ltb i (length k) ≡ w → ltb (length p) (length k) ≡ less (drop i p) (drop i k)
    go true true e f = absurd (n (ltb-true _ _ e) (ltb-true _ _ f))
    go true false e f =
        rw (le-ltb (length p) (length k) (omega (arith, ltb-false _ _ f))) (less_short p k i (ltb-true _ _ e) (ltb-false _ _ f))
    go false true e f =
        rw (lt-ltb (length p) (length k) (omega (arith, ltb-false _ _ e, ltb-true _ _ f))) (less_longer p k i (ltb-false _ _ e) (ltb-true _ _ f))
    go false false e f =
        rw (le-ltb (length p) (length k) (omega (arith, ltb-false _ _ e, ltb-false _ _ f))) (less_ended p k i (ltb-false _ _ e) (ltb-false _ _ f))
