-- Theorems on what specs/Count defines. They stand here, as a wrong definition there is to be refused and not to be unread.
-- Assumes nothing.
use Rattle.std.specs.Prelude.{◌≡◌, refl, Bool, true, false, ◌&&◌, List, [], ◌∷◌, ◌++◌, ℕ, ◌+◌, ◌≤◌, ◌<◌, length, ltb}
use Rattle.std.proofs.Common.{sym, ap, ◌∙◌, append-nil, arith}
use borrow.Author.Tests.{lt-ltb}
use Rattle.word.specs.Tests.{both}
use Rattle.chars.specs.Chars.{digit}
use Rattle.chars.specs.Runs.{all}
use Rattle.digits.specs.Value.{value}
use Rattle.decimal_parts.specs.declared.Decimal.{Decimal}
use Rattle.front_bytes.specs.Run.{All}
use Rattle.decimal_parts.specs.Grammar.{Sign, Sign.dash, Sign.nothing, Fraction, Fraction.no_point, Fraction.point, Power}
use Rattle.decimal_parts.specs.Grammar.{Power.no_power, Power.power}
use Rattle.decimal_parts.specs.Answer.{decimal_of}
use Rattle.decimal.specs.Agreed.{is_number}
use Rattle.channel.specs.Count.{Counts, count_in, count_is, count_most, pointless, wholly}

all_digits : (v : List ℕ) → All digit v → all digit v ≡ true
unfolding all
all_digits [] h = refl
all_digits (b ∷ bs) h = rw h.0 (all_digits bs h.1)

behind_pointless : (xs ys : List ℕ) → all pointless (xs ++ ys) ≡ true → all pointless ys ≡ true
unfolding all
behind_pointless [] ys h = h
behind_pointless (x ∷ xs) ys h = behind_pointless xs ys (both (pointless x) (all pointless (xs ++ ys)) h).1

-- no point, no E and no minus leave the digits alone
no_fraction : {ds f : List ℕ} → Fraction ds f → (r : List ℕ) → all pointless (f ++ r) ≡ true → (f ≡ []) × (ds ≡ [])
unfolding all
no_fraction no_point r h = (refl, refl)
no_fraction (point d) r h = let z : ◌≡◌ {A = ℕ} 0 1 = cc in absurd (omega arith)

no_exponent : {down : Bool} {es e : List ℕ} → Power down es e → all pointless e ≡ true → e ≡ []
unfolding all
no_exponent no_power h = refl
no_exponent (power s d) h = let z : ◌≡◌ {A = ℕ} 0 1 = cc in absurd (omega arith)

no_sign : {m : Bool} {s : List ℕ} → Sign m s → m ≡ false → s ≡ []
no_sign dash h = let z : ◌≡◌ {A = ℕ} 0 1 = cc in absurd (omega arith)
no_sign nothing h = refl

no_minus : (m : Bool) (k : ℕ) → 0 < k → false ≡ (m && ltb 0 k) → m ≡ false
no_minus true k h e = let t = lt-ltb 0 k h in let z : ◌≡◌ {A = ℕ} 0 1 = cc in absurd (omega arith)
no_minus false k h e = refl

pub counts : (v : List ℕ) (n : ℕ) → Counts v n → count_in v ≡ n
unfolding decimal_of value
counts v n c =
    let w = (is_number v (wholly n)).0 c.number in
    let p = w.0 in
    let h = w.1 in
    let worth : n ≡ value (value 0 p.whole) p.decimals = ap (λ (d : Decimal). d.coefficient) w.3 in
    let minus : false ≡ (p.minus && ltb 0 (value (value 0 p.whole) p.decimals)) = ap (λ (d : Decimal). d.minus) w.3 in
    let text = h.text in
    let kept : all pointless (h.s ++ (p.whole ++ (h.f ++ h.e))) ≡ true = rw text at c.without in
    let rest = behind_pointless p.whole (h.f ++ h.e) (behind_pointless h.s (p.whole ++ (h.f ++ h.e)) kept) in
    let f = no_fraction h.fraction h.e rest in
    let e = no_exponent h.power (behind_pointless h.f h.e rest) in
    let s = no_sign h.sign (no_minus p.minus (value (value 0 p.whole) p.decimals) (rw worth at c.least) minus) in
    alone_counts p.whole n (text ∙ rw (s, f.0, e, append-nil p.whole)) (worth ∙ ap (λ (ds : List ℕ). value (value 0 p.whole) ds) f.1)
    (omega (arith, w.2.before)) h.whole.each c.most
  where
    alone_counts : (ds : List ℕ) (k : ℕ) → v ≡ ds → k ≡ value 0 ds → length ds ≤ 18 → All digit ds → k ≤ count_most → count_in v ≡ k
    alone_counts ds k is worth few each most =
        ap count_in is ∙ sym (worth ∙ count_is ds few (all_digits ds each) (omega arith))
