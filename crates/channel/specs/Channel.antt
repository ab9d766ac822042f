-- Channel numbers (document 02, §7): "The paper says that if one trace block has it, all must .. The value must be a
-- number by document 01, 1 to 32,767, without point or E."
-- Assumes nothing.
use Rattle.std.specs.Prelude.{◌≡◌, refl, Bool, true, false, not, ◌||◌, List, [], ◌∷◌, ℕ, ◌<◌, eqb}
use Rattle.std.proofs.Common.{arith, ne_eqb}
use Rattle.std.proofs.lemmas.Bool.{eqb-false}
use Rattle.refusal.specs.Rows.{pick}
use Rattle.channel.specs.Count.{count_in}

-- CHANNEL_NUMBER
abbrev pub channel_number : List ℕ
channel_number = 67 ∷ 72 ∷ 65 ∷ 78 ∷ 78 ∷ 69 ∷ 76 ∷ 95 ∷ 78 ∷ 85 ∷ 77 ∷ 66 ∷ 69 ∷ 82 ∷ []

-- a trace that breaks the rule: `with` tells whether the file's traces have the string, `has` whether this trace has
-- it, v is its value here. "A bad value, or where only one of it and trace 0 has the string"
unfoldable pub bad_channel : Bool → Bool → List ℕ → Bool
bad_channel with has v = pick has (not with || eqb (count_in v) 0) with

-- so a trace keeps it exactly where it has the string as the others do, and where it does, a count stands there
abbrev pub KeepsChannel : Bool → Bool → List ℕ → Type 0
KeepsChannel with has v = (has ≡ with) × (has ≡ true → 0 < count_in v)

pub keeps_channel : (with has : Bool) (v : List ℕ) → bad_channel with has v ≡ false → KeepsChannel with has v
unfolding bad_channel
keeps_channel true true v h = (refl, λ _. some (count_in v) h)
  where
    some : (n : ℕ) → eqb n 0 ≡ false → 0 < n
    some n e = let z = eqb-false n 0 e in omega arith
keeps_channel true false v h = let z : ◌≡◌ {A = ℕ} 0 1 = cc in absurd (omega arith)
keeps_channel false true v h = let z : ◌≡◌ {A = ℕ} 0 1 = cc in absurd (omega arith)
keeps_channel false false v h = (refl, λ e. let z : ◌≡◌ {A = ℕ} 0 1 = cc in absurd (omega arith))

pub channel_kept : (with has : Bool) (v : List ℕ) → KeepsChannel with has v → bad_channel with has v ≡ false
unfolding bad_channel
channel_kept true true v h = ne_eqb (count_in v) 0 (λ (e : count_in v ≡ 0). omega (arith, h.1 refl))
channel_kept true false v h = let z : ◌≡◌ {A = ℕ} 0 1 = cc h.0 in absurd (omega arith)
channel_kept false true v h = let z : ◌≡◌ {A = ℕ} 0 1 = cc h.0 in absurd (omega arith)
channel_kept false false v h = refl

-- ---- a law for each answer, with what the code tested
module _ (with has : Bool) (v : List ℕ) where
  pub channel_none : has ≡ false → with ≡ bad_channel with has v
  unfolding bad_channel
  channel_none h = rw h

  pub channel_alone : has ≡ true → with ≡ false → true ≡ bad_channel with has v
  unfolding bad_channel
  channel_alone h k = rw (h, k)

  pub channel_judged : has ≡ true → with ≡ true → eqb (count_in v) 0 ≡ bad_channel with has v
  unfolding bad_channel
  channel_judged h k = rw (h, k)
