-- The terminators of an image that keeps the rules are such as an area can be written with: document 01's house rule
-- ("each terminator's length is 1 or 2, the used terminator characters are 0 to 31, neither terminator uses tab (9),
-- and the two share no character") as the sheet asks it.
-- Assumes nothing.
use Rattle.std.specs.Prelude.{◌≡◌, refl, Bool, true, false, not, ◌||◌, List, [], ◌∷◌, ℕ, ◌+◌, ◌≤◌, length, get_or, eqb}
use Rattle.std.proofs.Common.{arith, eqb-true}
use Rattle.head_limits.specs.declared.Purpose.{Purpose}
use Rattle.text.specs.declared.Manner.TheVariants.{Strict}
use Rattle.word.specs.Tests.{both}
use Rattle.word.specs.Part.{length_part}
use Rattle.chars.specs.Runs.{all}
use Rattle.area.specs.Spelling.{among, Terminators}
use Rattle.terminators.specs.Terminators.{terminator_at, string_end, line_end, lacks, apart}
use Rattle.image.specs.Keeps.{KeepsTerminator, Keeps}
use Rattle.growth.specs.Kept.{short_terminator}

terminator_size : (f : List ℕ) (at : ℕ) → at + 3 ≤ length f → KeepsTerminator f at → (1 ≤ length (terminator_at f at)) × (length (terminator_at f at) ≤ 2)
unfolding terminator_at
terminator_size f at fits k =
    let s = short_terminator k in
    let l = length_part (at + 1) (at + 1 + get_or f at 0) f (omega (arith, s.1)) in
    (omega (arith, s.0), omega (arith, s.1))

lacks_among : (u : List ℕ) (b : ℕ) → lacks u b ≡ true → among b u ≡ false
unfolding all
lacks_among [] b h = refl
lacks_among (c ∷ u) b h =
    let k = both (not (eqb c b)) (lacks u b) h in
    go (eqb c b) k.0 (lacks_among u b k.1)
  where
    go : (w : Bool) → not w ≡ true → among b u ≡ false → (w || among b u) ≡ false
    go true e i = let z : ◌≡◌ {A = ℕ} 0 1 = cc in absurd (omega arith)
    go false e i = i

apart_among : (t u : List ℕ) → apart t u ≡ true → (b : ℕ) → among b t ≡ true → among b u ≡ false
unfolding apart all
apart_among [] u h b m = let z : ◌≡◌ {A = ℕ} 0 1 = cc in absurd (omega arith)
apart_among (c ∷ t) u h b m =
    let k = both (lacks u c) (all (lacks u) t) h in
    go (eqb c b) refl m (lacks_among u c k.0) (apart_among t u k.1 b)
  where
    go : (w : Bool) → eqb c b ≡ w → (w || among b t) ≡ true → among c u ≡ false → (among b t ≡ true → among b u ≡ false) → among b u ≡ false
    go true e i l r = rw (eqb-true c b e) at l
    go false e i l r = r i

pub keeps_terminators : {purpose : Purpose} {f : List ℕ} → Keeps Strict purpose f → Terminators (string_end f) (line_end f)
keeps_terminators {purpose} {f} h =
    let t = terminator_size f 8 (omega (arith, h.file.extent.0)) h.file.string_end_lem in
    let u = terminator_size f 11 (omega (arith, h.file.extent.0)) h.file.line_end_lem in
    record {
      t_low = t.0;
      t_high = t.1;
      u_low = u.0;
      u_high = u.1;
      t_chars = h.file.string_end_lem.characters;
      u_chars = h.file.line_end_lem.characters;
      apart = apart_among (string_end f) (line_end f) h.file.ends_apart;
    }
