-- How many bytes samples take. "Needed bytes: code 1: 2S, code 2: 4S, code 3: 10S/4, code 4: 4S, code 5: 8S" (document
-- 01, "The trace block").
-- Assumes nothing.
use Rattle.std.specs.Prelude.{◌≡◌, refl, ℕ, zero, suc, ◌*◌, ◌/◌}
use Rattle.word.specs.Round.{round4}

-- what a table has for a code: one entry for each of the codes 1 to 5, and one for 0 and for 6 up, which are no codes
abbrev pub by_code : {A : Type 0} → A → A → A → A → A → A → ℕ → A
by_code a b c d e none zero = none
by_code a b c d e none (suc zero) = a
by_code a b c d e none (suc (suc zero)) = b
by_code a b c d e none (suc (suc (suc zero))) = c
by_code a b c d e none (suc (suc (suc (suc zero)))) = d
by_code a b c d e none (suc (suc (suc (suc (suc zero))))) = e
by_code a b c d e none (suc (suc (suc (suc (suc (suc code)))))) = none

pub by_code_none : {A : Type 0} (a b c d e none : A) (code : ℕ)
    → (code ≡ 1 → ⊥) → (code ≡ 2 → ⊥) → (code ≡ 3 → ⊥) → (code ≡ 4 → ⊥) → (code ≡ 5 → ⊥) → by_code a b c d e none code ≡ none
by_code_none a b c d e none zero h1 h2 h3 h4 h5 = refl
by_code_none a b c d e none (suc zero) h1 h2 h3 h4 h5 = absurd (h1 refl)
by_code_none a b c d e none (suc (suc zero)) h1 h2 h3 h4 h5 = absurd (h2 refl)
by_code_none a b c d e none (suc (suc (suc zero))) h1 h2 h3 h4 h5 = absurd (h3 refl)
by_code_none a b c d e none (suc (suc (suc (suc zero)))) h1 h2 h3 h4 h5 = absurd (h4 refl)
by_code_none a b c d e none (suc (suc (suc (suc (suc zero))))) h1 h2 h3 h4 h5 = absurd (h5 refl)
by_code_none a b c d e none (suc (suc (suc (suc (suc (suc code)))))) h1 h2 h3 h4 h5 = refl

-- the bytes that s samples need
unfoldable pub needed : ℕ → ℕ → ℕ
needed code s = by_code (2 * s) (4 * s) (10 * s / 4) (4 * s) (8 * s) 0 code

-- the data bytes that are written for them: "D is the needed bytes rounded up to 4" (document 01, "What we write")
unfoldable pub room : ℕ → ℕ → ℕ
room code s = round4 (needed code s)

-- the bytes of one sample, where a sample is one whole number
unfoldable pub width : ℕ → ℕ
width code = by_code 2 4 0 4 8 0 code
