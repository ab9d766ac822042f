-- The lines of a listing (document 01, the end of "Worked values"), byte by byte: 9 is the tab between fields, 10 the
-- end of a line.
-- Assumes nothing.
use Rattle.std.specs.Prelude.{Bool, List, [], ◌∷◌, ◌++◌, ℕ, eqb}
use Rattle.refusal.specs.declared.Part.{Part}
use Rattle.refusal.specs.declared.Part.TheVariants.{File, Trace}
use Rattle.refusal.specs.declared.Refusal.{Refusal}
use Rattle.refusal.specs.Table.{number_of}
use Rattle.refusal.specs.Rows.{pick}
use Rattle.digits.specs.Digits.{digits}

-- a number and what ends its field
unfoldable pub ended : ℕ → ℕ → List ℕ
ended n b = digits n ++ (b ∷ [])

-- "part (F for -1)"
unfoldable pub whose : Part → List ℕ
whose File = 70 ∷ []
whose (Trace k) = digits k

-- "Order (low or high), N, M": SEG2, high or low, N, M
unfoldable pub order : Bool → List ℕ
order high = pick high (83 ∷ 69 ∷ 71 ∷ 50 ∷ 9 ∷ 104 ∷ 105 ∷ 103 ∷ 104 ∷ 9 ∷ []) (83 ∷ 69 ∷ 71 ∷ 50 ∷ 9 ∷ 108 ∷ 111 ∷ 119 ∷ 9 ∷ [])

unfoldable pub head_line : Bool → ℕ → ℕ → List ℕ
head_line high n m = order high ++ (ended n 9 ++ ended m 10)

-- "trace, code, samples": T
unfoldable pub trace_line : ℕ → ℕ → ℕ → List ℕ
trace_line k code s = (84 ∷ 9 ∷ []) ++ (ended k 9 ++ (ended code 9 ++ ended s 10))

-- "A refusal prints one line only: R, number, part (F for -1), place"
unfoldable pub refusal_line : Refusal → List ℕ
refusal_line r = (82 ∷ 9 ∷ []) ++ (ended (number_of r.rule) 9 ++ (whose r.part ++ ((9 ∷ []) ++ ended r.place 10)))

-- "A tab in a value prints as a space"
abbrev pub space : ℕ → ℕ
space b = pick (eqb b 9) 32 b

unfoldable pub spaced : List ℕ → List ℕ
spaced [] = []
spaced (b ∷ bs) = space b ∷ spaced bs

-- "part, keyword, value": S
unfoldable pub label : Part → List ℕ → List ℕ
label p key = (83 ∷ 9 ∷ []) ++ (whose p ++ ((9 ∷ []) ++ (key ++ (9 ∷ []))))

unfoldable pub string_line : Part → List ℕ → List ℕ → List ℕ
string_line p key value = label p key ++ (spaced value ++ (10 ∷ []))
