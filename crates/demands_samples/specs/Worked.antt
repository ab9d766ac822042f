-- Document 01, "Worked values": "Marked * are the ones to prove, as a single statement over a table." The table has
-- every marked value, and the numbers of "Numbers in values" and of document 02 §4 beside them.
-- Assumes nothing.
use Rattle.std.specs.Prelude.{◌≡◌, refl, Bool, true, false, List, [], ◌∷◌, ℕ, ℤ, pos, negsuc, length, replicate, Result, Ok, Err}
use Rattle.word.specs.Word.{low_first, value_of, word_at, low_bytes, bytes_of}
use Rattle.refusal.specs.Table as refusals
use Rattle.sample.specs.Needed.{needed, width}
use Rattle.sample.specs.Run as samples
use Rattle.sample_bits.specs.SampleBits.{twos, exponent_in, ones, scaled}
use Rattle.decode.specs.Sample.{pattern_of, group_sample, sample_of, integers_there, integers_read}
use Rattle.fit.specs.Unfit.{first_from, unfit_integer, unfit_integers}
use Rattle.float20.specs.Float20.{smallest, exponent_of, mantissa_of, ones_bits}
use Rattle.group20.specs.Group20.{exponents_of, words_of, group_bytes}
use Rattle.row20.specs.Row20.{groups}
use Rattle.encode.specs.Write.{filled_up, integers_data}
use Rattle.chars.specs.Runs.{run}
use Rattle.front_bytes.specs.OneByte.{has, past}
use Rattle.decimal_power.specs.Power.{power_of}
use Rattle.decimal_parts.specs.Answer.{decimal_of, judged}
use Rattle.decimal.specs.Number.{parts_of, number_in}
use Rattle.digits.specs.Value.{worth, value}
use Rattle.digits.specs.Digits.{onto, digits}
use Rattle.digits.specs.LastDigits.{last_digits}
use Rattle.numeral_text.specs.NumeralText.{sign_text, point_text, power_text, spelling}
use Rattle.numeral.specs.Numeral.{parts_for, numeral_of, numeral_answer}
use Rattle.layout.specs.Layout.{Samples.integers, fitting, unfit}
use Rattle.entry.specs.Entry.{samples_verdict}
use Rattle.refusal.specs.declared.Refusal.{Refusal}

-- what a worked value says
pub data Case : Type 0 where
  reads : ℕ → Bool → List ℕ → List ℤ → Case  -- under a code, in an order (true: high first), these bytes are these samples
  writes : ℤ → ℕ → ℤ → Case  -- under code 3 this sample has this exponent and this mantissa
  stands : ℕ → Bool → List ℤ → List ℕ → Case  -- under a code, in an order, these samples are written as these bytes
  becomes : ℤ → ℤ → Case  -- written under code 3, in either order, this sample reads back as that one
  unwritten : ℕ → List ℤ → ℕ → ℕ → Case  -- these samples are refused under a code, by a number at a place
  number : List ℕ → Bool → ℕ → ℤ → ℕ → Case  -- this text is a number: minus, coefficient, power, digits after the point
  unread : List ℕ → ℕ → Case  -- this text is refused by a number
  shown : Bool → ℕ → ℤ → ℕ → List ℕ → Case  -- this number, so given, is written as this text
  unshown : Bool → ℕ → ℤ → ℕ → ℕ → Case  -- this number is refused by a number, whatever the room

unfoldable pub row_of : ℕ → List ℤ
row_of n = replicate n (pos 0)

-- a refusal by its number in the table, and its place
abbrev refused_by : {A : Type 0} → Result A Refusal → ℕ × ℕ
refused_by (Ok _) = (0, 0)
refused_by (Err r) = (refusals.number_of r.rule, r.place)

unfoldable pub CaseHolds : Case → Type 0
unfolding row_of
CaseHolds (reads code high block row) = integers_read code high block (row_of (length row)) ≡ row
CaseHolds (writes z e m) = (exponent_of z ≡ e) × (mantissa_of z ≡ m)
CaseHolds (stands code high row block) = integers_data code high row ≡ block
CaseHolds (becomes z v) =
    (integers_read 3 false (integers_data 3 false (z ∷ row_of 3)) (row_of 4) ≡ v ∷ row_of 3)
    × (integers_read 3 true (integers_data 3 true (z ∷ row_of 3)) (row_of 4) ≡ v ∷ row_of 3)
CaseHolds (unwritten code row r at) = refused_by (samples_verdict code (integers row)) ≡ (r, at)
CaseHolds (number t m c p d) = number_in t ≡ Ok (record { minus = m; coefficient = c; power = p; decimals = d })
CaseHolds (unread t r) = refused_by (number_in t) ≡ (r, 0)
CaseHolds (shown m c p d t) = numeral_of (record { minus = m; coefficient = c; power = p; decimals = d }) ≡ t
CaseHolds (unshown m c p d r) = refused_by (numeral_answer 24 (record { minus = m; coefficient = c; power = p; decimals = d })) ≡ (r, 0)

unfoldable pub AllHold : List Case → Type 0
AllHold [] = Unit {0}
AllHold (c ∷ cs) = CaseHolds c × AllHold cs

-- document 02 §4: these are written as they were typed; zero keeps its decimals; a zero with minus is 20, 19 digits
-- before E are 21 and so is a power of 100
unfoldable pub written_cases : List Case
written_cases =
    shown false 250 (negsuc 2) 3 (48 ∷ 46 ∷ 50 ∷ 53 ∷ 48 ∷ [])
    ∷ shown false 12 (pos 0) 0 (49 ∷ 50 ∷ [])
    ∷ shown false 250 (negsuc 4) 2 (50 ∷ 46 ∷ 53 ∷ 48 ∷ 69 ∷ 45 ∷ 51 ∷ [])
    ∷ shown false 0 (negsuc 1) 2 (48 ∷ 46 ∷ 48 ∷ 48 ∷ [])
    ∷ unshown true 0 (negsuc 1) 2 20
    ∷ unshown false 5 (negsuc 17) 18 21
    ∷ unshown false 1 (pos 100) 0 21
    ∷ []

unfoldable pub table : List Case
table =
    -- *FF FF, code 1: -1, in either order
    reads 1 false (255 ∷ 255 ∷ []) (negsuc 0 ∷ [])
    ∷ reads 1 true (255 ∷ 255 ∷ []) (negsuc 0 ∷ [])
    -- *00 80 low first: -32768
    ∷ reads 1 false (0 ∷ 128 ∷ []) (negsuc 32767 ∷ [])
    -- *80 00 00 00 high first, code 2: -2147483648
    ∷ reads 2 true (128 ∷ 0 ∷ 0 ∷ 0 ∷ []) (negsuc 2147483647 ∷ [])
    -- *10 F2 01 00 FE FF 05 00 FF 7F, code 3 low first: 1, -2, 20, 1073709056
    ∷ reads 3 false (16 ∷ 242 ∷ 1 ∷ 0 ∷ 254 ∷ 255 ∷ 5 ∷ 0 ∷ 255 ∷ 127 ∷ []) (pos 1 ∷ negsuc 1 ∷ pos 20 ∷ pos 1073709056 ∷ [])
    -- *Writing 100000 in code 3: exponent 2, mantissa 25000
    ∷ writes (pos 100000) 2 (pos 25000)
    -- so by its bytes: a group of it and three zeros is 02 00 A8 61 and zeros low first, 00 02 61 A8 and zeros high
    -- first, filled up to 12 bytes
    ∷ stands 3 false (pos 100000 ∷ pos 0 ∷ pos 0 ∷ pos 0 ∷ []) (2 ∷ 0 ∷ 168 ∷ 97 ∷ replicate 8 0)
    ∷ stands 3 true (pos 100000 ∷ pos 0 ∷ pos 0 ∷ pos 0 ∷ []) (0 ∷ 2 ∷ 97 ∷ 168 ∷ replicate 8 0)
    -- *-32769 reads back -32768; *1073741823 reads back 1073709056
    ∷ becomes (negsuc 32768) (negsuc 32767)
    ∷ becomes (pos 1073741823) (pos 1073709056)
    -- *1073741824: refusal 29, here the second of four samples
    ∷ unwritten 3 (pos 1073741823 ∷ pos 1073741824 ∷ pos 0 ∷ pos 0 ∷ []) 29 1
    -- *`0.020`: coefficient 20, power -3
    ∷ number (48 ∷ 46 ∷ 48 ∷ 50 ∷ 48 ∷ []) false 20 (negsuc 2) 3
    -- *`0,020`: refusal 20. *`12.`: refusal 20
    ∷ unread (48 ∷ 44 ∷ 48 ∷ 50 ∷ 48 ∷ []) 20
    ∷ unread (49 ∷ 50 ∷ 46 ∷ []) 20
    -- *`-34.6` is coefficient 346, power -1, minus
    ∷ number (45 ∷ 51 ∷ 52 ∷ 46 ∷ 54 ∷ []) true 346 (negsuc 0) 1
    -- `-2.3E6` is minus 23 and power 5; `1.345E24` is a number; zero has sign plus; three digits behind E: refusal 21
    ∷ number (45 ∷ 50 ∷ 46 ∷ 51 ∷ 69 ∷ 54 ∷ []) true 23 (pos 5) 1
    ∷ number (49 ∷ 46 ∷ 51 ∷ 52 ∷ 53 ∷ 69 ∷ 50 ∷ 52 ∷ []) false 1345 (pos 21) 3
    ∷ number (45 ∷ 48 ∷ []) false 0 (pos 0) 0
    ∷ unread (49 ∷ 69 ∷ 49 ∷ 48 ∷ 48 ∷ []) 21
    -- document 02 §4: "`0.250` gives 3, `12` gives 0, `2.50E-3` gives 2"
    ∷ number (48 ∷ 46 ∷ 50 ∷ 53 ∷ 48 ∷ []) false 250 (negsuc 2) 3
    ∷ number (49 ∷ 50 ∷ []) false 12 (pos 0) 0
    ∷ number (50 ∷ 46 ∷ 53 ∷ 48 ∷ 69 ∷ 45 ∷ 51 ∷ []) false 250 (negsuc 4) 2
    ∷ written_cases

written_values : AllHold written_cases
unfolding AllHold CaseHolds written_cases numeral_of numeral_answer parts_for spelling sign_text point_text power_text last_digits digits onto
written_values = (refl, (refl, (refl, (refl, (refl, (refl, (refl, tt)))))))

-- Rules out a library that is right in its laws and wrong in a constant.
pub worked_values : AllHold table
unfolding AllHold CaseHolds table row_of low_first value_of word_at low_bytes bytes_of needed width samples.values_from pattern_of twos exponent_in ones
    scaled group_sample sample_of integers_there integers_read first_from unfit_integer unfit_integers smallest exponent_of mantissa_of ones_bits exponents_of
    words_of group_bytes groups filled_up integers_data samples_verdict fitting unfit number_in parts_of judged decimal_of power_of value worth past has run
worked_values = (
  refl,
  (
    refl,
    (
      refl,
      (
        refl,
        (
          refl,
          (
            (refl, refl),
            (
              refl,
              (
                refl,
                (
                  (refl, refl),
                  ((refl, refl), (refl, (refl, (refl, (refl, (refl, (refl, (refl, (refl, (refl, (refl, (refl, (refl, written_values))))))))))))),
                ),
              ),
            ),
          ),
        ),
      ),
    ),
  ),
)
