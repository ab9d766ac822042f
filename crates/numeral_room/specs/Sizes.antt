-- The sizes of a text's pieces, and the text against the room. Assumes nothing.
use Rattle.std.specs.Prelude.{◌≡◌, refl, Bool, true, false, List, ℕ, zero, suc, ◌+◌, ◌≤◌, ◌<◌, length, Result, Ok}
use Rattle.std.proofs.Common.{ap, arith, length-append, lt-ltb, le-ltb}
use Rattle.word.specs.Put.{put}
use Rattle.word.specs.Wrote.{Wrote}
use Rattle.refusal.specs.declared.Rule.TheVariants.{NoRoom}
use Rattle.refusal.specs.Rows.{pick}
use Rattle.refusal.specs.Writing.{refuse, on_written}
use Rattle.digits.specs.Digits.{digits}
use Rattle.digits.specs.LastDigits.{last_digits, last_length}
use Rattle.numeral_text.specs.NumeralText.{unless_zero, sign_text, point_text, power_text}
use Rattle.numeral_text.specs.Stored.{point_shape, power_shape}
use Rattle.numeral_room.specs.Fitted.{fitted}
use Rattle.refusal.specs.declared.Refusal.{Refusal}

-- ---- the sizes, as the code adds them up

pub sign_size : (m : Bool) (r : ℕ) → r ≡ pick m 1 0 → (r ≡ length (sign_text m)) × (r ≤ 1)
unfolding sign_text
sign_size true r e = (e, omega arith)
sign_size false r e = (e, omega arith)

pub point_none_size : (c k : ℕ) → k < 1 → (0 ≡ length (point_text (last_digits k c))) × (0 ≤ k + 1)
unfolding point_text last_digits
point_none_size c zero h = (refl, omega arith)
point_none_size c (suc k) h = absurd (omega arith)

pub point_size : (c k : ℕ) → 1 ≤ k → (k + 1 ≡ length (point_text (last_digits k c))) × (k + 1 ≤ k + 1)
point_size c k h = (let l = ap length (point_shape c k h) in omega (arith, last_length k c), omega arith)

pub power_none_size : (down : Bool) (far : ℕ) → far < 1 → (0 ≡ length (power_text down (unless_zero far))) × (0 ≤ 22)
unfolding power_text
power_none_size down zero h = (refl, omega arith)
power_none_size down (suc k) h = absurd (omega arith)

pub power_size : (down : Bool) (far s k : ℕ) → 1 ≤ far → (s ≡ length (sign_text down)) × (s ≤ 1) → (k ≡ length (digits far)) × (k ≤ 20)
    → (1 + s + k ≡ length (power_text down (unless_zero far))) × (1 + s + k ≤ 22)
power_size down far s k h (e, a) (f, b) =
    let l = ap length (power_shape far down h) in
    let m = length-append (sign_text down) (digits far) in
    (omega arith, omega arith)

-- ---- row 30: the text against the room

pub room_missing : (xs t : List ℕ) (size : ℕ) (r : Result ℕ Refusal) → size ≡ length t → length xs < size → r ≡ refuse NoRoom 0
    → (r ≡ fitted (length xs) t) × (xs ≡ on_written r (put xs 0 t) xs)
room_missing xs t size r e h w =
    let l : length xs < length t = omega arith in
    rw (w, lt-ltb (length xs) (length t) l) (refl, refl)

pub room_enough : (xs t : List ℕ) (size r : ℕ) (zs : List ℕ) → size ≡ length t → size ≤ length xs → Wrote xs 0 t r zs
    → (Ok r ≡ fitted (length xs) t) × (zs ≡ put xs 0 t)
room_enough xs t size r zs e h (w, z) =
    let l : length t ≤ length xs = omega arith in
    let n : r ≡ length t = omega arith in
    rw (le-ltb (length xs) (length t) l) (ap Ok n, z)
