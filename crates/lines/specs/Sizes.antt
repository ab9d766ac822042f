-- How long each line is, and how many digits its numbers can have.
-- Assumes nothing.
use Rattle.std.specs.Prelude.{◌≡◌, Bool, true, false, List, [], ◌∷◌, ◌++◌, ℕ, ◌+◌, ◌^◌, ◌≤◌, ◌<◌, length}
use Rattle.std.proofs.Common.{ap, ◌∙◌, arith, length-append}
use Rattle.refusal.specs.declared.Part.{Part}
use Rattle.digits.specs.Digits.{digits, digits_few}
use Rattle.refusal.specs.declared.Rule.{Rule}
use Rattle.refusal.specs.Table.{number_of}
use Rattle.refusal.proofs.Numbers.{below_hundred}
use Rattle.lines.specs.Lines.{ended, whose, order, head_line, trace_line, spaced, label, string_line}

pub length_ended : (n b : ℕ) → length (ended n b) ≡ length (digits n) + 1
unfolding ended
length_ended n b = length-append (digits n) (b ∷ [])

pub length_order : (high : Bool) → length (order high) ≤ 10
unfolding order
length_order true = omega arith
length_order false = omega arith

pub length_head : (high : Bool) (n m : ℕ) → length (head_line high n m) ≡ length (order high) + (length (ended n 9) + length (ended m 10))
unfolding head_line
length_head high n m = length-append (order high) (ended n 9 ++ ended m 10) ∙ ap (λ (k : ℕ). length (order high) + k) (length-append (ended n 9) (ended m 10))

pub length_trace : (k code s : ℕ) → length (trace_line k code s) ≡ 2 + (length (ended k 9) + (length (ended code 9) + length (ended s 10)))
unfolding trace_line
length_trace k code s =
    let a = length-append (84 ∷ 9 ∷ []) (ended k 9 ++ (ended code 9 ++ ended s 10)) in
    let b = length-append (ended k 9) (ended code 9 ++ ended s 10) in
    let c = length-append (ended code 9) (ended s 10) in
    omega arith

pub length_label : (p : Part) (key : List ℕ) → length (label p key) ≡ 2 + (length (whose p) + (1 + (length key + 1)))
unfolding label
length_label p key =
    let b = length-append (whose p) ((9 ∷ []) ++ (key ++ (9 ∷ []))) in
    let c = length-append key (9 ∷ []) in
    omega arith

pub length_line : (p : Part) (key v : List ℕ) → length (string_line p key v) ≡ length (label p key) + (length (spaced v) + 1)
unfolding string_line
length_line p key v =
    let b = length-append (label p key) (spaced v ++ (10 ∷ [])) in
    let c = length-append (spaced v) (10 ∷ []) in
    omega arith

-- ---- numbers

pub five : (n : ℕ) → n < 100000 → length (digits n) ≤ 5
five n h = digits_few 5 n (omega arith) h

pub trace_number_lem : (k : ℕ) → k < 65536 → length (digits k) ≤ 5
trace_number_lem k h = five k (omega arith)

pub rule_number : (r : Rule) → length (ended (number_of r) 9) ≤ 3
rule_number r = omega (arith, digits_few 2 (number_of r) (omega arith) (below_hundred r), length_ended (number_of r) 9)

pub place_number : (n : ℕ) → n < 18446744073709551616 → length (ended n 10) ≤ 21
place_number n h =
    let z : 18446744073709551616 ≤ 10 ^ 20 = omega arith in
    omega (arith, digits_few 20 n (omega arith) (omega arith), length_ended n 10)
