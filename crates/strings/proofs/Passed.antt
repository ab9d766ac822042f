-- Theorems on what specs/Passed defines. They stand here, as a wrong definition there is to be refused and not to be unread.
-- Assumes nothing.
use Rattle.std.specs.Prelude.{◌≡◌, Bool, List, ℕ, ◌+◌, ◌-◌, ◌≤◌, take, Ok, Some}
use Rattle.std.proofs.Common.{sym, ap, ◌∙◌, arith}
use Rattle.std.proofs.Math.ListN.{length, drop}
use Rattle.word.specs.Part.{part, length_part, part_part, part_drop}
use Rattle.refusal.specs.declared.Part.{Part}
use Rattle.text.specs.declared.Manner.{Manner}
use Rattle.strings.specs.Strings.{body, key_len, frame_of, step_of, place_of}
use Rattle.strings.specs.Walks.{in_frame, next_fits, judged_clear}
use Rattle.strings.proofs.Walks.{next_bounds, place_fits}
use Rattle.strings.specs.Passed.{Lies, seen_place}

module _ (how : Manner) (high : Bool) (t u : List ℕ) (p : Part) (prev f : List ℕ) (e at o n : ℕ) (fits : e ≤ length f)
    (h : step_of how high t u p prev (part at e f) at ≡ Ok (Some (o, n))) where
  frame : frame_of how high t (part at e f) ≡ Ok (Some o)
  frame = (next_fits how high t u p prev (part at e f) at o n h).0

  long : key_len (body t o (part at e f)) ≡ n
  long = (judged_clear how u prev (body t o (part at e f)) n (next_fits how high t u p prev (part at e f) at o n h).1).1

  pub seen_lies : Lies (length t) e at (at + 2 + n) o
  seen_lies =
      let i = in_frame how high t (part at e f) o frame in
      let b = place_fits how high t (part at e f) at o frame in
      let w = length_part at e f fits in
      let k = long in
      let v = b.inside in
      (omega (arith, i.low), omega arith, omega (arith, v.1, v.2), omega (arith, i.fit))

  pub seen_key : take n (drop 2 (part at e f)) ≡ part (at + 2) (at + 2 + n) f
  seen_key =
      let b = next_bounds how high t u p prev (part at e f) at o n h in
      let w : length (part at e f) ≡ e - at = length_part at e f fits in
      let s : at + (2 + n) ≡ at + 2 + n = omega arith in
      let r : 2 + n - 2 ≡ n = omega arith in
      ap (λ (j : ℕ). take j (drop 2 (part at e f))) (sym r) ∙ part_part 2 (2 + n) at e f (omega (arith, b.1, b.2))
      ∙ ap (λ (j : ℕ). part (at + 2) j f) s

  pub seen_place_lem : place_of t o (part at e f) at ≡ seen_place t f at (at + 2 + n) o
  unfolding body
  seen_place_lem =
      let l = seen_lies in
      let b : part 2 (o - length t) (part at e f) ≡ part (at + 2) (at + (o - length t)) f = part_part 2 (o - length t) at e f (omega (arith, l.3)) in
      let k : key_len (part (at + 2) (at + (o - length t)) f) ≡ n = rw b at long in
      let d : drop n (part (at + 2) (at + (o - length t)) f) ≡ part (at + 2 + n) (at + (o - length t)) f = part_drop n (at + 2) (at + (o - length t)) f in
      rw (b, k, d)
