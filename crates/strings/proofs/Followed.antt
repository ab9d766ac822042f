-- Theorems on what specs/Followed defines. They stand here, as a wrong definition there is to be refused and not to be unread.
-- Assumes nothing.
use Rattle.std.specs.Prelude.{◌≡◌, Bool, List, ℕ, suc, ◌+◌, ◌-◌, ◌≤◌, drop, Ok, Some}
use Rattle.std.proofs.Math.Path.{ap}
use Rattle.std.proofs.Common.{◌∙◌, arith}
use Rattle.std.proofs.Math.ListN.{length, take}
use Rattle.std.proofs.Math.Seq.{take-take}
use Rattle.word.specs.Part.{part, part_drop}
use Rattle.refusal.specs.declared.Part.{Part}
use Rattle.text.specs.declared.Manner.{Manner}
use Rattle.strings.specs.Strings.{body, key_len, key_of, frame_of, judged_of, step_of, strings_from, on_text, places_from}
use Rattle.strings.specs.Walks.{in_frame, next_fits, judged_clear, length_body, key_len_le}
use Rattle.strings.proofs.Passed.{seen_key}
use Rattle.strings.specs.Followed.{Followed}
use Rattle.refusal.specs.Verdicts.{accepted}

module _ (how : Manner) (high : Bool) (t u : List ℕ) (p : Part) (f : List ℕ) (e : ℕ) where
  module _ (fits : e ≤ length f) (m at : ℕ) (prev : List ℕ) (o n : ℕ) (h : step_of how high t u p prev (part at e f) at ≡ Ok (Some (o, n))) where
    abbrev l : List ℕ
    l = part at e f

    abbrev b : List ℕ
    b = body t o l

    clears : (frame_of how high t l ≡ Ok (Some o)) × (judged_of how u prev b ≡ Ok n)
    clears = next_fits how high t u p prev l at o n h

    long : key_len b ≡ n
    long = (judged_clear how u prev b n clears.1).1

    own : key_of b ≡ part (at + 2) (at + 2 + n) f
    unfolding body
    own =
        let i = in_frame how high t l o clears.0 in
        let s = length_body t o l i.low i.fit in
        let k = key_len_le b in
        let g = long in
        ap (λ (j : ℕ). take j b) long ∙ take-take n (o - length t - 2) (drop 2 l) (omega (arith, i.low)) ∙ seen_key how high t u p prev f e at o n fits h

    pub followed : strings_from how (suc m) high t u p prev l at ≡ accepted → Followed how high t u p f e m at prev o n
    unfolding strings_from places_from on_text
    followed q =
        let y = seen_key how high t u p prev f e at o n fits h in
        record {
          rest = rw (h, y, part_drop o at e f) at q;
          places = rw (clears.0, part_drop o at e f);
          own_key = rw long;
          key = own;
          clear = (judged_clear how u prev b n clears.1).0;
        }
