-- Theorems on what specs/Areas defines. They stand here, as a wrong definition there is to be refused and not to be unread.
-- Assumes nothing.
use Rattle.std.specs.Prelude.{◌≡◌, Bool, Result, Ok, Err, Option, Some, None, List, [], ◌∷◌, ℕ, zero, suc, ◌+◌, ◌-◌, ◌≤◌, length, take, drop}
use Rattle.std.proofs.Common.{refl, ap, sym, ◌∙◌, arith, length-take, take_all}
use Rattle.text.specs.declared.Manner.TheVariants.{Strict}
use Rattle.word.specs.Part.{part, part_drop, part_part, part_none}
use Rattle.refusal.specs.declared.Part.{Part}
use Rattle.strings.specs.declared.Place.{Place}
use Rattle.strings.specs.Strings.{offset, body, key_len, gap_len, after_key, frame_of, on_frame, step_of, on_step, strings_from}
use Rattle.strings.specs.Strings.{strings_of, place_of, on_text, places_from, places_of, key_in, value_in}
use Rattle.strings.specs.Paper.{end_told}
use Rattle.strings.specs.Walks.{in_frame, next_fits}
use Rattle.strings.proofs.Walks.{place_fits, next_bounds}
use Rattle.ignored.specs.Areas.{SameAt, drop_long, front_same, offset_same, part_same, read_of, rest_same, used_from, used_of}
use Rattle.refusal.specs.declared.Refusal.{Refusal}
use Rattle.refusal.specs.declared.Rule.{Rule}

-- ---- one string

-- a frame is told by the length that is left, the offset and the bytes before the offset's end
frame_same : (high : Bool) (t l r : List ℕ) → length l ≡ length r → offset high l ≡ offset high r
    → part (offset high l - length t) (offset high l) l ≡ part (offset high l - length t) (offset high l) r
    → frame_of Strict high t l ≡ frame_of Strict high t r
unfolding frame_of
frame_same high t l r n o p = rw (n, p, o)

module _ (high : Bool) (t l r : List ℕ) (long : length l ≡ length r) where
  end_same : frame_of Strict high t l ≡ Ok None → take 2 l ≡ take 2 r → frame_of Strict high t r ≡ Ok None
  end_same f q =
      let o = offset_same high 2 l r (omega arith) q in
      let z : offset high l ≡ 0 = (end_told Strict high t l f).1 in
      let a : ℕ = offset high l - length t in
      sym (frame_same high t l r long o (part_none a (offset high l) l (omega arith) ∙ sym (part_none a (offset high l) r (omega arith)))) ∙ f

  text_same : (o : ℕ) → frame_of Strict high t l ≡ Ok (Some o) → take o l ≡ take o r → frame_of Strict high t r ≡ Ok (Some o)
  text_same o f q =
      let i = in_frame Strict high t l o f in
      let e = offset_same high o l r (omega (arith, i.low)) q in
      sym (frame_same high t l r long e (part_same (offset high l - length t) (offset high l) o l r (omega (arith, i.told)) q)) ∙ f

  body_same : (o : ℕ) → take o l ≡ take o r → body t o l ≡ body t o r
  unfolding body
  body_same o q = part_same 2 (o - length t) o l r (omega arith) q

all_same : (l r : List ℕ) → length l ≡ length r → take (length l) l ≡ take (length l) r → l ≡ r
all_same l r n q = sym (take_all (length l) l (omega arith)) ∙ q ∙ take_all (length l) r (omega arith)

module _ (high : Bool) (t u : List ℕ) (p : Part) where
  step_same : (m : ℕ) (prev l r : List ℕ) (at : ℕ) → length l ≡ length r → take (used_from (suc m) high t l) l ≡ take (used_from (suc m) high t l) r
      → step_of Strict high t u p prev l at ≡ step_of Strict high t u p prev r at
  unfolding used_from step_of on_frame
  step_same m prev l r at n q = go (frame_of Strict high t l) refl q
    where
      go : (w : Result (Option ℕ) Rule) → frame_of Strict high t l ≡ w
          → take (read_of w (length l) (λ o. used_from m high t (drop o l))) l ≡ take (read_of w (length l) (λ o. used_from m high t (drop o l))) r
          → on_frame Strict (frame_of Strict high t l) t u prev l p at ≡ on_frame Strict (frame_of Strict high t r) t u prev r p at
      go (Ok None) f q = rw (f, end_same high t l r n f q)
      go (Err b) f q = ap (λ (x : List ℕ). on_frame Strict (frame_of Strict high t x) t u prev x p at) (all_same l r n q)
      go (Ok (Some o)) f q =
          let g = front_same o (o + used_from m high t (drop o l)) l r (omega arith) q in
          rw (f, text_same high t l r n o f g, body_same high t l r n o g)

  -- what a step past a string leaves
  next_same : (m : ℕ) (prev l r : List ℕ) (at o k : ℕ) → length l ≡ length r → take (used_from (suc m) high t l) l ≡ take (used_from (suc m) high t l) r
      → step_of Strict high t u p prev l at ≡ Ok (Some (o, k))
      → (take k (drop 2 l) ≡ take k (drop 2 r)) × (take (used_from m high t (drop o l)) (drop o l) ≡ take (used_from m high t (drop o l)) (drop o r))
  unfolding used_from
  next_same m prev l r at o k n q e =
      let f = (next_fits Strict high t u p prev l at o k e).0 in
      let b = (next_bounds Strict high t u p prev l at o k e).2 in
      let w : take (o + used_from m high t (drop o l)) l ≡ take (o + used_from m high t (drop o l)) r = rw f at q in
      (rest_same 2 k l r (front_same (2 + k) (o + used_from m high t (drop o l)) l r (omega arith) w), rest_same o (used_from m high t (drop o l)) l r w)

  from_same : (m : ℕ) (prev l r : List ℕ) (at : ℕ) → length l ≡ length r → take (used_from m high t l) l ≡ take (used_from m high t l) r
      → strings_from Strict m high t u p prev l at ≡ strings_from Strict m high t u p prev r at
  unfolding strings_from used_from
  from_same zero prev l r at n q = refl
  from_same (suc m) prev l r at n q = go (step_of Strict high t u p prev l at) refl (from_same m)
    where
      go : (st : Result (Option (ℕ × ℕ)) Refusal) → step_of Strict high t u p prev l at ≡ st
          → ((prev l r : List ℕ) (at : ℕ) → length l ≡ length r → take (used_from m high t l) l ≡ take (used_from m high t l) r
          → strings_from Strict m high t u p prev l at ≡ strings_from Strict m high t u p prev r at)
          → on_step (step_of Strict high t u p prev l at) (λ o k. strings_from Strict m high t u p (take k (drop 2 l)) (drop o l) (at + o))
          ≡ on_step (step_of Strict high t u p prev r at) (λ o k. strings_from Strict m high t u p (take k (drop 2 r)) (drop o r) (at + o))
      go (Ok (Some (o, k))) e again =
          let s = next_same m prev l r at o k n q e in
          rw (← step_same m prev l r at n q, e, s.0) (again (take k (drop 2 r)) (drop o l) (drop o r) (at + o) (drop_long o l r n) s.1)
      go (Ok None) e again = rw (← step_same m prev l r at n q, e)
      go (Err x) e again = rw (← step_same m prev l r at n q, e)

  -- the check of an area
  pub strings_same : (l r : List ℕ) (at : ℕ) → length l ≡ length r → take (used_of high t l) l ≡ take (used_of high t l) r
      → strings_of Strict high t u p l at ≡ strings_of Strict high t u p r at
  unfolding strings_of used_of
  strings_same l r at n q = rw (from_same (length l) [] l r at n q, n)

module _ (high : Bool) (t : List ℕ) where
  spots_same : (m : ℕ) (l r : List ℕ) (at : ℕ) → length l ≡ length r → take (used_from m high t l) l ≡ take (used_from m high t l) r
      → places_from Strict m high t l at ≡ places_from Strict m high t r at
  unfolding places_from used_from on_text
  spots_same zero l r at n q = refl
  spots_same (suc m) l r at n q = go (frame_of Strict high t l) refl q (spots_same m)
    where
      go : (w : Result (Option ℕ) Rule) → frame_of Strict high t l ≡ w
          → take (read_of w (length l) (λ o. used_from m high t (drop o l))) l ≡ take (read_of w (length l) (λ o. used_from m high t (drop o l))) r
          → ((l r : List ℕ) (at : ℕ) → length l ≡ length r → take (used_from m high t l) l ≡ take (used_from m high t l) r
          → places_from Strict m high t l at ≡ places_from Strict m high t r at)
          → on_text (frame_of Strict high t l) [] (λ o. place_of t o l at ∷ places_from Strict m high t (drop o l) (at + o))
          ≡ on_text (frame_of Strict high t r) [] (λ o. place_of t o r at ∷ places_from Strict m high t (drop o r) (at + o))
      go (Ok None) f q again = rw (f, end_same high t l r n f q)
      go (Err b) f q again =
          ap (λ (x : List ℕ). on_text (frame_of Strict high t x) []
          (λ o. place_of t o x at ∷ places_from Strict m high t (drop o x) (at + o))) (all_same l r n q)
      go (Ok (Some o)) f q again =
          let g = front_same o (o + used_from m high t (drop o l)) l r (omega arith) q in
          let b = body_same high t l r n o g in
          rw (f, text_same high t l r n o f g, b) (ap (λ (ps : List Place). place_of t o r at ∷ ps)
          (again (drop o l) (drop o r) (at + o) (drop_long o l r n) (rest_same o (used_from m high t (drop o l)) l r q)))

  -- the same places of an area
  pub places_same : (l r : List ℕ) (at : ℕ) → length l ≡ length r → take (used_of high t l) l ≡ take (used_of high t l) r
      → places_of Strict high t l at ≡ places_of Strict high t r at
  unfolding places_of used_of
  places_same l r at n q = spots_same (length l) l r at n q ∙ ap (λ (m : ℕ). places_from Strict m high t r at) n

-- an area has no more bytes than its places say
part_within : (a e : ℕ) (f : List ℕ) → length (part a e f) ≤ e - a
part_within a e f = let k = length-take (e - a) (drop a f) in omega arith

-- a part within the first o bytes of an area
piece_same : (f g : List ℕ) (at e o i j : ℕ) → at + o ≤ e → j ≤ o → take o (part at e f) ≡ take o (part at e g)
    → part (at + i) (at + j) f ≡ part (at + i) (at + j) g
piece_same f g at e o i j h k q =
    sym (part_part i j at e f (omega arith)) ∙ part_same i j o (part at e f) (part at e g) k q ∙ part_part i j at e g (omega arith)

module _ (high : Bool) (t f g : List ℕ) where
  place_same : (at e o : ℕ) → frame_of Strict high t (part at e f) ≡ Ok (Some o) → take o (part at e f) ≡ take o (part at e g)
      → (key_in f (place_of t o (part at e f) at) ≡ key_in g (place_of t o (part at e f) at))
      × (value_in f (place_of t o (part at e f) at) ≡ value_in g (place_of t o (part at e f) at))
  place_same at e o w q =
      let l : List ℕ = part at e f in
      let b : List ℕ = body t o l in
      let s = place_fits Strict high t l at o w in
      let n = part_within at e f in
      let k : at + 2 + key_len b ≡ at + (2 + key_len b) = omega arith in
      let v : at + 2 + key_len b + gap_len (after_key b) ≡ at + (2 + key_len b + gap_len (after_key b)) = omega arith in (
        rw k (piece_same f g at e o 2 (2 + key_len b) (omega (arith, s.within)) (omega (arith, s.inside.1, s.inside.2, s.inside.3)) q),
        rw v (piece_same f g at e o (2 + key_len b + gap_len (after_key b)) (o - length t) (omega (arith, s.within)) (omega arith) q),
      )

  texts_from : (m at e : ℕ)
      → take (used_from m high t (part at e f)) (part at e f) ≡ take (used_from m high t (part at e f)) (part at e g)
      → SameAt f g (places_from Strict m high t (part at e f) at)
  unfolding places_from used_from on_text
  texts_from zero at e q = tt
  texts_from (suc m) at e q = go (frame_of Strict high t (part at e f)) refl q (texts_from m)
    where
      go : (w : Result (Option ℕ) Rule) → frame_of Strict high t (part at e f) ≡ w
          → take (read_of w (length (part at e f)) (λ o. used_from m high t (drop o (part at e f)))) (part at e f)
          ≡ take (read_of w (length (part at e f)) (λ o. used_from m high t (drop o (part at e f)))) (part at e g)
          → ((at e : ℕ)
          → take (used_from m high t (part at e f)) (part at e f) ≡ take (used_from m high t (part at e f)) (part at e g)
          → SameAt f g (places_from Strict m high t (part at e f) at))
          → SameAt f g (on_text w [] (λ o. place_of t o (part at e f) at ∷ places_from Strict m high t (drop o (part at e f)) (at + o)))
      go (Ok None) w q again = tt
      go (Err b) w q again = tt
      go (Ok (Some o)) w q again =
          let l : List ℕ = part at e f in
          let r : List ℕ = part at e g in
          let d : drop o l ≡ part (at + o) e f = part_drop o at e f in
          let d' : drop o r ≡ part (at + o) e g = part_drop o at e g in
          let u = used_from m high t (drop o l) in
          let h : take u (drop o l) ≡ take u (drop o r) = rest_same o u l r q in (
            place_same at e o w (front_same o (o + u) l r (omega arith) q),
            rw d (again (at + o) e (rw (d, d') at h)),
          )

  -- an area that is alike up to its end mark has the same strings
  pub texts_same : (a e : ℕ) → take (used_of high t (part a e f)) (part a e f) ≡ take (used_of high t (part a e f)) (part a e g)
      → SameAt f g (places_of Strict high t (part a e f) a)
  unfolding places_of used_of
  texts_same a e q = texts_from (length (part a e f)) a e q
