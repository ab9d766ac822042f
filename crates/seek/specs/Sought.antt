-- The check of an area that seeks a keyword in the same pass: what it answers; where the keyword was first seen, and
-- what that is at the end.
-- Assumes nothing.
use Rattle.std.proofs.Math.Path.{◌≡◌, refl, ap}
use Rattle.std.proofs.Common.{sym, ◌∙◌, arith, leb-true, leb-false, Result, Ok, Err, Option, Some, None}
use Rattle.std.specs.Prelude.{Bool, ◌&&◌, ℕ, ◌+◌, ◌-◌, ◌≤◌, ◌<◌, length}
use Rattle.std.proofs.Math.Bool.{true, false}
use mathlib.Core.List.{List, [], ◌∷◌}
use Rattle.std.proofs.Math.Dec.{leb}
use Rattle.word.specs.Part.{part, part_none}
use Rattle.refusal.specs.Rows.{pick}
use Rattle.refusal.specs.declared.Part.{Part}
use Rattle.refusal.specs.declared.Refusal.{Refusal}
use Rattle.refusal.specs.Verdicts.{asked, accepted}
use Rattle.strings.specs.declared.Place.{Place}
use Rattle.text.specs.declared.Manner.{Manner}
use Rattle.text.specs.Manner.{named}
use Rattle.chars.specs.Runs.{same}
use Rattle.strings.specs.Strings.{step_of, place_of, on_text, entry_of, places_from, places_of}
use Rattle.strings.specs.Strings.{strings_of, find_of, found, value_found}
use Rattle.std.specs.Option.{is_some, unwrap_or}
use Rattle.strings.specs.Walks.{next_fits, done_frame, place_next, place_stop, walk_none}
use Rattle.strings.proofs.Walks.{place_over}
use Rattle.strings.specs.Passed.{seen_place, Lies}
use Rattle.strings.proofs.Passed.{seen_lies, seen_place_lem}
use Rattle.refusal.specs.Verdicts.{Verdict}

-- what is told of a string: where its value begins and ends
unfoldable pub span_of : Option Place → Option (ℕ × ℕ)
span_of None = None
span_of (Some s) = Some (s.value, s.end)

-- the bytes of a span
abbrev pub span_bytes : List ℕ → Option (ℕ × ℕ) → List ℕ
span_bytes f None = []
span_bytes f (Some s) = part s.0 s.1 f

-- a span lies in the file
abbrev pub SpanIn : List ℕ → Option (ℕ × ℕ) → Type 0
SpanIn f None = Unit {0}
SpanIn f (Some s) = (s.0 ≤ s.1) × (s.1 ≤ length f)

-- rows 14 to 17 of the area from a to e of f and, where none is met, its first string with a keyword
unfoldable pub checked_of : Manner → Bool → List ℕ → List ℕ → Part → List ℕ → ℕ → ℕ → List ℕ → Result (Option (ℕ × ℕ)) Refusal
checked_of how high t u p f a e key =
    asked Err (strings_of how high t u p (part a e f) a) (Ok (span_of (find_of how f (places_of how high t (part a e f) a) key)))

-- where there is no span an empty one has its bytes
pub span_or : (f : List ℕ) (x : Option (ℕ × ℕ)) → part (unwrap_or x (0, 0)).0 (unwrap_or x (0, 0)).1 f ≡ span_bytes f x
span_or f None = part_none 0 0 f (omega arith)
span_or f (Some s) = refl

pub span_or_in : (f : List ℕ) (x : Option (ℕ × ℕ)) → SpanIn f x → ((unwrap_or x (0, 0)).0 ≤ (unwrap_or x (0, 0)).1) × ((unwrap_or x (0, 0)).1 ≤ length f)
span_or_in f None h = (omega arith, omega arith)
span_or_in f (Some s) h = h

-- a string is there where its span is, and the span has the bytes of its value
pub span_there : (s : Option Place) → is_some (span_of s) ≡ found s
unfolding span_of
span_there None = refl
span_there (Some s) = refl

pub span_told : (f : List ℕ) (s : Option Place) → span_bytes f (span_of s) ≡ value_found f s
unfolding value_found span_of
span_told f None = refl
span_told f (Some s) = refl

-- and what was seen in the area that ends at e: before it is seen, hit is that end
unfoldable pub seen_of : List ℕ → List ℕ → ℕ → ℕ → ℕ → ℕ → Option Place
seen_of t f e hit gap size = pick (leb e hit) None (Some (seen_place t f hit gap size))

-- ---- where a walk stands that has seen the keyword at `hit`, or is to see it from `at` on: hit is then the area's end
module _ (how : Manner) (high : Bool) (t f key : List ℕ) (a e : ℕ) where
  -- what is sought
  abbrev goal : Option Place
  goal = find_of how f (places_of how high t (part a e f) a) key

  pub record Sought (at hit gap size m : ℕ) : Type 0 where
    pub later : e ≤ hit → find_of how f (places_from how m high t (part at e f) at) key ≡ goal
    pub before : hit < e → Some (seen_place t f hit gap size) ≡ goal
    pub lies : hit < e → Lies (length t) e hit gap size

  pub sought_start : Sought a e e 0 (length (part a e f))
  unfolding places_of
  sought_start = record { later = λ _. refl; before = λ l. absurd (omega arith); lies = λ l. absurd (omega arith) }

  module _ (at hit gap size m : ℕ) (s : Sought at hit gap size m) where
    -- no string is left
    pub sought_end : [] ≡ places_from how m high t (part at e f) at → seen_of t f e hit gap size ≡ goal
    unfolding find_of seen_of
    sought_end h = go (leb e hit) refl
      where
        go : (w : Bool) → leb e hit ≡ w → pick w None (Some (seen_place t f hit gap size)) ≡ goal
        go true q = ap (λ (ps : List Place). find_of how f ps key) h ∙ s.later (leb-true e hit q)
        go false q = s.before (leb-false e hit q)

    pub sought_done : (u : List ℕ) (p : Part) (prev : List ℕ) → at < e → e ≤ length f → e - at ≤ m → step_of how high t u p prev (part at e f) at ≡ Ok None
        → seen_of t f e hit gap size ≡ goal
    unfolding entry_of on_text
    sought_done u p prev low fits enough h =
        let stops : entry_of how high t (part at e f) at ≡ None = rw (done_frame how high t u p prev (part at e f) at h) in
        sought_end (place_stop how high t f e at m low fits enough stops)

    pub sought_over : e ≤ at → seen_of t f e hit gap size ≡ goal
    sought_over h = sought_end (place_over how high t f e at m h)

    -- a string is passed, and its keyword compared
    module _ (u : List ℕ) (p : Part) (prev : List ℕ) (o n : ℕ) (low : at < e) (fits : e ≤ length f) (enough : e - at ≤ m)
        (h : step_of how high t u p prev (part at e f) at ≡ Ok (Some (o, n))) where
      here : entry_of how high t (part at e f) at ≡ Some (place_of t o (part at e f) at, o)
      unfolding entry_of on_text
      here = rw (next_fits how high t u p prev (part at e f) at o n h).0

      compared : (w : Bool) → same (named how (part (at + 2) (at + 2 + n) f)) key ≡ w
          → find_of how f (places_from how m high t (part at e f) at) key
          ≡ pick w (Some (seen_place t f at (at + 2 + n) o)) (find_of how f (places_from how (m - 1) high t (part (at + o) e f) (at + o)) key)
      unfolding find_of
      compared w q =
          let rest : List Place = places_from how (m - 1) high t (part (at + o) e f) (at + o) in
          let p : places_from how m high t (part at e f) at ≡ seen_place t f at (at + 2 + n) o ∷ rest =
          place_next how high t f e at m low fits enough _ o here ∙ ap (λ (x : Place). x ∷ rest) (seen_place_lem how high t u p prev f e at o n fits h) in
          rw (p, q)

      pub sought_next : {seen : Bool} {hit' gap' size' : ℕ} → seen ≡ same (named how (part (at + 2) (at + 2 + n) f)) key
          → hit' ≡ pick (leb e hit && seen) at hit → gap' ≡ pick (leb e hit && seen) (at + 2 + n) gap → size' ≡ pick (leb e hit && seen) o size
          → Sought (at + o) hit' gap' size' (m - 1)
      sought_next {seen} {hit'} {gap'} {size'} q x y z = go (leb e hit) seen refl (sym q) x y z
        where
          go : (v w : Bool) → leb e hit ≡ v → same (named how (part (at + 2) (at + 2 + n) f)) key ≡ w → hit' ≡ pick (v && w) at hit
              → gap' ≡ pick (v && w) (at + 2 + n) gap → size' ≡ pick (v && w) o size → Sought (at + o) hit' gap' size' (m - 1)
          go true true c b x y z =
              rw (x, y, z)
              (record {
                later = λ l. absurd (omega arith);
                before = λ l. sym (compared true b) ∙ s.later (leb-true e hit c);
                lies = λ l. seen_lies how high t u p prev f e at o n fits h;
              })
          go true false c b x y z =
              rw (x, y, z)
              (record {
                later = λ l. sym (compared false b) ∙ s.later l;
                before = s.before;
                lies = s.lies;
              })
          go false w c b x y z =
              rw (x, y, z)
              (record {
                later = λ l. absurd (let k = leb-false e hit c in omega arith);
                before = s.before;
                lies = s.lies;
              })

-- ---- the answer: the first row that is met, or what was seen
module _ (how : Manner) (high : Bool) (t u : List ℕ) (p : Part) (f : List ℕ) (a e : ℕ) (key : List ℕ) where
  pub checked_bad : {r : Refusal} → Err r ≡ strings_of how high t u p (part a e f) a → Err r ≡ checked_of how high t u p f a e key
  unfolding checked_of
  checked_bad h = rw (sym h)

  pub checked_seen : {s : Option Place} {x : Option (ℕ × ℕ)} → accepted ≡ strings_of how high t u p (part a e f) a
      → s ≡ find_of how f (places_of how high t (part a e f) a) key → x ≡ span_of s → Ok x ≡ checked_of how high t u p f a e key
  unfolding checked_of
  checked_seen h s q = rw (q, sym h, s)

  -- an empty area has no string
  pub checked_none : {x : Option (ℕ × ℕ)} → e ≤ a → x ≡ span_of (seen_of t f e e e 0) → Ok x ≡ checked_of how high t u p f a e key
  checked_none h q =
      checked_seen (walk_none how high t u p f a e h)
      (sought_over how high t f key a e a e e 0 (length (part a e f)) (sought_start how high t f key a e) h) q

  -- and what it tells
  pub checked_refused : {r : Refusal} → checked_of how high t u p f a e key ≡ Err r → strings_of how high t u p (part a e f) a ≡ Err r
  unfolding checked_of
  checked_refused {r} h = go (strings_of how high t u p (part a e f) a) _ h
    where
      go : (v : Verdict) (y : Option (ℕ × ℕ)) → asked Err v (Ok y) ≡ Err r → v ≡ Err r
      go (Ok _) y k = let z : ◌≡◌ {A = ℕ} 0 1 = cc in absurd (omega arith)
      go (Err q) y k = let s : q ≡ r = cc in ap Err s

  pub checked_has : {x : Option (ℕ × ℕ)} → checked_of how high t u p f a e key ≡ Ok x
      → (strings_of how high t u p (part a e f) a ≡ accepted) × (x ≡ span_of (find_of how f (places_of how high t (part a e f) a) key))
  unfolding checked_of
  checked_has {x} h = go (strings_of how high t u p (part a e f) a) _ h
    where
      go : (v : Verdict) (y : Option (ℕ × ℕ)) → asked Err v (Ok y) ≡ Ok x → (v ≡ accepted) × (x ≡ y)
      go (Ok _) y k = (refl, cc)
      go (Err q) y k = let z : ◌≡◌ {A = ℕ} 0 1 = cc in absurd (omega arith)
