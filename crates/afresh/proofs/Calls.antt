-- Theorems on what specs/Calls defines. They stand here, as a wrong definition there is to be refused and not to be unread.
-- Assumes nothing.
use Rattle.std.specs.Prelude.{◌≡◌, Bool, ℕ, ◌+◌, ◌-◌, ◌≤◌, take, drop, eqb, Result, Ok, Err, refl, List, [], ◌∷◌, ◌++◌}
use Rattle.std.proofs.Common.{sym, ap, ◌∙◌, arith, drop-drop, append-nil, append_assoc}
use Rattle.layout.specs.Layout.{Trace}
use Rattle.start.specs.Start.{start_answer, start_left}
use Rattle.writer.specs.Answers.{add_answer, add_left}
use Rattle.afresh.specs.FileOf.{file_of, file_size, Holds}
use Rattle.afresh.specs.Step.{start_past}
use Rattle.afresh.proofs.Step.{start_afresh, add_end, add_past, add_afresh}
use Rattle.afresh.specs.Calls.{Grew, accepted_of, accepted_refused, accepted_to, after, after_refused, after_to}
use Rattle.refusal.specs.declared.Refusal.{Refusal}

-- so the calls that were accepted, made alone, leave the same bytes and the same length, past the image too
pub after_accepted : (calls : List Trace) (xs : List ℕ) (n : ℕ) → after xs n (accepted_of xs n calls) ≡ after xs n calls
unfolding accepted_of
after_accepted [] xs n = refl
after_accepted (x ∷ calls) xs n = go (add_answer xs n x) refl (after_accepted calls)
  where
    go : (w : Result ℕ Refusal) → add_answer xs n x ≡ w → ((ys : List ℕ) (m : ℕ) → after ys m (accepted_of ys m calls) ≡ after ys m calls)
        → after xs n (accepted_of xs n (x ∷ calls)) ≡ after xs n (x ∷ calls)
    go (Ok end) h more =
        rw (accepted_to xs n x calls end h, after_to xs n x calls end h)
        (after_to xs n x (accepted_of (add_left xs n x) end calls) end h ∙ more (add_left xs n x) end)
    go (Err r) h more = rw (accepted_refused xs n x calls r h, after_refused xs n x calls r h) (more xs n)

-- ---- any sequence

-- what is left past a place is left past a later one
left_further : (e m : ℕ) (ys xs : List ℕ) → e ≤ m → drop e ys ≡ drop e xs → drop m ys ≡ drop m xs
left_further e m ys xs l h =
    let on : e + (m - e) ≡ m = omega arith in
    ap (λ (k : ℕ). drop k ys) (sym on) ∙ sym (drop-drop (m - e) e ys) ∙ ap (drop (m - e)) h ∙ drop-drop (m - e) e xs ∙ ap (λ (k : ℕ). drop k xs) on

module _ (high : Bool) (slots : ℕ) (sheet : List ℕ) where
  -- a state that is the file of a list goes on to be the file of that list and the accepted traces behind it
  pub grows : (calls ts : List Trace) (xs : List ℕ) (n : ℕ) → Holds high slots sheet ts xs n
      → (Grew high slots sheet) (ts ++ accepted_of xs n calls) xs n (after xs n calls)
  unfolding after accepted_of
  grows [] ts xs n is = record { holds = rw (append-nil ts) is; longer = omega arith; past = refl; size = refl }
  grows (x ∷ calls) ts xs n is = go (add_answer xs n x) refl (grows calls)
    where
      go : (w : Result ℕ Refusal) → add_answer xs n x ≡ w
          → ((us : List Trace) (ys : List ℕ) (m : ℕ) → Holds high slots sheet us ys m
          → (Grew high slots sheet) (us ++ accepted_of ys m calls) ys m (after ys m calls))
          → (Grew high slots sheet) (ts ++ accepted_of xs n (x ∷ calls)) xs n (after xs n (x ∷ calls))
      go (Ok end) h more =
          let g = more (ts ++ (x ∷ [])) (add_left xs n x) end (add_afresh high slots sheet ts xs n x is end h) in
          let e = add_end high slots sheet ts xs n x is end h in
          let p = add_past high slots sheet ts xs n x is end h in
          let l : end ≤ (after (add_left xs n x) end calls).1 = g.longer in
          rw (after_to xs n x calls end h, accepted_to xs n x calls end h) (record {
            holds = rw (append_assoc ts (x ∷ []) (accepted_of (add_left xs n x) end calls)) at g.holds;
            longer = omega arith;
            past = g.past ∙ left_further end (after (add_left xs n x) end calls).1 (add_left xs n x) xs l p.0;
            size = g.size ∙ p.1;
          })
      go (Err r) h more = rw (after_refused xs n x calls r h, accepted_refused xs n x calls r h) (more ts xs n is)

module _ (xs : List ℕ) (order slots : ℕ) (sheet : List ℕ) (e : ℕ) (to : start_answer xs order slots sheet ≡ Ok e) (calls : List Trace) where
  pub start_grows : Grew (eqb order 1) slots sheet (accepted_of (start_left xs order slots sheet) e calls) xs e
      (after (start_left xs order slots sheet) e calls)
  start_grows =
      let ys = start_left xs order slots sheet in
      let g = grows (eqb order 1) slots sheet calls [] ys e (start_afresh xs order slots sheet e to) in
      let p = start_past xs order slots sheet e to in
      record {
        holds = g.holds;
        longer = g.longer;
        past = g.past ∙ left_further e (after ys e calls).1 ys xs g.longer p.0;
        size = g.size ∙ p.1;
      }

  -- the same in two equations: the image is the file of the accepted ones, and the length is its length
  pub calls_afresh : (take (after (start_left xs order slots sheet) e calls).1 (after (start_left xs order slots sheet) e calls).0
      ≡ file_of (eqb order 1) slots sheet (accepted_of (start_left xs order slots sheet) e calls))
      × ((after (start_left xs order slots sheet) e calls).1 ≡ file_size slots sheet (accepted_of (start_left xs order slots sheet) e calls))
  calls_afresh = (start_grows.holds.image, start_grows.holds.size)
