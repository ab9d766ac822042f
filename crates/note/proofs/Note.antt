-- Theorems on what specs/Note defines. They stand here, as a wrong definition there is to be refused and not to be unread.
-- Assumes nothing.
use Rattle.std.specs.Prelude.{◌≡◌, refl, Bool, true, false, not, ◌&&◌, ◌||◌, List, [], ◌∷◌, ◌++◌, ℕ, zero, suc, ◌+◌}
use Rattle.std.specs.Prelude.{◌-◌, ◌≤◌, ◌<◌, length, get_or, take, drop, leb, eqb}
use Rattle.std.proofs.Common.{sym, ap, ◌∙◌, append_assoc, le_refl, lt_of_not-le, arith, length-append, length-drop}
use Rattle.std.proofs.Common.{take-append-drop, take_all, drop-drop, leb-false, le-leb, eqb-true, ne_eqb}
use Rattle.std.proofs.Math.Decide.{dec_le}
use Rattle.std.proofs.Math.Seq.{take-append_seam, drop-append-add, drop-append_seam}
use Rattle.std.proofs.lemmas.Bool.{lt-leb, eqb-false}
use Rattle.word.specs.Tests.{neither, both, never}
use Rattle.refusal.specs.Rows.{pick}
use Rattle.chars.specs.Chars.{note, value_char}
use Rattle.chars.specs.Runs.{same, same_eq, same_not, all}
use Rattle.note_line.specs.NoteLine.{starts, line_len, starts_split, starts_fits, starts_front, line_ends}
use Rattle.note_bytes.specs.NoteBytes.{paired, rest}
use Rattle.note.specs.Note.{Characters, Each, Lacks, LineEnd, Lines, Lines.char, Lines.done, Lines.line, lines, lines_of, value_ok, with_ends}

lines_skip : (u xs bs : List ℕ) → lines u (length xs) (xs ++ bs) ≡ lines u 0 bs
unfolding lines
lines_skip u [] [] = refl
lines_skip u [] (b ∷ bs) = refl
lines_skip u (x ∷ xs) bs = lines_skip u xs bs

-- where the terminator's first byte is no value character, as a terminator's is not, the two say the same
not_start : (x b : ℕ) (xs bs : List ℕ) → value_char x ≡ false → value_char b ≡ true → starts (x ∷ xs) (b ∷ bs) ≡ false
unfolding starts same
not_start x b xs bs n h =
    let ne : b ≡ x → ⊥ = λ (q : b ≡ x). let z : ◌≡◌ {A = ℕ} 0 1 = cc in omega arith in
    go (leb (suc (length xs)) (suc (length bs))) (ne_eqb b x ne)
  where
    go : (w : Bool) → eqb b x ≡ false → (w && (eqb b x && same (take (length xs) bs) xs)) ≡ false
    go true e = rw e
    go false e = refl

accept : (x : ℕ) (xs v : List ℕ) → value_char x ≡ false → Lines (x ∷ xs) v → lines (x ∷ xs) 0 v ≡ true
unfolding lines
accept x xs v n done = refl
accept x xs v n (char {b} {bs} h r) = rw (not_start x b xs bs n h, h) (accept x xs bs n r)
accept x xs v n (line {bs} r) =
    let past : (k : ℕ) → k ≡ length xs → lines (x ∷ xs) k (xs ++ bs) ≡ true = λ k e. rw (e, lines_skip (x ∷ xs) xs bs) (accept x xs bs n r) in
    rw (starts_front (x ∷ xs) bs) (past _ (omega arith))

spelled : (x : ℕ) (xs : List ℕ) (k : ℕ) (v : List ℕ) → lines (x ∷ xs) k v ≡ true → Lines (x ∷ xs) (drop k v)
unfolding lines
spelled x xs zero [] e = done
spelled x xs (suc k) [] e = done
spelled x xs (suc k) (b ∷ bs) e = spelled x xs k bs e
spelled x xs zero (b ∷ bs) e = go (starts (x ∷ xs) (b ∷ bs)) refl e (spelled x xs (suc (length xs) - 1) bs) (spelled x xs zero bs)
  where
    go : (w : Bool) → starts (x ∷ xs) (b ∷ bs) ≡ w
        → pick w (lines (x ∷ xs) (suc (length xs) - 1) bs) (value_char b && lines (x ∷ xs) 0 bs) ≡ true
        → (lines (x ∷ xs) (suc (length xs) - 1) bs ≡ true → Lines (x ∷ xs) (drop (suc (length xs) - 1) bs))
        → (lines (x ∷ xs) 0 bs ≡ true → Lines (x ∷ xs) bs)
        → Lines (x ∷ xs) (b ∷ bs)
    go true q h past one =
        let k : suc (length xs) - 1 ≡ length xs = omega arith in
        let r : Lines (x ∷ xs) (drop (length xs) bs) = rw k at (past h) in
        rw (starts_split (x ∷ xs) (b ∷ bs) q) (line r)
    go false q h past one = let a = both (value_char b) (lines (x ∷ xs) 0 bs) h in char a.0 (one a.1)

pub lines_accept : (u v : List ℕ) → LineEnd u → Lines u v → lines u 0 v ≡ true
lines_accept [] v e r = absurd (omega (arith, e.0))
lines_accept (x ∷ xs) v e r = accept x xs v e.1 r

pub lines_spelled : (u v : List ℕ) → LineEnd u → lines u 0 v ≡ true → Lines u v
lines_spelled [] v e h = absurd (omega (arith, e.0))
lines_spelled (x ∷ xs) v e h = spelled x xs 0 v h

-- what a value may be, in words: value characters, in a NOTE also whole line terminators
pub value_accept : (u k v : List ℕ) → LineEnd u → ((k ≡ note → ⊥) → Characters v) → (k ≡ note → Lines u v) → value_ok u k v ≡ true
unfolding value_ok
value_accept u k v e plain noted = go (same k note) refl
  where
    go : (w : Bool) → same k note ≡ w → pick w (lines u 0 v) (all value_char v) ≡ true
    go true q = lines_accept u v e (noted (same_eq k note q))
    go false q = plain (same_not k note q)

pub value_spelled : (u k v : List ℕ) → LineEnd u → value_ok u k v ≡ true → ((k ≡ note → ⊥) → Characters v) × (k ≡ note → Lines u v)
unfolding value_ok
value_spelled u k v e h = go (same k note) refl h
  where
    go : (w : Bool) → same k note ≡ w → pick w (lines u 0 v) (all value_char v) ≡ true
        → ((k ≡ note → ⊥) → Characters v) × (k ≡ note → Lines u v)
    go true q r = (λ n. absurd (n (same_eq k note q)), λ n. lines_spelled u v e r)
    go false q r = (λ n. r, λ n. absurd (same_not k note q n))

-- ---- the lines of a value

-- what begins with u also does with more behind it
starts_more : (u l : List ℕ) (n : ℕ) → starts u l ≡ false → starts u (take n l) ≡ false
starts_more u l n h = go (starts u (take n l)) refl
  where
    go : (w : Bool) → starts u (take n l) ≡ w → w ≡ false
    go true e =
        let s : l ≡ u ++ (drop (length u) (take n l) ++ drop n l) =
        sym (take-append-drop n l) ∙ ap (λ (r : List ℕ). r ++ drop n l) (starts_split u (take n l) e)
        ∙ append_assoc u (drop (length u) (take n l)) (drop n l) in
        let t : starts u l ≡ true = rw s (starts_front u (drop (length u) (take n l) ++ drop n l)) in
        never (sym h ∙ t)
    go false e = refl

lacks_none : (u : List ℕ) → 0 < length u → Lacks u []
unfolding starts
lacks_none u some zero = rw (lt-leb (length u) 0 some)
lacks_none u some (suc i) = rw (lt-leb (length u) 0 some)

first_lacks : (u v : List ℕ) → 0 < length u → Lacks u (take (line_len u v) v)
unfolding line_len
first_lacks u [] some = lacks_none u some
first_lacks u (b ∷ bs) some = go (starts u (b ∷ bs)) refl (first_lacks u bs some)
  where
    go : (w : Bool) → starts u (b ∷ bs) ≡ w → Lacks u (take (line_len u bs) bs) → Lacks u (take (pick w 0 (suc (line_len u bs))) (b ∷ bs))
    go true e h i = lacks_none u some i
    go false e h zero = starts_more u (b ∷ bs) (suc (line_len u bs)) e
    go false e h (suc i) = h i

-- what is left behind a line that ends before the value does is shorter
left_less : (u v : List ℕ) (m : ℕ) → 0 < length u → length v ≤ suc m → line_len u v < length v → length (drop (line_len u v + length u) v) ≤ m
left_less u v m some h k = let l = length-drop (line_len u v + length u) v in omega arith

lacking : (m : ℕ) (u v : List ℕ) → 0 < length u → length v ≤ m → Each (Lacks u) (lines_of m u v)
unfolding lines_of
lacking zero u [] some h = (lacks_none u some, tt)
lacking zero u (b ∷ v) some h = absurd (omega arith)
lacking (suc m) u v some h =
    let n : ℕ = line_len u v in
    let f = first_lacks u v some in
    elim (dec_le (length v) n) [
      | yes q ↦ rw (le-leb (length v) n q) (rw (take_all n v q) at f, tt)
      | no q ↦
          let l = lt_of_not-le q in
          rw (lt-leb (length v) n l) (f, lacking m u (drop (n + length u) v) some (left_less u v m some h l))
    ]

-- no line holds a line terminator, whatever the value
pub no_line_holds_an_end : (u v : List ℕ) → 0 < length u → Each (Lacks u) (lines_of (length v) u v)
no_line_holds_an_end u v some = lacking (length v) u v some (le_refl (length v))

some_line : (m : ℕ) (u v : List ℕ) → (l : List ℕ) × (ls : List (List ℕ)) × (lines_of m u v ≡ l ∷ ls)
unfolding lines_of
some_line zero u v = (v, [], refl)
some_line (suc m) u v = go (leb (length v) (line_len u v))
  where
    go : (w : Bool) → (l : List ℕ) × (ls : List (List ℕ)) × (pick w (v ∷ []) (take (line_len u v) v ∷ lines_of m u (drop (line_len u v + length u) v)) ≡ l ∷ ls)
    go true = (v, [], refl)
    go false = (take (line_len u v) v, lines_of m u (drop (line_len u v + length u) v), refl)

ends_cons : (u l : List ℕ) (ls : List (List ℕ)) (m : List ℕ) (ms : List (List ℕ)) → ls ≡ m ∷ ms → with_ends u (l ∷ ls) ≡ l ++ (u ++ with_ends u ls)
unfolding with_ends
ends_cons u l ls m ms e = rw e

-- nothing of a value is lost: its lines with the terminators between them are the value
pub lines_back : (m : ℕ) (u v : List ℕ) → with_ends u (lines_of m u v) ≡ v
unfolding lines_of with_ends
lines_back zero u v = refl
lines_back (suc m) u v = go (leb (length v) (line_len u v)) refl (lines_back m u (drop (line_len u v + length u) v))
  where
    go : (w : Bool) → leb (length v) (line_len u v) ≡ w
        → with_ends u (lines_of m u (drop (line_len u v + length u) v)) ≡ drop (line_len u v + length u) v
        → with_ends u (pick w (v ∷ []) (take (line_len u v) v ∷ lines_of m u (drop (line_len u v + length u) v))) ≡ v
    go true e i = refl
    go false e i =
        let s = some_line m u (drop (line_len u v + length u) v) in
        let n : line_len u v < length v = leb-false (length v) (line_len u v) e in
        let d : drop (line_len u v) v ≡ u ++ drop (line_len u v + length u) v =
        starts_split u (drop (line_len u v) v) (line_ends u v n) ∙ ap (λ (r : List ℕ). u ++ r) (drop-drop (length u) (line_len u v) v) in
        ends_cons u (take (line_len u v) v) (lines_of m u (drop (line_len u v + length u) v)) s.0 s.1 s.2
        ∙ rw (i, ← d) (take-append-drop (line_len u v) v)

-- ---- the lines of what a NOTE may be

first_characters : (x : ℕ) (xs v : List ℕ) → value_char x ≡ false → Lines (x ∷ xs) v
    → Characters (take (line_len (x ∷ xs) v) v) × Lines (x ∷ xs) (drop (length (x ∷ xs)) (drop (line_len (x ∷ xs) v) v))
unfolding line_len all
first_characters x xs v n done = (refl, done)
first_characters x xs v n (char {b} {bs} h r) = rw (not_start x b xs bs n h, h) (first_characters x xs bs n r)
first_characters x xs v n (line {bs} r) = rw (starts_front (x ∷ xs) bs, drop-append_seam (x ∷ xs) bs) (refl, r)

charactered : (m : ℕ) (u v : List ℕ) → LineEnd u → length v ≤ m → Lines u v → Each Characters (lines_of m u v)
unfolding lines_of all
charactered m [] v e h r = absurd (omega (arith, e.0))
charactered zero (x ∷ xs) [] e h r = (refl, tt)
charactered zero (x ∷ xs) (b ∷ v) e h r = absurd (omega arith)
charactered (suc m) (x ∷ xs) v e h r =
    let u : List ℕ = x ∷ xs in
    let n : ℕ = line_len u v in
    let f = first_characters x xs v e.1 r in
    elim (dec_le (length v) n) [
      | yes q ↦ rw (le-leb (length v) n q) (rw (take_all n v q) at f.0, tt)
      | no q ↦
          let l = lt_of_not-le q in
          rw (lt-leb (length v) n l) (f.0, charactered m u (drop (n + length u) v) e (left_less u v m e.0 h l) (rw (drop-drop (length u) n v) at f.1))
    ]

-- the lines of what a NOTE may be are of value characters alone
pub lines_are_of_characters : (u v : List ℕ) → LineEnd u → Lines u v → Each Characters (lines_of (length v) u v)
lines_are_of_characters u v e r = charactered (length v) u v e (le_refl (length v)) r

-- a line of value characters is read to its end, and to the terminator behind it
last_line : (x : ℕ) (xs l : List ℕ) → value_char x ≡ false → Characters l → line_len (x ∷ xs) l ≡ length l
unfolding line_len all
last_line x xs [] n h = refl
last_line x xs (b ∷ l) n h =
    let a = both (value_char b) (all value_char l) h in
    rw (not_start x b xs l n a.0) (ap suc (last_line x xs l n a.1))

ended_line : (x : ℕ) (xs l r : List ℕ) → value_char x ≡ false → Characters l → line_len (x ∷ xs) (l ++ ((x ∷ xs) ++ r)) ≡ length l
unfolding line_len all
ended_line x xs [] r n h = rw (starts_front (x ∷ xs) r)
ended_line x xs (b ∷ l) r n h =
    let a = both (value_char b) (all value_char l) h in
    rw (not_start x b xs (l ++ ((x ∷ xs) ++ r)) n a.0) (ap suc (ended_line x xs l r n a.1))

again : (x : ℕ) (xs l : List ℕ) (ls : List (List ℕ)) (m : ℕ) → value_char x ≡ false → Each Characters (l ∷ ls)
    → length (with_ends (x ∷ xs) (l ∷ ls)) ≤ m → lines_of m (x ∷ xs) (with_ends (x ∷ xs) (l ∷ ls)) ≡ l ∷ ls
unfolding lines_of with_ends
again x xs l [] zero n h k = refl
again x xs l [] (suc m) n h k = rw (last_line x xs l n h.0, le-leb (length l) (length l) (le_refl (length l)))
again x xs l (k ∷ ls) zero n h f =
    absurd (let a = length-append l ((x ∷ xs) ++ with_ends (x ∷ xs) (k ∷ ls)) in let b = length-append xs (with_ends (x ∷ xs) (k ∷ ls)) in omega arith)
again x xs l (k ∷ ls) (suc m) n h f =
    let u : List ℕ = x ∷ xs in
    let r : List ℕ = with_ends u (k ∷ ls) in
    let a : length (l ++ (u ++ r)) ≡ length l + length (u ++ r) = length-append l (u ++ r) in
    let b : length (u ++ r) ≡ length u + length r = length-append u r in
    let d : drop (length l + length u) (l ++ (u ++ r)) ≡ r = drop-append-add l (u ++ r) (length u) ∙ drop-append_seam u r in
    rw (ended_line x xs l r n h.0, lt-leb (length (l ++ (u ++ r))) (length l) (omega arith), take-append_seam l (u ++ r), d)
    (ap (λ (z : List (List ℕ)). l ∷ z) (again x xs k ls m n h.1 (omega arith)))

-- they are the only lines of value characters that give the value, so no other reading of a NOTE has lines to answer
-- with
pub lines_once : (u v l : List ℕ) (ls : List (List ℕ)) → LineEnd u → Each Characters (l ∷ ls) → with_ends u (l ∷ ls) ≡ v
    → lines_of (length v) u v ≡ l ∷ ls
lines_once [] v l ls e h w = absurd (omega (arith, e.0))
lines_once (x ∷ xs) v l ls e h w = rw (← w) (again x xs l ls (length (with_ends (x ∷ xs) (l ∷ ls))) e.1 h (le_refl (length (with_ends (x ∷ xs) (l ∷ ls)))))

lines_whole : (u r : List ℕ) → 0 < length u → lines u 0 (u ++ r) ≡ lines u 0 r
unfolding lines
lines_whole [] r h = absurd (omega arith)
lines_whole (x ∷ xs) r h = let k : suc (length xs) - 1 ≡ length xs = omega arith in rw (starts_front (x ∷ xs) r, k) (lines_skip (x ∷ xs) xs r)

two : (a b : ℕ) (s : List ℕ) → value_char a ≡ false → (a ≡ b → ⊥) → paired a b false s ≡ lines (a ∷ b ∷ []) 0 s
unfolding lines starts same paired
two a b [] n k = refl
two a b (c ∷ []) n k = go (eqb c a) refl
  where
    go : (w : Bool) → eqb c a ≡ w → ((value_char c || w) && not w) ≡ (value_char c && true)
    go true e = let q : c ≡ a = eqb-true c a e in rw (q, n)
    go false e = rest (value_char c) true
two a b (c ∷ d ∷ ds) n k =
    rw (le-leb 2 (suc (suc (length ds))) (omega arith)) (go (eqb c a) (eqb d b) refl refl (two a b ds n k) (two a b (d ∷ ds) n k))
  where
    go : (w v : Bool) → eqb c a ≡ w → eqb d b ≡ v → paired a b false ds ≡ lines (a ∷ b ∷ []) 0 ds
        → paired a b false (d ∷ ds) ≡ lines (a ∷ b ∷ []) 0 (d ∷ ds)
        → ((value_char c || w) && (pick w (eqb d b) (value_char d || eqb d a) && paired a b (eqb d a) ds))
        ≡ pick (w && (v && true)) (lines (a ∷ b ∷ []) 0 ds) (value_char c && lines (a ∷ b ∷ []) 0 (d ∷ ds))
    go true true e f past one =
        let q : c ≡ a = eqb-true c a e in
        let r : d ≡ b = eqb-true d b f in
        rw (q, n, f, ne_eqb d a (λ (h : d ≡ a). k (sym h ∙ r))) past
    go true false e f past one = let q : c ≡ a = eqb-true c a e in rw (q, n, f)
    go false v e f past one = rest (value_char c) _ ∙ ap (λ (r : Bool). value_char c && r) one

-- one of two bytes, where the first is no value character and the second another byte, is each first with its second
pub lines_two : (u s : List ℕ) → length u ≡ 2 → (value_char (get_or u 0 0) || eqb (get_or u 0 0) (get_or u 1 0)) ≡ false
    → paired (get_or u 0 0) (get_or u 1 0) false s ≡ lines u 0 s
lines_two [] s h n = absurd (omega arith)
lines_two (a ∷ []) s h n = absurd (omega arith)
lines_two (a ∷ b ∷ []) s h n = let k = neither (value_char a) (eqb a b) n in two a b s k.0 (eqb-false a b k.1)
lines_two (a ∷ b ∷ c ∷ u) s h n = absurd (omega arith)

module _ (u s : List ℕ) (i : ℕ) (h : i < length s) where
  -- a terminator is passed over whole
  pub lines_start : 0 < length u → starts u (drop i s) ≡ true → (i + length u ≤ length s) × (lines u 0 (drop (i + length u) s) ≡ lines u 0 (drop i s))
  lines_start some q =
      let f = starts_fits u (drop i s) q in
      let l = length-drop i s in
      let d = drop-drop (length u) i s in
      let w = lines_whole u (drop (length u) (drop i s)) some in
      (omega arith, ap (lines u 0) (sym d) ∙ sym w ∙ ap (lines u 0) (sym (starts_split u (drop i s) q)))
