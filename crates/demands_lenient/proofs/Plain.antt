-- Theorems on what specs/Plain defines. They stand here, as a wrong definition there is to be refused and not to be unread.
-- Assumes nothing.
use Rattle.std.specs.Prelude.{◌≡◌, refl, Bool, true, false, ◌&&◌, List, [], ◌∷◌, ◌⊎◌, ◌↔◌, ℕ, ◌+◌, ◌-◌, leb}
use Rattle.std.proofs.Common.{sym, ap₂, ◌∙◌, inl, inr, ⊎_elim, arith, leb-true, le-leb}
use Rattle.std.proofs.lemmas.Bool.{lt-leb}
use Rattle.word.specs.Tests.{both}
use Rattle.refusal.specs.Rows.{pick}
use Rattle.text.specs.declared.Manner.TheVariants.{Lenient}
use Rattle.text.specs.Manner.{letter, named}
use Rattle.letters.specs.Upper.{upper, uppered, loose_codes}
use Rattle.chars.specs.Chars.{note}
use Rattle.chars.specs.Runs.{all}
use Rattle.strings.specs.Spelled.{Str, GoodString, Rising, Ends.mark, Ends.none, Spells, Spells.empty, Spells.full}
use Rattle.demands_lenient.specs.Plain.{AllOld, AnyCase, Capital, Each, KeyByte, OldSpells, OldSpells.marked, OldSpells.nothing, OldSpells.unmarked, OldString}

-- ---- they are the same

key_byte : (b : ℕ) → (leb 33 b && leb b 126) ≡ true → KeyByte b
key_byte b h = let k = both (leb 33 b) (leb b 126) h in (leb-true 33 b k.0, leb-true b 126 k.1)

byte_key : (b : ℕ) → KeyByte b → (leb 33 b && leb b 126) ≡ true
byte_key b h = rw (le-leb 33 b h.0, le-leb b 126 h.1)

letters_each : (k : List ℕ) → all (letter Lenient) k ≡ true → Each KeyByte k
unfolding all
letters_each [] h = tt
letters_each (b ∷ bs) h = let a = both (letter Lenient b) (all (letter Lenient) bs) h in (key_byte b (sym (loose_codes b) ∙ a.0), letters_each bs a.1)

each_letters : (k : List ℕ) → Each KeyByte k → all (letter Lenient) k ≡ true
unfolding all
each_letters [] h = refl
each_letters (b ∷ bs) h = rw (loose_codes b ∙ byte_key b h.0) (each_letters bs h.1)

upper_cases : (b c : ℕ) → Capital b → upper c ≡ b → (c ≡ b) ⊎ (c ≡ b + 32)
upper_cases b c h e = go (leb 97 c) (leb c 122) refl refl e
  where
    go : (w v : Bool) → leb 97 c ≡ w → leb c 122 ≡ v → pick (w && v) (c - 32) c ≡ b → (c ≡ b) ⊎ (c ≡ b + 32)
    go true true p q e = let l = leb-true 97 c p in inr (omega arith)
    go true false p q e = inl e
    go false v p q e = inl e

cases_upper : (b c : ℕ) → Capital b → (c ≡ b) ⊎ (c ≡ b + 32) → upper c ≡ b
cases_upper b c h e =
    ⊎_elim
    (λ (q : c ≡ b). (let n : leb 97 c ≡ false = lt-leb 97 c (omega arith) in rw n q))
    (λ (q : c ≡ b + 32). (let l : leb 97 c ≡ true = le-leb 97 c (omega arith) in let m : leb c 122
    ≡ true = le-leb c 122 (omega arith) in rw (l, m) (omega arith)))
    e

uncons : {b c : ℕ} {bs cs : List ℕ} → c ∷ cs ≡ b ∷ bs → (c ≡ b) × (cs ≡ bs)
uncons e = (cc, cc)

named_any_case : (w k : List ℕ) → Each Capital w → uppered k ≡ w → AnyCase w k
unfolding uppered
named_any_case [] [] h e = tt
named_any_case [] (c ∷ cs) h e = let z : ◌≡◌ {A = ℕ} 0 1 = cc in absurd (omega arith)
named_any_case (b ∷ bs) [] h e = let z : ◌≡◌ {A = ℕ} 0 1 = cc in absurd (omega arith)
named_any_case (b ∷ bs) (c ∷ cs) h e = let q = uncons e in (upper_cases b c h.0 q.0, named_any_case bs cs h.1 q.1)

any_case_named : (w k : List ℕ) → Each Capital w → AnyCase w k → uppered k ≡ w
unfolding uppered
any_case_named [] [] h e = refl
any_case_named [] (c ∷ cs) h e = absurd e
any_case_named (b ∷ bs) [] h e = absurd e
any_case_named (b ∷ bs) (c ∷ cs) h e =
    ap₂ (λ (x : ℕ) (xs : List ℕ). x ∷ xs) (cases_upper b c h.0 e.0) (any_case_named bs cs h.1 e.1)

-- a keyword counts as a word of capitals exactly where it is that word in upper or lower case
pub counts_as : (w k : List ℕ) → Each Capital w → (named Lenient k ≡ w) ↔ AnyCase w k
counts_as w k h = (named_any_case w k h, any_case_named w k h)

of_note : Each Capital note
of_note = ((omega arith, omega arith), ((omega arith, omega arith), ((omega arith, omega arith), ((omega arith, omega arith), tt))))

good_old : (t u : List ℕ) (s : Str) → GoodString Lenient t u s → OldString t u s
good_old t u s g =
    record {
      some = g.some;
      keys = letters_each s.key g.keys;
      blanks = g.blanks;
      starts = g.starts;
      apart = g.apart;
      values = λ n. g.values (λ e. n (named_any_case note s.key of_note e));
      lines = λ a. g.lines (any_case_named note s.key of_note a);
      small = g.small;
    }

old_good : (t u : List ℕ) (s : Str) → OldString t u s → GoodString Lenient t u s
old_good t u s o =
    record {
      some = o.some;
      keys = each_letters s.key o.keys;
      blanks = o.blanks;
      starts = o.starts;
      apart = o.apart;
      values = λ n. o.values (λ a. n (any_case_named note s.key of_note a));
      lines = λ e. o.lines (named_any_case note s.key of_note e);
      small = o.small;
    }

rising_old : (t u prev : List ℕ) (ss : List Str) → Rising Lenient t u prev ss → AllOld t u ss
rising_old t u prev [] r = tt
rising_old t u prev (s ∷ ss) r = (good_old t u s r.0, rising_old t u s.key ss r.2)

old_rising : (t u prev : List ℕ) (ss : List Str) → AllOld t u ss → Rising Lenient t u prev ss
old_rising t u prev [] o = tt
old_rising t u prev (s ∷ ss) o = (old_good t u s o.0, refl, old_rising t u s.key ss o.1)

spells_old : (high : Bool) (t u : List ℕ) (ss : List Str) (l : List ℕ) → Spells Lenient high t u ss l → OldSpells high t u ss l
spells_old high t u ss l empty = nothing
spells_old high t u ss l (full (mark rest) r) = marked rest (rising_old t u [] ss r)
spells_old high t u ss l (full (none e) r) = unmarked (rising_old t u [] ss r)

old_spells : (high : Bool) (t u : List ℕ) (ss : List Str) (l : List ℕ) → OldSpells high t u ss l → Spells Lenient high t u ss l
old_spells high t u ss l nothing = empty
old_spells high t u ss l (marked rest o) = full (mark rest) (old_rising t u [] ss o)
old_spells high t u ss l (unmarked o) = full (none refl) (old_rising t u [] ss o)

pub lenient_in_plain_words : (high : Bool) (t u : List ℕ) (ss : List Str) (l : List ℕ) → Spells Lenient high t u ss l ↔ OldSpells high t u ss l
lenient_in_plain_words high t u ss l = (spells_old high t u ss l, old_spells high t u ss l)
