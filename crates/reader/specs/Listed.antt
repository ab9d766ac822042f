-- The answers on an accepted file in the format's own words: each part of it has one list of strings, which its bytes
-- spell, and every question on strings is answered from that list.
-- Assumes nothing.
use Rattle.std.specs.Prelude.{◌≡◌, refl, Bool, List, [], ◌∷◌, ℕ, zero, suc, ◌+◌, ◌≤◌, ◌<◌, ℤ, pos, negsuc, length, take, eqb, Result, Ok, Err, Option, Some, None, true, false}
use Rattle.std.proofs.Common.{sym, ◌∙◌, arith, lt-ltb, ne_eqb}
use Rattle.std.proofs.Math.Path.{ap}
use Rattle.word.specs.Part.{part}
use Rattle.word.specs.Bytes.{Bytes}
use Rattle.refusal.specs.Rows.{pick, pick_second}
use Rattle.refusal.specs.declared.Refusal.{Refusal}
use Rattle.strings.specs.declared.Place.{Place}
use Rattle.strings.specs.Strings.{places_of, key_in, value_in, nth_of, find_of, found, key_found, value_found}
use Rattle.strings.specs.Spelled.{Str, Spells, nth_str, value_of_key, has_key}
use Rattle.strings.specs.Paper.{find_first}
use Rattle.strings.proofs.Paper.{spelled_once, spelled_places, spelled_count, spelled_nth, spelled_value}
use Rattle.head_words.specs.HeadWords.{high_first, room_of, count_of}
use Rattle.terminators.specs.Terminators.{string_end, line_end}
use Rattle.block.specs.Block.{data_at}
use Rattle.image.specs.Image.{check_of}
use Rattle.image.specs.Keeps.{trace_at, strings_end, Strings}
use Rattle.image.proofs.Accepted.{accepted_keeps}
use Rattle.decimal.specs.Number.{number_in}
use Rattle.double.specs.Double.{double_of}
use Rattle.location.specs.Location.{location_of}
use Rattle.text.specs.declared.Manner.{Manner}
use Rattle.text.specs.Manner.{named}
use Rattle.head_limits.specs.declared.Purpose.TheVariants.{Read}
use Rattle.part_number.specs.PartNumber.{whose_of}
use Rattle.reader.specs.Questions.{area_named, area_asked, there, yes_or_no, value_there, on_string}
use Rattle.reader.specs.Questions.{count_answer, nth_answer, find_answer, keyword_answer, value_answer, number_answer}
use Rattle.reader.specs.Questions.{double_answer, location_answer}
use Rattle.reader.specs.Leaves.{opened_of, count_told, nth_told, find_told}
use Rattle.reader.specs.Reach.{Reached, reached, checked, some_trace}
use Rattle.refusal.specs.declared.Part.TheVariants.{File}
use Rattle.refusal.specs.declared.Part.TheVariants.{Trace}
use Rattle.refusal.specs.Verdicts.{pair_parts, accepted}

-- ---- whom a number names among n traces

pub whose_file : (n : ℕ) → whose_of (negsuc 0) n ≡ Some File
unfolding whose_of
whose_file n = refl

pub whose_one : (k n : ℕ) → k < n → whose_of (pos k) n ≡ Some (Trace k)
unfolding whose_of
whose_one k n l = rw (lt-ltb k n l)

-- ---- the list of strings of the part that z names: its bytes, from a to e of the image f, spell it
pub record Lists (how : Manner) (f : List ℕ) (z : ℤ) (ss : List Str) : Type 0 where
  pub a : ℕ
  pub e : ℕ
  pub area : area_asked f z ≡ Some (a, e)
  pub spells : Spells how (high_first f) (string_end f) (line_end f) ss (part a e f)

-- the file's bytes are those from 32+M to the first pointer p, a trace's those from p+32 to p+B
pub file_area : (f : List ℕ) → area_asked f (negsuc 0) ≡ Some (32 + room_of f, trace_at f 0)
unfolding area_named
file_area f = rw (whose_file (count_of f))

pub trace_area : (f : List ℕ) (k : ℕ) → k < count_of f → area_asked f (pos k) ≡ Some (trace_at f k + 32, data_at (high_first f) f (trace_at f k))
unfolding area_named
trace_area f k l = rw (whose_one k (count_of f) l)

-- in an accepted file each part has a list
pub file_lists : (how : Manner) (xs : List ℕ) (n : ℕ) → Bytes xs → check_of how Read xs n ≡ accepted → (ss : List Str) × Lists how (take n xs) (negsuc 0) ss
file_lists how xs n by ok =
    let f : List ℕ = take n xs in
    let some : 0 < count_of f = some_trace how f (checked how xs n ok).image in
    let z : strings_end f ≡ trace_at f 0 = pick_second (eqb (count_of f) 0) (length f) (trace_at f 0) (ne_eqb (count_of f) 0 (omega arith)) in
    let s : Strings how f (32 + room_of f) (trace_at f 0) = rw z at (accepted_keeps how Read xs n by ok).1.file.strings in
    (s.0, record { a = 32 + room_of f; e = trace_at f 0; area = file_area f; spells = s.1 })

pub trace_lists : (how : Manner) (xs : List ℕ) (n k : ℕ) → Bytes xs → check_of how Read xs n ≡ accepted → k < count_of (take n xs) → (ss : List Str)
    × Lists how (take n xs) (pos k) ss
trace_lists how xs n k by ok l =
    let f : List ℕ = take n xs in
    let s = ((accepted_keeps how Read xs n by ok).1.traces k l).strings in
    (s.0, record { a = trace_at f k + 32; e = data_at (high_first f) f (trace_at f k); area = trace_area f k l; spells = s.1 })

-- and no other
same_from : (a b d e : ℕ) → ◌≡◌ {A = Option (ℕ × ℕ)} (Some (a, b)) (Some (d, e)) → (a ≡ d) × (b ≡ e)
same_from a b d e h = let p : ◌≡◌ {A = ℕ × ℕ} (a, b) (d, e) = cc in pair_parts p

pub lists_once : (how : Manner) (f : List ℕ) (z : ℤ) (ss rs : List Str) → Lists how f z ss → Lists how f z rs → ss ≡ rs
lists_once how f z ss rs l m =
    let s = same_from l.a l.e m.a m.e (sym l.area ∙ m.area) in
    go l.a l.e m.a m.e s.0 s.1 l.spells m.spells
  where
    go : (a e b d : ℕ) → a ≡ b → e ≡ d → Spells how (high_first f) (string_end f) (line_end f) ss (part a e f)
        → Spells how (high_first f) (string_end f) (line_end f) rs (part b d f) → ss ≡ rs
    go a e b d p q x y = spelled_once how (high_first f) (string_end f) (line_end f) (part b d f) ss rs (rw (p, q) at x) y

-- ---- the answers

nth_some : (ps : List Place) (i : ℕ) → i < length ps → (s : Place) × (nth_of ps i ≡ Some s)
unfolding nth_of
nth_some [] i l = absurd (omega arith)
nth_some (p ∷ ps) zero l = (p, refl)
nth_some (p ∷ ps) (suc i) l = nth_some ps i (omega arith)

nth_over : (ps : List Place) (i : ℕ) → length ps ≤ i → nth_of ps i ≡ None
unfolding nth_of
nth_over [] i l = refl
nth_over (p ∷ ps) zero l = absurd (omega arith)
nth_over (p ∷ ps) (suc i) l = nth_over ps i (omega arith)

found_yes : (x : Option Place) → yes_or_no (there x) ≡ pick (found x) (Ok true) (Ok false)
found_yes None = refl
found_yes (Some s) = refl

pub found_value : (f : List ℕ) (x : Option Place) → value_there f (there x) ≡ value_found f x
unfolding value_found
found_value f None = refl
found_value f (Some s) = refl

found_on : {A : Type 0} (bad : Refusal → A) (x : Option Place) (a : A) → on_string bad (there x) a ≡ a
found_on bad None a = refl
found_on bad (Some s) a = refl

-- the i-th place is one whose keyword and value are those of the i-th string
pub record IsString (f : List ℕ) (s : Place) (str : Str) : Type 0 where
  pub key : key_in f s ≡ str.key
  pub value : value_in f s ≡ str.value

place_is : (f : List ℕ) (x : Option Place) (s : Place) (str : Str) → x ≡ Some s → key_found f x ≡ str.key → value_found f x ≡ str.value → IsString f s str
unfolding key_found value_found
place_is f x s str e k v = record { key = rw e at k; value = rw e at v }

module _ (how : Manner) (xs : List ℕ) (n : ℕ) (z : ℤ) (ss : List Str) (ok : check_of how Read xs n ≡ accepted) (l : Lists how (take n xs) z ss) where
  opens : opened_of how xs n z ≡ Ok (l.a, l.e)
  unfolding opened_of
  opens = rw (ok, l.area)

  reaches : Reached how xs n z l.a l.e
  reaches = reached how xs n z l.a l.e opens

  abbrev places : List Place
  places = places_of how (high_first (take n xs)) (string_end (take n xs)) (part l.a l.e (take n xs)) l.a

  many : length places ≡ length ss
  many =
      spelled_count how (take n xs) (string_end (take n xs)) (line_end (take n xs)) (high_first (take n xs)) l.a l.e ss reaches.low
      reaches.end l.spells

  -- how many strings
  pub listed_count : count_answer how xs n z ≡ Ok (length ss)
  listed_count = sym (count_told how xs n z l.a l.e _ _ opens refl refl (length ss) (sym many))

  -- the i-th, and past the last none
  nth_answer_lem : (i : ℕ) → there (nth_of places i) ≡ nth_answer how xs n z i
  nth_answer_lem i = nth_told how xs n z l.a l.e _ _ opens refl refl i (nth_of places i) (there (nth_of places i)) refl refl

  pub listed_nth : (i : ℕ) → i < length ss → (s : Place) × (nth_answer how xs n z i ≡ Ok (Some s)) × IsString (take n xs) s (nth_str ss i)
  listed_nth i h =
      let s = nth_some places i (omega (arith, many, h)) in
      let w = spelled_nth how (take n xs) (string_end (take n xs)) (line_end (take n xs)) (high_first (take n xs)) l.a l.e ss i reaches.low
      reaches.end l.spells in
      (s.0, sym (nth_answer_lem i) ∙ ap there s.1, place_is (take n xs) (nth_of places i) s.0 (nth_str ss i) s.1 w.0 w.1)

  pub listed_past : (i : ℕ) → length ss ≤ i → nth_answer how xs n z i ≡ Ok None
  listed_past i h = sym (nth_answer_lem i) ∙ ap there (nth_over places i (omega (arith, many, h)))

  -- a keyword, its value, and the numbers in it
  find_answer_lem : (key : List ℕ) → there (find_of how (take n xs) places key) ≡ find_answer how xs n z key
  find_answer_lem key =
      find_told how xs n z l.a l.e _ _ opens refl refl key (find_of how (take n xs) places key) (there (find_of how (take n xs) places key)) refl refl

  -- the string that is found is the first that counts as the asked one
  pub listed_first : (key : List ℕ) (i : ℕ) → i < length ss → named how (nth_str ss i).key ≡ key
      → ((j : ℕ) → j < i → named how (nth_str ss j).key ≡ key → ⊥) → find_answer how xs n z key ≡ nth_answer how xs n z i
  listed_first key i h e free =
      let w = spelled_places how (take n xs) (string_end (take n xs)) (line_end (take n xs)) (high_first (take n xs)) l.a l.e ss reaches.low
      reaches.end l.spells in
      sym (find_answer_lem key)
      ∙ ap there (find_first how (take n xs) places key i (omega (arith, many, h)) (rw w e) (λ j b k. free j b (rw w at k)))
      ∙ nth_answer_lem i

  finds : (key : List ℕ) → (found (find_of how (take n xs) places key) ≡ has_key how ss key)
      × (value_found (take n xs) (find_of how (take n xs) places key) ≡ value_of_key how ss key)
  finds key =
      spelled_value how (take n xs) (string_end (take n xs)) (line_end (take n xs)) (high_first (take n xs)) l.a l.e ss key reaches.low
      reaches.end l.spells

  pub listed_keyword : (key : List ℕ) → keyword_answer how xs n z key ≡ pick (has_key how ss key) (Ok true) (Ok false)
  unfolding keyword_answer
  listed_keyword key =
      ap yes_or_no (sym (find_answer_lem key)) ∙ found_yes (find_of how (take n xs) places key) ∙ ap (λ (b : Bool). pick b (Ok true) (Ok false)) (finds key).0

  pub listed_value : (key : List ℕ) → value_answer how xs n z key ≡ value_of_key how ss key
  unfolding value_answer
  listed_value key =
      ap (λ (s : Result (Option Place) Refusal). value_there (take n xs) s) (sym (find_answer_lem key)) ∙ found_value (take n xs) (find_of how (take n xs) places key) ∙ (finds key).1

  on_answer : {A : Type 0} (bad : Refusal → A) (key : List ℕ) (a : A) → on_string bad (find_answer how xs n z key) a ≡ a
  on_answer bad key a = ap (λ (s : Result (Option Place) Refusal). on_string bad s a) (sym (find_answer_lem key)) ∙ found_on bad (find_of how (take n xs) places key) a

  pub listed_number : (key : List ℕ) → number_answer how xs n z key ≡ number_in (value_of_key how ss key)
  unfolding number_answer
  listed_number key = on_answer Err key _ ∙ ap number_in (listed_value key)

  pub listed_double : (key : List ℕ) → double_answer how xs n z key ≡ double_of (value_of_key how ss key)
  unfolding double_answer
  listed_double key = on_answer Err key _ ∙ ap double_of (listed_value key)

  pub listed_location : (key : List ℕ) → location_answer how xs n z key ≡ location_of (value_of_key how ss key)
  unfolding location_answer
  listed_location key = on_answer Err key _ ∙ ap location_of (listed_value key)
