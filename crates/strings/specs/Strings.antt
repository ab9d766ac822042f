-- The strings of an area as the check reads them (document 01, "Strings" and rows 14 to 17). Every definition is on the
-- bytes that are left of the area; a place is carried along only for refusals and answers. `how` is the manner of
-- reading (text/Manner), `high` the byte order, t the string terminator, u the line terminator.
-- Assumes nothing.
use Rattle.std.specs.Prelude.{Bool, true, false, not, List, [], ◌∷◌, ℕ, zero, suc, ◌+◌, ◌-◌, ◌≤◌, length, take, drop, ltb, eqb, Result, Ok, Err, Option, Some, None}
use Rattle.word.specs.Part.{part}
use Rattle.word.specs.Word.{word_at}
use Rattle.refusal.specs.declared.Rule.{Rule}
use Rattle.refusal.specs.declared.Rule.TheVariants.{StringOffset, StringEnd, Character, KeywordOrder}
use Rattle.refusal.specs.declared.Part.{Part}
use Rattle.refusal.specs.Table.{refusal}
use Rattle.refusal.specs.Rows.{Rows, pick, ruled}
use Rattle.strings.specs.declared.Place.{Place}
use Rattle.text.specs.declared.Manner.{Manner}
use Rattle.chars.specs.Chars.{blank, solid}
use Rattle.chars.specs.Runs.{run, all, same}
use Rattle.note.specs.Note.{value_ok}
use Rattle.text.specs.Manner.{open_end, letter, named, follows}
use Rattle.refusal.specs.declared.Refusal.{Refusal}
use Rattle.refusal.specs.Verdicts.{Verdict, accepted}

-- ---- one string: a 2-byte offset, the keyword, separators and the value, the terminator

-- "a 2-byte offset o, counted from its own first byte to the next string's"
unfoldable pub offset : Bool → List ℕ → ℕ
offset high l = word_at 2 high l 0

-- what stands between the offset and the terminator of the o bytes
unfoldable pub body : List ℕ → ℕ → List ℕ → List ℕ
body t o l = part 2 (o - length t) l

-- "The keyword runs to the first space or tab or the end", then the separators, and "the value is what follows the
-- separators"
unfoldable pub key_len : List ℕ → ℕ
key_len b = run solid b

abbrev pub key_of : List ℕ → List ℕ
key_of b = take (key_len b) b

abbrev pub after_key : List ℕ → List ℕ
after_key b = drop (key_len b) b

unfoldable pub gap_len : List ℕ → ℕ
gap_len r = run blank r

abbrev pub gap_of : List ℕ → List ℕ
gap_of b = take (gap_len (after_key b)) (after_key b)

abbrev pub value_of : List ℕ → List ℕ
value_of b = drop (gap_len (after_key b)) (after_key b)

-- ---- the rows of the table for one string: a test and the rule that it breaks, and the first whose test holds answers

-- too few bytes are left for an offset: under two. Where a list may end without a mark, no byte is an end, and one byte
-- is too few
abbrev pub cut : Manner → List ℕ → Bool
cut how l = pick (open_end how) (eqb (length l) 1) (ltb (length l) 2)

-- 14 "offset not in the area, too small for a keyword, or past it", 15 "terminator not at the string's end"; 0 ends the
-- list and meets neither
abbrev pub frame_rows : Manner → Bool → List ℕ → List ℕ → Rows Rule
frame_rows how high t l =
    (cut how l, StringOffset)
    ∷ pick (eqb (offset high l) 0) []
    ((ltb (offset high l) (3 + length t), StringOffset)
    ∷ (ltb (length l) (offset high l), StringOffset)
    ∷ (not (same (part (offset high l - length t) (offset high l) l) t), StringEnd)
    ∷ [])

-- the end of the list, or a string
abbrev pub end_or_text : Bool → List ℕ → Result (Option ℕ) Rule
end_or_text high l = pick (eqb (offset high l) 0) (Ok None) (Ok (Some (offset high l)))

unfoldable pub frame_of : Manner → Bool → List ℕ → List ℕ → Result (Option ℕ) Rule
frame_of how high t l = ruled (frame_rows how high t l) Err (end_or_text high l)

-- 16 "forbidden character or empty keyword", 17 "order"; prev is the keyword before, the empty one before the first
abbrev pub text_rows : Manner → List ℕ → List ℕ → List ℕ → Rows Rule
text_rows how u prev b =
    (eqb (key_len b) 0, Character)
    ∷ (not (all (letter how) (key_of b)), Character)
    ∷ (not (value_ok u (named how (key_of b)) (value_of b)), Character)
    ∷ (not (follows how prev (key_of b)), KeywordOrder)
    ∷ []

unfoldable pub judged_of : Manner → List ℕ → List ℕ → List ℕ → Result ℕ Rule
judged_of how u prev b = ruled (text_rows how u prev b) Err (Ok (key_len b))

-- "Strings are taken one by one, 14 to 17 each"; the place of all four is the offset's
abbrev pub on_judged : Result ℕ Rule → Part → ℕ → ℕ → Result (Option (ℕ × ℕ)) Refusal
on_judged (Ok n) p at o = Ok (Some (o, n))
on_judged (Err r) p at o = Err (refusal r p at)

unfoldable pub on_frame : Manner → Result (Option ℕ) Rule → List ℕ → List ℕ → List ℕ → List ℕ → Part → ℕ → Result (Option (ℕ × ℕ)) Refusal
on_frame how (Ok None) t u prev l p at = Ok None
on_frame how (Err r) t u prev l p at = Err (refusal r p at)
on_frame how (Ok (Some o)) t u prev l p at = on_judged (judged_of how u prev (body t o l)) p at o

unfoldable pub step_of : Manner → Bool → List ℕ → List ℕ → Part → List ℕ → List ℕ → ℕ → Result (Option (ℕ × ℕ)) Refusal
step_of how high t u p prev l at = on_frame how (frame_of how high t l) t u prev l p at

-- ---- a whole area

abbrev pub on_step : Result (Option (ℕ × ℕ)) Refusal → (ℕ → ℕ → Verdict) → Verdict
on_step (Ok (Some (o, n))) next = next o n
on_step (Ok None) next = accepted
on_step (Err r) next = Err r

-- the strings from l on. The number bounds how many there are; the length of l is enough, for each has a byte. Where no
-- byte is left the missing end mark is 14, unless the list may end there
unfoldable pub strings_from : Manner → ℕ → Bool → List ℕ → List ℕ → Part → List ℕ → List ℕ → ℕ → Verdict
strings_from how zero high t u p prev l at = pick (open_end how) accepted (Err (refusal StringOffset p at))
strings_from how (suc m) high t u p prev l at =
    on_step (step_of how high t u p prev l at) (λ o n. strings_from how m high t u p (take n (drop 2 l)) (drop o l) (at + o))

-- "An empty area is an empty list"; at is the area's start in the file
unfoldable pub strings_of : Manner → Bool → List ℕ → List ℕ → Part → List ℕ → ℕ → Verdict
strings_of how high t u p l at = pick (eqb (length l) 0) accepted (strings_from how (length l) high t u p [] l at)

-- ---- questions: the places of an area's strings, one behind the other

-- a string of o bytes at a place of the file
abbrev pub place_of : List ℕ → ℕ → List ℕ → ℕ → Place
place_of t o l at =
    let b = body t o l in
    record { key = at + 2; gap = at + 2 + key_len b; value = at + 2 + key_len b + gap_len (after_key b); end = at + (o - length t) }

unfoldable pub on_text : {A : Type 0} → Result (Option ℕ) Rule → A → (ℕ → A) → A
on_text (Ok None) stop more = stop
on_text (Err r) stop more = stop
on_text (Ok (Some o)) stop more = more o

-- a question's step
unfoldable pub entry_of : Manner → Bool → List ℕ → List ℕ → ℕ → Option (Place × ℕ)
entry_of how high t l at = on_text (frame_of how high t l) None (λ o. Some (place_of t o l at, o))

unfoldable pub places_from : Manner → ℕ → Bool → List ℕ → List ℕ → ℕ → List Place
places_from how zero high t l at = []
places_from how (suc m) high t l at = on_text (frame_of how high t l) [] (λ o. place_of t o l at ∷ places_from how m high t (drop o l) (at + o))

unfoldable pub places_of : Manner → Bool → List ℕ → List ℕ → ℕ → List Place
places_of how high t l at = places_from how (length l) high t l at

-- the keyword and the value of a place of f
abbrev pub key_in : List ℕ → Place → List ℕ
key_in f s = part s.key s.gap f

abbrev pub value_in : List ℕ → Place → List ℕ
value_in f s = part s.value s.end f

-- a place has its ends in order and lies before e
abbrev pub PlaceIn : ℕ → Place → Type 0
PlaceIn e s = (s.key ≤ s.gap) × (s.gap ≤ s.value) × (s.value ≤ s.end) × (s.end ≤ e)

-- the i-th, and the first with a keyword
unfoldable pub nth_of : List Place → ℕ → Option Place
nth_of [] i = None
nth_of (s ∷ ss) zero = Some s
nth_of (s ∷ ss) (suc i) = nth_of ss i

unfoldable pub find_of : Manner → List ℕ → List Place → List ℕ → Option Place
find_of how f [] key = None
find_of how f (s ∷ ss) key = pick (same (named how (key_in f s)) key) (Some s) (find_of how f ss key)

abbrev pub found : Option Place → Bool
found None = false
found (Some s) = true

-- what an answer is of f: nothing is the empty part at the start
unfoldable pub key_found : List ℕ → Option Place → List ℕ
key_found f None = []
key_found f (Some s) = key_in f s

unfoldable pub value_found : List ℕ → Option Place → List ℕ
value_found f None = []
value_found f (Some s) = value_in f s
