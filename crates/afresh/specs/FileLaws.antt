-- How long the pieces of that file are, what one trace more adds to each, and what stands in its first 32 bytes.
-- Assumes nothing.
use Rattle.std.specs.Prelude.{◌≡◌, refl, Bool, true, false, List, [], ◌∷◌, ◌++◌, ℕ, zero, suc, ◌+◌, ◌-◌, ◌*◌, ◌%◌, ◌≤◌, ◌<◌, length, get_or}
use Rattle.std.specs.Prelude.{replicate}
use Rattle.std.proofs.Common.{sym, ap, ap₂, ◌∙◌, append-nil, append_assoc, subst, inl, inr, ⊎_elim, arith, length-append}
use Rattle.word.specs.Word.{bytes_of}
use Rattle.word.specs.WordLaws.{length_bytes_of}
use Rattle.sheet.specs.Area.{area_of}
use Rattle.layout.specs.Layout.{slots_most, nul, line_feed, start_image, start_size, Trace, trace_size}
use Rattle.layout.specs.Layout.{trace_bytes}
use Rattle.layout.specs.LayoutLaws.{Fronted, fronted, length_trace_bytes, area_whole, size_whole}
use Rattle.afresh.specs.FileOf.{sizes, pointers, blocks, file_of, file_size, has_channel, Good, EachGood, EachHas}
use Rattle.afresh.specs.FileOf.{Together, AllGood}

-- ---- every size is a multiple of 4

pub sizes_whole : (ts : List Trace) → sizes ts % 4 ≡ 0
unfolding sizes
sizes_whole [] = refl
sizes_whole (x ∷ ts) = let a = size_whole nul line_feed x in let i = sizes_whole ts in omega arith

pub start_whole : (slots : ℕ) (sheet : List ℕ) → start_size slots sheet % 4 ≡ 0
unfolding start_size
start_whole slots sheet = let a = area_whole nul line_feed sheet in omega arith

pub file_whole : (slots : ℕ) (sheet : List ℕ) (ts : List Trace) → file_size slots sheet ts % 4 ≡ 0
unfolding file_size
file_whole slots sheet ts = let a = start_whole slots sheet in let b = sizes_whole ts in omega arith

-- ---- the whole

-- the file of no traces is the start's image
pub file_none : (high : Bool) (slots : ℕ) (sheet : List ℕ) → file_of high slots sheet [] ≡ start_image high slots sheet
unfolding file_of start_image pointers blocks
file_none high slots sheet = let e : slots - 0 ≡ slots = omega arith in rw (e, append-nil)

pub length_pointers : (high : Bool) (at : ℕ) (ts : List Trace) → length (pointers high at ts) ≡ 4 * length ts
unfolding pointers
length_pointers high at [] = refl
length_pointers high at (x ∷ ts) = length-append (bytes_of 4 high at) _
    ∙ ap₂ (λ (i j : ℕ). i + j) (length_bytes_of 4 high at) (length_pointers high (at + trace_size nul line_feed x) ts) ∙ omega arith

pub length_blocks : (high : Bool) (ts : List Trace) → EachGood ts → length (blocks high ts) ≡ sizes ts
unfolding blocks sizes
length_blocks high [] g = refl
length_blocks high (x ∷ ts) g =
    let a = length-append (trace_bytes high nul line_feed x) (blocks high ts) in
    let b = length_trace_bytes high nul line_feed x g.0.kind in
    let i = length_blocks high ts g.1 in
    omega arith

pub size_none : (slots : ℕ) (sheet : List ℕ) → file_size slots sheet [] ≡ start_size slots sheet
unfolding file_size sizes
size_none slots sheet = omega arith

pub size_low : (slots : ℕ) (sheet : List ℕ) (ts : List Trace) → 32 + 4 * slots ≤ file_size slots sheet ts
unfolding file_size start_size
size_low slots sheet ts = omega arith

-- ---- one trace more

pub sizes_append : (ts rest : List Trace) → sizes (ts ++ rest) ≡ sizes ts + sizes rest
unfolding sizes
sizes_append [] rest = omega arith
sizes_append (x ∷ ts) rest = let i = sizes_append ts rest in omega arith

pub pointers_append : (high : Bool) (at : ℕ) (ts rest : List Trace) → pointers high at (ts ++ rest) ≡ pointers high at ts ++ pointers high (at + sizes ts) rest
unfolding pointers sizes
pointers_append high at [] rest = let e : at + 0 ≡ at = omega arith in rw e
pointers_append high at (x ∷ ts) rest =
    let e : at + trace_size nul line_feed x + sizes ts ≡ at + (trace_size nul line_feed x + sizes ts) = omega arith in
    ap (λ (r : List ℕ). bytes_of 4 high at ++ r) (pointers_append high (at + trace_size nul line_feed x) ts rest)
    ∙ ap (λ (k : ℕ). bytes_of 4 high at ++ (pointers high (at + trace_size nul line_feed x) ts ++ pointers high k rest)) e
    ∙ sym (append_assoc (bytes_of 4 high at) (pointers high (at + trace_size nul line_feed x) ts)
    (pointers high (at + (trace_size nul line_feed x + sizes ts)) rest))

pub blocks_append : (high : Bool) (ts rest : List Trace) → blocks high (ts ++ rest) ≡ blocks high ts ++ blocks high rest
unfolding blocks
blocks_append high [] rest = refl
blocks_append high (x ∷ ts) rest =
    ap (λ (r : List ℕ). trace_bytes high nul line_feed x ++ r) (blocks_append high ts rest)
    ∙ sym (append_assoc (trace_bytes high nul line_feed x) (blocks high ts) (blocks high rest))

pub length_more : (ts : List Trace) (x : Trace) → length (ts ++ (x ∷ [])) ≡ length ts + 1
length_more ts x = length-append ts (x ∷ [])

pub good_append : (ts rest : List Trace) → EachGood ts → EachGood rest → EachGood (ts ++ rest)
good_append [] rest g h = h
good_append (x ∷ ts) rest g h = (g.0, good_append ts rest g.1 h)

-- more behind the last of five pieces
pub behind : (h p z a b t : List ℕ) → (h ++ (p ++ (z ++ (a ++ b)))) ++ t ≡ h ++ (p ++ (z ++ (a ++ (b ++ t))))
behind h p z a b t = simp append_assoc

-- ---- the first 32 bytes

pub file_fronted : (high : Bool) (slots : ℕ) (sheet : List ℕ) (ts : List Trace) → slots ≤ slots_most → length ts ≤ slots
    → Fronted high (4 * slots) (length ts) (file_of high slots sheet ts)
unfolding file_of
file_fronted high slots sheet ts few h =
    fronted (4 * slots) (length ts)
    (pointers high (start_size slots sheet) ts ++ (replicate (4 * (slots - length ts)) 0 ++ (area_of high nul line_feed sheet ++ blocks high ts)))
    (omega arith) (omega arith) high

-- ---- channel numbers

pub has_append : (w : Bool) (ts rest : List Trace) → EachHas w ts → EachHas w rest → EachHas w (ts ++ rest)
has_append w [] rest h k = k
has_append w (x ∷ ts) rest h k = (h.0, has_append w ts rest h.1 k)

has_split : (w : Bool) (ts rest : List Trace) → EachHas w (ts ++ rest) → EachHas w ts × EachHas w rest
has_split w [] rest h = (tt, h)
has_split w (x ∷ ts) rest h = let i = has_split w ts rest h.1 in ((h.0, i.0), i.1)

-- a list whose first trace is told: the others are as it
pub together_first : (x : Trace) (ts : List Trace) → Together (x ∷ ts) → EachHas (has_channel x) (x ∷ ts)
together_first x ts t =
    let each : Bool → Type 0 = λ w. EachHas w (x ∷ ts) in
    ⊎_elim (λ h. subst each (sym h.0) h) (λ h. subst each (sym h.0) h) t

pub first_together : (w : Bool) (ts : List Trace) → EachHas w ts → Together ts
first_together true ts h = inl h
first_together false ts h = inr h

-- what holds of a list held of it before its last traces came
together_front : (ts rest : List Trace) → Together (ts ++ rest) → Together ts
together_front ts rest t = ⊎_elim (λ h. inl (has_split true ts rest h).0) (λ h. inr (has_split false ts rest h).0) t

-- the trace k of a list that has them as w tells
pub has_nth : (w : Bool) (d : Trace) (ts : List Trace) (k : ℕ) → EachHas w ts → k < length ts → has_channel (get_or ts k d) ≡ w
has_nth w d [] k h l = absurd (omega arith)
has_nth w d (x ∷ ts) zero h l = h.0
has_nth w d (x ∷ ts) (suc k) h l = has_nth w d ts k h.1 (omega arith)

-- the last is as the first
pub has_last : (x : Trace) (ts : List Trace) (y : Trace) → Together ((x ∷ ts) ++ (y ∷ [])) → has_channel y ≡ has_channel x
has_last x ts y t = ⊎_elim (λ h. (has_split true (x ∷ ts) (y ∷ []) h).1.0 ∙ sym h.0) (λ h. (has_split false (x ∷ ts) (y ∷ []) h).1.0 ∙ sym h.0) t

-- the front of a good list is good
pub good_front : (ts rest : List Trace) → AllGood (ts ++ rest) → AllGood ts
good_front ts rest g = (each ts g.0, together_front ts rest g.1)
  where
    each : (front : List Trace) → EachGood (front ++ rest) → EachGood front
    each [] h = tt
    each (x ∷ front) h = (h.0, each front h.1)

-- and so is each trace of it
pub good_next : (ts : List Trace) (x : Trace) (rest : List Trace) → EachGood (ts ++ (x ∷ rest)) → Good x
good_next [] x rest g = g.0
good_next (y ∷ ts) x rest g = good_next ts x rest g.1
