-- What an accepted check has shown: whom a part number names, that the area of a part lies in the file, and so does
-- every place that is found.
-- Assumes nothing.
use Rattle.std.proofs.Math.Path.{◌≡◌, refl}
use Rattle.std.proofs.Common.{sym, ap, ◌∙◌, arith, length-take-le, ltb-true, Result, Ok, Err, Option, Some, None}
use Rattle.std.specs.Prelude.{Bool, true, false, List, ℕ, zero, suc, ◌+◌, ◌-◌, ◌*◌, ◌≤◌, ◌<◌, ℤ, pos, negsuc, take, ltb}
use Rattle.std.proofs.Math.ListN.{length}
use Rattle.std.specs.Borrow.{Bor}
use Rattle.refusal.specs.Verdicts.{pair_parts, asked, refused_not, accepted}
use Rattle.word.specs.Part.{part_take, PartOf}
use Rattle.refusal.specs.Rows.{pick}
use Rattle.refusal.specs.declared.Rule.TheVariants.{Length}
use Rattle.refusal.specs.declared.Refusal.{Refusal}
use Rattle.strings.specs.declared.Place.{Place}
use Rattle.strings.specs.Strings.{PlaceIn, nth_of, find_of}
use Rattle.lookup.specs.Lists.{AllIn, area_in_lem, nth_in, find_in}
use Rattle.block.specs.declared.TraceBlock.{TraceBlock}
use Rattle.head_words.specs.HeadWords.{high_first, room_of, count_of}
use Rattle.head.specs.Head.{maximum, refused}
use Rattle.terminators.specs.Terminators.{string_end, good_terminator}
use Rattle.block.specs.Block.{data_at, trace_block_of}
use Rattle.file_length.specs.FileLength.{bad_length}
use Rattle.image.specs.Image.{image_of, check_of}
use Rattle.block.specs.BlockLaws.{Pointed, Blocked}
use Rattle.file_length.specs.FileLength.{long_enough}
use Rattle.image.specs.Keeps.{trace_at, end_before}
use Rattle.image.specs.Accepted.{image_headed, image_traced, traced_places}
use Rattle.text.specs.declared.Manner.{Manner}
use Rattle.head_limits.specs.declared.Purpose.TheVariants.{Read}
use Rattle.part_number.specs.PartNumber.{whose_of}
use Rattle.reader.specs.Questions.{no_trace, area_named, area_asked, on_area, on_trace, places_in, there}
use Rattle.reader.specs.Questions.{nth_answer, find_answer, trace_answer, value_there, value_answer, span_there}
use Rattle.reader.specs.Questions.{span_answer, on_string}
use Rattle.reader.specs.Leaves.{opened_of, on_opened, nth_opened, find_opened, Within, Fits}
use Rattle.refusal.specs.declared.Part.{Part}
use Rattle.refusal.specs.Verdicts.{Verdict}
use Rattle.refusal.specs.declared.Part.TheVariants.{File}
use Rattle.refusal.specs.declared.Part.TheVariants.{Trace}

-- ---- an accepted check
pub record Checked (how : Manner) (xs : List ℕ) (n : ℕ) : Type 0 where
  pub image : image_of how Read (take n xs) ≡ accepted
  pub least : 32 ≤ n
  pub most : n ≤ maximum
  pub fits : n ≤ length xs
  pub size : length (take n xs) ≡ n

pub checked : (how : Manner) (xs : List ℕ) (n : ℕ) → check_of how Read xs n ≡ accepted → Checked how xs n
unfolding check_of
checked how xs n e = go (bad_length (length xs) n) refl e
  where
    go : (w : Bool) → bad_length (length xs) n ≡ w → pick w (refused Length 0) (image_of how Read (take n xs)) ≡ accepted → Checked how xs n
    go true q h = absurd (refused_not _ h)
    go false q h =
        let l = long_enough (length xs) n q in
        record { image = h; least = l.0; most = l.1; fits = l.2; size = length-take-le n xs l.2 }

-- ---- whom a number names

pub whose_trace : (z : ℤ) (n k : ℕ) → whose_of z n ≡ Some (Trace k) → (z ≡ pos k) × (k < n)
unfolding whose_of
whose_trace (pos j) n k h = go (ltb j n) refl h
  where
    go : (w : Bool) → ltb j n ≡ w → pick w (Some (Trace j)) None ≡ Some (Trace k) → (pos j ≡ pos k) × (k < n)
    go true q e = let s : j ≡ k = cc in let l : j < n = ltb-true j n q in (ap pos s, omega arith)
    go false q e = let y : ◌≡◌ {A = ℕ} 0 1 = cc in absurd (omega arith)
whose_trace (negsuc zero) n k h = let y : ◌≡◌ {A = ℕ} 0 1 = cc in absurd (omega arith)
whose_trace (negsuc (suc j)) n k h = let y : ◌≡◌ {A = ℕ} 0 1 = cc in absurd (omega arith)

-- ---- an accepted image: each trace, and the area of each part, lies in it

module _ (how : Manner) (f : List ℕ) (ok : image_of how Read f ≡ accepted) where
  pub some_trace : 0 < count_of f
  some_trace = go (count_of f) refl
    where
      go : (n : ℕ) → count_of f ≡ n → 0 < count_of f
      go zero e = let s = (image_headed how Read f ok).some e in let y : ◌≡◌ {A = ℕ} 0 1 = cc in absurd (omega arith)
      go (suc n) e = omega arith

  pub pointer_slot : (k : ℕ) → k < count_of f → 36 + 4 * k ≤ length f
  pointer_slot k l = let h = image_headed how Read f ok in omega (arith, h.count, h.fits)

  pub trace_pointed : (k : ℕ) → k < count_of f → Pointed (length f) (end_before f k) (trace_at f k)
  trace_pointed k l = (traced_places how f k (image_traced how Read f ok k l)).0

  pub trace_blocked : (k : ℕ) → k < count_of f → Blocked (high_first f) f (trace_at f k)
  trace_blocked k l = (traced_places how f k (image_traced how Read f ok k l)).1

  whole_fits : (32 + room_of f ≤ trace_at f 0) × (trace_at f 0 ≤ length f)
  unfolding end_before
  whole_fits = let p = trace_pointed 0 some_trace in (p.behind, omega (arith, p.fits))

  one_fits : (k : ℕ) → k < count_of f → (trace_at f k + 32 ≤ data_at (high_first f) f (trace_at f k)) × (data_at (high_first f) f (trace_at f k) ≤ length f)
  one_fits k l = let b = trace_blocked k l in (omega (arith, b.least), b.fits)

  pub area_fits : (z : ℤ) (a e : ℕ) → area_asked f z ≡ Some (a, e) → (a ≤ e) × (e ≤ length f)
  unfolding area_named
  area_fits z a e h = go (whose_of z (count_of f)) refl h
    where
      go : (w : Option Part) → whose_of z (count_of f) ≡ w → area_named f w ≡ Some (a, e) → (a ≤ e) × (e ≤ length f)
      go (Some File) q h =
          let p : ◌≡◌ {A = ℕ × ℕ} (32 + room_of f, trace_at f 0) (a, e) = cc in
          let s = pair_parts p in
          (omega (arith, whole_fits.0, s.0, s.1), omega (arith, whole_fits.1, s.1))
      go (Some (Trace k)) q h =
          let i = one_fits k (whose_trace z (count_of f) k q).1 in
          let p : ◌≡◌ {A = ℕ × ℕ} (trace_at f k + 32, data_at (high_first f) f (trace_at f k)) (a, e) = cc in
          let s = pair_parts p in
          (omega (arith, i.0, s.0, s.1), omega (arith, i.1, s.1))
      go None q h = let y : ◌≡◌ {A = ℕ} 0 1 = cc in absurd (omega arith)

-- ---- an area that was opened

pub record Reached (how : Manner) (xs : List ℕ) (n : ℕ) (z : ℤ) (a e : ℕ) : Type 0 where
  pub accepted : check_of how Read xs n ≡ accepted
  pub known : Checked how xs n
  pub area : area_asked (take n xs) z ≡ Some (a, e)
  pub low : a ≤ e
  pub end : e ≤ length (take n xs)
  pub good : good_terminator (take n xs) 8 ≡ true

pub reached : (how : Manner) (xs : List ℕ) (n : ℕ) (z : ℤ) (a e : ℕ) → opened_of how xs n z ≡ Ok (a, e) → Reached how xs n z a e
unfolding opened_of
reached how xs n z a e h = go (check_of how Read xs n) refl (area_asked (take n xs) z) refl h
  where
    go : (v : Verdict) → check_of how Read xs n ≡ v → (w : Option (ℕ × ℕ)) → area_asked (take n xs) z ≡ w
        → asked Err v (on_area {A = Result (ℕ × ℕ) Refusal} w (Err no_trace) (λ a b. Ok (a, b))) ≡ Ok (a, e) → Reached how xs n z a e
    go (Err r) q w p k = let y : ◌≡◌ {A = ℕ} 0 1 = cc in absurd (omega arith)
    go (Ok _) q None p k = let y : ◌≡◌ {A = ℕ} 0 1 = cc in absurd (omega arith)
    go (Ok _) q (Some (b, d)) p k =
        let c = checked how xs n q in
        let h : ◌≡◌ {A = ℕ × ℕ} (b, d) (a, e) = cc in
        let m = pair_parts h in
        let i = area_fits how (take n xs) c.image z b d p in
        record {
          accepted = q;
          known = c;
          area = rw (m.0, m.1) at p;
          low = omega (arith, i.0, m.0, m.1);
          end = omega (arith, i.1, m.1);
          good = (image_headed how Read (take n xs) c.image).strings;
        }

-- ---- a place that is found lies in the file

places_in_lem : (how : Manner) (xs : List ℕ) (n : ℕ) (z : ℤ) (a e : ℕ) → Reached how xs n z a e → AllIn e (places_in how (take n xs) a e)
unfolding places_in
places_in_lem how xs n z a e r = area_in_lem how (high_first (take n xs)) (string_end (take n xs)) (take n xs) a e r.low r.end

there_within : (e n : ℕ) (s : Option Place) → e ≤ n → ((p : Place) → s ≡ Some p → PlaceIn e p) → Within n (there s)
there_within e n None l h = tt
there_within e n (Some p) l h = let i = h p refl in (i.0, i.1, i.2, omega (arith, i.3))

module _ (how : Manner) (xs : List ℕ) (n : ℕ) (z : ℤ) where
  opened_within : (m : ℕ) (some : ℕ → ℕ → Result (Option Place) Refusal) → ((a e : ℕ) → Reached how xs n z a e → Within m (some a e))
      → Within m (on_opened (opened_of how xs n z) Err some)
  opened_within m some h = go (opened_of how xs n z) refl
    where
      go : (o : Result (ℕ × ℕ) Refusal) → opened_of how xs n z ≡ o → Within m (on_opened o Err some)
      go (Err r) q = tt
      go (Ok (a, e)) q = h a e (reached how xs n z a e q)

  nth_ends : (m : ℕ) → ((a e : ℕ) → Reached how xs n z a e → e ≤ m) → (i : ℕ) → Within m (nth_answer how xs n z i)
  nth_ends m h i =
      rw (← nth_opened how xs n z i)
      (opened_within m _
      (λ a e r.
      there_within e m (nth_of (places_in how (take n xs) a e) i) (h a e r) (λ p q. nth_in e (places_in how (take n xs) a e) i p (places_in_lem how xs n z a e r) q)))

  find_ends : (m : ℕ) → ((a e : ℕ) → Reached how xs n z a e → e ≤ m) → (key : List ℕ) → Within m (find_answer how xs n z key)
  find_ends m h key =
      rw (← find_opened how xs n z key)
      (opened_within m _
      (λ a e r.
      there_within e m (find_of how (take n xs) (places_in how (take n xs) a e) key) (h a e r)
      (λ p q. find_in how e (take n xs) (places_in how (take n xs) a e) key p (places_in_lem how xs n z a e r) q)))

  -- key ≤ gap ≤ value ≤ end ≤ n
  pub nth_within : (i : ℕ) → Within n (nth_answer how xs n z i)
  nth_within i = nth_ends n (λ a e r. omega (arith, r.end, r.known.size)) i

  pub find_within : (key : List ℕ) → Within n (find_answer how xs n z key)
  find_within key = find_ends n (λ a e r. omega (arith, r.end, r.known.size)) key

  -- and n is within the buffer
  pub find_lent : (key : List ℕ) → Within (length xs) (find_answer how xs n z key)
  find_lent key = find_ends (length xs) (λ a e r. omega (arith, r.end, r.known.size, r.known.fits)) key

-- a value within the first n bytes is the same part of the buffer
pub value_within : (xs : List ℕ) (n : ℕ) (s : Result (Option Place) Refusal) → Within n s → value_there xs s ≡ value_there (take n xs) s
value_within xs n (Ok (Some p)) h = sym (part_take n p.value p.end xs h.3)
value_within xs n (Ok None) h = refl
value_within xs n (Err r) h = refl

-- so what was found is the answer's, whichever question was asked: its value, and what is made of it unless it was refused
pub found_told : (xs : List ℕ) (n : ℕ) (s t : Result (Option Place) Refusal) → s ≡ t → Within n t → value_there xs s ≡ value_there (take n xs) t
found_told xs n s t e w = ap (λ (r : Result (Option Place) Refusal). value_there xs r) e ∙ value_within xs n t w

pub made_told : {A : Type 0} (bad : Refusal → A) (g : List ℕ → A) (xs : List ℕ) (s t : Result (Option Place) Refusal) (v : List ℕ) → s ≡ t → value_there xs s ≡ v
    → on_string bad s (g (value_there xs s)) ≡ on_string bad t (g v)
made_told bad g xs s t v e w = ap (λ (l : List ℕ). on_string bad s (g l)) w ∙ ap (λ (r : Result (Option Place) Refusal). on_string bad r (g v)) e

-- of the full question
pub value_told : (how : Manner) (xs : List ℕ) (n : ℕ) (z : ℤ) (key : List ℕ) (s : Result (Option Place) Refusal) → s ≡ find_answer how xs n z key
    → value_there xs s ≡ value_answer how xs n z key
unfolding value_answer
value_told how xs n z key s e = found_told xs n s (find_answer how xs n z key) e (find_within how xs n z key)

-- where it stands is where the answer stands
pub span_told : (how : Manner) {b r : Bor (List ℕ)} (xs : List ℕ) (n : ℕ) (z : ℤ) (key : List ℕ) (s : Result (Option Place) Refusal) → s ≡ find_answer how xs n z key
    → PartOf b (span_there s) r
    → PartOf b (span_answer how xs n z key) r
unfolding span_answer
span_told how xs n z key s e h = rw e at h

pub value_made : (how : Manner) {A : Type 0} (bad : Refusal → A) (g : List ℕ → A) (xs : List ℕ) (n : ℕ) (z : ℤ) (key : List ℕ) (s : Result (Option Place) Refusal)
    → s ≡ find_answer how xs n z key → on_string bad s (g (value_there xs s)) ≡ on_string bad (find_answer how xs n z key) (g (value_answer how xs n z key))
value_made how bad g xs n z key s e =
    made_told bad g xs s (find_answer how xs n z key) (value_answer how xs n z key) e (value_told how xs n z key s e)

pub held : (n : ℕ) (s : Result (Option Place) Refusal) (p : Place) → s ≡ Ok (Some p) → Within n s → PlaceIn n p
held n s p e h = rw e at h

-- ---- a trace that is answered

pub record Told (how : Manner) (xs : List ℕ) (n : ℕ) (z : ℤ) (t : TraceBlock) : Type 0 where
  pub accepted : check_of how Read xs n ≡ accepted
  pub known : Checked how xs n
  pub k : ℕ
  pub number : z ≡ pos k
  pub whose : whose_of z (count_of (take n xs)) ≡ Some (Trace k)
  pub low : k < count_of (take n xs)
  pub block : t ≡ trace_block_of (high_first (take n xs)) (take n xs) k

pub told : (how : Manner) (xs : List ℕ) (n : ℕ) (z : ℤ) (t : TraceBlock) → trace_answer how xs n z ≡ Ok t → Told how xs n z t
unfolding trace_answer
told how xs n z t h = go (check_of how Read xs n) refl (whose_of z (count_of (take n xs))) refl h
  where
    go : (v : Verdict) → check_of how Read xs n ≡ v → (w : Option Part) → whose_of z (count_of (take n xs)) ≡ w
        → asked Err v (on_trace w (Err no_trace) (λ k. Ok (trace_block_of (high_first (take n xs)) (take n xs) k))) ≡ Ok t
        → Told how xs n z t
    go (Err r) q w p k = let y : ◌≡◌ {A = ℕ} 0 1 = cc in absurd (omega arith)
    go (Ok _) q (Some File) p k = let y : ◌≡◌ {A = ℕ} 0 1 = cc in absurd (omega arith)
    go (Ok _) q None p k = let y : ◌≡◌ {A = ℕ} 0 1 = cc in absurd (omega arith)
    go (Ok _) q (Some (Trace j)) p k =
        let s = whose_trace z (count_of (take n xs)) j p in
        record { accepted = q; known = checked how xs n q; k = j; number = s.0; whose = p; low = s.1; block = cc }

-- a block whose rows were passed lies in its image
pub blocked_fits : (f : List ℕ) (k : ℕ) → length f ≤ maximum → Blocked (high_first f) f (trace_at f k) → Fits (length f) (trace_block_of (high_first f) f k)
unfolding trace_block_of
blocked_fits f k m b = record { inside = b.data_fits; most = m; groups = b.groups; samples = b.samples }

block_fits : (how : Manner) (xs : List ℕ) (n k : ℕ) → Checked how xs n → k < count_of (take n xs)
    → Fits (length (take n xs)) (trace_block_of (high_first (take n xs)) (take n xs) k)
block_fits how xs n k c l = blocked_fits (take n xs) k (omega (arith, c.most, c.size)) (trace_blocked how (take n xs) c.image k l)

pub told_fits : (how : Manner) (xs : List ℕ) (n : ℕ) (z : ℤ) (t : TraceBlock) → Told how xs n z t → Fits (length (take n xs)) t
told_fits how xs n z t h = rw h.block (block_fits how xs n h.k h.known h.low)
