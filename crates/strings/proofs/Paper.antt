-- Theorems on what specs/Paper defines. They stand here, as a wrong definition there is to be refused and not to be unread.
-- Assumes nothing.
use Rattle.std.specs.Prelude.{◌≡◌, Bool, true, false, not, ◌⊎◌, take, ltb, eqb, Result, Ok, Err, Option, Some, None}
use Rattle.std.proofs.Math.Path.{refl, sym, ap}
use Rattle.std.proofs.Common.{ap₂, ◌∙◌, inl, inr, ⊎_elim, le_of_eq, le_refl, arith, length-append, take-append-drop}
use Rattle.std.proofs.Common.{length-drop, length-take-le, take-take, ne_eqb, ltb-false}
use mathlib.Core.List.{List, [], ◌∷◌, ◌++◌, append_assoc, append-nil}
use Prim.Native.Nat.{ℕ, zero, suc, ◌+◌, ◌-◌, ◌≤◌, ◌<◌}
use Rattle.std.proofs.Math.ListN.{length, drop}
use Rattle.std.proofs.Math.Seq.{take-append_seam, drop-append_seam}
use Rattle.std.proofs.lemmas.Bool.{eqb-false, not-false}
use Rattle.word.specs.Tests.{both}
use Rattle.word.specs.Part.{part, length_part, part_rest, part_split, part_part, part_drop, part_among}
use Rattle.word.specs.Bytes.{Bytes, bytes_take, bytes_drop}
use Rattle.word.specs.Word.{word_at, bytes_of}
use Rattle.word.specs.WordLaws.{length_bytes_of, word_among, word_small, bytes_of_value}
use Rattle.refusal.specs.Rows.{pick, ruled_through}
use Rattle.refusal.specs.declared.Part.{Part}
use Rattle.refusal.specs.Verdicts.{refused_not, accepted}
use Rattle.refusal.specs.Table.{refusal}
use Rattle.refusal.specs.declared.Rule.TheVariants.{StringOffset}
use Rattle.strings.specs.declared.Place.{Place}
use Rattle.text.specs.declared.Manner.{Manner}
use Rattle.chars.specs.Chars.{blank, solid, solid_not_blank}
use Rattle.chars.specs.Runs.{run, all, same, Stops, all_weaker, run_all, run_stops, run_append}
use Rattle.text.specs.Manner.{open_end, letter, letter_solid, named, follows}
use Rattle.note.specs.Note.{LineEnd}
use Rattle.note.proofs.Note.{value_accept, value_spelled}
use Rattle.strings.specs.Strings.{offset, body, key_len, key_of, after_key, gap_len, value_of}
use Rattle.strings.specs.Strings.{frame_of, text_rows, judged_of, on_frame, step_of, on_step}
use Rattle.strings.specs.Strings.{strings_from, strings_of, place_of, on_text, places_from, places_of, key_in, value_in}
use Rattle.strings.specs.Strings.{nth_of, find_of, found, key_found, value_found}
use Rattle.strings.specs.Frames.{no_offset, frame_end, Framed}
use Rattle.strings.proofs.Frames.{framed}
use Rattle.strings.specs.Walks.{InFrame, in_frame, next_fits, done_frame, judged_clear, key_len_le, length_body}
use Rattle.strings.proofs.Walks.{next_bounds}
use Rattle.strings.specs.Spelled.{Str, GoodString, Rising, text_of, size_of, texts, Ends, Ends.mark, Ends.none}
use Rattle.strings.specs.Spelled.{Spells, Spells.empty, Spells.full, nth_str, value_of_key, has_key, str_in, strs_in}
use Rattle.strings.specs.Paper.{Listed, end_told, str_of}
use Rattle.refusal.specs.declared.Refusal.{Refusal}
use Rattle.refusal.specs.Verdicts.{Verdict}

-- ---- the text of a good string is taken apart into it

opens : (g v : List ℕ) → all blank g ≡ true → (g ≡ [] → v ≡ []) → Stops solid (g ++ v)
unfolding all
opens [] v h a = rw (a refl) tt
opens (b ∷ bs) v h a = ap not (both (blank b) (all blank bs) h).0

module _ {how : Manner} {t u : List ℕ} {s : Str} (good : GoodString how t u s) where
  text_key : key_len (text_of s) ≡ length s.key
  unfolding key_len
  text_key =
      run_append solid s.key (s.gap ++ s.value) (all_weaker (letter how) solid (letter_solid how) s.key good.keys)
      (opens s.gap s.value good.blanks good.apart)

  text_gap : gap_len (s.gap ++ s.value) ≡ length s.gap
  unfolding gap_len
  text_gap = run_append blank s.gap s.value good.blanks good.starts

  key_of_lem : key_of (text_of s) ≡ s.key
  key_of_lem = rw text_key (take-append_seam s.key (s.gap ++ s.value))

  after_of : after_key (text_of s) ≡ s.gap ++ s.value
  after_of = rw text_key (drop-append_seam s.key (s.gap ++ s.value))

  value_of_lem : value_of (text_of s) ≡ s.value
  value_of_lem = rw (after_of, text_gap) (drop-append_seam s.gap s.value)

  text_some : 0 < length (text_of s)
  text_some = let k = length-append s.key (s.gap ++ s.value) in omega (arith, good.some)

  judged : (prev : List ℕ) → LineEnd u → follows how prev s.key ≡ true → judged_of how u prev (text_of s) ≡ Ok (length s.key)
  unfolding judged_of
  judged prev ends rise =
      ruled_through (text_rows how u prev (text_of s)) Err (Ok (key_len (text_of s))) (
        rw text_key (ne_eqb (length s.key) 0 (omega (arith, good.some))),
        (
          rw (key_of_lem, good.keys),
          (
            rw (key_of_lem, value_of_lem, value_accept u (named how s.key) s.value ends good.values good.lines),
            (rw (key_of_lem, rise), tt),
          ),
        ),
      )
      ∙ ap Ok text_key

  pub frame_of_lem : (high : Bool) (r : List ℕ) → Framed how high t (text_of s) r (size_of t s) (bytes_of 2 high (size_of t s) ++ (text_of s ++ (t ++ r)))
  frame_of_lem high r = framed how high t (text_of s) r (size_of t s) refl good.small text_some

  pub steps : (high : Bool) (r prev : List ℕ) (p : Part) (at : ℕ) → LineEnd u → follows how prev s.key ≡ true
      → step_of how high t u p prev (bytes_of 2 high (size_of t s) ++ (text_of s ++ (t ++ r))) at ≡ Ok (Some (size_of t s, length s.key))
  unfolding step_of on_frame
  steps high r prev p at ends rise = let f = frame_of_lem high r in rw (f.text, f.mid, judged prev ends rise)

-- ---- the end

pub end_frame : (how : Manner) (high : Bool) (t end : List ℕ) → Ends how high end → frame_of how high t end ≡ Ok None
unfolding frame_of
end_frame how high t end (mark rest) =
    let two : length (bytes_of 2 high 0) ≡ 2 = length_bytes_of 2 high 0 in
    let w : 0 ≡ word_at 2 high (bytes_of 2 high 0 ++ rest) 0 = sym (word_among 2 high 0 [] rest 0 refl (omega arith)) in
    let long : 2 ≤ length (bytes_of 2 high 0 ++ rest) = simp (length-append, two) (omega arith) in
    sym (frame_end how high t (bytes_of 2 high 0 ++ rest) 0 w long refl)
end_frame how high t end (none e) = rw (no_offset high [] refl, e)

-- ---- what is spelled is accepted

step_next : (how : Manner) (m : ℕ) (high : Bool) (t u : List ℕ) (p : Part) (prev l : List ℕ) (at o n : ℕ) → step_of how high t u p prev l at ≡ Ok (Some (o, n))
    → strings_from how (suc m) high t u p prev l at ≡ strings_from how m high t u p (take n (drop 2 l)) (drop o l) (at + o)
unfolding strings_from
step_next how m high t u p prev l at o n h = rw h

step_done : (how : Manner) (m : ℕ) (high : Bool) (t u : List ℕ) (p : Part) (prev l : List ℕ) (at : ℕ) → frame_of how high t l ≡ Ok None
    → strings_from how (suc m) high t u p prev l at ≡ accepted
unfolding strings_from step_of on_frame
step_done how m high t u p prev l at h = rw h

end_over : (how : Manner) (high : Bool) (end : List ℕ) (p : Part) (at : ℕ) → Ends how high end → length end ≤ 0
    → pick (open_end how) accepted (Err (refusal StringOffset p at)) ≡ accepted
end_over how high end p at (mark rest) h = absurd (let k = length-append (bytes_of 2 high 0) rest in let n = length_bytes_of 2 high 0 in omega arith)
end_over how high end p at (none e) h = rw e

accepts : (how : Manner) (high : Bool) (t u : List ℕ) (p : Part) (ss : List Str) (end prev : List ℕ) (m at : ℕ) → LineEnd u → Ends how high end
    → Rising how t u prev ss → length (texts high t ss end) ≤ m → strings_from how m high t u p prev (texts high t ss end) at ≡ accepted
unfolding texts strings_from
accepts how high t u p [] end prev zero at ends x g h = end_over how high end p at x h
accepts how high t u p [] end prev (suc m) at ends x g h = step_done how m high t u p prev end at (end_frame how high t end x)
accepts how high t u p (s ∷ ss) end prev zero at ends x g h = absurd (let k = (frame_of_lem g.0 high (texts high t ss end)).fit in omega arith)
accepts how high t u p (s ∷ ss) end prev (suc m) at ends x g h =
    let r : List ℕ = texts high t ss end in
    let f = frame_of_lem g.0 high r in
    let l : List ℕ = bytes_of 2 high (size_of t s) ++ (text_of s ++ (t ++ r)) in
    let key : take (length s.key) (drop 2 l) ≡ s.key =
    rw (f.tail, append_assoc s.key (s.gap ++ s.value) (t ++ r)) (take-append_seam s.key ((s.gap ++ s.value) ++ (t ++ r))) in
    step_next how m high t u p prev l at (size_of t s) (length s.key) (steps g.0 high r prev p at ends g.1)
    ∙ rw (f.next, key) (accepts how high t u p ss end s.key m (at + size_of t s) ends x g.2 (omega (arith, f.fit)))

pub spelled_accepted : (how : Manner) {high : Bool} {t u l : List ℕ} {ss : List Str} (p : Part) (at : ℕ) → LineEnd u → Spells how high t u ss l
    → strings_of how high t u p l at ≡ accepted
unfolding strings_of
spelled_accepted how {high} {t} {u} p at ends given = of_list _ _ given
  where
    go : (w : Bool) {v : Verdict} → v ≡ accepted → pick w accepted v ≡ accepted
    go true h = refl
    go false h = h

    of_list : (ss : List Str) (l : List ℕ) → Spells how high t u ss l → strings_of how high t u p l at ≡ accepted
    of_list ss l empty = refl
    of_list ss l (full {end} x g) =
        go (eqb (length (texts high t ss end)) 0)
        (accepts how high t u p ss end [] (length (texts high t ss end)) at ends x g (le_refl (length (texts high t ss end))))

text_back : (b : List ℕ) → text_of (str_of b) ≡ b
text_back b = rw (take-append-drop (gap_len (after_key b)) (after_key b), take-append-drop (key_len b) b)

-- a frame's bytes
unframed : (high : Bool) (t l : List ℕ) (o : ℕ) → Bytes l → InFrame high t l o → l ≡ bytes_of 2 high o ++ (body t o l ++ (t ++ drop o l))
unfolding offset word_at body
unframed high t l o by i =
    let two : length (take 2 l) ≡ 2 = length-take-le 2 l i.two in
    let v : bytes_of (length (take 2 l)) high o ≡ take 2 l =
    ap (λ (n : ℕ). bytes_of (length (take 2 l)) high n) (sym i.told) ∙ bytes_of_value high (take 2 l) (bytes_take 2 l by) in
    let s : drop 2 l ≡ part 2 (o - length t) l ++ (t ++ drop o l) =
    sym (part_rest 2 l) ∙ part_split 2 (o - length t) (length l) l (omega (arith, i.low)) (omega (arith, i.fit))
    ∙ ap (λ (r : List ℕ). part 2 (o - length t) l ++ r)
    (part_split (o - length t) o (length l) l (omega arith) i.fit ∙ ap₂ (λ (x y : List ℕ). x ++ y) i.ends (part_rest o l)) in
    sym (take-append-drop 2 l) ∙ ap₂ (λ (x y : List ℕ). x ++ y) (sym (ap (λ (n : ℕ). bytes_of n high o) (sym two) ∙ v)) s

marked : (how : Manner) (high : Bool) (l : List ℕ) → Bytes l → offset high l ≡ 0 → 2 ≤ length l → Ends how high l
unfolding offset word_at
marked how high l by z long =
    let two : length (take 2 l) ≡ 2 = length-take-le 2 l long in
    let v : bytes_of (length (take 2 l)) high 0 ≡ take 2 l =
    ap (λ (n : ℕ). bytes_of (length (take 2 l)) high n) (sym z) ∙ bytes_of_value high (take 2 l) (bytes_take 2 l by) in
    let e : l ≡ bytes_of 2 high 0 ++ drop 2 l =
    sym (take-append-drop 2 l) ∙ ap (λ (x : List ℕ). x ++ drop 2 l) (sym (ap (λ (n : ℕ). bytes_of n high 0) (sym two) ∙ v)) in
    rw e (mark (drop 2 l))

ended : (how : Manner) (high : Bool) (t l : List ℕ) → Bytes l → frame_of how high t l ≡ Ok None → Ends how high l
ended how high t l by e =
    let h = end_told how high t l e in
    go (open_end how) refl l refl h.0 h.1
  where
    go : (w : Bool) → open_end how ≡ w → (x : List ℕ) → l ≡ x → pick w (eqb (length l) 1) (ltb (length l) 2) ≡ false → offset high l ≡ 0 → Ends how high l
    go true q [] s c z = rw s (none q)
    go true q (y ∷ ys) s c z = let n = eqb-false (length l) 1 c in marked how high l by z (let k = ap length s in omega arith)
    go false q x s c z = marked how high l by z (ltb-false _ _ c)

-- what follows the keyword begins with a separator, so a value without separators before it is empty
apart_of : (r : List ℕ) → Stops solid r → take (gap_len r) r ≡ [] → drop (gap_len r) r ≡ []
unfolding gap_len run
apart_of [] o e = refl
apart_of (b ∷ bs) o e =
    let w : blank b ≡ true = solid_not_blank b o in
    let z : ◌≡◌ {A = List ℕ} (b ∷ take (run blank bs) bs) [] = rw w at e in
    let y : ◌≡◌ {A = ℕ} 0 1 = cc in
    absurd (omega arith)

good_of : (how : Manner) (t u prev b : List ℕ) (n : ℕ) → LineEnd u → 2 + length b + length t < 65536 → judged_of how u prev b ≡ Ok n
    → GoodString how t u (str_of b) × (follows how prev (key_of b) ≡ true)
unfolding key_len gap_len
good_of how t u prev b n ends small e =
    let c = (judged_clear how u prev b n e).0 in
    let some = eqb-false (key_len b) 0 c.0 in
    let k : length (key_of b) ≡ key_len b = length-take-le (key_len b) b (key_len_le b) in
    let v = value_spelled u (named how (key_of b)) (value_of b) ends (not-false _ c.1.1.0) in (
      record {
        some = omega arith;
        keys = not-false _ c.1.0;
        blanks = run_all blank (after_key b);
        starts = run_stops blank (after_key b);
        apart = apart_of (after_key b) (run_stops solid b);
        values = v.0;
        lines = v.1;
        small = rw (text_back b) small;
      },
      not-false _ c.1.1.1.0,
    )

word_offset : (high : Bool) (l : List ℕ) → word_at 2 high l 0 ≡ offset high l
unfolding offset
word_offset high l = refl

-- a step to the end stands at the end
done_ends : (how : Manner) (high : Bool) (t u : List ℕ) (p : Part) (prev l : List ℕ) (at : ℕ) → Bytes l → step_of how high t u p prev l at ≡ Ok None
    → Ends how high l
done_ends how high t u p prev l at by e = ended how high t l by (done_frame how high t u p prev l at e)

extend : (how : Manner) (high : Bool) (t u : List ℕ) (p : Part) (prev l : List ℕ) (at o n : ℕ) → LineEnd u → Bytes l
    → step_of how high t u p prev l at ≡ Ok (Some (o, n)) → Listed how high t u (take n (drop 2 l)) (drop o l) → Listed how high t u prev l
unfolding texts body
extend how high t u p prev l at o n ends by e i =
    let b = next_fits how high t u p prev l at o n e in
    let f = in_frame how high t l o b.0 in
    let x : List ℕ = body t o l in
    let k : key_len x ≡ n = (judged_clear how u prev x n b.1).1 in
    let long : length x ≡ o - length t - 2 = length_body t o l f.low f.fit in
    let most : word_at 2 high l 0 < 65536 = word_small 2 high l 0 by in
    let told : word_at 2 high l 0 ≡ o = word_offset high l ∙ f.told in
    let size : 2 + length x + length t ≡ o = omega (arith, f.low) in
    let g = good_of how t u prev x n ends (omega arith) b.1 in
    let key : take n (drop 2 l) ≡ key_of x = rw k (sym (take-take n (o - length t - 2) (drop 2 l) (omega (arith, key_len_le x)))) in (
      str_of x ∷ i.0,
      i.1,
      i.2,
      (g.0, g.1, rw key at i.3),
      unframed high t l o by f
          ∙ rw (text_back x, ← i.4) (ap (λ (j : ℕ). bytes_of 2 high j ++ (x ++ (t ++ drop o l))) (sym size)),
    )

nothing_left : (l : List ℕ) → length l ≤ 0 → l ≡ []
nothing_left [] h = refl
nothing_left (x ∷ l) h = absurd (omega arith)

-- where no byte is left and the walk accepts, the list may end there
over_ends : (how : Manner) (high : Bool) (p : Part) (l : List ℕ) (at : ℕ) → length l ≤ 0
    → pick (open_end how) accepted (Err (refusal StringOffset p at)) ≡ accepted → Ends how high l
over_ends how high p l at h e = go (open_end how) refl e
  where
    go : (w : Bool) → open_end how ≡ w → pick w accepted (Err (refusal StringOffset p at)) ≡ accepted → Ends how high l
    go true q k = rw (nothing_left l h) (none q)
    go false q k = absurd (refused_not _ k)

spells : (how : Manner) (high : Bool) (t u : List ℕ) (p : Part) (m : ℕ) (l prev : List ℕ) (at : ℕ) → LineEnd u → Bytes l → length l ≤ m
    → strings_from how m high t u p prev l at ≡ accepted → Listed how high t u prev l
unfolding strings_from texts
spells how high t u p zero l prev at ends by h e = ([], l, over_ends how high p l at h e, tt, refl)
spells how high t u p (suc m) l prev at ends by h e =
    go (step_of how high t u p prev l at) refl e (λ r q j d s k. spells how high t u p m r q j ends d s k)
  where
    go : (s : Result (Option (ℕ × ℕ)) Refusal) → step_of how high t u p prev l at ≡ s
        → on_step s (λ o n. strings_from how m high t u p (take n (drop 2 l)) (drop o l) (at + o)) ≡ accepted
        → ((r q : List ℕ) (j : ℕ) → Bytes r → length r ≤ m → strings_from how m high t u p q r j ≡ accepted → Listed how high t u q r)
        → Listed how high t u prev l
    go (Ok (Some (o, n))) q k again =
        let b = next_bounds how high t u p prev l at o n q in
        let d = length-drop o l in
        extend how high t u p prev l at o n ends by q (again (drop o l) (take n (drop 2 l)) (at + o) (bytes_drop o l by) (omega (arith, b.0)) k)
    go (Ok None) q k again = ([], l, done_ends how high t u p prev l at by q, tt, refl)
    go (Err r) q k again = let z : ◌≡◌ {A = ℕ} 0 1 = cc in absurd (omega arith)

as_spelled : (how : Manner) (high : Bool) (t u l : List ℕ) (ss : List Str) (end : List ℕ) → Ends how high end → Rising how t u [] ss
    → l ≡ texts high t ss end → Spells how high t u ss l
as_spelled how high t u l ss end x g w = rw w (full x g)

pub accepted_spelled : (how : Manner) (high : Bool) (t u : List ℕ) (p : Part) (l : List ℕ) (at : ℕ) → LineEnd u → Bytes l
    → strings_of how high t u p l at ≡ accepted → (ss : List Str) × Spells how high t u ss l
unfolding strings_of
accepted_spelled how high t u p [] at ends by e = ([], empty)
accepted_spelled how high t u p (x ∷ l) at ends by e =
    let k : strings_from how (length (x ∷ l)) high t u p [] (x ∷ l) at ≡ accepted = rw (ne_eqb (suc (length l)) 0 (omega arith)) at e in
    let s = spells how high t u p (length (x ∷ l)) (x ∷ l) [] at ends by (le_refl (length (x ∷ l))) k in
    (s.0, as_spelled how high t u (x ∷ l) s.0 s.1 s.2 s.3 s.4)

module _ {how : Manner} {t u : List ℕ} {s : Str} (good : GoodString how t u s) where
  -- a string of o bytes at a place of f, whose text stands two bytes behind
  place_str : (f l : List ℕ) (at o : ℕ) → o ≡ size_of t s → body t o l ≡ text_of s → part (at + 2) (at + (o - length t)) f ≡ text_of s
      → str_in f (place_of t o l at) ≡ s
  place_str f l at o e mid text =
      let k : ℕ = length s.key in
      let g : ℕ = length s.gap in
      let v : ℕ = length s.value in
      let lk : length (text_of s) ≡ k + length (s.gap ++ s.value) = length-append s.key (s.gap ++ s.value) in
      let lg : length (s.gap ++ s.value) ≡ g + v = length-append s.gap s.value in
      let end : at + (o - length t) ≡ at + 2 + (k + g + v) = omega arith in
      let whole : part (at + 2) (at + 2 + (k + g + v)) f ≡ text_of s = rw end at text in
      let piece : (i j : ℕ) → j ≤ k + g + v → part (at + 2 + i) (at + 2 + j) f ≡ part i j (text_of s) =
      λ i j h. sym (part_part i j (at + 2) (at + 2 + (k + g + v)) f (omega arith)) ∙ ap (λ (r : List ℕ). part i j r) whole in
      let z : at + 2 ≡ at + 2 + 0 = omega arith in
      let a : part (at + 2) (at + 2 + k) f ≡ s.key =
      ap (λ (j : ℕ). part j (at + 2 + k) f) z ∙ piece 0 k (omega arith) ∙ part_among [] s.key (s.gap ++ s.value) 0 k refl (omega arith) in
      let y : at + 2 + k + g ≡ at + 2 + (k + g) = omega arith in
      let b : part (at + 2 + k) (at + 2 + k + g) f ≡ s.gap =
      ap (λ (j : ℕ). part (at + 2 + k) j f) y ∙ piece k (k + g) (omega arith) ∙ part_among s.key s.gap s.value k (k + g) refl (omega arith) in
      let x : text_of s ≡ (s.key ++ s.gap) ++ (s.value ++ []) =
      sym (append_assoc s.key s.gap s.value) ∙ ap (λ (r : List ℕ). (s.key ++ s.gap) ++ r) (sym (append-nil s.value)) in
      let c : part (at + 2 + k + g) (at + (o - length t)) f ≡ s.value =
      ap₂ (λ (i j : ℕ). part i j f) y end ∙ piece (k + g) (k + g + v) (omega arith) ∙ ap (λ (r : List ℕ). part (k + g) (k + g + v) r) x
      ∙ part_among (s.key ++ s.gap) s.value [] (k + g) (k + g + v) (length-append s.key s.gap) (omega arith) in
      rw (mid, text_key good, drop-append_seam s.key (s.gap ++ s.value), text_gap good, a, b, c)

body_part : (t : List ℕ) (o : ℕ) (l : List ℕ) → part 2 (o - length t) l ≡ body t o l
unfolding body
body_part t o l = refl

module _ (how : Manner) (f t u : List ℕ) (high : Bool) (e : ℕ) (fits : e ≤ length f) where
  read_off : (ss : List Str) (end prev : List ℕ) (m at : ℕ) → at ≤ e → Ends how high end → Rising how t u prev ss → part at e f ≡ texts high t ss end
      → e - at ≤ m
      → strs_in f (places_from how m high t (part at e f) at) ≡ ss
  unfolding texts places_from on_text
  read_off [] end prev zero at low q g w h = refl
  read_off [] end prev (suc m) at low q g w h = rw (w, end_frame how high t end q)
  read_off (s ∷ ss) end prev zero at low q g w h =
      absurd (let k = (frame_of_lem g.0 high (texts high t ss end)).fit in let x = sym (length_part at e f fits) ∙ ap length w in omega arith)
  read_off (s ∷ ss) end prev (suc m) at low q g w h =
      let r : List ℕ = texts high t ss end in
      let o : ℕ = size_of t s in
      let fr = frame_of_lem g.0 high r in
      let text : frame_of how high t (part at e f) ≡ Ok (Some o) = rw w fr.text in
      let mid : body t o (part at e f) ≡ text_of s = rw w fr.mid in
      let next : part (at + o) e f ≡ r = sym (part_drop o at e f) ∙ ap (λ (l : List ℕ). drop o l) w ∙ fr.next in
      let x : e - at ≡ o + length r = sym (length_part at e f fits) ∙ ap length w ∙ fr.fit in
      let d : drop o (part at e f) ≡ part (at + o) e f = part_drop o at e f in
      let y : part (at + 2) (at + (o - length t)) f ≡ text_of s =
      sym (part_part 2 (o - length t) at e f (omega arith)) ∙ body_part t o (part at e f) ∙ mid in
      rw (text, d, place_str g.0 f (part at e f) at o refl mid y)
      (ap (λ (zs : List Str). s ∷ zs) (read_off ss end s.key m (at + o) (omega arith) q g.2 next (omega arith)))

-- ---- the theorems

no_place : (how : Manner) (f : List ℕ) (high : Bool) (t : List ℕ) (at : ℕ) → strs_in f (places_from how 0 high t [] at) ≡ []
unfolding places_from
no_place how f high t at = refl

apart_spelled : (how : Manner) (high : Bool) (t u l : List ℕ) (ss : List Str) → Spells how high t u ss l
    → ((l ≡ []) × (ss ≡ [])) ⊎ ((end : List ℕ) × Ends how high end × Rising how t u [] ss × (l ≡ texts high t ss end))
apart_spelled how high t u l ss given = go ss l given
  where
    go : (ss : List Str) (l : List ℕ) → Spells how high t u ss l
        → ((l ≡ []) × (ss ≡ [])) ⊎ ((end : List ℕ) × Ends how high end × Rising how t u [] ss × (l ≡ texts high t ss end))
    go ss l empty = inl (refl, refl)
    go ss l (full x g) = inr (_, x, g, refl)

-- on an area that spells ss, the places are those of ss
pub spelled_places : (how : Manner) (f t u : List ℕ) (high : Bool) (a e : ℕ) (ss : List Str) → a ≤ e → e ≤ length f → Spells how high t u ss (part a e f)
    → strs_in f (places_of how high t (part a e f) a) ≡ ss
unfolding places_of
spelled_places how f t u high a e ss low fits h =
    ⊎_elim
    (λ w. rw (w.0, w.1) (no_place how f high t a))
    (λ w. read_off how f t u high e fits ss w.0 [] (length (part a e f)) a low w.1 w.2 w.3 (le_of_eq (sym (length_part a e f fits))))
    (apart_spelled how high t u (part a e f) ss h)

-- no bytes spell two lists
pub spelled_once : (how : Manner) (high : Bool) (t u l : List ℕ) (ss rs : List Str) → Spells how high t u ss l → Spells how high t u rs l → ss ≡ rs
spelled_once how high t u l ss rs h k =
    let w : l ≡ part 0 (length l) l = sym (part_rest 0 l) in
    sym (spelled_places how l t u high 0 (length l) ss (omega arith) (le_refl (length l)) (rw w at h))
    ∙ spelled_places how l t u high 0 (length l) rs (omega arith) (le_refl (length l)) (rw w at k)

-- the number of strings
length_strs : (f : List ℕ) (ps : List Place) → length (strs_in f ps) ≡ length ps
length_strs f [] = refl
length_strs f (p ∷ ps) = ap suc (length_strs f ps)

pub spelled_count : (how : Manner) (f t u : List ℕ) (high : Bool) (a e : ℕ) (ss : List Str) → a ≤ e → e ≤ length f → Spells how high t u ss (part a e f)
    → length (places_of how high t (part a e f) a) ≡ length ss
spelled_count how f t u high a e ss low fits h =
    sym (length_strs f (places_of how high t (part a e f) a)) ∙ ap length (spelled_places how f t u high a e ss low fits h)

-- the i-th string
nth_key_in : (f : List ℕ) (ps : List Place) (i : ℕ) → key_found f (nth_of ps i) ≡ (nth_str (strs_in f ps) i).key
unfolding key_found nth_of
nth_key_in f [] i = refl
nth_key_in f (p ∷ ps) zero = refl
nth_key_in f (p ∷ ps) (suc i) = nth_key_in f ps i

nth_value_in : (f : List ℕ) (ps : List Place) (i : ℕ) → value_found f (nth_of ps i) ≡ (nth_str (strs_in f ps) i).value
unfolding value_found nth_of
nth_value_in f [] i = refl
nth_value_in f (p ∷ ps) zero = refl
nth_value_in f (p ∷ ps) (suc i) = nth_value_in f ps i

pub spelled_nth : (how : Manner) (f t u : List ℕ) (high : Bool) (a e : ℕ) (ss : List Str) (i : ℕ) → a ≤ e → e ≤ length f → Spells how high t u ss (part a e f)
    → (key_found f (nth_of (places_of how high t (part a e f) a) i) ≡ (nth_str ss i).key)
    × (value_found f (nth_of (places_of how high t (part a e f) a) i) ≡ (nth_str ss i).value)
spelled_nth how f t u high a e ss i low fits h =
    let w = spelled_places how f t u high a e ss low fits h in (
      nth_key_in f (places_of how high t (part a e f) a) i ∙ ap (λ (rs : List Str). (nth_str rs i).key) w,
      nth_value_in f (places_of how high t (part a e f) a) i ∙ ap (λ (rs : List Str). (nth_str rs i).value) w,
    )

-- the value of a keyword, and whether it is there
find_value_in : (how : Manner) (f : List ℕ) (ps : List Place) (key : List ℕ) → value_found f (find_of how f ps key) ≡ value_of_key how (strs_in f ps) key
unfolding value_found find_of value_of_key
find_value_in how f [] key = refl
find_value_in how f (p ∷ ps) key = go (same (named how (key_in f p)) key) (find_value_in how f ps key)
  where
    go : (w : Bool) → value_found f (find_of how f ps key) ≡ value_of_key how (strs_in f ps) key
        → value_found f (pick w (Some p) (find_of how f ps key)) ≡ pick w (value_in f p) (value_of_key how (strs_in f ps) key)
    go true i = refl
    go false i = i

find_has_in : (how : Manner) (f : List ℕ) (ps : List Place) (key : List ℕ) → found (find_of how f ps key) ≡ has_key how (strs_in f ps) key
unfolding find_of has_key
find_has_in how f [] key = refl
find_has_in how f (p ∷ ps) key = go (same (named how (key_in f p)) key) (find_has_in how f ps key)
  where
    go : (w : Bool) → found (find_of how f ps key) ≡ has_key how (strs_in f ps) key
        → found (pick w (Some p) (find_of how f ps key)) ≡ pick w true (has_key how (strs_in f ps) key)
    go true i = refl
    go false i = i

pub spelled_value : (how : Manner) (f t u : List ℕ) (high : Bool) (a e : ℕ) (ss : List Str) (key : List ℕ) → a ≤ e → e ≤ length f
    → Spells how high t u ss (part a e f)
    → (found (find_of how f (places_of how high t (part a e f) a) key) ≡ has_key how ss key)
    × (value_found f (find_of how f (places_of how high t (part a e f) a) key) ≡ value_of_key how ss key)
spelled_value how f t u high a e ss key low fits h =
    let w = spelled_places how f t u high a e ss low fits h in (
      find_has_in how f (places_of how high t (part a e f) a) key ∙ ap (λ (rs : List Str). has_key how rs key) w,
      find_value_in how f (places_of how high t (part a e f) a) key ∙ ap (λ (rs : List Str). value_of_key how rs key) w,
    )
