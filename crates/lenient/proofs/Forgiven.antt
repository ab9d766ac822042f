-- Theorems on what specs/Forgiven defines. They stand here, as a wrong definition there is to be refused and not to be unread.
-- Assumes nothing.
use Rattle.std.specs.Prelude.{◌≡◌, not, List, [], ◌∷◌, ◌⊎◌, length, take, drop, Result, Ok, Err, Option, Some, None, Bool, true, false, ℕ, zero, suc, ◌+◌, ◌≤◌, ◌<◌, eqb}
use Rattle.std.proofs.Common.{refl, sym, ap, ◌∙◌, inl, inr, ⊎_elim, le_refl, arith, length-drop, drop-drop}
use Rattle.word.specs.Part.{part, part_none}
use Rattle.refusal.specs.declared.Rule.{Rule}
use Rattle.refusal.specs.declared.Rule.TheVariants.{StringOffset, Character, KeywordOrder, ChannelNumber}
use Rattle.refusal.specs.declared.Part.{Part}
use Rattle.refusal.specs.declared.Part.TheVariants.{File, Trace}
use Rattle.refusal.specs.declared.Refusal.{Refusal}
use Rattle.refusal.specs.Table.{refusal}
use Rattle.refusal.specs.Rows.{pick, ruled}
use Rattle.refusal.specs.FirstRow.{row, first_of}
use Rattle.text.specs.declared.Manner.{Manner}
use Rattle.text.specs.declared.Manner.TheVariants.{Strict, Lenient}
use Rattle.text.specs.Manner.{open_end, letter, named, follows, strict_letters, strict_named}
use Rattle.chars.specs.Runs.{all}
use Rattle.note.specs.Note.{value_ok}
use Rattle.strings.specs.Strings.{body, key_len, key_of, value_of, frame_of, judged_of, on_judged, on_frame, step_of, on_step}
use Rattle.strings.specs.Strings.{strings_from, strings_of}
use Rattle.strings.specs.Walks.{in_frame}
use Rattle.strings.proofs.Walks.{walk_over}
use Rattle.head_limits.specs.declared.Purpose.{Purpose}
use Rattle.head_words.specs.HeadWords.{high_first, room_of, count_of}
use Rattle.terminators.specs.Terminators.{string_end, line_end}
use Rattle.block.specs.Block.{data_at, end_at}
use Rattle.trace.specs.Trace.{area_verdict, channel_at}
use Rattle.channel.specs.Channel.{bad_channel}
use Rattle.strings.specs.Strings.{found, value_found}
use Rattle.traces.specs.Traces.{with_channel, trace_of, traces_from}
use Rattle.file_length.specs.FileLength.{bad_length}
use Rattle.image.specs.Image.{filled_checks, rest_of, image_of, check_of}
use Rattle.image.specs.Keeps.{trace_at, strings_end}
use Rattle.lenient.specs.Eased.{Eased, eased_same, forgiven, eased_then, eased_next, eased_pick, eased_more}
use Rattle.lenient.specs.Forgiven.{EasedText, Forgiven, Forgiven.any_order, Forgiven.no_mark, Forgiven.small_letters}
use Rattle.lenient.specs.Forgiven.{ForgivenIn, ForgivenIn.of_channels, ForgivenIn.of_strings, Of, area_in, frame_any}
use Rattle.refusal.specs.Verdicts.{Verdict, accepted}

-- what is forgiven of the strings behind a string is forgiven of all
later : (high : Bool) (t l : List ℕ) (at o : ℕ) (r : Refusal) → o ≤ length l → Forgiven high t (drop o l) (at + o) r → Forgiven high t l at r
later high t l at o r fit (no_mark e p) = let d = length-drop o l in no_mark e (p ∙ omega arith)
later high t l at o r fit (small_letters e j h p s k) =
    let d = length-drop o l in
    let w : drop j (drop o l) ≡ drop (o + j) l = drop-drop j o l in
    small_letters e (o + j) (omega arith) (p ∙ omega arith) (rw w at s) (rw w at k)
later high t l at o r fit (any_order e j h p) = let d = length-drop o l in any_order e (o + j) (omega arith) (p ∙ omega arith)

-- the rows of the text side by side: z an empty keyword, w and v its letters, x and y its value, q its order
texts_eased : (F : Rule → Type 0) (n : ℕ) (z w v x y q : Bool) → (w ≡ true → (v ≡ true) × (y ≡ x)) → (w ≡ false → v ≡ true → F Character)
    → F KeywordOrder
    → EasedText F (ruled ((z, Character) ∷ (not w, Character) ∷ (not x, Character) ∷ (not q, KeywordOrder) ∷ []) Err (Ok n))
    (ruled ((z, Character) ∷ (not v, Character) ∷ (not y, Character) ∷ (not true, KeywordOrder) ∷ []) Err (Ok n))
texts_eased F n true w v x y q h small order = inl refl
texts_eased F n false false true x y q h small order = inr (small refl refl)
texts_eased F n false false false x y q h small order = inl refl
texts_eased F n false true v x y q h small order = rw ((h refl).0, (h refl).1) (go x q)
  where
    go : (x q : Bool) → EasedText F (ruled ((not x, Character) ∷ (not q, KeywordOrder) ∷ []) Err (Ok n))
        (ruled ((not x, Character) ∷ (not true, KeywordOrder) ∷ []) Err (Ok n))
    go false q = inl refl
    go true true = refl
    go true false = inr order

judged_eased : (F : Rule → Type 0) (u prev b : List ℕ) → (all (letter Strict) (key_of b) ≡ false → all (letter Lenient) (key_of b) ≡ true → F Character)
    → F KeywordOrder → EasedText F (judged_of Strict u prev b) (judged_of Lenient u prev b)
unfolding judged_of
judged_eased F u prev b small order =
    texts_eased F (key_len b) (eqb (key_len b) 0) (all (letter Strict) (key_of b)) (all (letter Lenient) (key_of b)) (value_ok u (key_of b) (value_of b))
    (value_ok u (named Lenient (key_of b)) (value_of b)) (follows Strict prev (key_of b))
    (λ h. (strict_letters Lenient (key_of b) h, ap (λ (k : List ℕ). value_ok u k (value_of b)) (strict_named Lenient (key_of b) h)))
    small order

-- ---- the strings of an area

-- where no byte is left
over_any : (how : Manner) (m : ℕ) (high : Bool) (t u : List ℕ) (p : Part) (prev : List ℕ) (at : ℕ)
    → strings_from how m high t u p prev [] at ≡ pick (open_end how) accepted (Err (refusal StringOffset p at))
over_any how m high t u p prev at =
    let e : part at at [] ≡ [] = part_none at at [] (le_refl at) in
    ap (λ (l : List ℕ). strings_from how m high t u p prev l at) (sym e) ∙ sym (walk_over how high t u p prev [] at at m (le_refl at))

strings_eased : (m : ℕ) (high : Bool) (t u : List ℕ) (p : Part) (prev l : List ℕ) (at : ℕ) → length l ≤ m
    → Eased (Of high t p l at) (strings_from Strict m high t u p prev l at) (strings_from Lenient m high t u p prev l at)
unfolding strings_from step_of on_frame
strings_eased zero high t u p prev [] at h = forgiven _ _ (refl, no_mark refl (omega arith))
strings_eased zero high t u p prev (x ∷ l) at h = absurd (omega arith)
strings_eased (suc m) high t u p prev [] at h =
    rw (over_any Strict (suc m) high t u p prev at, over_any Lenient (suc m) high t u p prev at) (forgiven _ _ (refl, no_mark refl (omega arith)))
strings_eased (suc m) high t u p prev (x ∷ l) at h =
    rw (frame_any Lenient Strict high t (x ∷ l) (omega arith))
    (go (frame_of Strict high t (x ∷ l)) refl
    (λ o n some fit.
    let d = length-drop o (x ∷ l) in
    eased_more (λ r g. (g.0, later high t (x ∷ l) at o r fit g.1))
    (strings_eased m high t u p (take n (drop 2 (x ∷ l))) (drop o (x ∷ l)) (at + o) (omega arith))))
  where
    -- the strings behind
    next : Manner → ℕ → ℕ → Verdict
    next how o n = strings_from how m high t u p (take n (drop 2 (x ∷ l))) (drop o (x ∷ l)) (at + o)

    Here : Refusal → Type 0
    Here = Of high t p (x ∷ l) at

    judge : (o : ℕ) (a b : Result ℕ Rule) → EasedText (λ rule. Here (refusal rule p at)) a b → ((n : ℕ) → Eased Here (next Strict o n) (next Lenient o n))
        → Eased Here (on_step (on_judged a p at o) (next Strict)) (on_step (on_judged b p at o) (next Lenient))
    judge o (Ok n) b e again = rw e (again n)
    judge o (Err r) b e again = ⊎_elim (λ (q : b ≡ Err r). rw q (eased_same _)) (λ g. forgiven _ _ g) e

    go : (w : Result (Option ℕ) Rule) → frame_of Strict high t (x ∷ l) ≡ w
        → ((o n : ℕ) → 0 < o → o ≤ length (x ∷ l) → Eased Here (next Strict o n) (next Lenient o n))
        → Eased Here (on_step (on_frame Strict w t u prev (x ∷ l) p at) (next Strict)) (on_step (on_frame Lenient w t u prev (x ∷ l) p at) (next Lenient))
    go (Ok None) q again = eased_same accepted
    go (Err r) q again = eased_same _
    go (Ok (Some o)) q again =
        let i = in_frame Strict high t (x ∷ l) o q in
        let none : at ≡ at + 0 = omega arith in
        judge o (judged_of Strict u prev (body t o (x ∷ l))) (judged_of Lenient u prev (body t o (x ∷ l)))
        (judged_eased (λ rule. Here (refusal rule p at)) u prev (body t o (x ∷ l))
        (λ s k. (refl, small_letters refl 0 (omega arith) none (rw i.told s) (rw i.told k)))
        (refl, any_order refl 0 (omega arith) none))
        (λ n. again o n (omega (arith, i.low)) i.fit)

area_eased : (high : Bool) (t u f : List ℕ) (p : Part) (a e : ℕ)
    → Eased (Of high t p (part a e f) a) (area_verdict Strict high t u f p a e) (area_verdict Lenient high t u f p a e)
unfolding area_verdict strings_of
area_eased high t u f p a e =
    eased_pick (eqb (length (part a e f)) 0) accepted accepted _ _ (eased_same accepted)
    (strings_eased (length (part a e f)) high t u p [] (part a e f) a (le_refl (length (part a e f))))

in_part : (f : List ℕ) (p : Part) (a e : ℕ) → (area_in f p).0 ≡ a → (area_in f p).1 ≡ e → (r : Refusal)
    → Of (high_first f) (string_end f) p (part a e f) a r → ForgivenIn f r
in_part f p a e x y r g = of_strings p g.0 (rw (x, y) g.1)

module _ (f : List ℕ) where
  channel_eased : (k p : ℕ) (bad : Bool) → Eased (ForgivenIn f) (row bad ChannelNumber (Trace k) (p + 32)) accepted
  channel_eased k p true = forgiven _ _ (of_channels refl)
  channel_eased k p false = eased_same accepted

  trace_eased : (u : List ℕ) (k prev : ℕ)
      → Eased (ForgivenIn f) (trace_of Strict (high_first f) (string_end f) u f k prev) (trace_of Lenient (high_first f) (string_end f) u f k prev)
  unfolding trace_of
  trace_eased u k prev =
      eased_next _ _ (eased_same _)
      (eased_next _ _ (eased_same _)
      (eased_next _ _
      (eased_more (in_part f (Trace k) _ _ refl refl)
      (area_eased (high_first f) (string_end f) u f (Trace k) (trace_at f k + 32)
      (data_at (high_first f) f (trace_at f k))))
      (eased_next _ _ (channel_eased k (trace_at f k) (bad k)) (eased_same (first_of [])))))
    where
      -- 34 of the trace k
      bad : ℕ → Bool
      bad k =
          bad_channel (with_channel Strict (high_first f) (string_end f) f) (found (channel_at Strict (high_first f) (string_end f) f (trace_at f k)))
          (value_found f (channel_at Strict (high_first f) (string_end f) f (trace_at f k)))

  traces_eased : (u : List ℕ) (left k prev : ℕ)
      → Eased (ForgivenIn f) (traces_from Strict (high_first f) (string_end f) u f left k prev)
      (traces_from Lenient (high_first f) (string_end f) u f left k prev)
  unfolding traces_from
  traces_eased u zero k prev = eased_same accepted
  traces_eased u (suc left) k prev =
      eased_then _ _ _ _ (trace_eased u k prev) (traces_eased u left (k + 1) (end_at (high_first f) f (trace_at f k)))

  file_area_eased : (u : List ℕ) (e : ℕ) → strings_end f ≡ e
      → Eased (ForgivenIn f) (area_verdict Strict (high_first f) (string_end f) u f File (32 + room_of f) e)
      (area_verdict Lenient (high_first f) (string_end f) u f File (32 + room_of f) e)
  file_area_eased u e h = eased_more (in_part f File _ _ refl h) (area_eased (high_first f) (string_end f) u f File (32 + room_of f) e)

  rest_eased : (u : List ℕ)
      → Eased (ForgivenIn f) (rest_of Strict (high_first f) (string_end f) u f (room_of f) (count_of f))
      (rest_of Lenient (high_first f) (string_end f) u f (room_of f) (count_of f))
  unfolding rest_of
  rest_eased u = go (eqb (count_of f) 0) refl
    where
      go : (w : Bool) → eqb (count_of f) 0 ≡ w
          → Eased (ForgivenIn f)
          (pick w (area_verdict Strict (high_first f) (string_end f) u f File (32 + room_of f) (length f))
          (first_of (filled_checks Strict (high_first f) (string_end f) u f (room_of f) (count_of f))))
          (pick w (area_verdict Lenient (high_first f) (string_end f) u f File (32 + room_of f) (length f))
          (first_of (filled_checks Lenient (high_first f) (string_end f) u f (room_of f) (count_of f))))
      go true q = file_area_eased u (length f) (rw q)
      go false q =
          eased_next _ _ (eased_same _)
          (eased_next _ _ (file_area_eased u (trace_at f 0) (rw q))
          (eased_next _ _ (traces_eased u (count_of f) 0 (32 + room_of f)) (eased_same (first_of []))))

  pub image_eased : (purpose : Purpose) → Eased (ForgivenIn f) (image_of Strict purpose f) (image_of Lenient purpose f)
  unfolding image_of
  image_eased purpose = eased_then _ _ _ _ (eased_same _) (rest_eased (line_end f))

pub check_eased : (purpose : Purpose) (xs : List ℕ) (n : ℕ) → Eased (ForgivenIn (take n xs)) (check_of Strict purpose xs n) (check_of Lenient purpose xs n)
unfolding check_of
check_eased purpose xs n = eased_pick (bad_length (length xs) n) _ _ _ _ (eased_same _) (image_eased (take n xs) purpose)

-- what the strict check lets through the lenient one does
pub strict_lenient : (purpose : Purpose) (xs : List ℕ) (n : ℕ) → check_of Strict purpose xs n ≡ accepted → check_of Lenient purpose xs n ≡ accepted
strict_lenient purpose xs n h = (check_eased purpose xs n).accepted h

-- what the strict check refuses the lenient one refuses by the same row and place, or else it is forgiven
pub refused_or_forgiven : (purpose : Purpose) (xs : List ℕ) (n : ℕ) (r : Refusal) → check_of Strict purpose xs n ≡ Err r
    → (check_of Lenient purpose xs n ≡ Err r) ⊎ ForgivenIn (take n xs) r
refused_or_forgiven purpose xs n r h = (check_eased purpose xs n).refused r h
