-- Theorems on what specs/Never defines. They stand here, as a wrong definition there is to be refused and not to be unread.
-- Assumes nothing.
use Rattle.std.specs.Prelude.{◌≡◌, refl, Bool, true, false, not, List, [], ◌∷◌, ℕ, zero, suc, ◌+◌, length, take, drop, eqb, Result, Ok, Err, Option, Some, None}
use Rattle.std.proofs.Common.{sym, ap, ◌∙◌, arith}
use Rattle.word.specs.Part.{part}
use Rattle.refusal.specs.declared.Rule.{Rule}
use Rattle.refusal.specs.declared.Rule.TheVariants.{StringOffset, StringEnd, Character, KeywordOrder, ChannelNumber}
use Rattle.refusal.specs.declared.Part.{Part}
use Rattle.refusal.specs.declared.Part.TheVariants.{File, Trace}
use Rattle.refusal.specs.declared.Refusal.{Refusal}
use Rattle.refusal.specs.Table.{refusal}
use Rattle.refusal.specs.Rows.{Rows, pick, first, ruled}
use Rattle.refusal.specs.Verdicts.{refused_not, and_then, accepted, Verdict}
use Rattle.refusal.specs.FirstRow.{first_of, first_next}
use Rattle.text.specs.declared.Manner.TheVariants.{Lenient}
use Rattle.text.specs.Manner.{letter, named}
use Rattle.chars.specs.Runs.{all}
use Rattle.note.specs.Note.{value_ok}
use Rattle.strings.specs.Strings.{offset, body, key_len, key_of, value_of, frame_of, judged_of, on_judged, on_frame, step_of, on_step}
use Rattle.strings.specs.Strings.{strings_from, strings_of}
use Rattle.head_limits.specs.declared.Purpose.{Purpose}
use Rattle.head_words.specs.HeadWords.{high_first, room_of, count_of}
use Rattle.head.specs.Head.{head_rows, head_of}
use Rattle.terminators.specs.Terminators.{string_end, line_end}
use Rattle.block.specs.Block.{pointer_of, block_size_of, end_at, block_rows, block_of, pointer_row}
use Rattle.limits.specs.Limits.{bad_pointer}
use Rattle.block.specs.BlockLaws.{head_at}
use Rattle.trace.specs.Trace.{area_verdict}
use Rattle.traces.specs.Traces.{trace_of, traces_from}
use Rattle.file_length.specs.FileLength.{bad_length}
use Rattle.image.specs.Image.{rest_of, image_of, check_of}
use Rattle.lenient.specs.Never.{AllGive, FrameGives, Gives, TextGives, given_here}

gives_accepted : Gives accepted
gives_accepted = record { rule = λ r e. absurd (refused_not r (sym e)) }

gives_refused : (r : Refusal) → given_here r.rule ≡ true → Gives (Err r)
gives_refused r g = record { rule = λ q e. (let s : r ≡ q = cc in rw (← s) g) }

gives_pick : (t : Bool) (v w : Verdict) → Gives v → Gives w → Gives (pick t v w)
gives_pick true v w h k = h
gives_pick false v w h k = k

gives_then : (v w : Verdict) → Gives v → Gives w → Gives (and_then v w)
unfolding and_then
gives_then (Ok _) w h k = k
gives_then (Err r) w h k = h

gives_next : (v : Verdict) (vs : List Verdict) → Gives v → Gives (first_of vs) → Gives (first_of (v ∷ vs))
gives_next v vs h k = rw (first_next v vs) (gives_then v (first_of vs) h k)

gives_none : Gives (first_of [])
unfolding first_of
gives_none = gives_accepted

gives_first : (rs : Rows Verdict) → AllGive rs → Gives (first rs accepted)
gives_first [] h = gives_accepted
gives_first (r ∷ rs) h = gives_pick r.0 r.1 (first rs accepted) h.0 (gives_first rs h.1)

frame_gives : (high : Bool) (t l : List ℕ) → FrameGives (frame_of Lenient high t l)
unfolding frame_of
frame_gives high t l = go (eqb (length l) 1) (eqb (offset high l) 0) _ _ _
  where
    go : (c z a b d : Bool)
        → FrameGives (pick c (Err StringOffset) (ruled (pick z [] ((a, StringOffset) ∷ (b, StringOffset) ∷ (d, StringEnd) ∷ [])) Err
        (pick z (Ok None) (Ok (Some (offset high l))))))
    go true z a b d = refl
    go false true a b d = tt
    go false false true b d = refl
    go false false false true d = refl
    go false false false false true = refl
    go false false false false false = tt

text_gives : (u prev b : List ℕ) → TextGives (judged_of Lenient u prev b)
unfolding judged_of
text_gives u prev b = go (eqb (key_len b) 0) (not (all (letter Lenient) (key_of b))) (not (value_ok u (named Lenient (key_of b)) (value_of b)))
  where
    go : (z w x : Bool) → TextGives (ruled ((z, Character) ∷ (w, Character) ∷ (x, Character) ∷ (not true, KeywordOrder) ∷ []) Err (Ok (key_len b)))
    go true w x = refl
    go false true x = refl
    go false false true = refl
    go false false false = tt

-- ---- the strings of an area

strings_give : (m : ℕ) (high : Bool) (t u : List ℕ) (p : Part) (prev l : List ℕ) (at : ℕ) → Gives (strings_from Lenient m high t u p prev l at)
unfolding strings_from step_of on_frame
strings_give zero high t u p prev l at = gives_accepted
strings_give (suc m) high t u p prev l at =
    go (frame_of Lenient high t l) (frame_gives high t l) (λ o n. strings_give m high t u p (take n (drop 2 l)) (drop o l) (at + o))
  where
    next : ℕ → ℕ → Verdict
    next o n = strings_from Lenient m high t u p (take n (drop 2 l)) (drop o l) (at + o)

    judge : (o : ℕ) (j : Result ℕ Rule) → TextGives j → ((o n : ℕ) → Gives (next o n)) → Gives (on_step (on_judged j p at o) next)
    judge o (Ok n) g again = again o n
    judge o (Err r) g again = gives_refused (refusal r p at) g

    go : (w : Result (Option ℕ) Rule) → FrameGives w → ((o n : ℕ) → Gives (next o n)) → Gives (on_step (on_frame Lenient w t u prev l p at) next)
    go (Ok None) g again = gives_accepted
    go (Err r) g again = gives_refused (refusal r p at) g
    go (Ok (Some o)) g again = judge o (judged_of Lenient u prev (body t o l)) (text_gives u prev (body t o l)) again

area_gives : (high : Bool) (t u f : List ℕ) (p : Part) (a e : ℕ) → Gives (area_verdict Lenient high t u f p a e)
unfolding area_verdict strings_of
area_gives high t u f p a e =
    gives_pick (eqb (length (part a e f)) 0) _ _ gives_accepted (strings_give (length (part a e f)) high t u p [] (part a e f) a)

-- ---- a whole file

pointer_gives : (end k prev p : ℕ) → Gives (pointer_row end k prev p)
unfolding pointer_row
pointer_gives end k prev p = gives_pick (bad_pointer end prev p) _ _ (gives_refused _ refl) gives_accepted

block_gives : (high : Bool) (b : List ℕ) (end k p : ℕ) → Gives (block_of high b end k p)
unfolding block_of
block_gives high b end k p =
    gives_first (block_rows high b end k p)
    (gives_refused _ refl, (gives_refused _ refl, (gives_refused _ refl, (gives_refused _ refl, (gives_refused _ refl, tt)))))

head_gives : (purpose : Purpose) (b : List ℕ) (end : ℕ) → Gives (head_of purpose b end)
unfolding head_of
head_gives purpose b end =
    gives_first (head_rows purpose b end) (
      gives_refused _ refl,
      (gives_refused _ refl, (gives_refused _ refl, (gives_refused _ refl, (gives_refused _ refl, (gives_refused _ refl, (gives_refused _ refl, tt)))))),
    )

traces_give : (high : Bool) (t u f : List ℕ) (left k prev : ℕ) → Gives (traces_from Lenient high t u f left k prev)
unfolding traces_from trace_of
traces_give high t u f zero k prev = gives_accepted
traces_give high t u f (suc left) k prev =
    let p : ℕ = pointer_of high f k in
    gives_then _ _
    (gives_next _ _ (pointer_gives (length f) k prev p)
    (gives_next _ _ (block_gives high (head_at f p) (length f) k p)
    (gives_next _ _ (area_gives high t u f (Trace k) (p + 32) (p + block_size_of high f p)) (gives_next _ _ gives_accepted gives_none))))
    (traces_give high t u f left (k + 1) (end_at high f p))

rest_gives : (high : Bool) (t u f : List ℕ) (m n : ℕ) → Gives (rest_of Lenient high t u f m n)
unfolding rest_of
rest_gives high t u f m n =
    gives_pick (eqb n 0) _ _ (area_gives high t u f File (32 + m) (length f))
    (gives_next _ _ (pointer_gives (length f) 0 (32 + m) (pointer_of high f 0))
    (gives_next _ _ (area_gives high t u f File (32 + m) (pointer_of high f 0))
    (gives_next _ _ (traces_give high t u f n 0 (32 + m)) gives_none)))

image_gives : (purpose : Purpose) (f : List ℕ) → Gives (image_of Lenient purpose f)
unfolding image_of
image_gives purpose f = gives_then _ _ (head_gives purpose (take 32 f) (length f))
    (rest_gives (high_first f) (string_end f) (line_end f) f (room_of f) (count_of f))

pub check_gives : (purpose : Purpose) (xs : List ℕ) (n : ℕ) → Gives (check_of Lenient purpose xs n)
unfolding check_of
check_gives purpose xs n = gives_pick (bad_length (length xs) n) _ _ (gives_refused _ refl) (image_gives purpose (take n xs))

-- neither 17 nor 34
unlike : (r q : Rule) → given_here r ≡ true → given_here q ≡ false → r ≡ q → ⊥
unlike r q g h e = let s : false ≡ true = sym h ∙ ap given_here (sym e) ∙ g in let y : ◌≡◌ {A = ℕ} 0 1 = cc in omega arith

pub never_order : (purpose : Purpose) (xs : List ℕ) (n : ℕ) (r : Refusal) → check_of Lenient purpose xs n ≡ Err r
    → (r.rule ≡ KeywordOrder → ⊥) × (r.rule ≡ ChannelNumber → ⊥)
never_order purpose xs n r e =
    let g = (check_gives purpose xs n).rule r e in
    (unlike r.rule KeywordOrder g refl, unlike r.rule ChannelNumber g refl)
