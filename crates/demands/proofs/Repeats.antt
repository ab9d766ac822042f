-- Theorems on what specs/Repeats defines. They stand here, as a wrong definition there is to be refused and not to be unread.
-- Assumes nothing.
use Rattle.std.specs.Prelude.{◌≡◌, true, false, ℕ, ◌≤◌, ◌<◌, ℤ, pos, length, take, Ok, refl, List, [], ◌∷◌}
use Rattle.std.proofs.Common.{sym, ap, subst, ◌∙◌, inl, inr, ⊎_elim, arith}
use Rattle.word.specs.Tests.{never}
use Rattle.text.specs.declared.Manner.TheVariants.{Strict}
use Rattle.chars.specs.Chars.{key_char, note}
use Rattle.chars.specs.Runs.{run, all, same}
use Rattle.key_order.specs.Order.{receiver_geometry, rises}
use Rattle.key_order.specs.Order.{rises_first}
use Rattle.note.specs.Note.{Each}
use Rattle.strings.specs.Spelled.{Str, nth_str}
use Rattle.sample.specs.Needed.{needed, room}
use Rattle.sheet_line.specs.SheetLine.{line_len, line_key_len}
use Rattle.sheet.specs.Lines.{Line, sheet_lines_from, sheet_lines}
use Rattle.sheet.specs.Area.{area_most, joined, sheet_strings, text_size, area_size, area_of, measured_of}
use Rattle.sheet.specs.Sizes.{length_area}
use Rattle.sheet.specs.Paper.{sheet_of, GoodLines, lines_read}
use Rattle.channel.specs.Channel.{channel_number}
use Rattle.channel_line.specs.ChannelLine.{has_line}
use Rattle.area.specs.Meaning.{strs_of}
use Rattle.reader.specs.Questions.{nth_answer, find_answer, value_answer}
use Rattle.reader.specs.Listed.{Lists}
use Rattle.layout.specs.Layout.{nul, line_feed, start_size, count, trace_size}
use Rattle.start.specs.Start.{start_answer, start_left}
use Rattle.growth.specs.Answered.{AnswersBy}
use Rattle.afresh.specs.FileOf.{sizes, file_of, file_size, has_channel}
use Rattle.afresh.specs.Calls.{answers_of}
use Rattle.afresh.specs.Afresh.{Writable, lengths}
use Rattle.afresh.proofs.Afresh.{start_accepted, none_refused, written_afresh}
use Rattle.afresh.specs.Worked.{units, worked_sizes, worked_good}
use Rattle.demands.specs.ListReads.{list_reads}
use Rattle.demands.specs.Reading.{lines_are_let_through}
use Rattle.demands.specs.Excluded.{buffer_of}
use Rattle.demands.specs.Repeats.{Geometry, GoodValue, each_line, each_once_but_the_two, follows_exactly, group, phones, positions, the_first_is_answered}

-- so every other keyword that stands in a part is answered by its one string
pub any_other_by_its_own : (xs : List ℕ) (n : ℕ) (z : ℤ) (ss : List Str) → Lists Strict (take n xs) z ss → AnswersBy Strict xs n z ss → (i : ℕ) → i < length ss
    → (Geometry (nth_str ss i).key → ⊥)
    → (find_answer Strict xs n z (nth_str ss i).key ≡ nth_answer Strict xs n z i) × (value_answer Strict xs n z (nth_str ss i).key ≡ (nth_str ss i).value)
any_other_by_its_own xs n z ss l a i low other =
    let once : (j : ℕ) → j < i → (nth_str ss j).key ≡ (nth_str ss i).key → ⊥ =
    λ j b e. other (subst Geometry e (each_once_but_the_two (take n xs) z ss l j i b low e).0) in
    let r = the_first_is_answered xs n z ss a (nth_str ss i).key i low refl once in
    (r.0, r.2)

one_of_two : (key : List ℕ) → Geometry key → (0 < length key) × (all key_char key ≡ true) × (same key note ≡ false)
unfolding all same
one_of_two key = ⊎_elim (λ e. rw e (omega arith, refl, refl)) (λ e. rw e (omega arith, refl, refl))

module _ (key : List ℕ) (two : Geometry key) where
  good_lines : (prev : List ℕ) (vs : List (List ℕ)) → rises prev key ≡ true → Each GoodValue vs → GoodLines prev (each_line key vs)
  good_lines prev [] r g = tt
  good_lines prev (v ∷ vs) r g =
      let o = one_of_two key two in (
        record { some = o.0; keys = o.1; plains = g.0.0; opens = λ c. g.0.1; follows = λ c. r },
        good_lines key vs ((follows_exactly key key).1 (inr (refl, two))) g.1,
      )

  no_note : (u : List ℕ) (vs : List (List ℕ)) → joined u (each_line key vs) ≡ strs_of (each_line key vs)
  unfolding joined
  no_note u [] = refl
  no_note u (v ∷ vs) = rw ((one_of_two key two).2, no_note u vs)

  -- such a sheet has a string for each line, in the lines' order, and is let through where its area is not too large.
  -- Rules out a writer that refuses the second line by 26, joins the lines or keeps one of them.
  pub lines_of_the_two : (t u : List ℕ) (vs : List (List ℕ)) → Each GoodValue vs
      → (sheet_strings u (sheet_of (each_line key vs)) ≡ strs_of (each_line key vs))
      × (length (area_of false t u (sheet_of (each_line key vs))) ≤ area_most
      → measured_of t u (sheet_of (each_line key vs)) ≡ Ok (length (area_of false t u (sheet_of (each_line key vs)))))
  unfolding sheet_strings
  lines_of_the_two t u vs g =
      let ls = good_lines [] vs (rises_first key (one_of_two key two).0) g in
      (ap (joined u) (lines_read [] (each_line key vs) ls) ∙ no_note u vs, λ small. (lines_are_let_through t u (each_line key vs) ls small).0)

sized : (length (area_of false nul line_feed (sheet_of phones)) ≡ 140) × (trace_size nul line_feed group ≡ 180) × (file_size 1 units (group ∷ []) ≡ 236)
unfolding sheet_of start_size area_size sheet_strings sheet_lines sheet_lines_from line_len line_key_len run joined
    same text_size room needed count file_size sizes
sized = (length_area false nul line_feed (sheet_of phones), refl, refl)

each_good : Each GoodValue positions
unfolding all
each_good = ((refl, refl), ((refl, refl), ((refl, refl), ((refl, refl), ((refl, refl), ((refl, refl), tt))))))

none_numbered : has_channel group ≡ false
unfolding has_line same
none_numbered =
    let ls = good_lines receiver_geometry (inl refl) [] positions (rises_first receiver_geometry (omega arith)) each_good in
    ap (λ (ms : List Line). has_line ms channel_number) (lines_read [] phones ls)

can_be_written : (xs : List ℕ) → 236 ≤ length xs → Writable xs 0 1 units (group ∷ [])
can_be_written xs h =
    let s = worked_good.1.0.0 in
    let m = (lines_of_the_two receiver_geometry (inl refl) nul line_feed positions each_good).1 (omega (arith, sized.0)) in
    record {
      either = omega arith;
      some = omega arith;
      few = omega arith;
      measures = worked_good.0;
      good = (
        (record { measures = (_, m); channel = λ e. absurd (never (sym none_numbered ∙ e)); kind = s.kind; held = s.held }, tt),
        inr (none_numbered, tt),
      );
      slotted = omega arith;
      fits = omega (arith, sized.2);
      most = omega (arith, sized.2);
    }

pub six_receivers : (xs : List ℕ) → 236 ≤ length xs
    → (start_answer xs 0 1 units ≡ Ok 56)
    × (answers_of (start_left xs 0 1 units) 56 (group ∷ []) ≡ Ok 236 ∷ [])
    × (take 236 (buffer_of xs 0 1 units (group ∷ [])) ≡ file_of false 1 units (group ∷ []))
    × AnswersBy Strict (buffer_of xs 0 1 units (group ∷ [])) 236 (pos 0) (strs_of phones)
unfolding lengths
six_receivers xs h =
    let w = can_be_written xs h in
    let is = (written_afresh xs 0 1 units (group ∷ []) w).holds in
    let n = is.size ∙ sized.2 in
    let r = (list_reads is w.some w.measures (omega (arith, n)) 0 (omega arith)).strings in (
      rw worked_sizes.0 at (start_accepted xs 0 1 units (group ∷ []) w),
      rw (worked_sizes.0, sized.1) at (none_refused xs 0 1 units (group ∷ []) w),
      rw n at is.image,
      rw (n, (lines_of_the_two receiver_geometry (inl refl) nul _ positions each_good).0) at r,
    )
