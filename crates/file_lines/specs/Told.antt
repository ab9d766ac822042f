-- The blocks of an accepted file, as they are read for the listing.
-- Assumes nothing.
use Rattle.std.specs.Prelude.{◌≡◌, refl, Bool, true, List, ◌++◌, ℕ, ◌+◌, ◌*◌, ◌≤◌, ◌<◌, length}
use Rattle.std.proofs.Common.{arith}
use Rattle.head_limits.specs.declared.Purpose.TheVariants.{Read}
use Rattle.text.specs.declared.Manner.TheVariants.{Strict}
use Rattle.word.specs.Part.{part}
use Rattle.refusal.specs.declared.Part.TheVariants.{File, Trace}
use Rattle.strings.specs.Strings.{places_of}
use Rattle.strings.specs.Spelled.{strs_in}
use Rattle.head_words.specs.declared.FileBlock.{FileBlock}
use Rattle.block.specs.declared.TraceBlock.{TraceBlock}
use Rattle.head_words.specs.HeadWords.{high_first, count_of, file_block_of}
use Rattle.terminators.specs.Terminators.{string_end, line_end, good_terminator}
use Rattle.terminators.specs.TerminatorLaws.{good_most, length_terminator}
use Rattle.block.specs.Block.{pointer_of, trace_block_of}
use Rattle.image.specs.Image.{image_of}
use Rattle.image.specs.Keeps.{end_before}
use Rattle.image.specs.Accepted.{image_headed}
use Rattle.reader.specs.Reach.{some_trace, pointer_slot, trace_pointed, trace_blocked}
use Rattle.lines.specs.Lines.{head_line, trace_line}
use Rattle.string_lines.specs.StringLines.{strings_text}
use Rattle.file_lines.specs.FileLines.{strings_in, trace_text, traces_text, file_text}
use Rattle.word.specs.Wrote.{Room, Wrote, room_front, room_back, joined, first_room, second_room, both_wrote}
use Rattle.refusal.specs.Verdicts.{accepted}

module _ (f : List ℕ) (ok : image_of Strict Read f ≡ accepted) (size : 32 ≤ length f) where
  pub ends_good : (good_terminator f 8 ≡ true) × (good_terminator f 11 ≡ true)
  ends_good = let h = image_headed Strict Read f ok in (h.strings, h.lines)

  pub line_some : (u : List ℕ) → u ≡ line_end f → 0 < length u
  line_some u e =
      let g = ends_good.1 in
      let m = good_most f 11 g in
      let l = length_terminator f 11 (omega arith) g in
      rw e (omega (arith, l, m.0))

  -- ---- a trace
  module _ (k : ℕ) (low : k < count_of f) (high : Bool) (eh : high ≡ high_first f) where
    pub trace_slot : (36 + 4 * k ≤ length f) × (pointer_of high f k + 32 ≤ length f)
    trace_slot = rw eh (pointer_slot Strict f ok k low, (trace_pointed Strict f ok k low).fits)

    module _ (b : TraceBlock) (eb : b ≡ trace_block_of high f k) where
      pub trace_area : (b.p + 32 ≤ b.p + b.b) × (b.p + b.b ≤ length f)
      unfolding trace_block_of
      trace_area = let q = trace_blocked Strict f ok k low in rw (eb, eh) (omega (arith, q.least), q.fits)

      pub trace_text_lem : (t u : List ℕ) → t ≡ string_end f → u ≡ line_end f
          → trace_text f k
          ≡ trace_line k b.code b.s
          ++ strings_text (Trace k) u (strs_in f (places_of Strict high t (part (b.p + 32) (b.p + b.b) f) (b.p + 32)))
      unfolding trace_text trace_block_of strings_in
      trace_text_lem t u et eu = rw (et, eu, eb, eh)

      module _ (out : List ℕ) (at : ℕ) (room : Room out at (trace_text f k)) where
        pub trace_first : Room out at (trace_line k b.code b.s)
        trace_first =
            first_room out at (trace_text f k) (trace_line k b.code b.s)
            (strings_text (Trace k) (line_end f) (strs_in f (places_of Strict high (string_end f) (part (b.p + 32) (b.p + b.b) f) (b.p + 32))))
            (trace_text_lem (string_end f) (line_end f) refl refl) room

        pub trace_second : (t u : List ℕ) → t ≡ string_end f → u ≡ line_end f → (r : ℕ) (ys : List ℕ) → Wrote out at (trace_line k b.code b.s) r ys
            → Room ys r (strings_text (Trace k) u (strs_in f (places_of Strict high t (part (b.p + 32) (b.p + b.b) f) (b.p + 32))))
        trace_second t u et eu r ys w =
            second_room out at (trace_text f k) (trace_line k b.code b.s)
            (strings_text (Trace k) u (strs_in f (places_of Strict high t (part (b.p + 32) (b.p + b.b) f) (b.p + 32))))
            (trace_text_lem t u et eu) r ys room w

        pub trace_both : (t u : List ℕ) → t ≡ string_end f → u ≡ line_end f → (r : ℕ) (ys : List ℕ) (s : ℕ) (zs : List ℕ)
            → Wrote out at (trace_line k b.code b.s) r ys
            → Wrote ys r (strings_text (Trace k) u (strs_in f (places_of Strict high t (part (b.p + 32) (b.p + b.b) f) (b.p + 32)))) s zs
            → Wrote out at (trace_text f k) s zs
        trace_both t u et eu r ys s zs w v = both_wrote out at (trace_text f k) _ _ (trace_text_lem t u et eu) r ys s zs w v

  -- ---- the file
  pub first_slot : 36 + 4 * 0 ≤ length f
  first_slot = pointer_slot Strict f ok 0 (some_trace Strict f ok)

  module _ (b : FileBlock) (eb : b ≡ file_block_of f) where
    pub count_told : b.n ≡ count_of f
    unfolding file_block_of
    count_told = rw eb

    module _ (first : ℕ) (ef : first ≡ pointer_of b.high f 0) where
      pub file_area : (32 + b.m ≤ first) × (first ≤ length f)
      unfolding file_block_of end_before
      file_area = let q = trace_pointed Strict f ok 0 (some_trace Strict f ok) in rw (ef, eb) (q.behind, omega (arith, q.fits))

      pub file_text_lem : (t u : List ℕ) → t ≡ string_end f → u ≡ line_end f
          → file_text f
          ≡ head_line b.high b.n b.m
          ++ (strings_text File u (strs_in f (places_of Strict b.high t (part (32 + b.m) first f) (32 + b.m))) ++ traces_text f b.n 0)
      unfolding file_text file_block_of strings_in
      file_text_lem t u et eu = rw (et, eu, ef, eb)

      abbrev head : List ℕ
      head = head_line b.high b.n b.m

      abbrev strings : List ℕ → List ℕ → List ℕ
      strings t u = strings_text File u (strs_in f (places_of Strict b.high t (part (32 + b.m) first f) (32 + b.m)))

      module _ (out : List ℕ) (room : Room out 0 (file_text f)) where
        pub file_first : Room out 0 (head_line b.high b.n b.m)
        file_first = first_room out 0 (file_text f) head (strings (string_end f) (line_end f) ++ traces_text f b.n 0)
            (file_text_lem (string_end f) (line_end f) refl refl) room

        module _ (t u : List ℕ) (et : t ≡ string_end f) (eu : u ≡ line_end f) (r : ℕ) (ys : List ℕ) (w : Wrote out 0 head r ys) where
          rest : Room ys r (strings t u ++ traces_text f b.n 0)
          rest = second_room out 0 (file_text f) head (strings t u ++ traces_text f b.n 0) (file_text_lem t u et eu) r ys room w

          pub file_second : Room ys r (strings_text File u (strs_in f (places_of Strict b.high t (part (32 + b.m) first f) (32 + b.m))))
          file_second = room_front ys r (strings t u) (traces_text f b.n 0) rest

          module _ (s : ℕ) (zs : List ℕ) (v : Wrote ys r (strings_text File u
              (strs_in f (places_of Strict b.high t (part (32 + b.m) first f) (32 + b.m)))) s zs) where
            pub file_third : Room zs s (traces_text f b.n 0)
            file_third = room_back ys r (strings t u) (traces_text f b.n 0) s zs rest v

            pub file_all : (q : ℕ) (new : List ℕ) → Wrote zs s (traces_text f b.n 0) q new → Wrote out 0 (file_text f) q new
            file_all q new x = both_wrote out 0 (file_text f) head (strings t u ++ traces_text f b.n 0) (file_text_lem t u et eu) r ys q new w
                (joined ys r (strings t u) (traces_text f b.n 0) s zs q new v x)
