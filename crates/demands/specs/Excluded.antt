-- Document 01, "What a caller may rely on": "Try these against the promises: a reader that refuses all files, or
-- answers the same for all (demand 2 excludes both); a start or an addition that refuses every list (1); an addition
-- that writes nothing yet answers a length (2 and 3); one that writes the first trace and later only raises N (3);
-- invented N, S or length (2)." Each is excluded here, by a corollary of that name.
-- Assumes nothing.
use Rattle.std.specs.Prelude.{◌≡◌, refl, List, ℕ, ◌+◌, ◌*◌, ◌<◌, length, get_or, take, eqb, Result, Ok, Err}
use Rattle.std.proofs.Common.{sym, ap, ◌∙◌, arith}
use Rattle.word.specs.Bytes.{Bytes}
use Rattle.word.specs.Round.{round4}
use Rattle.word.specs.Word.{word_at}
use Rattle.word.specs.WordLaws.{word_take}
use Rattle.head_words.specs.HeadWords.{file_block_of, high_first, room_of, count_of}
use Rattle.terminators.specs.Terminators.{string_end, line_end}
use Rattle.block.specs.Block.{pointer_of, block_size_of, data_size_of, sample_count_of, format_code_of, trace_block_of}
use Rattle.layout.specs.Layout.{nul, line_feed, start_size, Trace, trace_size}
use Rattle.layout.specs.LayoutLaws.{Stands}
use Rattle.start.specs.Start.{start_answer, start_left}
use Rattle.append.specs.Grown.{new_length}
use Rattle.writer.specs.Answers.{add_answer, add_left}
use Rattle.writer.specs.Shown.{added, add_left_lem}
use Rattle.growth.specs.Frame.{lies, grown_count}
use Rattle.growth.specs.Grows.{grown_grows}
use Rattle.growth.specs.Kept.{count_grown}
use Rattle.afresh.specs.FileOf.{sizes, file_size}
use Rattle.afresh.specs.Calls.{after, accepted_of}
use Rattle.afresh.proofs.Calls.{start_grows, calls_afresh}
use Rattle.afresh.specs.Stands.{empty_trace}
use Rattle.afresh.proofs.Stands.{file_traces}
use Rattle.afresh.specs.FileLaws.{file_fronted}
use Rattle.afresh.proofs.Afresh.{accepted_writable}
use Rattle.refusal.specs.declared.Refusal.{Refusal}
use Rattle.head_words.specs.declared.FileBlock.{FileBlock}

-- ---- "a reader that refuses all files, or answers the same for all"

-- the file that a list leaves in a buffer
abbrev pub buffer_of : List ℕ → ℕ → ℕ → List ℕ → List Trace → List ℕ
buffer_of xs order slots sheet ts = (after (start_left xs order slots sheet) (start_size slots sheet) ts).0

abbrev pub length_of : List ℕ → ℕ → ℕ → List ℕ → List Trace → ℕ
length_of xs order slots sheet ts = (after (start_left xs order slots sheet) (start_size slots sheet) ts).1

abbrev pub traces_in : Result FileBlock Refusal → ℕ
traces_in (Ok f) = f.n
traces_in (Err r) = 0

-- ---- "an addition that writes nothing yet answers a length": where a length is answered N is one more, and the buffer
-- is not what it was

pub an_addition_writes : (xs : List ℕ) (n : ℕ) (x : Trace) (end : ℕ) → Bytes xs → add_answer xs n x ≡ Ok end
    → (count_of (take end (add_left xs n x)) ≡ count_of (take n xs) + 1) × (add_left xs n x ≡ xs → ⊥)
unfolding count_of
an_addition_writes xs n x end by to =
    let h = added xs n x end to in
    let f : List ℕ = take n xs in
    let same : word_at 2 (high_first f) f 6 ≡ word_at 2 (high_first f) xs 6 = word_take 2 (high_first f) n xs 6 (omega (arith, (lies h).some)) in (
      rw (add_left_lem xs n x end to) (count_grown (grown_grows by h)),
      λ e.
          (let g : word_at 2 (high_first f) xs 6 ≡ word_at 2 (high_first f) f 6 + 1 =
          ap (λ (l : List ℕ). word_at 2 (high_first f) l 6) (sym e ∙ add_left_lem xs n x end to) ∙ grown_count h by in
          omega arith),
    )

-- ---- "one that writes the first trace and later only raises N": after any calls each accepted trace stands in the
-- image, with all its bytes, at its own place

pub every_trace_is_written : (xs : List ℕ) (order slots : ℕ) (sheet : List ℕ) (e : ℕ) → start_answer xs order slots sheet ≡ Ok e → (calls : List Trace) (k : ℕ)
    → k < length (accepted_of (start_left xs order slots sheet) e calls)
    → Stands (eqb order 1) nul line_feed
    (take (after (start_left xs order slots sheet) e calls).1 (after (start_left xs order slots sheet) e calls).0)
    (file_size slots sheet (take k (accepted_of (start_left xs order slots sheet) e calls)))
    (get_or (accepted_of (start_left xs order slots sheet) e calls) k empty_trace)
every_trace_is_written xs order slots sheet e to calls k low =
    let w = accepted_writable xs order slots sheet e to calls in
    let ts : List Trace = accepted_of (start_left xs order slots sheet) e calls in
    rw (calls_afresh xs order slots sheet e to calls).0 (file_traces (eqb order 1) slots sheet ts w.slotted w.good.0 w.most k low).here

-- ---- "invented N, S or length"

-- what the reader answers stands in the file: N in bytes 6 and 7, S in the four bytes from p+8
pub numbers_are_the_files : (f : List ℕ) (k : ℕ)
    → ((file_block_of f).n ≡ word_at 2 (high_first f) f 6)
    × ((file_block_of f).m ≡ word_at 2 (high_first f) f 4)
    × ((trace_block_of (high_first f) f k).p ≡ word_at 4 (high_first f) f (32 + 4 * k))
    × ((trace_block_of (high_first f) f k).b ≡ word_at 2 (high_first f) f ((trace_block_of (high_first f) f k).p + 2))
    × ((trace_block_of (high_first f) f k).d ≡ word_at 4 (high_first f) f ((trace_block_of (high_first f) f k).p + 4))
    × ((trace_block_of (high_first f) f k).s ≡ word_at 4 (high_first f) f ((trace_block_of (high_first f) f k).p + 8))
    × ((trace_block_of (high_first f) f k).code ≡ get_or f ((trace_block_of (high_first f) f k).p + 12) 0)
unfolding file_block_of count_of room_of trace_block_of pointer_of block_size_of data_size_of sample_count_of format_code_of
numbers_are_the_files f k = (refl, refl, refl, refl, refl, refl, refl)

-- what the writers put there is the list's: N the number of accepted traces, and the length where the last one's D
-- bytes end
pub count_is_the_lists : (xs : List ℕ) (order slots : ℕ) (sheet : List ℕ) (e : ℕ) → start_answer xs order slots sheet ≡ Ok e → (calls : List Trace)
    → (count_of (take (after (start_left xs order slots sheet) e calls).1 (after (start_left xs order slots sheet) e calls).0)
    ≡ length (accepted_of (start_left xs order slots sheet) e calls))
    × ((after (start_left xs order slots sheet) e calls).1 ≡ start_size slots sheet + sizes (accepted_of (start_left xs order slots sheet) e calls))
unfolding file_size
count_is_the_lists xs order slots sheet e to calls =
    let h = (start_grows xs order slots sheet e to calls).holds in
    (ap count_of h.image ∙ (file_fronted (eqb order 1) slots sheet (accepted_of (start_left xs order slots sheet) e calls) h.few h.slotted).count, h.size)

pub length_is_the_layouts : (xs : List ℕ) (n : ℕ) (x : Trace) (end : ℕ) → add_answer xs n x ≡ Ok end
    → end ≡ round4 n + trace_size (string_end (take n xs)) (line_end (take n xs)) x
unfolding new_length
length_is_the_layouts xs n x end to = sym (added xs n x end to).new
