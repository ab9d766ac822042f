-- Demand 1, the writers: "Starting: 31 .., 25, 26, 27, 30. Adding: 1 to 17, then 24 .., 25 bad sheet line, 26 sheet
-- order (place: the line's start; line by line, 25 first), 27 .., 28 .., 29 .. (first index), 30 .." (document 01), with
-- 35 "after 27" (document 02 §7), each as one list of rows, and the answer is the first of it that is met, or else the
-- length that the layout has.
-- Assumes nothing.
use Rattle.std.specs.Prelude.{◌≡◌, refl, Bool, true, false, not, ◌||◌, List, [], ◌∷◌, ◌++◌, ℕ, zero, suc, ◌+◌, length, take, drop, ltb, leb, eqb, Result, Ok, Err}
use Rattle.std.proofs.Common.{sym, ap, ◌∙◌}
use Rattle.head_limits.specs.declared.Purpose.TheVariants.{Grow}
use Rattle.refusal.specs.Verdicts.{asked, and_then, Verdict}
use Rattle.refusal.specs.declared.Rule.TheVariants.{NoSlot, SheetLine, AreaSize, EntryCode, SampleRange, NoRoom, StartValues, SheetChannel}
use Rattle.refusal.specs.declared.Part.TheVariants.{File}
use Rattle.refusal.specs.Table.{refusal}
use Rattle.refusal.specs.Rows.{pick, ruled_map}
use Rattle.text.specs.declared.Manner.TheVariants.{Strict}
use Rattle.fit.specs.Unfit.{unfit_integer, unfit_pattern}
use Rattle.sheet_line.specs.SheetLine.{line_len, line_of, line_key_len, line_rows, line_judged, on_line_judged, line_step}
use Rattle.sheet.specs.Lines.{on_line_step, check_from, lines_verdict}
use Rattle.sheet.specs.Area.{area_most, area_size, measured_of}
use Rattle.head_words.specs.HeadWords.{room_of, count_of}
use Rattle.head.specs.Head.{maximum}
use Rattle.terminators.specs.Terminators.{string_end, line_end}
use Rattle.layout.specs.Layout.{nul, line_feed, start_size, Trace, Samples, Samples.integers, Samples.patterns, fitting}
use Rattle.start.specs.Start.{on_measured, bad_start, start_into, start_answer}
use Rattle.append.specs.Grown.{length_for, new_length}
use Rattle.opening.specs.Opening.{no_slot, wrong_channel, with_row, taken_of, area_answer}
use Rattle.writer.specs.Answers.{add_into}
use Rattle.refusal.specs.FirstRow.{row, first_of, first_nothing, first_more, rows_at, rule_first, asked_more, asked_row, asked_none}
use Rattle.demands_rows.specs.FileRows.{pick_first, check_rows, check_answers_first}
use Rattle.refusal.specs.declared.Refusal.{Refusal}
use Rattle.refusal.specs.declared.Rule.{Rule}

-- ---- the lines of a sheet, from one at the place `at` on: 25 "An empty or unfinished line is bad", the line's own 25
-- and 26 (`line_rows` of `sheet`), and then the next line's
unfoldable pub lines_rows : ℕ → List ℕ → List ℕ → ℕ → List Verdict
lines_rows zero prev s at = []
lines_rows (suc m) prev s at =
    let l = line_of s in
    pick (eqb (length s) 0) []
    (row (leb (length s) (line_len s)) SheetLine File at
    ∷ (rows_at File at (line_rows prev l) ++ lines_rows m (take (line_key_len l) s) (drop (line_len s + 1) s) (at + line_len s + 1)))

-- all of them, then 27 "area too large"
abbrev pub sheet_rows : List ℕ → List ℕ → List ℕ → List Verdict
sheet_rows t u s = lines_rows (length s) [] s 0 ++ (row (ltb area_most (area_size t u s)) AreaSize File 0 ∷ [])

-- a line: unfinished, its own rows, and then what comes behind
line_first : (w : Bool) (prev l : List ℕ) (at k : ℕ) (next : ℕ → ℕ → Verdict) (more : List Verdict) → next k (line_key_len l) ≡ first_of more
    → on_line_step (pick w (Err (refusal SheetLine File at)) (on_line_judged (line_judged prev l) at k)) next
    ≡ first_of (row w SheetLine File at ∷ (rows_at File at (line_rows prev l) ++ more))
unfolding line_judged first_of
line_first true prev l at k next more h = refl
line_first false prev l at k next more h =
    let rs = line_rows prev l in
    ruled_map (λ (j : Result ℕ Rule). on_line_step (on_line_judged j at k) next) rs Err (Ok (line_key_len l))
    ∙ rule_first rs File at (next k (line_key_len l)) ∙ ap (and_then (first_of (rows_at File at rs))) h ∙ sym (first_more (rows_at File at rs) more)

lines_first : (m : ℕ) (prev s : List ℕ) (at : ℕ) → check_from m prev s at ≡ first_of (lines_rows m prev s at)
unfolding check_from lines_rows line_step
lines_first zero prev s at = sym first_nothing
lines_first (suc m) prev s at =
    let l : List ℕ = line_of s in
    let next : ℕ → ℕ → Verdict = λ i w. check_from m (take w s) (drop (i + 1) s) (at + i + 1) in
    let more : List Verdict = lines_rows m (take (line_key_len l) s) (drop (line_len s + 1) s) (at + line_len s + 1) in
    pick_first (eqb (length s) 0) _ _
    (line_first (leb (length s) (line_len s)) prev l at (line_len s) next more
    (lines_first m (take (line_key_len l) s) (drop (line_len s + 1) s) (at + line_len s + 1)))

-- a sheet's rows, and else what comes behind them
pub sheet_first : (t u s : List ℕ) (more : Result ℕ Refusal) → on_measured (measured_of t u s) more ≡ asked Err (first_of (sheet_rows t u s)) more
unfolding measured_of lines_verdict
sheet_first t u s more =
    rw (lines_first (length s) [] s 0)
    (go (first_of (lines_rows (length s) [] s 0)) (ltb area_most (area_size t u s))
    ∙ sym (asked_more Err (lines_rows (length s) [] s 0) (row (ltb area_most (area_size t u s)) AreaSize File 0 ∷ []) more))
  where
    go : (v : Verdict) (w : Bool)
        → on_measured (asked Err v (pick w (Err (refusal AreaSize File 0)) (Ok (area_size t u s)))) more
        ≡ asked Err v (asked Err (first_of (row w AreaSize File 0 ∷ [])) more)
    go (Err r) w = refl
    go (Ok _) true = sym (asked_row Err true AreaSize File 0 [] more)
    go (Ok _) false = sym (asked_row Err false AreaSize File 0 [] more ∙ asked_none Err more)

-- ---- a start

abbrev pub start_rows : List ℕ → ℕ → ℕ → List ℕ → List Verdict
start_rows xs order slots sheet =
    row (bad_start order slots) StartValues File 0
    ∷ (sheet_rows nul line_feed sheet ++ (row (ltb (length xs) (start_size slots sheet) || ltb maximum (start_size slots sheet)) NoRoom File 0 ∷ []))

-- the last row, and else the length
room_first : (w : Bool) (end : ℕ) → pick w (Err (refusal NoRoom File 0)) (Ok end) ≡ asked Err
    (first_of (row w NoRoom File 0 ∷ [])) (Ok end)
room_first w end =
    sym (asked_row Err w NoRoom File 0 [] (Ok end)
    ∙ ap (λ (v : Result ℕ Refusal). pick w (Err (refusal NoRoom File 0)) v) (asked_none Err (Ok end)))

-- Rules out a start that refuses a list it could take, or takes one that it must refuse, or answers another length.
pub start_answers_first : (xs : List ℕ) (order slots : ℕ) (sheet : List ℕ)
    → start_answer xs order slots sheet ≡ asked Err (first_of (start_rows xs order slots sheet)) (Ok (start_size slots sheet))
unfolding start_answer start_into
start_answers_first xs order slots sheet =
    let full : Bool = ltb (length xs) (start_size slots sheet) || ltb maximum (start_size slots sheet) in
    let end : Result ℕ Refusal = Ok (start_size slots sheet) in
    sym
    (asked_row Err (bad_start order slots) StartValues File 0 (sheet_rows nul line_feed sheet ++ (row full NoRoom File 0 ∷ [])) end
    ∙ ap (λ (v : Result ℕ Refusal). pick (bad_start order slots) (Err (refusal StartValues File 0)) v)
    (asked_more Err (sheet_rows nul line_feed sheet) (row full NoRoom File 0 ∷ []) end
    ∙ ap (asked Err (first_of (sheet_rows nul line_feed sheet))) (sym (room_first full (start_size slots sheet)))
    ∙ sym (sheet_first nul line_feed sheet (pick full (Err (refusal NoRoom File 0)) end))))

-- ---- an addition

-- 29, a row for each sample
unfoldable pub sample_rows : {A : Type 0} → (A → Bool) → ℕ → List A → List Verdict
sample_rows bad i [] = []
sample_rows bad i (z ∷ zs) = row (bad z) SampleRange File i ∷ sample_rows bad (i + 1) zs

unfoldable pub unfit_rows : ℕ → Samples → List Verdict
unfit_rows code (integers zs) = sample_rows (unfit_integer code) 0 zs
unfit_rows code (patterns zs) = sample_rows (unfit_pattern code) 0 zs

-- rows 1 to 17 and 34, 24, 25 to 27 and 35, those of the samples, and 30, into so many bytes of room
abbrev pub into_rows : ℕ → List ℕ → ℕ → List ℕ → ℕ → List Verdict → List Verdict
into_rows space xs n sheet end samples =
    let f = take n xs in
    check_rows Strict Grow xs n
    ++ (row (no_slot (room_of f) (count_of f)) NoSlot File 0
    ∷ (sheet_rows (string_end f) (line_end f) sheet
    ++ (row (wrong_channel f sheet) SheetChannel File 0 ∷ (samples ++ (row (ltb space end || ltb maximum end) NoRoom File 0 ∷ [])))))

-- 28, then 29
abbrev pub given_rows : ℕ → Samples → List Verdict
given_rows code s = row (not (fitting code s)) EntryCode File 0 ∷ unfit_rows code s

abbrev pub add_rows : List ℕ → ℕ → Trace → List Verdict
add_rows xs n x = into_rows (length xs) xs n x.sheet (new_length (take n xs) n x) (given_rows x.code x.samples)

-- the steps of the definition, one behind the other
steps : (c : Verdict) (s : Bool) (m w more : Result ℕ Refusal) → on_measured m w ≡ more
    → on_measured (asked Err c (pick s (Err (refusal NoSlot File 0)) m)) w
    ≡ asked Err c (pick s (Err (refusal NoSlot File 0)) more)
steps (Err r) s m w more h = refl
steps (Ok _) true m w more h = refl
steps (Ok _) false m w more h = h

-- 35 behind the sheet's own rows
channel_first : (w : Bool) (m more : Result ℕ Refusal)
    → on_measured (with_row w m) more ≡ on_measured m (pick w (Err (refusal SheetChannel File 0)) more)
channel_first true (Ok b) more = refl
channel_first false (Ok b) more = refl
channel_first w (Err r) more = refl

-- every row of an addition into so many bytes of room, whatever rows 28 and 29 are of
pub into_answers_first : (space : ℕ) (xs : List ℕ) (n : ℕ) (sheet : List ℕ) (code s : ℕ) (fit : Verdict) (rows : List Verdict) → fit ≡ first_of rows
    → add_into space xs n sheet code s fit
    ≡ asked Err (first_of (into_rows space xs n sheet (length_for (take n xs) n sheet code s) rows)) (Ok (length_for (take n xs) n sheet code s))
unfolding add_into area_answer taken_of
into_answers_first space xs n sheet code s fit rows e =
    let f : List ℕ = take n xs in
    let end : ℕ = length_for f n sheet code s in
    let full : Bool = ltb space end || ltb maximum end in
    let new : Result ℕ Refusal = Ok end in
    let last : List Verdict = row full NoRoom File 0 ∷ [] in
    let wrong : Bool = wrong_channel f sheet in
    let ss : List Verdict = sheet_rows (string_end f) (line_end f) sheet in
    let slot : Bool = no_slot (room_of f) (count_of f) in
    let within : Result ℕ Refusal = pick full (Err (refusal NoRoom File 0)) new in
    let ends : Result ℕ Refusal = asked Err (first_of rows) within in
    let fits : asked Err (first_of (rows ++ last)) new ≡ ends =
    asked_more Err rows last new ∙ ap (asked Err (first_of rows)) (sym (room_first full end)) in
    let tail : asked Err (first_of (ss ++ (row wrong SheetChannel File 0 ∷ (rows ++ last)))) new
    ≡ on_measured (with_row wrong (measured_of (string_end f) (line_end f) sheet)) ends =
    asked_more Err ss (row wrong SheetChannel File 0 ∷ (rows ++ last)) new
    ∙ ap (asked Err (first_of ss))
    (asked_row Err wrong SheetChannel File 0 (rows ++ last) new
    ∙ ap (λ (v : Result ℕ Refusal). pick wrong (Err (refusal SheetChannel File 0)) v) fits)
    ∙ sym (sheet_first (string_end f) (line_end f) sheet (pick wrong (Err (refusal SheetChannel File 0)) ends))
    ∙ sym (channel_first wrong (measured_of (string_end f) (line_end f) sheet) ends) in
    rw (check_answers_first Strict Grow xs n, e)
    (steps (first_of (check_rows Strict Grow xs n)) slot (with_row wrong (measured_of (string_end f) (line_end f) sheet)) ends _ (sym tail)
    ∙ sym
    (asked_more Err (check_rows Strict Grow xs n) (row slot NoSlot File 0 ∷ (ss ++ (row wrong SheetChannel File 0 ∷ (rows ++ last)))) new
    ∙ ap (asked Err (first_of (check_rows Strict Grow xs n)))
    (asked_row Err slot NoSlot File 0 (ss ++ (row wrong SheetChannel File 0 ∷ (rows ++ last))) new)))
