-- What the line means: in a sheet that rows 25 and 26 let through, the line with a keyword is the string that the sheet
-- means, for every keyword but NOTE; and the rule of row 35 (document 02, §7) told without its tests.
-- Assumes nothing.
use Rattle.std.specs.Prelude.{◌≡◌, Bool, ℕ, ◌<◌}
use Rattle.std.proofs.Math.Path.{refl}
use Rattle.std.proofs.Common.{sym, ◌∙◌}
use Rattle.std.proofs.Math.Bool.{true, false}
use mathlib.Core.List.{List, [], ◌∷◌}
use Rattle.word.specs.Tests.{never}
use Rattle.refusal.specs.Rows.{pick}
use Rattle.chars.specs.Chars.{note}
use Rattle.chars.specs.Runs.{same, same_eq}
use Rattle.text.specs.declared.Manner.TheVariants.{Strict}
use Rattle.key_order.specs.Order.{rises_note}
use Rattle.strings.specs.Spelled.{has_key, value_of_key}
use Rattle.sheet_line.specs.SheetLine.{continues}
use Rattle.sheet.specs.Lines.{Line, lines_verdict, sheet_lines}
use Rattle.sheet.specs.Area.{str_of, note_of, joined, sheet_strings}
use Rattle.sheet.specs.Paper.{GoodLine, GoodLines, accepted_lines}
use Rattle.channel.specs.Count.{count_in}
use Rattle.channel.specs.Channel.{channel_number, keeps_channel, channel_kept}
use Rattle.channel_line.specs.ChannelLine.{has_line, value_of_line}
use Rattle.sheet_channel.specs.SheetChannel.{bad_sheet}
use Rattle.refusal.specs.Verdicts.{accepted}

-- ---- the string

-- behind a NOTE line stand NOTE lines alone
note_line : (prev : List ℕ) (l : Line) → same prev note ≡ true → GoodLine prev l → same l.key note ≡ true
unfolding continues
note_line prev l h g = go (same l.key note) refl
  where
    go : (b : Bool) → same l.key note ≡ b → b ≡ true
    go true e = refl
    go false e =
        let c : continues prev l.key ≡ false = rw (h, e) in
        never (sym (rises_note prev l.key h) ∙ g.follows c)

module _ (key : List ℕ) (other : same note key ≡ false) where
  -- and none of them has another keyword
  note_other : (l : Line) → same l.key note ≡ true → same l.key key ≡ false
  note_other l h = rw (same_eq l.key note h) other

  notes_none : (prev : List ℕ) (ls : List Line) → same prev note ≡ true → GoodLines prev ls → (has_line ls key ≡ false) × (value_of_line ls key ≡ [])
  unfolding has_line value_of_line
  notes_none prev [] h g = (refl, refl)
  notes_none prev (l ∷ ls) h g =
      let n = note_line prev l h g.0 in
      rw (note_other l n) (notes_none l.key ls n g.1)

  lines_meant : (u prev : List ℕ) (ls : List Line) → GoodLines prev ls
      → (has_key Strict (joined u ls) key ≡ has_line ls key) × (value_of_key Strict (joined u ls) key ≡ value_of_line ls key)
  unfolding has_line value_of_line has_key value_of_key joined
  lines_meant u prev [] g = (refl, refl)
  lines_meant u prev (l ∷ ls) g = go (same l.key note) refl (lines_meant u l.key ls g.1)
    where
      go : (b : Bool) → same l.key note ≡ b
          → (has_key Strict (joined u ls) key ≡ has_line ls key) × (value_of_key Strict (joined u ls) key ≡ value_of_line ls key)
          → (has_key Strict (pick b (note_of u (l ∷ ls) ∷ []) (str_of l ∷ joined u ls)) key ≡ has_line (l ∷ ls) key)
          × (value_of_key Strict (pick b (note_of u (l ∷ ls) ∷ []) (str_of l ∷ joined u ls)) key ≡ value_of_line (l ∷ ls) key)
      go true e i =
          let n = notes_none l.key ls e g.1 in
          rw (other, note_other l e, n.0, n.1) (refl, refl)
      go false e i = rw (i.0, i.1) (refl, refl)

  -- a keyword that is not NOTE's: the sheet means its line
  pub key_meant : (u s : List ℕ) → lines_verdict s ≡ accepted
      → (has_key Strict (sheet_strings u s) key ≡ has_line (sheet_lines s) key) × (value_of_key Strict (sheet_strings u s) key ≡ value_of_line (sheet_lines s) key)
  unfolding sheet_strings
  key_meant u s h = lines_meant u [] (sheet_lines s) (accepted_lines s h).1

pub has_meant : (u s : List ℕ) → lines_verdict s ≡ accepted → has_key Strict (sheet_strings u s) channel_number ≡ has_line (sheet_lines s) channel_number
unfolding same
has_meant u s h = (key_meant channel_number refl u s h).0

pub value_meant : (u s : List ℕ) → lines_verdict s ≡ accepted
    → value_of_key Strict (sheet_strings u s) channel_number ≡ value_of_line (sheet_lines s) channel_number
unfolding same
value_meant u s h = (key_meant channel_number refl u s h).1

-- ---- the rule

-- a sheet keeps it exactly where it has the line as the file's traces have the string, unless it is the first to be
-- added, and where it has it, a count stands there
abbrev pub KeepsSheet : Bool → Bool → List ℕ → Type 0
KeepsSheet free with s =
    (free ≡ false → has_line (sheet_lines s) channel_number ≡ with)
    × (has_line (sheet_lines s) channel_number ≡ true → 0 < count_in (value_of_line (sheet_lines s) channel_number))

pub sheet_keeps : (free with : Bool) (s : List ℕ) → bad_sheet free with s ≡ false → KeepsSheet free with s
unfolding bad_sheet
sheet_keeps true with s h =
    let has : Bool = has_line (sheet_lines s) channel_number in
    let k = keeps_channel has has (value_of_line (sheet_lines s) channel_number) h in
    (λ e. never (sym e), k.1)
sheet_keeps false with s h =
    let k = keeps_channel with (has_line (sheet_lines s) channel_number) (value_of_line (sheet_lines s) channel_number) h in
    (λ e. k.0, k.1)

pub keeps_sheet : (free with : Bool) (s : List ℕ) → KeepsSheet free with s → bad_sheet free with s ≡ false
unfolding bad_sheet
keeps_sheet true with s k =
    let has : Bool = has_line (sheet_lines s) channel_number in
    channel_kept has has (value_of_line (sheet_lines s) channel_number) (refl, k.1)
keeps_sheet false with s k =
    channel_kept with (has_line (sheet_lines s) channel_number) (value_of_line (sheet_lines s) channel_number) (k.0 refl, k.1)
