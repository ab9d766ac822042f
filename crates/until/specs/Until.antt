-- The strings of an area in order, as far as a question goes: "its strings in order only until the keyword is found or
-- passed (that string is read whole and checked); NOTE is sought to the end" (document 02 §5); so too up to the i-th,
-- or all of them. The step is that of the check (strings/Strings `step_of`: rows 14 to 17), with a stop. Every definition
-- is on the bytes l that are left of the area; `at` is their place in the file, j how many strings stand before them.
-- prev is the keyword before, the empty one before the first; t is the string terminator, u the line terminator, `high`
-- the byte order.
-- Assumes nothing.
use Rattle.std.specs.Prelude.{Bool, List, [], ℕ, zero, suc, ◌+◌, length, take, drop, eqb, Result, Ok, Err, Option, Some, None}
use Rattle.refusal.specs.declared.Refusal.{Refusal}
use Rattle.refusal.specs.declared.Rule.TheVariants.{StringOffset}
use Rattle.refusal.specs.declared.Part.{Part}
use Rattle.refusal.specs.Table.{refusal}
use Rattle.refusal.specs.Rows.{pick}
use Rattle.chars.specs.Runs.{same}
use Rattle.text.specs.declared.Manner.TheVariants.{Strict}
use Rattle.key_order.specs.Order.{before}
use Rattle.strings.specs.Strings.{step_of, place_of}
use Rattle.until.specs.declared.Ask.{Ask}
use Rattle.until.specs.declared.Ask.TheVariants as ask
use Rattle.until.specs.declared.Turn.{Turn}
use Rattle.until.specs.declared.Turn.TheVariants.{Here, Gone, On}
use Rattle.until.specs.declared.Walked.{Walked}
use Rattle.until.specs.declared.Walked.TheVariants as walked

-- ---- what ends a question, behind a string with the keyword k that met no row and that j strings stand before

-- the keyword k is passed where the asked one comes before it: k is greater, or it is NOTE and NOTE is not asked for.
-- None comes behind NOTE, so none passes it, and it is sought to the end
abbrev pub passed : List ℕ → List ℕ → Bool
passed key k = before key k

-- a keyword is asked for: it is here, or it is passed and there is none, or the question goes on
abbrev pub by_key : List ℕ → ℕ → List ℕ → Turn
by_key key j k = pick (same k key) Here (pick (passed key k) Gone On)

-- the i-th string
abbrev pub by_index : ℕ → ℕ → List ℕ → Turn
by_index i j k = pick (eqb j i) Here On

-- all of them
abbrev pub to_end : ℕ → List ℕ → Turn
to_end j k = On

-- what was asked; key is the asked keyword, of any bytes
abbrev pub look_of : Ask → List ℕ → ℕ → List ℕ → Turn
look_of ask.Keyword key = by_key key
look_of (ask.Index i) key = by_index i
look_of ask.All key = to_end

abbrev pub on_turn : {A : Type 0} → Turn → A → A → A → A
on_turn Here here gone more = here
on_turn Gone here gone more = gone
on_turn On here gone more = more

-- a step: past a string, at the end of the list, or refused
abbrev pub on_step : {A : Type 0} → Result (Option (ℕ × ℕ)) Refusal → (Refusal → A) → A → (ℕ → ℕ → A) → A
on_step (Ok (Some (o, n))) bad done next = next o n
on_step (Ok None) bad done next = done
on_step (Err r) bad done next = bad r

-- ---- the walk. The number bounds how many strings there are; the length of l is enough, for each has a byte. Where no
-- byte is left the missing end mark is 14
unfoldable pub walk_from : (ℕ → List ℕ → Turn) → ℕ → Bool → List ℕ → List ℕ → Part → ℕ → List ℕ → List ℕ → ℕ → Result Walked Refusal
walk_from look zero high t u p j prev l at = Err (refusal StringOffset p at)
walk_from look (suc m) high t u p j prev l at =
    on_step (step_of Strict high t u p prev l at) Err (Ok (walked.Over j))
    (λ o n.
    on_turn (look j (take n (drop 2 l))) (Ok (walked.At (place_of t o l at))) (Ok (walked.Over j))
    (walk_from look m high t u p (j + 1) (take n (drop 2 l)) (drop o l) (at + o)))

-- "An empty area is an empty list"
unfoldable pub walk_of : (ℕ → List ℕ → Turn) → Bool → List ℕ → List ℕ → Part → List ℕ → ℕ → Result Walked Refusal
walk_of look high t u p l at = pick (eqb (length l) 0) (Ok (walked.Over 0)) (walk_from look (length l) high t u p 0 [] l at)
