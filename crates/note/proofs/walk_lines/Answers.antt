-- `note::walk_lines` meets its contract. The invariant: the walk of what is left answers as the whole walk. Assumes
-- nothing.
use Rattle.note_line.specs.NoteLine.{starts}
use Rattle.std.proofs.Common.{◌≡◌, ◌+◌, ◌<◌, ◌≤◌, true, length, drop, List, ℕ, ◌∷◌, sym, ap, ◌∙◌, zero-add, arith}
use Rattle.word.specs.Part.{part_rest}
use Rattle.note.specs.Note.{lines, lines_apart, lines_char, lines_bad, lines_over}
use Rattle.note.proofs.Note.{lines_start}
use Rattle.note.proofs.walk_lines.Goals as goal

-- a terminator that was met is in what is left, whose rest answers as all of it
met : (u r : List ℕ) (n : ℕ) → n + 1 ≡ length r → 0 < length u → starts u r ≡ true
    → (length u ≤ length r) × (lines u 0 (drop (length u) r) ≡ lines u 0 r)
met u r n e some q = simp zero-add at (lines_start u r 0 (omega arith) some q)

pub loop-b-preserved-then-apart-is : goal.loop-b-preserved-then-apart-is
loop-b-preserved-then-apart-is c =
    let u = c.args.u.now in
    let e = c.in-Some.ensures.cases in
    let l : List ℕ = c.in-Some.b.now ∷ c.in-Some.behind.now in
    lines_apart u l 0 (omega arith) c.requires (rw (c.is-apart.ensures, c.is.ensures) at c.if-apart-is.true)
    ∙ sym (ap (lines u 0) e.0) ∙ c.loop-b.invariant

pub slice_bounds-rest-count : goal.slice_bounds-rest-count
slice_bounds-rest-count c =
    (met _ _ _ c.in-Some.ensures.cases.1 c.requires (sym c.is_start.ensures ∙ c.if-is_start.true)).0

pub slice_bounds-rest-start : goal.slice_bounds-rest-start
slice_bounds-rest-start c =
    (met _ _ _ c.in-Some.ensures.cases.1 c.requires (sym c.is_start.ensures ∙ c.if-is_start.true)).0

pub loop-b-preserved-then-is_start : goal.loop-b-preserved-then-is_start
loop-b-preserved-then-is_start c =
    let b = met _ _ _ c.in-Some.ensures.cases.1 c.requires (sym c.is_start.ensures ∙ c.if-is_start.true) in
    rw part_rest (b.1 ∙ c.loop-b.invariant)

pub returns-then-not-is : goal.returns-then-not-is
returns-then-not-is c =
    let u = c.args.u.now in
    let e = c.in-Some.ensures.cases in
    let l : List ℕ = c.in-Some.b.now ∷ c.in-Some.behind.now in
    let f = rw e.0 at (sym c.is_start.ensures ∙ c.if-is_start.false) in
    lines_bad u l 0 (omega arith) f (sym c.is-in-Some.ensures ∙ c.if-not-is.true)
    ∙ sym (ap (lines u 0) e.0) ∙ c.loop-b.invariant

pub loop-b-preserved : goal.loop-b-preserved
loop-b-preserved c =
    let u = c.args.u.now in
    let e = c.in-Some.ensures.cases in
    let l : List ℕ = c.in-Some.b.now ∷ c.in-Some.behind.now in
    let f = rw e.0 at (sym c.is_start.ensures ∙ c.if-is_start.false) in
    lines_char u l 0 (omega arith) f (sym c.is-in-Some.ensures ∙ c.if-not-is.false)
    ∙ sym (ap (lines u 0) e.0) ∙ c.loop-b.invariant

pub returns : goal.returns
returns c =
    lines_over _ _ 0 (omega (arith, c.in_default.ensures.cases)) ∙ c.loop-b.invariant
