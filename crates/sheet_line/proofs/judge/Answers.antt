-- `sheet_line::judge` meets its contract. Each answer has its law. Assumes nothing.
use Rattle.std.proofs.Common.{◌≡◌, ◌&&◌, not, true, false, ℕ, ◌+◌, ◌∙◌, sym, arith, take, drop}
use Rattle.word.specs.Part.{part_rest}
use Rattle.sheet_line.specs.SheetLine.{spaced, continues}
use Rattle.sheet_line.specs.Judging.{judged_none, judged_short, judged_other, judged_value, judged_space, judged_order}
use Rattle.sheet_line.specs.Judging.{judged_good}
use Rattle.sheet_line.proofs.judge.Goals as goal
use Rattle.sheet_line.proofs.judge.Goals.{Joined-else-is_spaced, then-more, else-more}
use Rattle.sheet_line.proofs.judge.Goals.{then-n-eq0-via-then-n-eq0, then-n-eq0-via-else-n-eq0+then-l-n, then-n-eq0-via-else-n-eq0+else-l-n+then-l-n-ne9}
use Rattle.sheet_line.proofs.judge.Goals.{else-is_spaced-via-then-is_spaced+else-not-more, else-is_spaced-via-else-is_spaced}

-- a value that starts with a space stands in a further line of a NOTE
opens : (c : Joined-else-is_spaced)
    → let n = c.key_run-n.result in
    let l = c.args.l.now in
    (spaced (drop (n + 1) l) && not (continues c.args.prev.now (take n l))) ≡ false
opens c =
    elim c.else-is_spaced.branch [
      | else-is_spaced-via-then-is_spaced+else-not-more w ↦
          rw (
            rw part_rest at (sym c.is_spaced.ensures ∙ w.if-is_spaced.true),
            sym c.is_continued-more.ensures ∙ w.if-not-more.false,
          )
      | else-is_spaced-via-else-is_spaced w ↦
          rw (rw part_rest at (sym c.is_spaced.ensures ∙ w.if-is_spaced.false))
    ]

pub returns-then-n-eq0 : goal.returns-then-n-eq0
returns-then-n-eq0 c =
    elim c.then-n-eq0.branch [
      | then-n-eq0-via-then-n-eq0 w ↦ judged_none _ _ _ c.key_run-n.ensures.0 w.if-n-eq0.true
      | then-n-eq0-via-else-n-eq0+then-l-n w ↦
          judged_short _ _ _ c.key_run-n.ensures.0 (omega (arith, w.if-n-eq0.false)) w.if-l-n.true
      | then-n-eq0-via-else-n-eq0+else-l-n+then-l-n-ne9 w ↦
          judged_other _ _ _ c.key_run-n.ensures.0 (omega (arith, w.if-n-eq0.false)) w.if-l-n-ne9.true
    ]

pub returns-then-not-all : goal.returns-then-not-all
returns-then-not-all c =
    judged_value _ _ _ c.key_run-n.ensures.0 (omega arith) c.if-l-n-ne9.false
    ((rw part_rest at (sym c.all.ensures)) ∙ c.if-not-all.true)

pub returns-then-not-more : goal.returns-then-not-more
returns-then-not-more c =
    judged_space _ _ _ c.key_run-n.ensures.0 (omega arith) c.if-l-n-ne9.false
    ((rw part_rest at (sym c.all.ensures)) ∙ c.if-not-all.false)
    (rw (rw part_rest at (sym c.is_spaced.ensures ∙ c.if-is_spaced.true), sym c.is_continued-more.ensures ∙ c.if-not-more.true))

pub returns-then-not-ordered : goal.returns-then-not-ordered
returns-then-not-ordered c =
    let open_ = opens (goal.at.returns-then-not-ordered c).Joined-else-is_spaced in
    elim c.if-more.branch [
      | then-more w ↦
          let a : c.if-more.ordered ≡ true = w.ordered-is ∙ w.if-more.true in
          let b : c.if-more.ordered ≡ false = c.if-not-ordered.true in
          let z : ◌≡◌ {A = ℕ} 0 1 = cc in
          absurd (omega arith)
      | else-more w ↦
          judged_order _ _ _ c.key_run-n.ensures.0 (omega arith) c.if-l-n-ne9.false
          ((rw part_rest at (sym c.all.ensures)) ∙ c.if-not-all.false) open_
          (rw (
            sym c.is_continued-more.ensures ∙ w.if-more.false,
            sym w.rising-ordered.ensures ∙ sym w.ordered-is ∙ c.if-not-ordered.true,
          ))
    ]

pub returns : goal.returns
returns c =
    let open_ = opens (goal.at.returns c).Joined-else-is_spaced in
    judged_good _ _ _ c.key_run-n.ensures.0 (omega arith) c.if-l-n-ne9.false
    ((rw part_rest at (sym c.all.ensures)) ∙ c.if-not-all.false) open_
    (elim c.if-more.branch [
      | then-more w ↦ rw (sym c.is_continued-more.ensures ∙ w.if-more.true)
      | else-more w ↦
          rw (
            sym c.is_continued-more.ensures ∙ w.if-more.false,
            sym w.rising-ordered.ensures ∙ sym w.ordered-is ∙ c.if-not-ordered.false,
          )
    ])
