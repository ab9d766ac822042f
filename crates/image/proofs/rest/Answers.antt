-- `image::rest` meets its contract. Each part is asked only where the ones before it were accepted. Assumes nothing.
use Rattle.std.proofs.Common.{sym, refl, ◌∙◌, arith}
use Rattle.std.proofs.lemmas.Result.{err_from_is_err_and}
use Rattle.traces.specs.Walk.{next_stands, next_within}
use Rattle.image.proofs.RestLaws.{rest_pointer, rest_strings, rest_traces}
use Rattle.image.proofs.rest.Goals as goal

pub own_strings-requires : goal.own_strings-requires
own_strings-requires c =
    let args = c.args in
    let w = next_within args.high args.f.now args.n 0 _ _ (sym c.in_ok-p.ensures.0) c.requires.0 in
    (w.0, w.1, c.requires.2)

pub traces-requires : goal.traces-requires
traces-requires c =
    let e = c.in_ok-p.ensures in
    (omega arith, c.requires.2, next_stands _ c.args.f.now _ _ _ _ _ e.0 e.1 refl)

pub returns-in_err-p : goal.returns-in_err-p
returns-in_err-p c =
    let args = c.args in
    let p = err_from_is_err_and c.from_residual.result c.from_residual.ensures.1 in
    rw (p.1, p.2) (rest_pointer _ _ args.t.now args.u.now args.f.now _ _ _ (sym c.in_err-p.ensures.0))

pub returns-in_err-own_strings : goal.returns-in_err-own_strings
returns-in_err-own_strings c =
    let args = c.args in
    let p = err_from_is_err_and c.from_residual-in_err-own_strings.result c.from_residual-in_err-own_strings.ensures.1 in
    rw (p.1, p.2) (rest_strings _ _ args.t.now args.u.now args.f.now _ _ _ _ (sym c.in_ok-p.ensures.0) (sym c.in_err-own_strings.ensures))

pub returns : goal.returns
returns c =
    let args = c.args in
    c.traces.ensures ∙ rest_traces _ _ args.t.now args.u.now args.f.now _ _ _ (sym c.in_ok-p.ensures.0) (sym c.in_ok-own_strings.ensures)
