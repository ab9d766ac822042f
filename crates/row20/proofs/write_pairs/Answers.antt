-- `row20::write_pairs` meets its contract. The invariant: what is left to write, written, makes the whole. Assumes
-- nothing.
use Rattle.std.proofs.Common.{◌≡◌, ◌/◌, arith, length}
use Rattle.sample.specs.Needed.{needed, room}
use Rattle.row20.specs.RowLaws.{write_start, pair_turn}
use Rattle.row20.proofs.write_pairs.Goals as goal

pub loop-k-init : goal.loop-k-init
loop-k-init g c = write_start _ _ _

pub group_of-p-requires : goal.group_of-p-requires
group_of-p-requires g c = (omega arith, c.requires.2)

pub put_front-requires : goal.put_front-requires
unfolding room needed
put_front-requires g c = (omega arith, c.group_of-p.ensures.small)

pub group_of-q-requires : goal.group_of-q-requires
group_of-q-requires g c = (omega arith, c.requires.2)

pub put_back-requires : goal.put_back-requires
unfolding room needed
put_back-requires g c =
    let p = c.group_of-p.ensures.small in
    let q = c.group_of-q.ensures.small in
    (omega arith, omega (arith, p, q), q)

pub loop-k-preserved : goal.loop-k-preserved
loop-k-preserved g c =
    pair_turn _ c.loop-k.invariant (omega arith) c.group_of-p.ensures c.group_of-q.ensures c.put_front.ensures c.put_back.ensures

pub returns : goal.returns
returns g c =
    let e : length c.args.row.now / 8 ≡ c.loop-k.k = omega arith in
    rw e c.loop-k.invariant
