use Rattle.std.proofs.Common.{◌≡◌, ◌+◌, drop}
use Rattle.word.specs.Put.{put}
use Rattle.store_bytes.proofs.copy.Given as goal

abbrev pub invariant-loop-i : goal.invariant-loop-i
invariant-loop-i l =
    put l.buf (l.at + l.i) (drop l.i l.src) ≡ put l.initial.buf l.at l.src
