-- `patterns::pattern_at` meets its contract. Each branch reads the word of its code. Assumes nothing.
use Rattle.std.proofs.Common.{arith, rules}
use Rattle.sample.specs.Needed.{needed, width}
use Rattle.decode.specs.Sample.{pattern_of}
use Rattle.patterns.proofs.Asked.{five}
use Rattle.patterns.proofs.pattern_at.Goals as goal

pub overflow_mul-i : goal.overflow_mul-i
unfolding needed
overflow_mul-i c = let h = rw c.if-code-eq4.true at c.requires.1 in search rules

pub word4_at-requires : goal.word4_at-requires
unfolding needed
word4_at-requires c = let h = rw c.if-code-eq4.true at c.requires.1 in omega arith

pub returns-then-code-eq4 : goal.returns-then-code-eq4
unfolding pattern_of width
returns-then-code-eq4 c = rw c.if-code-eq4.true c.word4_at.ensures

pub overflow_mul-i-else-code-eq4 : goal.overflow_mul-i-else-code-eq4
unfolding needed
overflow_mul-i-else-code-eq4 c = let h = rw (five c.args.code c.requires.0 c.if-code-eq4.false) at c.requires.1 in search rules

pub word8_at-requires : goal.word8_at-requires
unfolding needed
word8_at-requires c = let h = rw (five c.args.code c.requires.0 c.if-code-eq4.false) at c.requires.1 in omega arith

pub returns-else-code-eq4 : goal.returns-else-code-eq4
unfolding pattern_of width
returns-else-code-eq4 c = rw (five c.args.code c.requires.0 c.if-code-eq4.false) c.word8_at.ensures
