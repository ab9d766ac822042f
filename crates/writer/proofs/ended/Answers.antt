-- `writer::ended` meets its contract. The samples' verdict, then row 30. Assumes nothing.
use Rattle.writer.specs.Writes.{too_many}
use Rattle.writer.proofs.ended.Goals as goal

pub returns-then-count-gt-MAXIMUM : goal.returns-then-count-gt-MAXIMUM
returns-then-count-gt-MAXIMUM c =
    rw (c.of_file.ensures, c.in_ok-fit.was)
    (too_many _ _ _ _ _ (c.requires.2 c.in_ok-fit.was) c.if-count-gt-MAXIMUM.true)
