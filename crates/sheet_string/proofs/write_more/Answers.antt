-- `sheet_string::write_more` meets its contract. Assumes nothing.
use Rattle.std.proofs.Common.{refl, ◌∙◌, rules}
use Rattle.sheet_string.specs.StringBytes.{put_then}
use Rattle.sheet_string.proofs.write_more.Goals as goal

pub returns : goal.returns
returns c =
    (search rules, c.copy-2.ensures ∙ rw c.copy.ensures (put_then _ _ _ _ _ refl))
