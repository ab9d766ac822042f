-- `group20::put_pair` meets its contract. Two words are one of four bytes. Assumes nothing.
use Rattle.std.proofs.Common.{ap, ◌∙◌}
use Rattle.word.specs.Put.{put}
use Rattle.word.specs.Word.{bytes_of}
use Rattle.word.specs.WordLaws.{bytes_of_joined}
use Rattle.group20.proofs.put_pair.Goals as goal

pub returns : goal.returns
returns c =
    let args = c.args in
    c.put_word4.ensures ∙ ap (put _ _) (ap (bytes_of 4 _) c.pair.ensures
    ∙ bytes_of_joined 2 args.high args.a args.b c.requires.1 c.requires.2)
