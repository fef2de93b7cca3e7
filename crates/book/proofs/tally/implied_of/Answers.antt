-- `book::implied_of`: the edges less those counted (proofs/Figures.antt).
use Rattle.theory.proofs.Legal.Sound.{sound_head}
use Rattle.book.proofs.Figures.{found_most, is_dropped}
use Rattle.book.proofs.tally.implied_of.Goals as goal

pub kept-requires : goal.kept-requires
kept-requires c =
    (sound_head c.args.book.now c.requires).edges

pub overflow_sub-result : goal.overflow_sub-result
overflow_sub-result c =
    found_most c.args.book.now c.requires c.kept.result c.kept.ensures

pub returns : goal.returns
returns c =
    is_dropped c.args.book.now c.requires c.kept.result c.kept.ensures
