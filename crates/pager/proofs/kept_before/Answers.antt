-- `pager::kept_before`: the edges that have a forest are counted (crate book).
use native.Mathlib.Nat.{le_trans}
use Rattle.theory.proofs.Legal.Sound.{sound_head}
use Rattle.pager.proofs.Tallies.{tally_counted}
use Rattle.pager.proofs.kept_before.Goals as goal

pub kept-requires : goal.kept-requires
kept-requires c =
    le_trans c.if-count-i.false (sound_head c.args.source.book.now c.args.source.sound).edges

pub returns : goal.returns
returns c =
    tally_counted c.args.source.book.now c.args.i c.kept.result c.if-count-i.false c.kept.ensures
