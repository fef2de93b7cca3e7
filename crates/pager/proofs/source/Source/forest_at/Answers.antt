-- `pager::source::Source::forest_at`: a sound book has at most 512 edges.
use native.Mathlib.Omega.{arith}
use Rattle.theory.proofs.Legal.Sound.{sound_head}
use Rattle.pager.proofs.source.Source.forest_at.Goals as goal

pub bounds-self-from : goal.bounds-self-from
bounds-self-from c = omega (arith, c.from.ensures, c.requires, (sound_head c.args.self.book.now c.args.self.sound).edges)
