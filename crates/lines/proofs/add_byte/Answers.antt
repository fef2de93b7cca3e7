-- `lines::add_byte`: a store.
use Rattle.lines.proofs.Adding.{adds_byte}
use Rattle.lines.proofs.add_byte.Goals as goal

pub returns : goal.returns
returns c = adds_byte _ _ _ c.requires
