-- `text::within` meets its contract: the library's test is `within`. Assumes nothing.
use native.Mathlib.Omega.{arith}
use mathlib.Core.Path.{◌≡◌, ◌∙◌}
use mathlib.Core.Bool.{◌&&◌}
use lib.Dec.{leb}
use Rattle.text.proofs.Ranges.{within_both}
use Rattle.text.proofs.within.Goals as goal

pub returns : goal.returns
returns c =
    let new = c.new.ensures in
    let both : c.contains.result ≡ leb c.args.low c.args.x && leb c.args.x c.args.high =
    grind (arith, c.contains.ensures.value, new.start, new.end, new.exhausted) in
    both ∙ within_both _ _ _
