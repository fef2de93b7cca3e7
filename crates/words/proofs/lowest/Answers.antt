-- `words::lowest`: the number of zeros below the lowest bit is that bit's place.
use native.Mathlib.Omega.{arith}
use lib.Count.{trailing_le}
use Rattle.words.proofs.Bits.{trailing_lowest}
use Rattle.words.proofs.lowest.Goals as goal

pub overflow_cast-result : goal.overflow_cast-result
overflow_cast-result c = record { fits = omega (arith, trailing_le 64 c.args.word) }

pub returns : goal.returns
returns c =
    let t = trailing_lowest 64 c.args.word c.requires c.ranges.word.fits in
    record { small = t.0; is_set = t.1.0; lowest = t.1.1 }
