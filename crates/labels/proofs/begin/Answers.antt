-- `labels::begin`: each place of a row has its own number for a label, and the word with that bit alone.
use Rattle.std.proofs.Common.{arith, subst}
use Rattle.labels.proofs.Single.{Alone, labels_alone}
use Rattle.labels.proofs.begin.Goals as goal

pub returns : goal.returns
returns c =
    let filled = c.loop-i.labels in
    let all : Alone filled.root filled.who 384 =
    subst (Alone filled.root filled.who) (omega (arith, c.loop-i.auto.i-end, c.loop-i-test.false)) c.loop-i.invariant in
    record {
      root_long = filled.root_long;
      who_long = filled.who_long;
      labels = λ d s none f h. labels_alone filled.root filled.who all f h d s none;
    }
