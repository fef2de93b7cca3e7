-- What `widen` keeps true.
use Rattle.text.proofs.Overwrites.{Copied}
use Rattle.lines.proofs.widen.Given as goal

abbrev pub invariant-loop-i : goal.invariant-loop-i
invariant-loop-i l = Copied l.fn.list l.initial.wide l.wide l.i
