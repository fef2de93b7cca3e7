-- What `fill` keeps true from turn to turn.
use Rattle.pager.specs.Kinds.{form_of}
use Rattle.pager.specs.Lent.{LinesRun, Tally}
use Rattle.pager.proofs.fill.Given as goal

abbrev pub invariant-loop-i : goal.invariant-loop-i
invariant-loop-i l =
    LinesRun (form_of l.kind) l.source.book.now l.first l.initial.buffer l.buffer l.i l.end × Tally l.source.book.now l.i l.kept
