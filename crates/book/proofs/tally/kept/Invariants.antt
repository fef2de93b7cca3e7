-- What `tally::kept` keeps true from turn to turn: so far, the placed ones of the first edges are counted.
use mathlib.Core.Path.{◌≡◌}
use Rattle.rule.specs.Sets.{count as counted}
use Rattle.book.proofs.Figures.{placed}
use Rattle.book.proofs.tally.kept.Given as goal

abbrev pub invariant-loop-forest : goal.invariant-loop-forest
invariant-loop-forest l = l.found ≡ counted (placed l.forests) l.forest-index
