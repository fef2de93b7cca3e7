-- What `scan` keeps true from turn to turn, and what its turns count down.
use Prim.Native.Nat.{◌-◌}
use Rattle.book.proofs.Scanning.{Scanning}
use Rattle.book.proofs.scan.Given as goal

abbrev pub invariant-scan : goal.invariant-scan
invariant-scan l = Scanning l.book l.e l.tables

abbrev pub decreases-scan : goal.decreases-scan
decreases-scan l = l.book.count - l.e
