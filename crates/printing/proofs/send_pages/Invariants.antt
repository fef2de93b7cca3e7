-- What `send_pages` keeps true from turn to turn, and what its turns count down.
use mathlib.Core.Path.{◌≡◌}
use mathlib.Core.List.{List}
use Prim.Native.Nat.{ℕ, ◌-◌}
use lib.ListN.{length}
use Rattle.printing.specs.Sending.{all_lines}
use Rattle.printing.proofs.Turns.{UnderWay}
use Rattle.printing.proofs.send_pages.Given as goal

abbrev pub invariant-loop-further : goal.invariant-loop-further
invariant-loop-further l = ((front : List ℕ) × UnderWay l.initial.sent front l.sent) × (length l.buffer ≡ length l.initial.buffer)

abbrev pub decreases-loop-further : goal.decreases-loop-further
decreases-loop-further l = all_lines l.initial.sent - l.sent.state.line
