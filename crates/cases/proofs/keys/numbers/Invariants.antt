-- `cases::keys::numbers`: the numbers so far are below 100,000. Assumes nothing.
use Rattle.std.proofs.Common.{◌<◌, ◌≤◌, ℕ, get_or}
use Rattle.cases.proofs.keys.numbers.Given as goal

abbrev pub invariant-loop-part : goal.invariant-loop-part
invariant-loop-part l = (l.count ≤ 5) × ((k d : ℕ) → k < l.count → get_or l.places k d < 100000)
