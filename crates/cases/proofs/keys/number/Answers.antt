-- `cases::keys::number`: five digits are below 100,000. Assumes nothing.
use mathlib.Core.Path.{sym, subst}
use Rattle.cases.proofs.FiveDigits.{Below, number_below}
use Rattle.cases.proofs.keys.number.Goals as goal

pub returns-then-read-text : goal.returns-then-read-text
returns-then-read-text c = subst Below (sym c.in_ok-read.ensures) (number_below c.args.text.now)
