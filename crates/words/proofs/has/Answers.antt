-- `words::has`: the word shifted down by t begins with bit t.
use mathlib.Core.Path.{sym}
use Rattle.rule.specs.Sets.{◌=?◌}
use Rattle.words.proofs.Shift.{bit_shifted}
use Rattle.words.proofs.has.Goals as goal

pub returns : goal.returns
unfolding ◌=?◌
returns c = sym (bit_shifted c.args.word c.args.t)
