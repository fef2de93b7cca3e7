-- `printing::print`: what was read, and the room for it. Assumes nothing.
use borrow.Author.Rules.{rules}
use Rattle.printing.proofs.print.Goals as goal

pub returns : goal.returns
returns g c =
    record {
      got = c.read_input-got.result;
      buffer = c.read_input-got.new.input;
      size = search rules;
      within = c.read_input-got.ensures;
      sent = c.send_input.ensures;
    }
