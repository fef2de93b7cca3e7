-- `printing::send_input`: the bytes that were read are a text, and a read that failed is none. Assumes nothing.
use mathlib.Core.Path.{sym, subst}
use Rattle.std.specs.Prelude.{Result, ℕ}
use Rattle.printing.specs.declared.Unread.{Unread}
use Rattle.printing.specs.Sending.{Got, InputSent}
use Rattle.printing.proofs.send_input.Goals as goal

pub slice_bounds-send_text-end : goal.slice_bounds-send_text-end
slice_bounds-send_text-end c =
    (subst (λ (got : Result ℕ Unread). Got got c.args.input.now) c.in-Ok.is c.requires).1

pub returns-in-Ok : goal.returns-in-Ok
returns-in-Ok c =
    subst (λ (got : Result ℕ Unread). InputSent c.args.kind got c.args.input.now c.send_text.result) (sym c.in-Ok.is)
    c.send_text.ensures

pub returns-in-Err : goal.returns-in-Err
returns-in-Err c =
    subst (λ (got : Result ℕ Unread). InputSent c.args.kind got c.args.input.now c.unread.result) (sym c.in-Err.is)
    c.unread.ensures
