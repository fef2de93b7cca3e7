-- `text::walk` meets its contract: its loop keeps `Walked`, of proofs/Walks.antt. Assumes nothing.
use native.Mathlib.Omega.{arith}
use borrow.Author.Rules.{rules}
use mathlib.Core.Path.{sym, ◌∙◌}
use Rattle.text.proofs.Lists.{enters_refused, enters_as, lined_err, lined_ok, roomy}
use Rattle.text.proofs.Walks.{walked_none, walked_room, walked_on, walked_fault, walked_extra, walked_whole}
use Rattle.text.proofs.walk.Goals as goal

pub loop-i-init : goal.loop-i-init
loop-i-init c = walked_none (roomy c.args.edges.now) c.requires

pub enter-requires : goal.enter-requires
enter-requires c = (walked_room c.loop-i.invariant (omega arith)).0

pub returns-in_err-step : goal.returns-in_err-step
returns-in_err-step c =
    let r = lined_err _ _ c.at_line.ensures c.in_err-step.was in
    enters_as (walked_fault c.loop-i.invariant (omega arith) (sym c.edge_in.ensures ∙ r.1)) r.2 (search (rules, c.from_residual.ensures))

pub loop-i-preserved : goal.loop-i-preserved
loop-i-preserved c =
    let read = lined_ok _ _ c.at_line.ensures c.in_ok-step.was in
    walked_on c.loop-i.invariant (omega arith) (sym c.edge_in.ensures ∙ read) c.enter.ensures

pub returns-then-at-text : goal.returns-then-at-text
returns-then-at-text c = enters_refused (walked_extra c.loop-i.invariant (omega arith) (omega arith) c.from-last.ensures)

pub returns : goal.returns
returns c = walked_whole c.loop-i.invariant (omega arith) (omega arith)
