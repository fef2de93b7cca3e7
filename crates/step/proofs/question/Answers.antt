-- `step::question`: a refusal is handed on; else a place is sought.
use mathlib.Core.Path.{refl}
use Rattle.rule.specs.Books.{the_edge}
use Rattle.step.proofs.Asked.{question_refused}
use Rattle.step.proofs.question.Goals as goal

pub returns-in-Err : goal.returns-in-Err
returns-in-Err c =
    question_refused c.args.book (the_edge c.args.u c.args.v c.args.colour) c.args.list.now Unit _ (c.in-Err.ensures c.args.list.now refl)

pub sought-requires : goal.sought-requires
sought-requires c =
    let passes = c.in_default.ensures c.args.list.now refl in
    let T = c.question_checks-checked.new.tables in
    rw c.as_edge-edge.ensures (record { checked = passes.0; who = T.labels.who; size = T.size; tabled = passes.1 })

pub returns : goal.returns
returns c = rw c.as_edge-edge.ensures at c.sought.ensures
