-- `step::sought`: what the search says of the edge is what a question answers.
use borrow.Author.Rules.{rules}
use Rattle.rule.proofs.Passed.{passed_question}
use Rattle.step.proofs.Asked.{asks, answers_kept, answers_implied}
use Rattle.step.proofs.sought.Goals as goal

pub place_for-requires : goal.place_for-requires
place_for-requires c =
    record {
      room = (passed_question c.args.book.now c.args.edge c.args.list.now c.requires.checked).room;
      seekable = asks c.args.book.now c.args.edge c.requires;
    }

-- a place was found
pub overflow_cast-result : goal.overflow_cast-result
overflow_cast-result c =
    let few = c.in-Found.ensures.1.0.few in
    search (rules, few)

pub returns-in-Found : goal.returns-in-Found
returns-in-Found c =
    let e = c.in-Found.ensures in
    answers_kept c.args.book.now c.args.edge c.requires e.0 c.place_for.new.list c.in-Found.n c.in-Found.f e.1.0 e.1.1

pub returns-in-Stuck : goal.returns-in-Stuck
returns-in-Stuck c = answers_implied c.args.book.now c.args.edge c.requires c.place_for.new.list c.in-Stuck.n c.in-Stuck.ensures.1
