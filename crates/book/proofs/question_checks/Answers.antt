-- `book::question_checks`: check 8, and those of the edge behind it.
use Rattle.rule.specs.Books.{the_edge}
use Rattle.rule.specs.Reasons.{book_checks}
use Rattle.book.specs.Checks.{edge_checks}
use Rattle.book.proofs.Checks.{refused_first, answered_later}
use Rattle.book.proofs.question_checks.Goals as goal

pub returns-in_default : goal.returns-in_default
returns-in_default c =
    let x = c.args in
    λ list q.
    refused_first (book_checks x.book.now) (edge_checks x.book.now.n (the_edge x.u x.v x.colour) list) _ _ c.sound-checked.result c.in_default.not-Ok c.sound-checked.ensures

pub returns : goal.returns
returns c =
    let x = c.args in
    λ list q.
    answered_later (book_checks x.book.now) (edge_checks x.book.now.n (the_edge x.u x.v x.colour) list) _ Unit c.in-Ok.ensures c.asked.result (c.asked.ensures list q)
