-- `book::offer_checks`: the checks of a question, and 6 behind them.
use mathlib.Core.Path.{refl}
use mathlib.Core.Logic.{inl}
use mathlib.Core.List.{[], ◌∷◌}
use Prim.Native.Nat.{◌<◌}
use native.Mathlib.Omega.{arith}
use Rattle.std.specs.Prelude.{Ok, Err}
use Rattle.rule.specs.declared.Reason.{Reason}
use Rattle.rule.specs.Books.{the_edge, capacity}
use Rattle.rule.specs.Reasons.{plain, question_checks}
use Rattle.book.proofs.Checks.{refused_first, answered_later}
use Rattle.book.proofs.offer_checks.Goals as goal

pub returns-in_default : goal.returns-in_default
returns-in_default c =
    let x = c.args in
    λ list q.
    refused_first (question_checks x.book.now (the_edge x.u x.v x.colour) list) (plain 6 (x.book.now.count < capacity) ∷ []) _ _ c.question_checks-checked.result
    c.in_default.not-Ok (c.question_checks-checked.ensures list q)

pub returns-then-book-lt512 : goal.returns-then-book-lt512
returns-then-book-lt512 c =
    let x = c.args in
    λ list q.
    answered_later (question_checks x.book.now (the_edge x.u x.v x.colour) list) (plain 6 (x.book.now.count < capacity) ∷ []) _ Unit (c.in-Ok.ensures list q)
    (Ok tt) ((c.if-book-lt512.true, tt), tt)

pub returns : goal.returns
returns c =
    let x = c.args in
    λ list q.
    answered_later (question_checks x.book.now (the_edge x.u x.v x.colour) list) (plain 6 (x.book.now.count < capacity) ∷ []) _ Unit (c.in-Ok.ensures list q)
    (Err Reason.Full) (inl ((λ l. omega (arith, l, c.if-book-lt512.false)), refl, refl))
