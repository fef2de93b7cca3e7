-- `groups::thin`: the edges are judged one by one (Judging.antt), all by the same labels.
use borrow.Author.Rules.{rules}
use mathlib.Core.Path.{◌≡◌, sym, ◌∙◌, subst}
use mathlib.Core.List.{List}
use mathlib.Core.Bool.{false≢true}
use Prim.Native.Nat.{ℕ, suc, ◌+◌, ◌<◌}
use native.Mathlib.Omega.{arith}
use lib.ListN.{length, set}
use Rattle.groups.specs.Passes.{stays_in}
use Rattle.groups.proofs.Judging.{Judged, judged_none, judged_few, judged_all, judged_stays, judged_empty, judged_gone}
use Rattle.groups.proofs.thin.Goals as goal
use Rattle.groups.proofs.thin.Goals.{then-left-e-ne0+then-not-remains, else-left-e-ne0, else-left-e-ne0-via-then-left-e-ne0+else-not-remains, else-left-e-ne0-via-else-left-e-ne0}

pub loop-e-init : goal.loop-e-init
loop-e-init c = (omega arith, judged_none)

pub remains-requires : goal.remains-requires
remains-requires c =
    let e = c.loop-e.e in
    let less : e < c.args.book.now.count = omega (arith, c.loop-e-test.true, c.from-e-end.ensures) in
    record { index = omega (arith, less, c.requires.few); ends = c.requires.ends (suc e) (omega (arith, less)) }

pub overflow_add-gone : goal.overflow_add-gone
overflow_add-gone c =
    record { fits = omega (arith, judged_few c.loop-e.invariant.1) }

pub loop-e-preserved : goal.loop-e-preserved
loop-e-preserved c =
    let x = c.args in
    let More : List ℕ → ℕ → Type 0 =
    λ left gone. Judged (stays_in x.book.now x.labels.now x.limits) x.left.now left (c.loop-e.e + 1) gone in
    let less : c.loop-e.e < x.book.now.count = omega (arith, c.loop-e-test.true, c.from-e-end.ensures) in
    let long : length x.left.now ≡ 512 = search rules in
    let judged = c.loop-e.invariant.1 in (
      omega (arith, less),
      elim c.if-left-e-ne0.branch [
        | then-left-e-ne0+then-not-remains w ↦
            let goes = sym w.remains.ensures ∙ w.if-not-remains.true in
            subst (λ left. More left c.if-left-e-ne0.gone) (sym w.left-is)
            (subst (λ gone. More (set c.loop-e.left c.loop-e.e 0) gone) (sym w.gone-is)
            (judged_gone judged (omega (arith, less, long, c.requires.few)) w.if-left-e-ne0.true (λ h. false≢true (sym goes ∙ h))))
        | else-left-e-ne0 w ↦
            subst (λ left. More left c.if-left-e-ne0.gone) (sym w.left-is)
            (subst (λ gone. More c.loop-e.left gone) (sym w.gone-is)
            (elim w.else-left-e-ne0.branch [
              | else-left-e-ne0-via-then-left-e-ne0+else-not-remains w' ↦ judged_stays judged (sym w'.remains.ensures ∙ w'.if-not-remains.false)
              | else-left-e-ne0-via-else-left-e-ne0 w' ↦ judged_empty judged w'.if-left-e-ne0.false
            ]))
      ],
    )

pub returns : goal.returns
returns c =
    judged_all c.loop-e.invariant.0 (omega (arith, c.loop-e-test.false, c.from-e-end.ensures)) c.loop-e.invariant.1
