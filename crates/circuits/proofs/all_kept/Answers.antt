-- `circuits::all_kept`: so far, those of the first e edges that have a forest are listed.
use mathlib.Core.Path.{◌≡◌, sym, subst}
use mathlib.Core.List.{List}
use Prim.Native.Nat.{ℕ}
use native.Mathlib.Omega.{arith}
use Rattle.search.specs.Marks.{MarksWritten}
use Rattle.book.proofs.Figures.{placed}
use Rattle.circuits.proofs.Counted.{has_forest, has_none, none_listed, next_out, room_for_next, next_in}
use Rattle.circuits.proofs.all_kept.Goals.{then-forests-from-ne0, else-forests-from-ne0}
use Rattle.circuits.proofs.all_kept.Goals as goal

-- what a branch leaves
left_as : {before numbers list now : List ℕ} {n m : ℕ} → list ≡ now → n ≡ m → MarksWritten before 0 numbers now m → MarksWritten before 0 numbers list n
left_as {before} {numbers} {now = now} {n} p q w =
    subst (λ (l : List ℕ). MarksWritten before 0 numbers l n) (sym p) (subst (λ (k : ℕ). MarksWritten before 0 numbers now k) (sym q) w)

pub loop-e-init : goal.loop-e-init
loop-e-init c = none_listed (placed c.args.forests.now) _

pub bounds-list-n : goal.bounds-list-n
bounds-list-n c =
    let forests = c.args.forests.now in
    let e = c.loop-e.e in
    let below = room_for_next (placed forests) e c.loop-e.invariant (has_forest forests e (rw c.from.ensures at c.if-forests-from-ne0.true)) c.args.count (omega arith) c.requires.1 in
    omega (arith, below)

pub loop-e-preserved : goal.loop-e-preserved
loop-e-preserved c =
    let forests = c.args.forests.now in
    let e = c.loop-e.e in
    elim c.if-forests-from-ne0.branch [
      | then-forests-from-ne0 w ↦
          left_as w.list-is w.n-is
          (next_in (placed forests) e c.loop-e.invariant (has_forest forests e (rw c.from.ensures at w.if-forests-from-ne0.true)) c.args.count (omega arith) c.requires.1)
      | else-forests-from-ne0 w ↦
          left_as w.list-is w.n-is (next_out (placed forests) e c.loop-e.invariant (has_none forests e (rw c.from.ensures at w.if-forests-from-ne0.false)))
    ]
