-- `groups::plant`: the edges that are left are planted one by one (Planting.antt).
use mathlib.Core.Path.{sym, ◌∙◌, subst}
use Prim.Native.Nat.{◌+◌, ◌<◌}
use native.Mathlib.Omega.{arith}
use Rattle.tables.specs.declared.Labels.{Labels}
use Rattle.groups.proofs.Planting.{Grows, Read, grows_none, grows_past, grows_ready, grows_more, grows_all}
use Rattle.groups.proofs.plant.Goals as goal
use Rattle.groups.proofs.plant.Goals.{then-f-ne0, else-f-ne0}

pub loop-e-init : goal.loop-e-init
loop-e-init c = grows_none c.begin.ensures

pub bounds-left-e : goal.bounds-left-e
bounds-left-e c = omega (arith, c.requires.lent.most, c.loop-e-test.true, c.from-e-end.ensures)

pub unite-requires : goal.unite-requires
unite-requires c =
    let book = c.args.book.now in
    let read : Read book.ones book.others c.args.left.now c.loop-e.e c.from-f.result c.from-u.result c.from-v.result =
    record { forest = c.from-f.ensures; one = c.from-u.ensures; other = c.from-v.ensures } in
    let less : c.loop-e.e < book.count = omega (arith, c.loop-e-test.true, c.from-e-end.ensures) in
    grows_ready c.loop-e.invariant less c.requires read c.if-f-ne0.true

pub loop-e-preserved : goal.loop-e-preserved
loop-e-preserved c =
    let book = c.args.book.now in
    let left = c.args.left.now in
    let read : Read book.ones book.others left c.loop-e.e c.from-f.result c.from-u.result c.from-v.result =
    record { forest = c.from-f.ensures; one = c.from-u.ensures; other = c.from-v.ensures } in
    let less : c.loop-e.e < book.count = omega (arith, c.loop-e-test.true, c.from-e-end.ensures) in
    let Grown : Labels → Type 0 = λ L. Grows book.count book.ones book.others left L.root L.who (c.loop-e.e + 1) in
    elim c.if-f-ne0.branch [
      | then-f-ne0 w ↦
          subst Grown (sym w.labels-is) (grows_more c.loop-e.invariant less c.requires read w.if-f-ne0.true w.unite.ensures)
      | else-f-ne0 w ↦
          subst Grown (sym w.labels-is) (grows_past c.loop-e.invariant less (sym c.from-f.ensures ∙ w.if-f-ne0.false))
    ]

pub returns : goal.returns
returns c = grows_all c.loop-e.invariant c.requires (omega (arith, c.loop-e-test.false, c.from-e-end.ensures))
