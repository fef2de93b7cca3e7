-- `groups::class_of`: forest by forest, the word keeps the bodies that have the label of v (Crowds.antt).
use mathlib.Core.Path.{subst}
use Prim.Native.Nat.{ℕ, ◌+◌, ◌*◌, ◌-◌, ◌<◌}
use native.Mathlib.Omega.{arith}
use Rattle.groups.proofs.Crowds.{With, in_table, with_none, with_more}
use Rattle.groups.proofs.class_of.Goals as goal

pub loop-i-init : goal.loop-i-init
loop-i-init c = (omega arith, with_none c.args.labels.now.root c.args.labels.now.who c.args.v)

pub overflow_add-y : goal.overflow_add-y
overflow_add-y c =
    let inside : c.loop-i.i * 64 + c.from.result < 384 =
    let i = c.loop-i.i in
    in_table c.args.labels.now.root c.args.labels.now.who c.args.v c.requires.1.1 c.requires.1.0 i (i * 64 + c.args.v - 1)
    c.from.result (omega arith) (omega arith) c.from.ensures in
    record { fits = omega (arith, inside) }

pub offset_bounds-labels-y : goal.offset_bounds-labels-y
offset_bounds-labels-y c =
    let inside : c.loop-i.i * 64 + c.from.result < 384 =
    let i = c.loop-i.i in
    in_table c.args.labels.now.root c.args.labels.now.who c.args.v c.requires.1.1 c.requires.1.0 i (i * 64 + c.args.v - 1)
    c.from.result (omega arith) (omega arith) c.from.ensures in
    record { fits = omega (arith, inside) }

pub bounds-labels-y : goal.bounds-labels-y
bounds-labels-y c =
    let inside : c.loop-i.i * 64 + c.from.result < 384 =
    let i = c.loop-i.i in
    in_table c.args.labels.now.root c.args.labels.now.who c.args.v c.requires.1.1 c.requires.1.0 i (i * 64 + c.args.v - 1)
    c.from.result (omega arith) (omega arith) c.from.ensures in
    inside

pub loop-i-preserved : goal.loop-i-preserved
loop-i-preserved c = (
  omega arith,
  with_more c.args.labels.now.root c.args.labels.now.who c.args.v c.loop-i.i c.loop-i.word (c.loop-i.i * 64 + c.args.v - 1)
      (c.loop-i.i * 64 + c.from.result) (omega arith) (omega (arith, c.from.ensures)) c.loop-i.invariant.1,
)

pub returns : goal.returns
returns c =
    subst (λ (z : ℕ). With c.args.labels.now.root c.args.labels.now.who c.args.v z c.loop-i.word)
    (omega (arith, c.loop-i.invariant.0, c.loop-i-test.false)) c.loop-i.invariant.1
