-- `labels::relabel`: the bits of the word come one by one, lowest first, and each body gets the label.
use Rattle.std.proofs.Common.{ℕ, arith, sym, ap, ◌∙◌, subst}
use Rattle.tables.specs.Tables.{start as begins}
use Rattle.labels.proofs.Rows.{Left, left_all, left_step, left_none}
use Rattle.labels.proofs.relabel.Goals as goal

pub loop-t-init : goal.loop-t-init
loop-t-init c =
    let root = c.args.root.now in
    subst (λ (left : ℕ). Left (λ _. c.args.new) (begins c.args.f) c.args.bodies root root left)
    (sym (ap (λ s. s.left) c.into_iter-t-iterator.ensures.into_iter_gives ∙ c.set_bits-t-items.ensures))
    (left_all (λ _. c.args.new) (begins c.args.f) c.args.bodies root)

pub loop-t-preserved : goal.loop-t-preserved
loop-t-preserved c =
    let turn = c.in-Some.ensures.steps in
    left_step (λ _. c.args.new) (begins c.args.f) c.args.bodies c.args.root.now c.loop-t.root c.loop-t.t-iterator.left
    c.in-Some.t c.next.new.self.left (omega (arith, c.told-root, c.requires.low, c.requires.high)) turn.1 turn.2 c.loop-t.invariant

pub returns : goal.returns
returns c =
    left_none (λ _. c.args.new) (begins c.args.f) c.args.bodies c.args.root.now c.loop-t.root c.loop-t.t-iterator.left
    c.in-None.ensures.steps.0 c.loop-t.invariant
