-- `planting::change`: the bits of the word come one by one, lowest first, and each body has its word changed.
use Rattle.std.proofs.Common.{ℕ, arith, sym, ap, ◌∙◌, subst}
use Rattle.std.specs.Int.Bits.{bit_xor}
use Rattle.tables.specs.Tables.{start as begins}
use Rattle.labels.proofs.Rows.{Left, left_all, left_step, left_none}
use Rattle.planting.proofs.change.Goals as goal

pub loop-t-init : goal.loop-t-init
loop-t-init c =
    let way = c.args.way.now in
    subst (λ (left : ℕ). Left (λ w. bit_xor w c.args.c) (begins c.args.f) c.args.bodies way way left)
    (sym (ap (λ s. s.left) c.into_iter-t-iterator.ensures.into_iter_gives ∙ c.set_bits-t-items.ensures))
    (left_all (λ w. bit_xor w c.args.c) (begins c.args.f) c.args.bodies way)

pub loop-t-preserved : goal.loop-t-preserved
loop-t-preserved c =
    let turn = c.in-Some.ensures.steps in
    left_step (λ w. bit_xor w c.args.c) (begins c.args.f) c.args.bodies c.args.way.now c.loop-t.way c.loop-t.t-iterator.left
    c.in-Some.t c.next.new.self.left (omega (arith, c.told-way, c.requires.low, c.requires.high)) turn.1 turn.2 c.loop-t.invariant

pub returns : goal.returns
returns c =
    left_none (λ w. bit_xor w c.args.c) (begins c.args.f) c.args.bodies c.args.way.now c.loop-t.way c.loop-t.t-iterator.left
    c.in-None.ensures.steps.0 c.loop-t.invariant
