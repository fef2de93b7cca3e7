-- `pager::fill`: the lines so far stand one behind the other (Runs.antt), and the kept edges before the next line are counted
-- (Tallies.antt). The loop is left where no line is left, or no line's room.
use native.Mathlib.Omega.{arith}
use mathlib.Core.Path.{◌≡◌, subst}
use Prim.Native.Nat.{ℕ, ◌<◌}
use Rattle.rule.specs.declared.Book.{Book}
use Rattle.pager.specs.declared.Kind.{Kind}
use Rattle.pager.specs.Kinds.{form_of}
use Rattle.pager.proofs.Runs.{rest_length, run_none, run_more, tally_next}
use Rattle.pager.proofs.fill.Goals as goal

-- there is a line more
more : (kind : Kind) (B : Book) {i number : ℕ} → number ≡ (form_of kind).number B → i < number → i < (form_of kind).number B
more kind B {i = i} q less = subst (λ (z : ℕ). i < z) q less

pub loop-i-init : goal.loop-i-init
loop-i-init c = (run_none _ _ _ _, c.kept_before-kept.ensures)

pub loop-i-preserved : goal.loop-i-preserved
loop-i-preserved c =
    let book = c.args.source.book.now in
    let wrote =
    run_more (form_of c.args.kind) book c.args.first c.args.buffer.now c.loop-i.buffer c.loop-i.i c.loop-i.end c.loop-i.invariant.0
    (omega (arith, c.in-Some.ensures.0, rest_length c.loop-i.buffer c.loop-i.end))
    (more c.args.kind book c.number_of_lines-number.ensures c.loop-i-test.true)
    c.next_line.new.rest c.in-Some.more c.in-Some.ensures.1 c.next_line.auto.rest in
    (wrote, tally_next _ _ _ c.kept_after-kept.ensures)
