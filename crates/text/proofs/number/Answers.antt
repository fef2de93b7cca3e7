-- `text::number` meets its contract: its loop keeps `Turned`, of proofs/Scans.antt. Assumes nothing.
use native.Mathlib.Omega.{arith}
use mathlib.Core.Path.{sym, ap, ◌∙◌}
use Rattle.text.specs.Readings.{digit_of, read_number}
use Rattle.text.proofs.Picks.{pick_eq}
use Rattle.text.proofs.Scans.{digit_small, turned_none, turned_more, turned_stop, turned_all, turned_fits}
use Rattle.text.proofs.number.Goals as goal

pub returns-then-byte-eq48 : goal.returns-then-byte-eq48
unfolding read_number
returns-then-byte-eq48 c = sym (pick_eq _ _ _ _ (omega arith))

pub loop-used-init : goal.loop-used-init
loop-used-init c = turned_none _ _ (λ e. absurd (omega arith))

pub overflow_mul-value : goal.overflow_mul-value
overflow_mul-value c = omega (arith, turned_fits c.loop-used.invariant c.requires)

pub overflow_add-value : goal.overflow_add-value
overflow_add-value c =
    omega (arith, turned_fits c.loop-used.invariant c.requires, digit_small _ _ (sym c.digit_of.ensures ∙ c.in-Some.is))

pub returns-in_default : goal.returns-in_default
returns-in_default c =
    c.taken.ensures
    ∙ turned_stop c.loop-used.invariant c.loop-used-test.true
    (ap digit_of (sym c.byte-in-loop-used.ensures) ∙ sym c.digit_of.ensures ∙ c.in_default.is)

pub loop-used-preserved : goal.loop-used-preserved
loop-used-preserved c =
    turned_more c.loop-used.invariant c.loop-used-test.true
    (ap digit_of (sym c.byte-in-loop-used.ensures) ∙ sym c.digit_of.ensures ∙ c.in-Some.is)

pub returns : goal.returns
returns c = c.taken-2.ensures ∙ turned_all c.loop-used.invariant c.loop-used-test.false
