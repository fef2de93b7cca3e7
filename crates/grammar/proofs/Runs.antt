-- Lines that are due and in range, one after the other, in any grammar.
--
-- Lines are added at the end of a run one at a time, as a reader goes on, and a run is put behind another. A place of a text is reached when such lines lead to what follows
-- it; where the line there is at fault it is the first fault.
-- Not here: that each text has one outcome, which needs that lines are decided and determined (Outcomes.antt).
-- Assumes nothing.
use mathlib.Core.Path.{refl}
use mathlib.Core.List.{List}
use Prim.Native.Nat.{ℕ, suc, ◌≤◌}
use native.Mathlib.Omega.{arith}
use lib.ListN.{length, drop}
use Rattle.rule.specs.declared.Reason.{Reason}
use Rattle.rule.specs.Reasons.{Pass}
use Rattle.grammar.specs.Grammar.{Grammar, NextIs, Leads, Faulty, FirstFault, fault_in, RefusedAt}
use Rattle.grammar.specs.Grammar.Leads.{here, one_line}

module _ {g : Grammar} where
  pub leads_more : {said last : g.Said} {rest left more : List ℕ} → Leads g said rest last left → (value : (g.due last).Value)
      → NextIs (g.due last) left value more → Pass ((g.due last).checks value) → Leads g said rest ((g.due last).then value) more
  leads_more here value next pass = one_line value next pass here
  leads_more (one_line x n p l) value next pass = one_line x n p (leads_more l value next pass)

  pub leads_trans : {said one two : g.Said} {rest left gone : List ℕ} → Leads g said rest one left → Leads g one left two gone
      → Leads g said rest two gone
  leads_trans here k = k
  leads_trans (one_line value next pass l) k = one_line value next pass (leads_trans l k)

-- lines that are due and in range lead to a place of the text
pub record Stands (g : Grammar) (text : List ℕ) (at : ℕ) (said : g.Said) : Type 0 where
  pub within : at ≤ length text
  pub leads : Leads g g.nothing text said (drop at text)

module _ {g : Grammar} {text : List ℕ} where
  pub stands_first : Stands g text 0 g.nothing
  stands_first = record { within = omega arith; leads = here }

  pub stands_on : {at : ℕ} {said : g.Said} → Stands g text at said → (value : (g.due said).Value) (next : ℕ)
      → NextIs (g.due said) (drop at text) value (drop next text) → next ≤ length text → Pass ((g.due said).checks value)
      → Stands g text next ((g.due said).then value)
  stands_on s value next is l pass = record { within = l; leads = leads_more s.leads value is pass }

  pub stands_fault : {at : ℕ} {said : g.Said} (reason : Reason) → Stands g text at said → Faulty g said (drop at text) reason
      → FirstFault g text (fault_in text (suc (g.lines said)) at reason)
  stands_fault reason s bad =
      record { said = _; within = s.within; before = s.leads; number = refl; at_fault = bad; part = refl }

  pub stands_refused : {at : ℕ} {said : g.Said} (reason : Reason) → Stands g text at said → Faulty g said (drop at text) reason
      → RefusedAt g text reason (suc (g.lines said))
  stands_refused reason s bad = (_, stands_fault reason s bad, refl, refl)
