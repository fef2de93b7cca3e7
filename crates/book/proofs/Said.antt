-- A function that answers whether P holds, and a branch on its answer or on the answer turned round.
-- Assumes nothing.
use mathlib.Core.Path.{◌≡◌, sym, ◌∙◌}
use mathlib.Core.Logic.{◌↔◌}
use mathlib.Core.Bool.{Bool, true, false, false≢true}
use Rattle.rule.specs.Sets.{Is}

module _ {P : Type 0} (r : Bool) (says : Is r ↔ P) where
  -- the branch of `if !r` that was taken, and the one that was left
  pub refused : r ≡ false → ¬ P
  refused h p = false≢true (sym h ∙ says.1 p)

  pub granted : r ≡ true → P
  granted h = says.0 h

-- the answer no is right where P does not hold
pub no_answer : {P : Type 0} → ¬ P → (Is false ↔ P)
no_answer n = (λ h. absurd (false≢true h), λ p. absurd (n p))
