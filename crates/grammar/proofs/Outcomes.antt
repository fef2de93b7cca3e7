-- Of any grammar whose lines are decided and determined: every text is whole or has exactly one first fault, and never both; and a whole text is read in one way.
--
-- A state is stuck when no line that is due and in range follows. A text at fault is stuck, and so is one that has ended. From one state two runs that end stuck take the
-- same lines, since each line is determined; so they end alike. That there is an end is that each line is decided and takes at least one byte.
-- Not here: what a grammar owes, shown of a book text (crate text, proofs/Steps.antt); a text that is cut (Cuts.antt).
-- Assumes nothing.
use mathlib.Core.Path.{◌≡◌, refl, sym, ap, ◌∙◌, subst, subst₂}
use mathlib.Core.Logic.{◌⊎◌, inl, inr, by_cases}
use mathlib.Core.List.{List}
use Prim.Native.Nat.{ℕ, zero, suc, ◌-◌, ◌≤◌, ◌<◌}
use native.Mathlib.Omega.{arith}
use lib.ListN.{length, drop, length-drop}
use Rattle.rule.specs.declared.Reason.{Reason}
use Rattle.rule.specs.declared.Reason.TheVariants.{Line}
use Rattle.rule.specs.Reasons.{Check, Pass, Fail}
use Rattle.rule.proofs.Determined.{Single, fail_determined, pass_not_fail}
use Rattle.grammar.specs.Grammar.{first_line, DueLine, Grammar, NextIs, Leads, Faulty, Fault, FirstFault, Whole}
use Rattle.grammar.specs.Grammar.Leads.{here, one_line}
use Rattle.grammar.specs.Grammar.AtFault.{other, fails}
use Rattle.grammar.proofs.Runs.{Stands, stands_first, stands_on, stands_fault}

-- ---- what a grammar owes

-- the line at a place of a text is the one due, and ends at a later place, or it is not
pub data LineAt {Said : Type 0} (d : DueLine Said) (text : List ℕ) (at : ℕ) : Type 0 where
  is_due : (value : d.Value) (place : ℕ) → NextIs d (drop at text) value (drop place text) → at < place → place ≤ length text → LineAt d text at
  is_other : ((value : d.Value) (more : List ℕ) → ¬ NextIs d (drop at text) value more) → LineAt d text at

-- two readings of one line are the same
abbrev pub Determined : {Said : Type 0} → DueLine Said → Type 0
Determined d = (rest : List ℕ) (x y : d.Value) (r q : List ℕ) → NextIs d rest x r → NextIs d rest y q → (x ≡ y) × (r ≡ q)

pub data PassOrFail (cs : List Check) : Type 0 where
  passes : Pass cs → PassOrFail cs
  fail : (reason : Reason) → Fail cs reason → PassOrFail cs

-- Each line is decided and determined, and so are its checks; the end is decided, and none is due when all lines have come.
pub record Lawful (g : Grammar) : Type 0 where
  pub decided : (said : g.Said) (text : List ℕ) (at : ℕ) → at ≤ length text → LineAt (g.due said) text at
  pub determined : (said : g.Said) → Determined (g.due said)
  pub checked : (said : g.Said) (value : (g.due said).Value) → PassOrFail ((g.due said).checks value)
  pub single : (said : g.Said) (value : (g.due said).Value) → Single ((g.due said).checks value)
  pub ended? : (said : g.Said) (rest : List ℕ) → Dec (g.Ended said rest)
  pub ended_none : (said : g.Said) (rest : List ℕ) → g.Ended said rest → (value : (g.due said).Value) (more : List ℕ)
      → ¬ NextIs (g.due said) rest value more

-- whole, or a first fault
abbrev pub Outcome : Grammar → List ℕ → Type 0
Outcome g text = Whole g text ⊎ ((f : Fault) × FirstFault g text f)

module _ (g : Grammar) (law : Lawful g) where
  -- ---- two runs that end stuck end alike

  abbrev Stuck : g.Said → List ℕ → Type 0
  Stuck said rest = (value : (g.due said).Value) (more : List ℕ) → NextIs (g.due said) rest value more → ¬ Pass ((g.due said).checks value)

  fault_stuck : (said : g.Said) (rest : List ℕ) (reason : Reason) → Faulty g said rest reason → Stuck said rest
  fault_stuck said rest reason (other none going) value more next pass = none value more next
  fault_stuck said rest reason (fails x r n f) value more next pass =
      let same = law.determined said rest value x more r next n in
      pass_not_fail ((g.due said).checks x) reason (subst (λ (v : (g.due said).Value). Pass ((g.due said).checks v)) same.0 pass) f

  ended_stuck : (said : g.Said) (rest : List ℕ) → g.Ended said rest → Stuck said rest
  ended_stuck said rest e value more next pass = law.ended_none said rest e value more next

  leads_determined : {said one two : g.Said} {rest left gone : List ℕ} → Leads g said rest one left → Leads g said rest two gone → Stuck one left
      → Stuck two gone → (one ≡ two) × (left ≡ gone)
  leads_determined here here s t = (refl, refl)
  leads_determined here (one_line y n p l) s t = absurd (s y _ n p)
  leads_determined (one_line x n p l) here s t = absurd (t x _ n p)
  leads_determined {said} {one} {two} {rest} {left} {gone} (one_line {more = m} x n p l) (one_line {more = k} y o q j) s t =
      let same = law.determined said rest x y m k n o in
      leads_determined l
      (subst₂ (λ (v : (g.due said).Value) (r : List ℕ). Leads g ((g.due said).then v) r two gone) (sym same.0) (sym same.1) j) s t

  -- ---- two outcomes agree

  reason_determined : (said : g.Said) (rest : List ℕ) (r q : Reason) → Faulty g said rest r → Faulty g said rest q → r ≡ q
  reason_determined said rest r q (other none going) (other none' going') = refl
  reason_determined said rest r q (other none going) (fails x more n f) = absurd (none x more n)
  reason_determined said rest r q (fails x more n f) (other none going) = absurd (none x more n)
  reason_determined said rest r q (fails x more n f) (fails y gone o h) =
      let same = law.determined said rest x y more gone n o in
      fail_determined ((g.due said).checks y) (law.single said y) (subst (λ (v : (g.due said).Value). Fail ((g.due said).checks v) r) same.0 f) h

  pub fault_determined : (text : List ℕ) (e f : Fault) → FirstFault g text e → FirstFault g text f → e ≡ f
  fault_determined text e f p q =
      let same = leads_determined p.before q.before (fault_stuck p.said _ _ p.at_fault) (fault_stuck q.said _ _ q.at_fault) in
      let lines : e.line ≡ f.line = p.number ∙ ap (λ (s : g.Said). suc (g.lines s)) same.0 ∙ sym q.number in
      let reasons : e.reason ≡ f.reason =
      reason_determined q.said _ _ _ (subst₂ (λ (s : g.Said) (rest : List ℕ). Faulty g s rest e.reason) same.0 same.1 p.at_fault) q.at_fault in
      let starts : e.start ≡ f.start =
      omega (arith, p.within, q.within, ap length same.1, length-drop e.start text, length-drop f.start text) in
      let sizes : e.size ≡ f.size = p.part ∙ ap (λ (rest : List ℕ). length (first_line rest)) same.1 ∙ sym q.part in
      λ i. record { line = lines i; reason = reasons i; start = starts i; size = sizes i }

  -- two whole readings say the same
  pub whole_determined : (text : List ℕ) (v w : Whole g text) → v.said ≡ w.said
  whole_determined text v w =
      (leads_determined v.leads w.leads (ended_stuck v.said v.left v.ended) (ended_stuck w.said w.left w.ended)).0

  -- never both
  pub whole_no_fault : (text : List ℕ) (f : Fault) → Whole g text → ¬ FirstFault g text f
  whole_no_fault text f w p =
      let same = leads_determined w.leads p.before (ended_stuck w.said w.left w.ended) (fault_stuck p.said _ _ p.at_fault) in
      not_both p.said _ _ p.at_fault (subst₂ g.Ended same.0 same.1 w.ended)
    where
      not_both : (said : g.Said) (rest : List ℕ) (reason : Reason) → Faulty g said rest reason → ¬ (g.Ended said rest)
      not_both said rest reason (other none going) e = going e
      not_both said rest reason (fails x more n h) e = law.ended_none said rest e x more n

  -- ---- always one

  outcome_from : (most : ℕ) (text : List ℕ) (at : ℕ) (said : g.Said) → length text - at < most → Stands g text at said → Outcome g text
  outcome_from zero text at said h s = absurd (omega arith)
  outcome_from (suc most) text at said h s =
      by_line (λ value place past on. outcome_from most text place ((g.due said).then value) (omega (arith, on.within)) on)
      (law.decided said text at s.within)
    where
      After : Type 0
      After = (value : (g.due said).Value) (place : ℕ) → at < place → Stands g text place ((g.due said).then value) → Outcome g text

      by_check : (value : (g.due said).Value) (place : ℕ) → NextIs (g.due said) (drop at text) value (drop place text) → at < place
          → place ≤ length text → After → PassOrFail ((g.due said).checks value) → Outcome g text
      by_check value place next past within on (passes p) = on value place past (stands_on s value place next within p)
      by_check value place next past within on (fail reason f) = inr (_, stands_fault reason s (fails value (drop place text) next f))

      by_line : After → LineAt (g.due said) text at → Outcome g text
      by_line on (is_due value place next past within) = by_check value place next past within on (law.checked said value)
      by_line on (is_other none) =
          by_cases (law.ended? said (drop at text))
          (λ e. inl (record { said = said; left = drop at text; leads = s.leads; ended = e }))
          (λ going. inr (_, stands_fault Line s (other none going)))

  -- The theorem: whole, or a first fault.
  pub outcome : (text : List ℕ) → Outcome g text
  outcome text = outcome_from (suc (length text)) text 0 g.nothing (omega arith) stands_first
