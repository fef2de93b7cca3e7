-- Checks one after the other, and check 8 by the scan.
--
-- In order: a list of checks and more checks behind it; what the scan says of the book; the checks of an edge.
-- Assumes nothing.
use mathlib.Core.Path.{◌≡◌, refl}
use mathlib.Core.Logic.{inl, inr}
use mathlib.Core.List.{List, [], ◌∷◌, ◌++◌}
use Rattle.std.specs.Prelude.{Some, None, Result, Ok, Err}
use Prim.Native.Nat.{ℕ, zero, suc, ◌≤◌, ◌<◌}
use native.Mathlib.Omega.{arith}
use Rattle.rule.specs.declared.Book.{Book}
use Rattle.rule.specs.declared.Reason.{Reason}
use Rattle.rule.specs.declared.Reason.TheVariants.{Unsound}
use Rattle.rule.specs.Books.{HeadRule, Obeys, Sound, FirstBad}
use Rattle.rule.specs.Reasons.{Check, Pass, Fail, book_checks}
use Rattle.rule.proofs.Determined.{first_bad_unsound}
use Rattle.tables.specs.declared.Tables.{Tables}
use Rattle.book.specs.Scan.{Scanned}
use Rattle.book.specs.Checks.{HoldsForests, FoundBy}

-- ---- more checks behind

pass_both : (cs ds : List Check) → Pass cs → Pass ds → Pass (cs ++ ds)
pass_both [] ds p q = q
pass_both (c ∷ cs) ds p q = (p.0, pass_both cs ds p.1 q)

fail_first : (cs ds : List Check) (r : Reason) → Fail cs r → Fail (cs ++ ds) r
fail_first [] ds r f = absurd f
fail_first (c ∷ cs) ds r (inl x) = inl x
fail_first (c ∷ cs) ds r (inr x) = inr (x.0, fail_first cs ds r x.1)

fail_later : (cs ds : List Check) (r : Reason) → Pass cs → Fail ds r → Fail (cs ++ ds) r
fail_later [] ds r p f = f
fail_later (c ∷ cs) ds r p f = inr (p.0, fail_later cs ds r p.1 f)

-- what checks answer: nothing to say, or a reason
abbrev Checked : Type 0
Checked = Result Unit Reason

module _ (cs ds : List Check) (more other : Type 0) where
  -- a refusal by the first ones is passed straight out
  pub refused_first : (c : Checked) → ((x : Unit) → c ≡ Ok x → ⊥) → FoundBy cs more c → FoundBy (cs ++ ds) other c
  refused_first (Ok x) not f = absurd (not x refl)
  refused_first (Err r) not f = fail_first cs ds r f

  -- the first ones pass, and the others answer
  pub answered_later : Pass cs × more → (c : Checked) → FoundBy ds other c → FoundBy (cs ++ ds) more c
  answered_later passed (Ok x) g = (pass_both cs ds passed.0 g.0, passed.1)
  answered_later passed (Err r) g = fail_later cs ds r passed.0 g

-- ---- check 8

module _ (B : Book) where
  unsound : (place : ℕ) → FirstBad B place → Fail (book_checks B) (Unsound place)
  unsound place bad = inl (first_bad_unsound bad, refl, bad)

  pub bad_head : ¬ (HeadRule B) → Fail (book_checks B) (Unsound 0)
  unfolding Obeys
  bad_head n = unsound 0 (record { within = omega arith; breaks = n; first = λ p l. absurd (omega arith) })

  module _ (head : HeadRule B) (T : Tables) where
    pub good_book : Scanned B None T → Pass (book_checks B) × HoldsForests B T
    unfolding Sound Obeys
    good_book s = ((obeys, tt), s.1)
      where
        obeys : (place : ℕ) → place ≤ B.count → Obeys B place
        obeys zero l = head
        obeys (suc i) l = s.0 (suc i) (omega arith)

    pub bad_edge : (place : ℕ) → Scanned B (Some place) T → Fail (book_checks B) (Unsound place)
    unfolding Obeys
    bad_edge zero s = absurd (omega (arith, s.0.low))
    bad_edge (suc i) s = unsound (suc i) (record { within = s.0.high; breaks = s.1.0; first = before })
      where
        before : (place : ℕ) → place < suc i → Obeys B place
        before zero l = head
        before (suc j) l = s.1.1 (suc j) (omega arith) l

-- ---- the checks alone

pub found_alone : (cs : List Check) (more : Type 0) (c : Checked) → FoundBy cs more c → FoundBy cs Unit c
found_alone cs more (Ok x) f = (f.0, tt)
found_alone cs more (Err r) f = f
