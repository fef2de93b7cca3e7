-- A test that decides whether a row holds (specs/Holds.antt), whatever the row: its parts are decided by proofs/LegalTest.antt and
-- proofs/GroupTest.antt once every offer is known to join two bodies of 1 to n, which is tested first. That the kept edges are grown
-- needs no test of its own: the outcomes of all offers say it together.
--
-- In order: verdicts; the ends of an edge, and the outcome of an offer; a row; all rows.
-- Assumes nothing.
use mathlib.Core.Path.{◌≡◌, refl, sym, ap, ◌∙◌}
use mathlib.Core.Logic.{◌↔◌}
use mathlib.Core.Bool.{Bool, true}
use mathlib.Core.List.{List, [], ◌∷◌}
use Prim.Native.Nat.{ℕ}
use lib.ListN.{get_or}
use Rattle.rule.specs.declared.Verdict.{Verdict}
use Rattle.rule.specs.declared.Verdict.TheVariants.{Tight, Loose, OverTight, OverLoose}
use Rattle.rule.specs.Sets.{Is, ◌and◌, isnt, ◌=?◌, Set, In, ◌with◌, below}
use Rattle.rule.specs.Legal.{Design, Ends, Keeps}
use Rattle.rule.specs.Figures.{freedom, dropped, verdict}
use Rattle.rule.proofs.Tests.{never, eq_of, eq_is}
use Rattle.known.specs.Rows.{RowOutcome, Row}
use Rattle.known.specs.Rows.RowOutcome.{kept, implied}
use Rattle.known.specs.Holds.{offer, row_design, is_kept, row_kept, Joins, HasOutcome, RowHolds, AllHold}
use Rattle.known.proofs.Decides.{Decides, reworded, and_decides, not_decides, eq_decides, in?, in_decides, each?, each_decides}
use Rattle.known.proofs.LegalTest.{legal?, legal_decides, circuit?, circuit_decides}
use Rattle.known.proofs.GroupTest.{groups?, groups_decides}

-- ---- verdicts

-- their order in document 01
abbrev pub number : Verdict → ℕ
number Tight = 0
number Loose = 1
number OverTight = 2
number OverLoose = 3

verdict_at : ℕ → Verdict
verdict_at i = get_or (Tight ∷ Loose ∷ OverTight ∷ []) i OverLoose

at_number : (v : Verdict) → verdict_at (number v) ≡ v
unfolding verdict_at
at_number Tight = refl
at_number Loose = refl
at_number OverTight = refl
at_number OverLoose = refl

verdict_decides : (v w : Verdict) → Decides (number v =? number w) (v ≡ w)
verdict_decides v w = (λ h. sym (at_number v) ∙ ap verdict_at (eq_of _ _ h) ∙ at_number w, λ e. eq_is _ _ (ap number e))

-- ---- the ends of an edge, and the outcome of an offer

unfoldable pub joins? : Design → ℕ → Bool
joins? d e = in? d.n (d.one e) and (in? d.n (d.other e) and isnt (d.one e =? d.other e))

joins_decides : (d : Design) (e : ℕ) → Decides (joins? d e) (Joins d e)
unfolding joins?
joins_decides d e =
    reworded
    (and_decides (in_decides d.n (d.one e)) (λ _. and_decides (in_decides d.n (d.other e)) (λ _. not_decides (eq_decides _ _))))
    (λ z. record { one = z.0; other = z.1.0; different = z.1.1 })
    (λ z. (z.one, (z.other, z.different)))

ends_of : (d : Design) → ((e : ℕ) → In d.m e → Joins d e) → Ends d
ends_of d joins = record { one = λ e h. (joins e h).one; other = λ e h. (joins e h).other }

unfoldable pub outcome? : (d : Design) (before : Set) (e : ℕ) → RowOutcome → Bool
outcome? d before e kept = legal? d (before with e)
outcome? d before e (implied circuit) = isnt (legal? d (before with e)) and circuit? d before e circuit

outcome_decides : (d : Design) → Ends d → (before : Set) (e : ℕ) (outcome : RowOutcome)
    → Decides (outcome? d before e outcome) (HasOutcome d before e outcome)
unfolding outcome?
outcome_decides d ends before e kept = legal_decides d ends (before with e)
outcome_decides d ends before e (implied circuit) =
    and_decides (not_decides (legal_decides d ends (before with e))) (λ _. circuit_decides d ends before e circuit)

-- an outcome says whether the edge is kept
outcome_keeps : (d : Design) (before : Set) (e : ℕ) (outcome : RowOutcome) → HasOutcome d before e outcome
    → (Is (is_kept outcome) ↔ Keeps d before e)
outcome_keeps d before e kept h = (λ _. h, λ _. refl)
outcome_keeps d before e (implied circuit) h = (λ t. never t, λ keeps. absurd (h.0 keeps))

-- ---- a row

module _ (row : Row) where
  abbrev design : Design
  design = row_design row

  -- offer e has its outcome with the edges kept before it
  unfoldable pub offer_holds? : ℕ → Bool
  offer_holds? e = outcome? design (below (row_kept row) e) e (offer row e).outcome

  abbrev OfferHolds : ℕ → Type 0
  OfferHolds e = HasOutcome design (below (row_kept row) e) e (offer row e).outcome

  offer_decides : Ends design → (e : ℕ) → Decides (offer_holds? e) (OfferHolds e)
  unfolding offer_holds?
  offer_decides ends e = outcome_decides design ends (below (row_kept row) e) e (offer row e).outcome

  offer_grows : (e : ℕ) → OfferHolds e → (Is (row_kept row e) ↔ Keeps design (below (row_kept row) e) e)
  unfolding row_kept
  offer_grows e = outcome_keeps design (below (row_kept row) e) e (offer row e).outcome

  unfoldable pub holds? : Bool
  holds? =
      each? (joins? design) design.m
      and (each? offer_holds? design.m
      and (freedom design (row_kept row) =? row.free
      and (dropped design (row_kept row) =? row.dropped
      and (number (verdict design (row_kept row)) =? number row.verdict
      and groups? design (row_kept row) row.groups))))

  pub holds_decides : Decides holds? (RowHolds row)
  unfolding holds?
  holds_decides =
      reworded
      (and_decides (each_decides _ (Joins design) design.m (λ e _. joins_decides design e))
      (λ joins.
      and_decides (each_decides _ OfferHolds design.m (λ e _. offer_decides (ends_of design joins) e))
      (λ _.
      and_decides (eq_decides (freedom design (row_kept row)) row.free)
      (λ _.
      and_decides (eq_decides (dropped design (row_kept row)) row.dropped)
      (λ _.
      and_decides (verdict_decides (verdict design (row_kept row)) row.verdict)
      (λ _. groups_decides design (ends_of design joins) (row_kept row) row.groups))))))
      (λ z.
      record {
        joins = z.0;
        grown = λ e h. offer_grows e (z.1.0 e h);
        outcomes = z.1.0;
        free = z.1.1.0;
        drops = z.1.1.1.0;
        judged = z.1.1.1.1.0;
        grouped = z.1.1.1.1.1;
      })
      (λ z. (z.joins, (z.outcomes, (z.free, (z.drops, (z.judged, z.grouped))))))

-- ---- all rows

unfoldable pub all_hold? : List Row → Bool
all_hold? [] = true
all_hold? (row ∷ rest) = holds? row and all_hold? rest

pub all_hold_decides : (rows : List Row) → Decides (all_hold? rows) (AllHold rows)
unfolding all_hold?
all_hold_decides [] = (λ _. tt, λ _. refl)
all_hold_decides (row ∷ rest) = and_decides (holds_decides row) (λ _. all_hold_decides rest)
