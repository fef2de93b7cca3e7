-- The three outcomes of planting an edge (specs/Scan.antt).
-- Assumes nothing.
use mathlib.Core.Path.{◌≡◌, refl, sym, ◌∙◌, subst}
use mathlib.Core.Logic.{◌≢◌}
use mathlib.Core.Bool.{Bool, true, false, false≢true}
use Prim.Native.Nat.{ℕ}
use native.Mathlib.Omega.{arith}
use Rattle.rule.specs.declared.Edge.{Edge}
use Rattle.rule.specs.Sets.{Is, ◌=?◌, In}
use Rattle.rule.specs.Forests.{in_forest}
use Rattle.rule.proofs.Tests.{eq_is, put_id}
use Rattle.theory.specs.Joined.{joined}
use Rattle.tables.specs.declared.Tables.{Tables}
use Rattle.tables.specs.Tables.{label}
use Rattle.tables.specs.Held.{Holds}
use Rattle.planting.specs.Planted.{CanAdd, Adds}
use Rattle.book.specs.Scan.{Plantable, EdgePlanted}

module _ (given : Edge) (forest e : ℕ) (T : Tables) (p : Plantable given forest T) where
  -- an edge with no forest
  pub nowhere : forest ≡ 0 → EdgePlanted given forest e T T true
  nowhere q =
      record {
        tabled =
            λ _ d forests he unplaced one other old. (
              subst (λ (g : ℕ → ℕ). Holds d g T) (sym (put_id forests e forest (unplaced ∙ sym q))) old,
              λ l. absurd (omega arith),
            );
        closes = λ n. absurd (n refl);
      }

  module _ (low : forest ≢ 0) where
    in_range : In 6 forest
    in_range = omega (arith, p.most)

    -- its ends have one label
    pub closing : (r : Bool) → r ≡ (label T.labels.root forest given.one =? label T.labels.root forest given.other) → r ≡ true
        → EdgePlanted given forest e T T false
    closing r says q =
        record {
          tabled = λ h. absurd (false≢true h);
          closes = λ _. (omega arith, λ d forests old. sym ((old.labels forest in_range).same given.one given.other p.one p.other) ∙ sym says ∙ q);
        }

    -- its ends have two labels
    module _ (r : Bool) (says : r ≡ (label T.labels.root forest given.one =? label T.labels.root forest given.other)) (q : r ≡ false) where
      different : label T.labels.root forest given.one ≢ label T.labels.root forest given.other
      different z = false≢true (sym q ∙ says ∙ eq_is _ _ z)

      pub can_add : CanAdd forest given.one given.other T
      can_add =
          record {
            forest = in_range;
            one = p.one;
            other = p.other;
            one_label = p.small (omega arith) given.one p.one;
            other_label = p.small (omega arith) given.other p.other;
            room = p.room (omega arith) different;
          }

      pub planted : (T' : Tables) → Adds forest given.one given.other e T T' → EdgePlanted given forest e T T' true
      planted T' a =
          record {
            tabled =
                λ _ d forests he unplaced one other old.
                let apart : ¬ (Is (joined d (in_forest forests forest) given.one given.other)) =
                λ h. false≢true (sym q ∙ says ∙ (old.labels forest in_range).same given.one given.other p.one p.other ∙ h) in
                (a.tabled d forests he unplaced one other apart old, λ _. apart);
            closes = λ n. absurd (n refl);
          }
