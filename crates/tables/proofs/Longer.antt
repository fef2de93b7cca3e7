-- The tables of a design are those of the same design with one edge more that stands nowhere.
-- Assumes nothing.
use mathlib.Core.Path.{sym, ap, ◌∙◌}
use mathlib.Core.List.{List}
use Prim.Native.Nat.{ℕ}
use native.Mathlib.Omega.{arith}
use Rattle.rule.specs.Sets.{In}
use Rattle.rule.specs.Legal.{Design}
use Rattle.rule.specs.Forests.{in_forest}
use Rattle.rule.specs.declared.Edge.{Edge}
use Rattle.rule.specs.Books.{plus}
use Rattle.rule.proofs.Tests.{in_one, in_split}
use Rattle.theory.proofs.Groups.Longer.{unplaced_new, phi_old, phi_new, joined_forest, joined_forest_without}
use Rattle.tables.specs.Tables.{slot, Slots, Labels, Ways, Tabled}

module _ (d : Design) (given : Edge) (forest : ℕ → ℕ) (f : ℕ) (h : In 6 f) where
  slots_longer : (edge size : List ℕ) → Slots d forest f edge size → Slots (plus d given) (unplaced_new d forest) f edge size
  unfolding plus
  slots_longer edge size s =
      record {
        most = s.most;
        edge_in = λ j l. let k = s.edge_in j l in (in_one d.m _ k.0, phi_old d given forest (slot edge f j) k.0 ∙ k.1);
        slot_of =
            λ e he q.
            in_split d.m e he (λ k. s.slot_of e k (sym (phi_old d given forest e k) ∙ q))
            (λ z. absurd (omega (arith, h.low, q, phi_new d given forest, ap (unplaced_new d forest) z)));
        once = s.once;
      }

  labels_longer : (root who : List ℕ) → Labels d (in_forest forest f) f root who
      → Labels (plus d given) (in_forest (unplaced_new d forest) f) f root who
  labels_longer root who l =
      record {
        small = l.small;
        same = λ x y hx hy. l.same x y hx hy ∙ sym (joined_forest d given forest f h.low x y);
        bodies = λ x y hx hy. l.bodies x y hx hy ∙ sym (joined_forest d given forest f h.low x y);
      }

  ways_longer : (way edge size : List ℕ) → Ways d forest f way edge size → Ways (plus d given) (unplaced_new d forest) f way edge size
  ways_longer way edge size w =
      record {
        paths =
            λ x y j hx hy l p.
            let k = w.paths x y j hx hy l (sym (joined_forest d given forest f h.low x y) ∙ p) in
            let same = joined_forest_without d given forest f h.low (slot edge f j) x y in
            ((λ q. same ∙ k.0 q), (λ t. k.1 (sym same ∙ t)));
        rest = λ x y j hx hy l p. w.rest x y j hx hy l (sym (joined_forest d given forest f h.low x y) ∙ p);
      }

pub tabled_longer : (d : Design) (given : Edge) (forest : ℕ → ℕ) (root way who edge size : List ℕ) → Tabled d forest root way who edge size
    → Tabled (plus d given) (unplaced_new d forest) root way who edge size
tabled_longer d given forest root way who edge size t =
    record {
      slots = λ f h. slots_longer d given forest f h edge size (t.slots f h);
      labels = λ f h. labels_longer d given forest f h root who (t.labels f h);
      ways = λ f h. ways_longer d given forest f h way edge size (t.ways f h);
    }
