-- The tables tell of the edges 1 to m alone: where two choices of forests agree on these, the tables of the one are those of the other.
-- Assumes nothing.
use mathlib.Core.Path.{◌≡◌, sym, ◌∙◌}
use mathlib.Core.List.{List}
use Prim.Native.Nat.{ℕ}
use Rattle.rule.specs.Sets.{In, ◌without◌}
use Rattle.rule.specs.Legal.{Design}
use Rattle.rule.specs.Forests.{in_forest}
use Rattle.rule.proofs.Counting.{Within}
use Rattle.theory.specs.Joined.{joined}
use Rattle.theory.proofs.Joined.Laws.{joined_agree}
use Rattle.theory.proofs.Joined.Acyclic.{without_mono}
use Rattle.theory.proofs.Legal.Kept.{forest_make, forest_is}
use Rattle.tables.specs.Tables.{slot, Tabled}

module _ (d : Design) (forest other : ℕ → ℕ) (agree : (e : ℕ) → In d.m e → forest e ≡ other e) where
  there : (f : ℕ) → Within d.m (in_forest forest f) (in_forest other f)
  there f e h t = forest_make other f e (sym (agree e h) ∙ forest_is forest f e t)

  back : (f : ℕ) → Within d.m (in_forest other f) (in_forest forest f)
  back f e h t = forest_make forest f e (agree e h ∙ forest_is other f e t)

  same_joined : (f x y : ℕ) → joined d (in_forest forest f) x y ≡ joined d (in_forest other f) x y
  same_joined f = joined_agree d (in_forest forest f) (in_forest other f) (there f) (back f)

  same_without : (f e x y : ℕ) → joined d (in_forest forest f without e) x y ≡ joined d (in_forest other f without e) x y
  same_without f e =
      joined_agree d (in_forest forest f without e) (in_forest other f without e)
      (without_mono d (in_forest forest f) (in_forest other f) e (there f)) (without_mono d (in_forest other f) (in_forest forest f) e (back f))

  pub tabled_agree : (root way who edge size : List ℕ) → Tabled d forest root way who edge size → Tabled d other root way who edge size
  tabled_agree root way who edge size t =
      record {
        slots =
            λ f h.
            let s = t.slots f h in
            record {
              most = s.most;
              edge_in = λ j l. let k = s.edge_in j l in (k.0, sym (agree (slot edge f j) k.0) ∙ k.1);
              slot_of = λ e he q. s.slot_of e he (agree e he ∙ q);
              once = s.once;
            };
        labels =
            λ f h.
            let l = t.labels f h in
            record {
              small = l.small;
              same = λ x y hx hy. l.same x y hx hy ∙ same_joined f x y;
              bodies = λ x y hx hy. l.bodies x y hx hy ∙ same_joined f x y;
            };
        ways =
            λ f h.
            let w = t.ways f h in
            record {
              paths =
                  λ x y j hx hy l p.
                  let k = w.paths x y j hx hy l (same_joined f x y ∙ p) in
                  let same = same_without f (slot edge f j) x y in
                  ((λ q. sym same ∙ k.0 q), (λ h. k.1 (same ∙ h)));
              rest = λ x y j hx hy l p. w.rest x y j hx hy l (same_joined f x y ∙ p);
            };
      }
