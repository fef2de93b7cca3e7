-- Groups in context, for request #102: an edge between u and v is implied exactly when the greatest closed set joins u and v in every
-- forest that the edge may stand in: 1 to k for a black one, 1 to a for a red one. Every rigid group lies in one class of each.
--
-- Implied: the search is stuck, and what it reached is a closed set that covers the new edge; it lies in the greatest one. The other
-- way, the greatest closed set covers the new edge, so no legal set holds both. A set closed with limit k for every edge is closed.
-- Assumes nothing.
use mathlib.Core.Path.{◌≡◌, refl, sym, ap, ◌∙◌, subst}
use mathlib.Core.Logic.{◌↔◌, ◌≢◌}
use mathlib.Core.Bool.{Bool, cond}
use Prim.Native.Nat.{ℕ, suc, ◌≤◌}
use native.Mathlib.Omega.{arith}
use Rattle.rule.specs.Sets.{Is, ◌and◌, ◌=?◌, Set, In, ◌with◌, ◌without◌}
use Rattle.rule.specs.Legal.{Design, Ends, k, Legal, Implies}
use Rattle.rule.specs.Forests.{limit, kept_in, Arranged}
use Rattle.rule.specs.Figures.{InGroup}
use Rattle.rule.specs.declared.Edge.{Edge}
use Rattle.rule.specs.Books.{plus}
use Rattle.rule.proofs.Tests.{is_false, and_make, and_l, and_r, eq_of, eq_is, in_one, without_old, without_ne}
use Rattle.rule.proofs.Counting.{Within, with_mono}
use Rattle.theory.specs.Closed.{standing, covers, Closed, greatest}
use Rattle.theory.specs.Groups.{joined_in_all, rigid_core, core}
use Rattle.theory.specs.Search.{Result, search}
use Rattle.theory.specs.Search.Result.{found, going}
use Rattle.theory.proofs.Joined.Laws.{joined_mono}
use Rattle.theory.proofs.Legal.Kept.{kept_most, limit_most}
use Rattle.theory.proofs.Closed.Laws.{standing_make, standing_in, standing_forest, covers_make, covers_at, covers_mono, greatest_kept, greatest_closed, greatest_holds}
use Rattle.theory.proofs.Closed.Count.{closed_none}
use Rattle.theory.proofs.Search.Outcome.{found_kept, stuck_closed, stuck_covered, seen_kept}
use Rattle.theory.proofs.Laws.Plus.{plus_ends, new_red}
use Rattle.theory.proofs.Groups.Share.{in_all_make, in_all_at, group_iff}
use Rattle.theory.proofs.Groups.Longer.{unplaced_new, phi_new, arranged_longer, kept_longer, covers_wide, covers_narrow, spans_last}

module _ (d : Design) (ends : Ends d) (forest : ℕ → ℕ) (arr : Arranged d forest) where
  pub in_all_mono : (c b : Set) → Within d.m c b → (j u v : ℕ) → Is (joined_in_all d forest c j u v) → Is (joined_in_all d forest b j u v)
  in_all_mono c b f j u v h =
      in_all_make d forest b j u v
      (λ i r.
      joined_mono d (standing forest c i) (standing forest b i)
      (λ e he t. standing_make forest b i e (f e he (standing_in forest c i e t)) (standing_forest forest c i e t)) u v
      (in_all_at d forest c j u v i h r))

  pub in_all_fewer : (c : Set) (i j u v : ℕ) → i ≤ j → Is (joined_in_all d forest c j u v) → Is (joined_in_all d forest c i u v)
  in_all_fewer c i j u v l h = in_all_make d forest c i u v (λ z r. in_all_at d forest c j u v z h (omega arith))

  module _ (given : Edge) (hu : In d.n given.one) (hv : In d.n given.other) where
    abbrev wide : Design
    wide = plus d given

    abbrev phi : ℕ → ℕ
    phi = unplaced_new d forest

    wide_ends : Ends (plus d given)
    wide_ends = plus_ends d given ends hu hv

    wide_arr : Arranged (plus d given) (unplaced_new d forest)
    wide_arr = arranged_longer d given forest arr

    new : In (plus d given).m (suc d.m)
    unfolding plus
    new = omega arith

    core_only : (e : ℕ) → Is (core d forest e) → e ≤ d.m
    unfolding core
    core_only e t = kept_most d forest e (greatest_kept d forest (limit d) e t)

    -- where the greatest closed set joins u and v
    joined_implied : Is (joined_in_all d forest (core d forest) (limit wide (suc d.m)) given.one given.other) → Implies wide (kept_in d forest) (suc d.m)
    unfolding core plus
    joined_implied h legal =
        closed_none wide wide_ends phi wide_arr (core d forest) (kept_in d forest with suc d.m) (suc d.m)
        (λ e _ t. subst (λ (s : Set). Is (s e)) (sym (kept_longer d given forest)) (greatest_kept d forest (limit d) e t))
        (λ e he t.
        let old : In d.m e = omega (arith, he.low, core_only e t) in
        covers_wide d given forest (core d forest) core_only e old (greatest_closed d forest (limit d) e old t))
        new
        (λ t. omega (arith, core_only (suc d.m) t))
        (covers_make wide phi (limit wide) (core d forest) (suc d.m)
        (λ i r. spans_last d given forest (core d forest) core_only i ∙ in_all_at d forest (core d forest) (limit wide (suc d.m)) given.one given.other i h r))
        legal
        (with_mono (suc d.m) (core d forest) (kept_in d forest) (suc d.m) (λ e _ t. greatest_kept d forest (limit d) e t))

    -- where the new edge is implied: what the search reached is closed and covers it
    implied_joined : Implies wide (kept_in d forest) (suc d.m) → Is (joined_in_all d forest (core d forest) (limit wide (suc d.m)) given.one given.other)
    unfolding core plus
    implied_joined not = go (search wide phi (suc d.m)) refl
      where
        none : phi (suc d.m) ≡ 0
        none = phi_new d given forest

        kept_same : kept_in wide phi ≡ kept_in d forest
        kept_same = kept_longer d given forest

        go : (q : Result) → search wide phi (suc d.m) ≡ q → Is (joined_in_all d forest (core d forest) (limit wide (suc d.m)) given.one given.other)
        go (found p i w) q =
            absurd (not (subst (λ (s : Set). Legal wide (s with suc d.m)) kept_same (found_kept wide wide_ends phi wide_arr (suc d.m) new none p i w q)))
        go (going w) q =
            in_all_mono seen (core d forest) (greatest_holds d forest (limit d) seen (λ e h t. kept e h t) closed) (limit wide (suc d.m)) given.one given.other
            (in_all_make d forest seen (limit wide (suc d.m)) given.one given.other
            (λ i r.
            sym (spans_last d given forest seen only i)
            ∙ covers_at wide phi (limit wide) seen (suc d.m) i (covers_agree (suc d.m) (stuck_covered wide wide_ends phi wide_arr (suc d.m) new none w q)) r))
          where
            -- what was reached, as far as it is kept
            seen : Set
            seen e = (w.seen without suc d.m) e and kept_in d forest e

            only : (e : ℕ) → Is (seen e) → e ≤ d.m
            only e t = kept_most d forest e (and_r ((w.seen without suc d.m) e) _ t)

            kept : (e : ℕ) → In d.m e → Is (seen e) → Is (kept_in d forest e)
            kept e h t = and_r ((w.seen without suc d.m) e) _ t

            all_kept : Within (suc d.m) (w.seen without suc d.m) seen
            all_kept e h t =
                and_make _ _ t
                (subst (λ (s : Set). Is (s e)) kept_same
                (seen_kept wide wide_ends phi wide_arr (suc d.m) new none w q e h (without_old w.seen (suc d.m) e t) (without_ne w.seen (suc d.m) e t)))

            covers_agree : (e : ℕ) → Is (covers wide phi (limit wide) (w.seen without suc d.m) e) → Is (covers wide phi (limit wide) seen e)
            covers_agree e t = covers_mono wide phi (limit wide) (w.seen without suc d.m) seen all_kept e t

            closed : Closed d forest (limit d) seen
            closed e h t =
                covers_narrow d given forest seen only e h
                (covers_agree e (stuck_closed wide wide_ends phi wide_arr (suc d.m) new none w q e (in_one d.m e h) (and_l _ _ t)))

    pub implied_iff : Implies (plus d given) (kept_in d forest) (suc d.m) ↔ Is (joined_in_all d forest (core d forest) (limit (plus d given) (suc d.m)) given.one given.other)
    implied_iff = (implied_joined, joined_implied)

  -- a black edge is implied exactly when all k forests join its ends, a red one when the first a do
  pub black_implied : (given : Edge) → In d.n given.one → In d.n given.other → given.colour ≢ 1
      → (Implies (plus d given) (kept_in d forest) (suc d.m) ↔ Is (joined_in_all d forest (core d forest) (k d) given.one given.other))
  unfolding limit plus
  black_implied given hu hv ne =
      subst (λ (j : ℕ). Implies (plus d given) (kept_in d forest) (suc d.m) ↔ Is (joined_in_all d forest (core d forest) j given.one given.other))
      (ap (λ (t : Bool). cond t (plus d given).a (k (plus d given))) (new_red d given ∙ is_false (given.colour =? 1) (λ t. ne (eq_of _ _ t))))
      (implied_iff given hu hv)

  pub red_implied : (given : Edge) → In d.n given.one → In d.n given.other → given.colour ≡ 1
      → (Implies (plus d given) (kept_in d forest) (suc d.m) ↔ Is (joined_in_all d forest (core d forest) d.a given.one given.other))
  unfolding limit plus
  red_implied given hu hv red =
      subst (λ (j : ℕ). Implies (plus d given) (kept_in d forest) (suc d.m) ↔ Is (joined_in_all d forest (core d forest) j given.one given.other))
      (ap (λ (t : Bool). cond t (plus d given).a (k (plus d given))) (new_red d given ∙ eq_is given.colour 1 red))
      (implied_iff given hu hv)

  -- ---- every rigid group lies in one class of each

  rigid_core_lem : Within d.m (rigid_core d forest) (core d forest)
  unfolding rigid_core core
  rigid_core_lem =
      greatest_holds d forest (limit d) (greatest d forest (λ _. k d)) (λ e _ t. greatest_kept d forest (λ _. k d) e t)
      (λ e h t.
      covers_make d forest (limit d) (greatest d forest (λ _. k d)) e
      (λ i r. covers_at d forest (λ _. k d) (greatest d forest (λ _. k d)) e i (greatest_closed d forest (λ _. k d) e h t) (omega (arith, limit_most d e))))

  pub group_in_black : (u v : ℕ) → In d.n u → In d.n v → 1 ≤ k d → InGroup d (kept_in d forest) u v → Is (joined_in_all d forest (core d forest) (k d) u v)
  group_in_black u v hu hv l g =
      in_all_mono (rigid_core d forest) (core d forest) rigid_core_lem (k d) u v ((group_iff d ends forest arr u v hu hv l).0 g)

  pub group_in_red : (u v : ℕ) → In d.n u → In d.n v → 1 ≤ k d → InGroup d (kept_in d forest) u v → Is (joined_in_all d forest (core d forest) d.a u v)
  group_in_red u v hu hv l g = in_all_fewer (core d forest) d.a (k d) u v (omega arith) (group_in_black u v hu hv l g)
