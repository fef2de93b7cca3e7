-- Rigid groups: two bodies share one exactly when the greatest set closed with limit k for every edge joins them in each of the k
-- forests. So sharing a group is an equivalence.
--
-- A set w with exactly k·(size−1) kept edges inside: no forest has more than size−1 of them, so each has just that many and joins all of
-- w. Hence those edges are closed with limit k, and lie in the greatest such set. The other way, let w be the bodies that set joins
-- to u. In each forest its edges join all of w, so there are at least k·(size−1) of them inside w, and kept edges are legal.
-- Assumes nothing.
use mathlib.Core.Path.{◌≡◌, sym, subst}
use mathlib.Core.Logic.{inr, ⊎_elim, ◌↔◌}
use Prim.Native.Nat.{ℕ, zero, suc, ◌*◌, ◌-◌, ◌≤◌}
use native.Mathlib.Nat.{le_antisymm, suc-mul}
use native.Mathlib.Omega.{arith}
use Rattle.rule.specs.Sets.{Is, Set, In, count}
use Rattle.rule.specs.Legal.{Design, Ends, k, inside}
use Rattle.rule.specs.Forests.{kept_in, Arranged}
use Rattle.rule.specs.Figures.{Share, InGroup}
use Rattle.rule.proofs.Tests.{in_one, in_split}
use Rattle.rule.proofs.Counting.{Within, count_mono, count_pos}
use Rattle.rule.proofs.Legality.{inside_make, inside_in, inside_one, inside_other, inside_mono, legal_inside}
use Rattle.theory.specs.Numbers.{sum}
use Rattle.theory.specs.Joined.{joined, spans}
use Rattle.theory.specs.Rank.{rank}
use Rattle.theory.specs.Closed.{standing}
use Rattle.theory.specs.Groups.{joined_in_all, rigid_core}
use Rattle.theory.proofs.Numbers.Smallest.{every_make, every_at}
use Rattle.theory.proofs.Numbers.Sums.{sum_mono, sum_const}
use Rattle.theory.proofs.Joined.Laws.{joined_refl, joined_sym, joined_trans, joined_mono, joined_within, joined_least, spans_edge}
use Rattle.theory.proofs.Rank.Held.{rank_held, held_joined, joined_full}
use Rattle.theory.proofs.Legal.Forests.{forests_legal}
use Rattle.theory.proofs.Closed.Laws.{standing_make, standing_in, standing_forest, covers_make, covers_at, greatest_kept, greatest_closed, greatest_holds}
use Rattle.theory.proofs.Closed.Count.{standing_count}

-- numbers that are at most c each and add up to n·c are c each
sum_of_most : (f : ℕ → ℕ) (c n : ℕ) → ((i : ℕ) → In n i → f i ≤ c) → n * c ≤ sum f n → (i : ℕ) → In n i → c ≤ f i
unfolding sum
sum_of_most f c zero most total i h = absurd (omega arith)
sum_of_most f c (suc n) most total i h =
    let below : sum f n ≤ n * c = omega (arith, sum_mono f (λ _. c) n (λ j k. most j (in_one n j k)), sum_const c n) in
    in_split n i h
    (λ k. sum_of_most f c n (λ j r. most j (in_one n j r)) (omega (arith, most (suc n) (omega arith), suc-mul n c)) i k)
    (λ q. subst (λ (z : ℕ). c ≤ f z) (sym q) (omega (arith, suc-mul n c)))

-- ---- joined in all of the forests

module _ (d : Design) (forest : ℕ → ℕ) where
  pub in_all_at : (c : Set) (j u v i : ℕ) → Is (joined_in_all d forest c j u v) → In j i → Is (joined d (standing forest c i) u v)
  unfolding joined_in_all
  in_all_at c j u v i h r = every_at _ j i r h

  pub in_all_make : (c : Set) (j u v : ℕ) → ((i : ℕ) → In j i → Is (joined d (standing forest c i) u v)) → Is (joined_in_all d forest c j u v)
  unfolding joined_in_all
  in_all_make c j u v f = every_make _ j f

  -- it is an equivalence, whatever the set
  pub in_all_refl : (c : Set) (j u : ℕ) → Is (joined_in_all d forest c j u u)
  in_all_refl c j u = in_all_make c j u u (λ i r. joined_refl d (standing forest c i) u)

  pub in_all_sym : (c : Set) (j u v : ℕ) → Is (joined_in_all d forest c j u v) → Is (joined_in_all d forest c j v u)
  in_all_sym c j u v h = in_all_make c j v u (λ i r. joined_sym d (standing forest c i) u v (in_all_at c j u v i h r))

  pub in_all_trans : (c : Set) (j u v w : ℕ) → Is (joined_in_all d forest c j u v) → Is (joined_in_all d forest c j v w) → Is (joined_in_all d forest c j u w)
  in_all_trans c j u v w h g =
      in_all_make c j u w (λ i r. joined_trans d (standing forest c i) u v w (in_all_at c j u v i h r) (in_all_at c j v w i g r))

-- ---- rigid groups

module _ (d : Design) (ends : Ends d) (forest : ℕ → ℕ) (arr : Arranged d forest) where
  -- ---- a set of bodies that holds as many kept edges as it can

  module _ (w : Set) (some_body : 1 ≤ count w d.n) (exact : count (inside d (kept_in d forest) w) d.m ≡ k d * (count w d.n - 1)) where
    abbrev edges : Set
    edges = inside d (kept_in d forest) w

    held : (i e : ℕ) → In d.m e → Is (standing forest edges i e) → Is (w (d.one e)) × Is (w (d.other e))
    held i e h t =
        let o = standing_in forest edges i e t in
        (inside_one d (kept_in d forest) w e o, inside_other d (kept_in d forest) w e o)

    -- each forest joins all of w
    all_joined : (i : ℕ) → In (k d) i → (x y : ℕ) → In d.n x → In d.n y → Is (w x) → Is (w y) → Is (joined d (standing forest edges i) x y)
    all_joined i r =
        held_joined d (standing forest edges i) w (held i) some_body
        (sum_of_most (λ i. rank d (standing forest edges i)) (count w d.n - 1) (k d)
        (λ j _. rank_held d (standing forest edges j) w (held j) some_body)
        (omega (arith, exact, standing_count d ends forest arr edges (λ e _ t. inside_in d (kept_in d forest) w e t))) i r)

    -- so they are closed
    in_core : Within d.m edges (rigid_core d forest)
    unfolding rigid_core spans
    in_core =
        greatest_holds d forest (λ _. k d) edges (λ e _ t. inside_in d (kept_in d forest) w e t)
        (λ e h t. covers_make d forest (λ _. k d) edges e (λ i r. spanned e h t i r))
      where
        spanned : (e : ℕ) → In d.m e → Is (edges e) → (i : ℕ) → In (k d) i → Is (spans d (standing forest edges i) e)
        spanned e h t i r =
            all_joined i r (d.one e) (d.other e) (ends.one e h) (ends.other e h) (inside_one d (kept_in d forest) w e t)
            (inside_other d (kept_in d forest) w e t)

  pub share_joined : (u v : ℕ) → In d.n u → In d.n v → Share d (kept_in d forest) u v → Is (joined_in_all d forest (rigid_core d forest) (k d) u v)
  share_joined u v hu hv s =
      let w = s.bodies in
      let some_body = count_pos w d.n u hu s.holds_one in
      in_all_make d forest (rigid_core d forest) (k d) u v
      (λ i r.
      joined_mono d (standing forest (inside d (kept_in d forest) w) i) (standing forest (rigid_core d forest) i)
      (λ e h t.
      standing_make forest (rigid_core d forest) i e (in_core w some_body s.exact e h (standing_in forest _ i e t)) (standing_forest forest (inside d (kept_in d forest) w) i e t))
      u v
      (all_joined w some_body s.exact i r u v hu hv s.holds_one s.holds_other))

  -- ---- the bodies that the greatest closed set joins to u

  module _ (u : ℕ) (hu : In d.n u) where
    abbrev near : Set
    near = λ x. joined d (rigid_core d forest) u x

    -- its edges inside
    abbrev inner : Set
    inner = inside d (rigid_core d forest) near

    -- in each forest they join all of these bodies: an edge that starts there ends there
    near_joined : (i : ℕ) → In (k d) i → (x y : ℕ) → Is (near x) → Is (near y) → Is (joined d (standing forest inner i) x y)
    unfolding rigid_core spans
    near_joined i r x y nx ny =
        (joined_least d (standing forest (rigid_core d forest) i) (λ x y. Is (near x) → Is (near y) × Is (joined d (standing forest inner i) x y))
        (λ x n. (n, joined_refl d (standing forest inner i) x))
        (λ x y z f g n.
        let a = f n in
        let b = g a.0 in
        (b.0, joined_trans d (standing forest inner i) x y z a.1 b.1))
        step x y
        (joined_within d (rigid_core d forest) (standing forest (rigid_core d forest) i)
        (λ e h t. covers_at d forest (λ _. k d) (rigid_core d forest) e i (greatest_closed d forest (λ _. k d) e h t) r) x y
        (joined_trans d (rigid_core d forest) x u y (joined_sym d (rigid_core d forest) u x nx) ny))
        nx).1
      where
        step : (e : ℕ) → In d.m e → Is (standing forest (rigid_core d forest) i e)
            → (Is (near (d.one e)) → Is (near (d.other e)) × Is (joined d (standing forest inner i) (d.one e) (d.other e)))
            × (Is (near (d.other e)) → Is (near (d.one e)) × Is (joined d (standing forest inner i) (d.other e) (d.one e)))
        step e h t =
            let c = standing_in forest (rigid_core d forest) i e t in
            let across : Is (joined d (rigid_core d forest) (d.one e) (d.other e)) = spans_edge d (rigid_core d forest) e h c in
            let back = joined_sym d (rigid_core d forest) (d.one e) (d.other e) across in
            let inside_it : Is (near (d.one e)) → Is (near (d.other e)) → Is (joined d (standing forest inner i) (d.one e) (d.other e)) =
            λ p q. spans_edge d (standing forest inner i) e h (standing_make forest inner i e (inside_make d (rigid_core d forest) near e c p q) (standing_forest forest (rigid_core d forest) i e t)) in (
              (λ p. let q = joined_trans d (rigid_core d forest) u (d.one e) (d.other e) p across in (q, inside_it p q)),
              (λ q.
                  let p = joined_trans d (rigid_core d forest) u (d.other e) (d.one e) q back in
                  (p, joined_sym d (standing forest inner i) (d.one e) (d.other e) (inside_it p q))),
            )

    inner_kept : Within d.m inner (kept_in d forest)
    unfolding rigid_core
    inner_kept e h t = greatest_kept d forest (λ _. k d) e (inside_in d (rigid_core d forest) near e t)

    some_near : 1 ≤ count near d.n
    some_near = count_pos near d.n u hu (joined_refl d (rigid_core d forest) u)

    enough : k d * (count near d.n - 1) ≤ count inner d.m
    enough =
        omega (
          arith,
          standing_count d ends forest arr inner inner_kept,
          sum_const (count near d.n - 1) (k d),
          sum_mono (λ _. count near d.n - 1) (λ i. rank d (standing forest inner i)) (k d)
              (λ i r.
              joined_full d (standing forest inner i) near
              (λ e h t.
              let o = standing_in forest inner i e t in
              (inside_one d (rigid_core d forest) near e o, inside_other d (rigid_core d forest) near e o))
              some_near (λ x y _ _ nx ny. near_joined i r x y nx ny)),
        )

    near_exact : count (inside d (kept_in d forest) near) d.m ≡ k d * (count near d.n - 1)
    unfolding rigid_core
    near_exact =
        le_antisymm (legal_inside d (kept_in d forest) near (forests_legal d ends forest arr) some_near)
        (omega (
          arith,
          enough,
          count_mono inner (inside d (kept_in d forest) near) d.m
              (inside_mono d (rigid_core d forest) (kept_in d forest) near (λ e _ t. greatest_kept d forest (λ _. k d) e t)),
        ))

  pub joined_share : (u v : ℕ) → In d.n u → 1 ≤ k d → Is (joined_in_all d forest (rigid_core d forest) (k d) u v) → Share d (kept_in d forest) u v
  joined_share u v hu l h =
      record {
        bodies = near u hu;
        holds_one = joined_refl d (rigid_core d forest) u;
        holds_other =
            joined_mono d (standing forest (rigid_core d forest) 1) (rigid_core d forest) (λ e _ t. standing_in forest (rigid_core d forest) 1 e t) u v
            (in_all_at d forest (rigid_core d forest) (k d) u v 1 h (omega arith));
        exact = near_exact u hu;
      }

  -- ---- the group of a body

  pub group_iff : (u v : ℕ) → In d.n u → In d.n v → 1 ≤ k d
      → (InGroup d (kept_in d forest) u v ↔ Is (joined_in_all d forest (rigid_core d forest) (k d) u v))
  group_iff u v hu hv l = (
    ⊎_elim
        (λ q. in_all_make d forest (rigid_core d forest) (k d) u v (λ i r. subst (λ (z : ℕ). Is (joined d (standing forest (rigid_core d forest) i) u z)) (sym q) (joined_refl d (standing forest (rigid_core d forest) i) u)))
        (λ s. share_joined u v hu hv s),
    (λ h. inr (joined_share u v hu l h)),
  )
