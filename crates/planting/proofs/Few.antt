-- A loop-free set of edges between bodies 1 to n has at most n - 1 of them, and at most n - 2 where the ends of a further edge are not
-- joined; so of 64 bodies a forest fills at most 63 slots, and at most 62 before an edge is added.
--
-- Only the edges of the set need have their ends among the bodies: the others may be anything, so they are first replaced by loops
-- at body 1, which changes nothing that the set joins (`joined_cut`). Then the number of edges is the rank, which all bodies hold.
-- Assumes nothing.
use mathlib.Core.Path.{◌≡◌, refl, sym, ap, ◌∙◌, subst, subst₂}
use mathlib.Core.Logic.{⊎_elim}
use mathlib.Core.Bool.{Bool, true, cond}
use mathlib.Core.List.{List}
use Prim.Native.Nat.{ℕ, zero, suc, ◌-◌, ◌≤◌, ◌<◌}
use native.Mathlib.Omega.{arith}
use Rattle.rule.specs.Sets.{Is, Set, In, ◌with◌, ◌without◌, count}
use Rattle.rule.specs.Legal.{Design, Ends}
use Rattle.rule.specs.Forests.{in_forest}
use Rattle.rule.proofs.Tests.{cases, same_test, is_false, with_elim, without_old, without_make}
use Rattle.rule.proofs.Counting.{Within, count_all, count_with, count_without}
use Rattle.theory.specs.Joined.{joined, spans}
use Rattle.theory.proofs.Joined.Laws.{joined_refl, joined_sym, joined_trans, joined_least, spans_edge}
use Rattle.theory.proofs.Joined.Acyclic.{Acyclic, acyclic_add}
use Rattle.theory.proofs.Rank.Laws.{rank_acyclic}
use Rattle.theory.proofs.Rank.Held.{rank_held}
use Rattle.theory.proofs.Legal.Kept.{forest_make}
use Rattle.tables.specs.Tables.{slot, filled, Slots}

-- edge e lies between bodies of the design
abbrev pub Within-bodies : Design → ℕ → Type 0
Within-bodies d e = In d.n (d.one e) × In d.n (d.other e)

-- ---- the other edges are replaced

-- the end of an edge of s, and 1 for any other edge
end : Set → (ℕ → ℕ) → ℕ → ℕ
end s ends e = cond (s e) (ends e) 1

cut : Design → Set → Design
cut d s = record { a = d.a; b = d.b; n = d.n; m = d.m; one = end s d.one; other = end s d.other; red = d.red }

end_in : (s : Set) (ends : ℕ → ℕ) (e : ℕ) → Is (s e) → end s ends e ≡ ends e
unfolding end
end_in s ends e h = ap (λ (b : Bool). cond b (ends e) 1) h

end_range : (s : Set) (ends : ℕ → ℕ) (n e : ℕ) → 1 ≤ n → (Is (s e) → In n (ends e)) → In n (end s ends e)
unfolding end
end_range s ends n e l f =
    cases (s e) (λ h. subst (λ (b : Bool). In n (cond b (ends e) 1)) (sym h) (f h))
    (λ h. subst (λ (b : Bool). In n (cond b (ends e) 1)) (sym (is_false (s e) h)) (omega arith))

module _ (d : Design) (s : Set) where
  joined_cut : (t : Set) → Within d.m t s → (x y : ℕ) → joined (cut d s) t x y ≡ joined d t x y
  unfolding cut spans
  joined_cut t w x y =
      same_test _ _
      (joined_least (cut d s) t (λ x y. Is (joined d t x y)) (joined_refl d t) (joined_trans d t)
      (λ e h i.
      let k : Is (joined d t (end s d.one e) (end s d.other e)) =
      subst₂ (λ (x y : ℕ). Is (joined d t x y)) (sym (end_in s d.one e (w e h i))) (sym (end_in s d.other e (w e h i))) (spans_edge d t e h i) in
      (k, joined_sym d t _ _ k)) x y)
      (joined_least d t (λ x y. Is (joined (cut d s) t x y)) (joined_refl (cut d s) t) (joined_trans (cut d s) t)
      (λ e h i.
      let k : Is (joined (cut d s) t (d.one e) (d.other e)) =
      subst₂ (λ (x y : ℕ). Is (joined (cut d s) t x y)) (end_in s d.one e (w e h i)) (end_in s d.other e (w e h i)) (spans_edge (cut d s) t e h i) in
      (k, joined_sym (cut d s) t _ _ k)) x y)

  acyclic_cut : Acyclic d s → Acyclic (cut d s) s
  unfolding Acyclic cut spans
  acyclic_cut ac e h i p =
      ac e h i
      (subst₂ (λ (x y : ℕ). Is (joined d (s without e) x y)) (end_in s d.one e i) (end_in s d.other e i)
      (sym (joined_cut (s without e) (λ f _ k. without_old s e f k) _ _) ∙ p))

  -- ---- how many

  module _ (some_body : 1 ≤ d.n) (held : (e : ℕ) → In d.m e → Is (s e) → Within-bodies d e) where
    ends_cut : Ends (cut d s)
    unfolding cut
    ends_cut =
        record {
          one = λ e h. end_range s d.one d.n e some_body (λ i. (held e h i).0);
          other = λ e h. end_range s d.other d.n e some_body (λ i. (held e h i).1);
        }

    pub few : Acyclic d s → count s d.m ≤ d.n - 1
    unfolding cut
    few ac =
        let all : count (λ _. true) d.n ≡ d.n = count_all (λ _. true) d.n (λ i _. refl) in
        omega (
          arith,
          all,
          rank_acyclic (cut d s) ends_cut s (acyclic_cut ac),
          rank_held (cut d s) s (λ _. true) (λ e _ _. (refl, refl)) (omega arith),
        )

pub fewer : (d : Design) (s : Set) (e : ℕ) → 1 ≤ d.n → ((e : ℕ) → In d.m e → Is (s e) → Within-bodies d e) → Acyclic d s → In d.m e
    → Within-bodies d e → ¬ (Is (spans d s e)) → suc (count s d.m) ≤ d.n - 1
fewer d s e l held ac he ends apart =
    omega (
      arith,
      count_with s d.m e he (λ i. apart (spans_edge d s e he i)),
      few d (s with e) l
          (λ f hf i. ⊎_elim (λ q. subst (Within-bodies d) (sym q) ends) (λ o. held f hf o) (with_elim s e f i))
          (acyclic_add d s e apart ac),
    )

-- ---- slots

-- k different edges of s are at most as many as s has
pub different_few : (k : ℕ) (g : ℕ → ℕ) (s : Set) (m : ℕ) → ((j : ℕ) → j < k → In m (g j) × Is (s (g j)))
    → ((i j : ℕ) → i < k → j < k → g i ≡ g j → i ≡ j) → k ≤ count s m
different_few zero g s m inside once = omega arith
different_few (suc k) g s m inside once =
    let last = inside k (omega arith) in
    omega (
      arith,
      count_without s m (g k) last.0 last.1,
      different_few k g (s without g k) m
          (λ j l.
          let h = inside j (omega arith) in
          (h.0, without_make s (g k) (g j) h.1 (λ q. omega (arith, once j k (omega arith) (omega arith) q))))
          (λ i j li lj q. once i j (omega arith) (omega arith) q),
    )

pub filled_count : (d : Design) (forest : ℕ → ℕ) (f : ℕ) (edge size : List ℕ) → Slots d forest f edge size
    → filled size f ≤ count (in_forest forest f) d.m
filled_count d forest f edge size s =
    different_few (filled size f) (slot edge f) (in_forest forest f) d.m
    (λ j l. ((s.edge_in j l).0, forest_make forest f (slot edge f j) (s.edge_in j l).1)) s.once

-- there is room for an edge whose ends forest f does not join
pub room_left : (d : Design) (forest : ℕ → ℕ) (f e : ℕ) (edge size : List ℕ) → Slots d forest f edge size → In 64 d.n
    → ((e : ℕ) → In d.m e → Is (in_forest forest f e) → Within-bodies d e) → Acyclic d (in_forest forest f) → In d.m e → Within-bodies d e
    → ¬ (Is (spans d (in_forest forest f) e)) → filled size f ≤ 62
room_left d forest f e edge size s bodies held ac he ends apart =
    omega (
      arith,
      filled_count d forest f edge size s,
      fewer d (in_forest forest f) e bodies.low held ac he ends apart,
    )
