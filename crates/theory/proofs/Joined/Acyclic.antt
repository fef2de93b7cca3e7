-- Sets of edges with no closed loop, by the test `spans`: no edge's ends are joined by the other edges. It is the same as
-- `Loopless` of document 01.
--
-- In order: the two sayings agree; subsets; one edge more; an edge swapped for one on its path; a path in such a set is one:
-- what two deletions leave joined, both together leave joined (`both_deleted`); so a set that holds the whole path joins its ends
-- (`joined_in_part`, by deleting the others one by one).
-- Assumes nothing.
use mathlib.Core.Path.{◌≡◌, sym, ◌∙◌, subst}
use mathlib.Core.Logic.{◌⊎◌, inl, inr, ⊎_elim, ◌≢◌}
use Prim.Native.Nat.{ℕ, zero, suc}
use native.Mathlib.Omega.{arith}
use Rattle.rule.specs.Sets.{Is, ◌and◌, ◌or◌, isnt, ◌≤?◌, Set, In, ◌with◌, ◌without◌}
use Rattle.rule.specs.Legal.{Design}
use Rattle.rule.specs.Forests.{Loopless}
use Rattle.rule.proofs.Tests.{cases, and_make, and_l, and_r, or_l, or_r, or_elim, isnt_make, isnt_not, le_is, le_of, by_eq, with_self, with_old, with_elim, without_old, without_ne, without_make}
use Rattle.rule.proofs.Counting.{Within}
use Rattle.theory.specs.Joined.{joined, spans}
use Rattle.theory.proofs.Joined.Chains.{joined_chain, chain_joined}
use Rattle.theory.proofs.Joined.Laws.{joined_mono, joined_split, spans_edge, spans_mono, spans_split, turned_at, turned}

-- no edge of s has its ends joined by the others
unfoldable pub Acyclic : Design → Set → Type 0
Acyclic d s = (e : ℕ) → In d.m e → Is (s e) → ¬ (Is (spans d (s without e) e))

module _ (d : Design) where
  pub loopless_acyclic : (s : Set) → Loopless d s → Acyclic d s
  unfolding Loopless Acyclic spans
  loopless_acyclic s l e h i p = l e h i (joined_chain d (s without e) (d.one e) (d.other e) p)

  pub acyclic_loopless : (s : Set) → Acyclic d s → Loopless d s
  unfolding Loopless Acyclic spans
  acyclic_loopless s l e h i c = l e h i (chain_joined d (s without e) (d.one e) (d.other e) c)

  pub without_mono : (s t : Set) (e : ℕ) → Within d.m s t → Within d.m (s without e) (t without e)
  without_mono s t e f i h k = without_make t e i (f i h (without_old s e i k)) (without_ne s e i k)

  pub acyclic_sub : (s t : Set) → Within d.m s t → Acyclic d t → Acyclic d s
  unfolding Acyclic
  acyclic_sub s t f ac e h i p = ac e h (f e h i) (spans_mono d (s without e) (t without e) (without_mono s t e f) e p)

  -- ---- one edge more

  -- s with x without f lies in s without f with x
  with_without : (s : Set) (x f : ℕ) → Within d.m (s with x without f) (s without f with x)
  with_without s x f e h i =
      ⊎_elim (λ q. subst (λ (g : ℕ). Is ((s without f with x) g)) (sym q) (with_self (s without f) x))
      (λ o. with_old (s without f) x e (without_make s f e o (without_ne (s with x) f e i)))
      (with_elim s x e (without_old (s with x) f e i))

  pub acyclic_add : (s : Set) (x : ℕ) → ¬ (Is (spans d s x)) → Acyclic d s → Acyclic d (s with x)
  unfolding Acyclic
  acyclic_add s x not ac f h i p =
      by_eq f x
      (λ q. not (subst (λ (g : ℕ). Is (spans d s g)) q (spans_mono d (s with x without f) s (λ e _ k. only_s q e k) f p)))
      (λ ne.
      let fs : Is (s f) = ⊎_elim (λ q. absurd (ne q)) (λ o. o) (with_elim s x f i) in
      ⊎_elim (λ k. ac f h fs k) (λ o. not (turned d (s without f) s x f (λ e _ k. without_old s f e k) o (spans_edge d s f h fs)))
      (spans_split d (s without f) x f (spans_mono d (s with x without f) (s without f with x) (with_without s x f) f p)))
    where
      only_s : f ≡ x → (e : ℕ) → Is ((s with x without f) e) → Is (s e)
      only_s q e k =
          ⊎_elim (λ r. absurd (without_ne (s with x) f e k (r ∙ sym q))) (λ o. o) (with_elim s x e (without_old (s with x) f e k))

  pub swap_acyclic : (s : Set) (x y : ℕ) → ¬ (Is (spans d (s without y) x)) → Acyclic d s → Acyclic d (s without y with x)
  swap_acyclic s x y not ac = acyclic_add (s without y) x not (acyclic_sub (s without y) s (λ e _ k. without_old s y e k) ac)

  -- ---- one path

  -- where p and q stay joined without z, and without y, they stay joined without both
  pub both_deleted_at : (s : Set) (p q y z : ℕ) → In d.m z → Is (s z) → Acyclic d s → Is (joined d (s without z) p q)
      → Is (joined d (s without y) p q) → Is (joined d (s without z without y) p q)
  unfolding Acyclic
  both_deleted_at s p q y z h i ac a b =
      ⊎_elim (λ k. k)
      (λ o. absurd (ac z h i (turned_at d (s without z without y) (s without z) z p q (λ e _ k. without_old (s without z) y e k) o a)))
      (joined_split d (s without z without y) z p q (joined_mono d (s without y) (s without z without y with z) back p q b))
    where
      back : Within d.m (s without y) (s without z without y with z)
      back e h k =
          by_eq e z (λ r. subst (λ (g : ℕ). Is ((s without z without y with z) g)) (sym r) (with_self (s without z without y) z))
          (λ ne. with_old (s without z without y) z e (without_make (s without z) y e (without_make s z e (without_old s y e k) ne) (without_ne s y e k)))

  -- the same of the ends of x
  pub both_deleted : (s : Set) (x y z : ℕ) → In d.m z → Is (s z) → Acyclic d s → Is (spans d (s without z) x) → Is (spans d (s without y) x)
      → Is (spans d (s without z without y) x)
  unfolding spans
  both_deleted s x y z h i ac p q = both_deleted_at s (d.one x) (d.other x) y z h i ac p q

  -- ---- a set that holds the whole path

  -- of s, those in r and those numbered j and above
  part : Set → Set → ℕ → Set
  part s r j e = s e and (r e or j ≤? e)

  part_in : (s r : Set) (j e : ℕ) → Is (part s r j e) → Is (s e)
  unfolding part
  part_in s r j e h = and_l _ _ h

  part_down : (s r : Set) (j e : ℕ) → Is (part s r (suc j) e) → Is (part s r j e)
  unfolding part
  part_down s r j e h =
      and_make _ _ (and_l _ _ h) (⊎_elim (λ k. or_l _ _ k) (λ k. or_r (r e) _ (le_is j e (omega (arith, le_of (suc j) e k)))) (or_elim _ _ (and_r (s e) _ h)))

  part_up : (s r : Set) (j e : ℕ) → Is (part s r j e) → Is (r e) ⊎ (e ≢ j) → Is (part s r (suc j) e)
  unfolding part
  part_up s r j e h (inl i) = and_make _ _ (and_l _ _ h) (or_l _ _ i)
  part_up s r j e h (inr ne) =
      and_make _ _ (and_l _ _ h)
      (⊎_elim (λ k. or_l _ _ k) (λ k. or_r (r e) _ (le_is (suc j) e (omega (arith, le_of j e k)))) (or_elim _ _ (and_r (s e) _ h)))

  -- nothing that is left and not in r is needed to join the ends of x
  record Left (s r : Set) (x j : ℕ) : Type 0 where
    spanned : Is (spans d (part s r j) x)
    unneeded : (z : ℕ) → In d.m z → Is (part s r j z) → ¬ (Is (r z)) → Is (spans d (part s r j without z) x)

  module _ (s r : Set) (x : ℕ) (ac : Acyclic d s) where
    -- j goes
    left_less : (j : ℕ) → In d.m j → Is (part s r j j) → ¬ (Is (r j)) → Left s r x j → Left s r x (suc j)
    left_less j h i n left =
        record {
          spanned = spans_mono d (part s r j without j) (part s r (suc j)) (λ e _ k. part_up s r j e (without_old (part s r j) j e k) (inr (without_ne (part s r j) j e k))) x (left.unneeded j h i n);
          unneeded =
              λ z hz iz nz.
              spans_mono d (part s r j without j without z) (part s r (suc j) without z)
              (λ e _ k.
              let o = without_old (part s r j without j) z e k in
              without_make (part s r (suc j)) z e (part_up s r j e (without_old (part s r j) j e o) (inr (without_ne (part s r j) j e o)))
              (without_ne (part s r j without j) z e k))
              x
              (both_deleted (part s r j) x z j h i (acyclic_sub (part s r j) s (λ e _ k. part_in s r j e k) ac) (left.unneeded j h i n)
              (left.unneeded z hz (part_down s r j z iz) nz));
        }

    -- nothing goes
    left_same : (j : ℕ) → ((e : ℕ) → In d.m e → Is (part s r j e) → Is (r e) ⊎ (e ≢ j)) → Left s r x j → Left s r x (suc j)
    left_same j stays left =
        record {
          spanned = spans_mono d (part s r j) (part s r (suc j)) (λ e h k. part_up s r j e k (stays e h k)) x left.spanned;
          unneeded =
              λ z hz iz nz.
              spans_mono d (part s r j without z) (part s r (suc j) without z)
              (λ e h k.
              let o = without_old (part s r j) z e k in
              without_make (part s r (suc j)) z e (part_up s r j e o (stays e h o)) (without_ne (part s r j) z e k))
              x
              (left.unneeded z hz (part_down s r j z iz) nz);
        }

    left_step : (j : ℕ) → Left s r x j → Left s r x (suc j)
    left_step j left =
        cases ((1 ≤? j and j ≤? d.m) and (part s r j j and isnt (r j)))
        (λ t.
        let range = and_l _ _ t in
        let rest = and_r (1 ≤? j and j ≤? d.m) _ t in
        left_less j (record { low = le_of _ _ (and_l _ _ range); high = le_of _ _ (and_r (1 ≤? j) _ range) }) (and_l _ _ rest)
        (isnt_not (r j) (and_r (part s r j j) _ rest)) left)
        (λ n.
        left_same j
        (λ e h k.
        by_eq e j
        (λ q.
        cases (r e) (λ i. inl i)
        (λ i.
        absurd
        (n
        (subst (λ (f : ℕ). Is ((1 ≤? f and f ≤? d.m) and (part s r j f and isnt (r f)))) q
        (and_make _ _ (and_make _ _ (le_is _ _ h.low) (le_is _ _ h.high)) (and_make _ _ k (isnt_make (r e) i)))))))
        (λ ne. inr ne))
        left)

    -- s joins the ends of x, and does so without any one edge that is not in r: then those of s that are in r join them
    module _ (spanned : Is (spans d s x)) (whole : (z : ℕ) → In d.m z → Is (s z) → ¬ (Is (r z)) → Is (spans d (s without z) x)) where
      left_all : (j : ℕ) → Left s r x j
      unfolding part
      left_all zero =
          let up : Within d.m s (part s r 0) = λ e h k. and_make _ _ k (or_r (r e) _ (le_is 0 e (omega arith))) in
          record {
            spanned = spans_mono d s (part s r 0) up x spanned;
            unneeded =
                λ z hz iz nz. spans_mono d (s without z) (part s r 0 without z) (without_mono s (part s r 0) z up) x (whole z hz (part_in s r 0 z iz) nz);
          }
      left_all (suc j) = left_step j (left_all j)

      pub joined_in_part : Is (spans d (λ e. s e and r e) x)
      unfolding part
      joined_in_part =
          spans_mono d (part s r (suc d.m)) (λ e. s e and r e)
          (λ e h k.
          and_make _ _ (and_l _ _ k)
          (⊎_elim (λ i. i) (λ l. absurd (omega (arith, le_of (suc d.m) e l, h.high))) (or_elim _ _ (and_r (s e) _ k))))
          x
          (left_all (suc d.m)).spanned
