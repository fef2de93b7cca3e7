-- Laws of `joined` and `spans`: an equivalence, the least one that relates the ends of each edge of s; one edge more; one edge
-- turned about another; an edge swapped for one on its path.
--
-- All are read off chains (Chains.antt). From here on nothing speaks of chains: graph reasoning goes by these laws.
-- Assumes nothing.
use mathlib.Core.Path.{◌≡◌, refl, sym, ◌∙◌, subst}
use mathlib.Core.Logic.{◌⊎◌, inl, inr, ⊎_elim}
use Prim.Native.Nat.{ℕ}
use Rattle.rule.specs.Sets.{Is, Set, In, ◌with◌, ◌without◌}
use Rattle.rule.specs.Legal.{Design}
use Rattle.rule.specs.Forests.{Chain}
use Rattle.rule.specs.Forests.Chain.{here, along, back}
use Rattle.rule.proofs.Tests.{same_test, by_eq, with_self, with_old, with_elim, without_old, without_make}
use Rattle.rule.proofs.Counting.{Within}
use Rattle.rule.proofs.Loops.{chain_trans, chain_sym, chain_edge, chain_split}
use Rattle.theory.specs.Joined.{joined, spans}
use Rattle.theory.proofs.Joined.Chains.{joined_chain, chain_joined}

module _ (d : Design) where
  -- ---- the least equivalence

  pub joined_refl : (s : Set) (x : ℕ) → Is (joined d s x x)
  joined_refl s x = chain_joined d s x x (here x)

  pub joined_sym : (s : Set) (x y : ℕ) → Is (joined d s x y) → Is (joined d s y x)
  joined_sym s x y p = chain_joined d s y x (chain_sym d (joined_chain d s x y p))

  pub joined_trans : (s : Set) (x y z : ℕ) → Is (joined d s x y) → Is (joined d s y z) → Is (joined d s x z)
  joined_trans s x y z p q = chain_joined d s x z (chain_trans d (joined_chain d s x y p) (joined_chain d s y z q))

  pub spans_edge : (s : Set) (e : ℕ) → In d.m e → Is (s e) → Is (spans d s e)
  unfolding spans
  spans_edge s e h i = chain_joined d s (d.one e) (d.other e) (chain_edge d e h i)

  -- a relation that is reflexive and transitive, and relates the ends of each edge of s both ways, holds of what s joins
  pub joined_least : (s : Set) (Q : ℕ → ℕ → Type 0) → ((x : ℕ) → Q x x) → ((x y z : ℕ) → Q x y → Q y z → Q x z)
      → ((e : ℕ) → In d.m e → Is (s e) → Q (d.one e) (d.other e) × Q (d.other e) (d.one e)) → (x y : ℕ) → Is (joined d s x y) → Q x y
  joined_least s Q rf tr edge x y p = go (joined_chain d s x y p)
    where
      go : {x y : ℕ} → Chain d s x y → Q x y
      go (here x) = rf x
      go {y = y} (along e h i c) = tr (d.one e) (d.other e) y (edge e h i).0 (go c)
      go {y = y} (back e h i c) = tr (d.other e) (d.one e) y (edge e h i).1 (go c)

  -- bodies that s joins are one, or have what the ends of each edge of s have
  pub joined_both : (s : Set) (P : ℕ → Type 0) → ((e : ℕ) → In d.m e → Is (s e) → P (d.one e) × P (d.other e)) → (x y : ℕ)
      → Is (joined d s x y) → (x ≡ y) ⊎ (P x × P y)
  joined_both s P edge =
      joined_least s (λ x y. (x ≡ y) ⊎ (P x × P y)) (λ x. inl refl) trans
      (λ e h i. (inr (edge e h i), inr ((edge e h i).1, (edge e h i).0)))
    where
      trans : (x y z : ℕ) → (x ≡ y) ⊎ (P x × P y) → (y ≡ z) ⊎ (P y × P z) → (x ≡ z) ⊎ (P x × P z)
      trans x y z (inl p) (inl q) = inl (p ∙ q)
      trans x y z (inl p) (inr q) = inr (subst P (sym p) q.0, q.1)
      trans x y z (inr p) (inl q) = inr (p.0, subst P q p.1)
      trans x y z (inr p) (inr q) = inr (p.0, q.1)

  -- where t joins the ends of each edge of s, it joins what s joins
  pub joined_within : (s t : Set) → ((e : ℕ) → In d.m e → Is (s e) → Is (spans d t e)) → (x y : ℕ) → Is (joined d s x y) → Is (joined d t x y)
  unfolding spans
  joined_within s t f =
      joined_least s (λ x y. Is (joined d t x y)) (joined_refl t) (joined_trans t)
      (λ e h i. (f e h i, joined_sym t (d.one e) (d.other e) (f e h i)))

  pub spans_within : (s t : Set) → ((e : ℕ) → In d.m e → Is (s e) → Is (spans d t e)) → (e : ℕ) → Is (spans d s e) → Is (spans d t e)
  unfolding spans
  spans_within s t f e p = joined_within s t f (d.one e) (d.other e) p

  pub joined_mono : (s t : Set) → Within d.m s t → (x y : ℕ) → Is (joined d s x y) → Is (joined d t x y)
  joined_mono s t f = joined_within s t (λ e h i. spans_edge t e h (f e h i))

  pub spans_mono : (s t : Set) → Within d.m s t → (e : ℕ) → Is (spans d s e) → Is (spans d t e)
  spans_mono s t f = spans_within s t (λ e h i. spans_edge t e h (f e h i))

  -- two sets that join the ends of each other's edges join the same bodies
  pub joined_same : (s t : Set) → ((e : ℕ) → In d.m e → Is (s e) → Is (spans d t e)) → ((e : ℕ) → In d.m e → Is (t e) → Is (spans d s e))
      → (x y : ℕ) → joined d s x y ≡ joined d t x y
  joined_same s t f g x y = same_test (joined d s x y) (joined d t x y) (joined_within s t f x y) (joined_within t s g x y)

  pub joined_agree : (s t : Set) → Within d.m s t → Within d.m t s → (x y : ℕ) → joined d s x y ≡ joined d t x y
  joined_agree s t f g x y = same_test (joined d s x y) (joined d t x y) (joined_mono s t f x y) (joined_mono t s g x y)

  -- ---- one edge more

  -- x to y by way of e, one way or the other
  abbrev pub ByWay : Set → ℕ → ℕ → ℕ → Type 0
  ByWay s e x y = (Is (joined d s x (d.one e)) × Is (joined d s (d.other e) y)) ⊎ (Is (joined d s x (d.other e)) × Is (joined d s (d.one e) y))

  pub joined_split : (s : Set) (e x y : ℕ) → Is (joined d (s with e) x y) → Is (joined d s x y) ⊎ ByWay s e x y
  joined_split s e x y p =
      ⊎_elim (λ c. inl (chain_joined d s x y c))
      (λ o.
      inr
      (⊎_elim (λ w. inl (chain_joined d s _ _ w.0, chain_joined d s _ _ w.1))
      (λ w. inr (chain_joined d s _ _ w.0, chain_joined d s _ _ w.1)) o))
      (chain_split d s e (joined_chain d (s with e) x y p))

  pub spans_split : (s : Set) (e f : ℕ) → Is (spans d (s with e) f) → Is (spans d s f) ⊎ ByWay s e (d.one f) (d.other f)
  unfolding spans
  spans_split s e f p = joined_split s e (d.one f) (d.other f) p

  -- where x and y are joined by way of e, and are joined anyhow, e's ends are joined
  pub turned_at : (s t : Set) (e x y : ℕ) → Within d.m s t → ByWay s e x y → Is (joined d t x y) → Is (spans d t e)
  unfolding spans
  turned_at s t e x y w o p =
      let up : (x y : ℕ) → Is (joined d s x y) → Is (joined d t x y) = joined_mono s t w in
      let tr = joined_trans t in
      let sy = joined_sym t in
      ⊎_elim
      (λ z. tr _ _ _ (sy _ _ (up _ _ z.0)) (tr _ _ _ p (sy _ _ (up _ _ z.1))))
      (λ z. tr _ _ _ (up _ _ z.1) (tr _ _ _ (sy _ _ p) (up _ _ z.0))) o

  -- so where f's ends are joined by way of e, e's are by way of f
  pub turned : (s t : Set) (e f : ℕ) → Within d.m s t → ByWay s e (d.one f) (d.other f) → Is (spans d t f) → Is (spans d t e)
  unfolding spans
  turned s t e f w o p = turned_at s t e (d.one f) (d.other f) w o p

  -- ---- an edge swapped for one on its path

  -- s lies in s without y with y
  pub back_in : (s : Set) (y : ℕ) → Within d.m s (s without y with y)
  back_in s y e h i =
      by_eq e y (λ q. subst (λ (f : ℕ). Is ((s without y with y) f)) (sym q) (with_self (s without y) y))
      (λ ne. with_old (s without y) y e (without_make s y e i ne))

  module _ (s : Set) (x y : ℕ) (hx : In d.m x) (over : Is (spans d s x)) (not : ¬ (Is (spans d (s without y) x))) where
    -- y's ends are joined by way of x
    swap_spans : Is (spans d (s without y with x) y)
    swap_spans =
        ⊎_elim (λ p. absurd (not p))
        (λ o.
        turned (s without y) (s without y with x) y x (λ e _ i. with_old (s without y) x e i) o
        (spans_edge (s without y with x) x hx (with_self (s without y) x)))
        (spans_split (s without y) y x (spans_mono s (s without y with y) (back_in s y) x over))

    pub swap_same : (a b : ℕ) → joined d (s without y with x) a b ≡ joined d s a b
    swap_same =
        joined_same (s without y with x) s
        (λ e h i. ⊎_elim (λ q. subst (λ (f : ℕ). Is (spans d s f)) (sym q) over) (λ o. spans_edge s e h (without_old s y e o)) (with_elim (s without y) x e i))
        (λ e h i.
        by_eq e y (λ q. subst (λ (f : ℕ). Is (spans d (s without y with x) f)) (sym q) swap_spans)
        (λ ne. spans_edge (s without y with x) e h (with_old (s without y) x e (without_make s y e i ne))))
