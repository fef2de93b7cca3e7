-- Laws of the rank of a set of edges. It depends only on what the set joins; an edge whose ends are not yet joined raises it by
-- one; so it is at most the number of edges, and just that number where there is no closed loop.
-- Assumes nothing.
use mathlib.Core.Path.{◌≡◌, refl, sym, ap, ◌∙◌, fun_ext}
use mathlib.Core.Bool.{Bool}
use Prim.Native.Nat.{ℕ, zero, suc, ◌≤◌}
use native.Mathlib.Omega.{arith}
use Rattle.rule.specs.Sets.{Is, ◌<?◌, Set, In, ◌with◌, ◌without◌, count}
use Rattle.rule.specs.Legal.{Design, Ends}
use Rattle.rule.proofs.Tests.{lt_of, with_self, with_old, without_old}
use Rattle.rule.proofs.Counting.{Within, count_none, count_pos, count_without, put_back}
use Rattle.theory.specs.Joined.{joined, spans}
use Rattle.theory.specs.Rank.{leader, rank_of, rank}
use Rattle.theory.proofs.Numbers.Smallest.{count_some}
use Rattle.theory.proofs.Joined.Laws.{joined_refl, joined_sym, joined_trans, joined_least, joined_within, joined_mono, joined_split, joined_agree, spans_edge}
use Rattle.theory.proofs.Joined.Acyclic.{Acyclic, acyclic_sub}
use Rattle.theory.proofs.Rank.Leaders.{Equivalence, leader_near, rank_mono, rank_linked}

module _ (d : Design) where
  pub joined_equivalence : (s : Set) → Equivalence (joined d s)
  joined_equivalence s = record { rfl = joined_refl d s; symm = joined_sym d s; trans = joined_trans d s }

  -- where t joins the ends of each edge of s
  pub rank_within : (s t : Set) → ((e : ℕ) → In d.m e → Is (s e) → Is (spans d t e)) → rank d s ≤ rank d t
  unfolding rank
  rank_within s t f = rank_mono (joined d s) (joined d t) (joined_equivalence s) (joined_equivalence t) d.n (joined_within d s t f)

  pub rank_sub : (s t : Set) → Within d.m s t → rank d s ≤ rank d t
  rank_sub s t f = rank_within s t (λ e h i. spans_edge d t e h (f e h i))

  pub rank_same : (s t : Set) → ((x y : ℕ) → joined d s x y ≡ joined d t x y) → rank d s ≡ rank d t
  unfolding rank
  rank_same s t q = ap (λ (near : ℕ → ℕ → Bool). rank_of near d.n) (fun_ext (λ x. fun_ext (λ y. q x y)))

  pub rank_agree : (s t : Set) → Within d.m s t → Within d.m t s → rank d s ≡ rank d t
  rank_agree s t f g = rank_same s t (joined_agree d s t f g)

  module _ (ends : Ends d) where
    pub rank_with : (s : Set) (e : ℕ) → In d.m e → ¬ (Is (spans d s e)) → rank d (s with e) ≡ suc (rank d s)
    unfolding rank spans
    rank_with s e h not =
        rank_linked (joined d s) (joined d (s with e)) (joined_equivalence s) (joined_equivalence (s with e)) d.n (d.one e) (d.other e)
        (record {
          one_body = ends.one e h;
          other_body = ends.other e h;
          apart = not;
          grows = joined_mono d s (s with e) (λ f _ k. with_old s e f k);
          links = spans_edge d (s with e) e h (with_self s e);
          only = joined_split d s e;
        })

    -- an edge of s is put in last
    rank_last : (s : Set) (e : ℕ) → In d.m e → Is (s e) → ¬ (Is (spans d (s without e) e)) → rank d s ≡ suc (rank d (s without e))
    rank_last s e h i not =
        rank_agree s (s without e with e) (λ f hf k. put_back s d.m e i f hf ∙ k) (λ f hf k. sym (put_back s d.m e i f hf) ∙ k)
        ∙ rank_with (s without e) e h not

    -- ---- the number of edges

    pub rank_none : (s : Set) → ((e : ℕ) → In d.m e → ¬ (Is (s e))) → rank d s ≡ 0
    unfolding rank rank_of
    rank_none s none =
        count_none (λ v. leader (joined d s) v <? v) d.n
        (λ v h i.
        omega (
          arith,
          lt_of _ _ i,
          joined_least d s (λ x y. x ≡ y) (λ x. refl) (λ x y z p q. p ∙ q) (λ e he k. absurd (none e he k)) (leader (joined d s) v) v
              (leader_near (joined d s) (joined_equivalence s) v h.low),
        ))

    -- the edges are taken out one by one
    rank_counts : (c : ℕ) (s : Set) → count s d.m ≡ c → Acyclic d s → rank d s ≡ c
    unfolding Acyclic
    rank_counts zero s q ac = rank_none s (λ e h i. omega (arith, count_pos s d.m e h i))
    rank_counts (suc c) s q ac =
        let w = count_some s d.m (omega arith) in
        let e = w.0 in
        let less = count_without s d.m e w.1.0 w.1.1 in
        rank_last s e w.1.0 w.1.1 (ac e w.1.0 w.1.1)
        ∙ ap suc (rank_counts c (s without e) (omega arith) (acyclic_sub d (s without e) s (λ f _ k. without_old s e f k) ac))

    -- a set with no closed loop has as many edges as its rank
    pub rank_acyclic : (s : Set) → Acyclic d s → rank d s ≡ count s d.m
    rank_acyclic s ac = rank_counts (count s d.m) s refl ac
