-- Tests that decide whether two bodies share a group, which body leads a group, and the group list (crate rule,
-- specs/Figures.antt), for any numbers of bodies and edges whose ends lie in 1 to n.
--
-- Two bodies share a group by some set of bodies, of which only those of 1 to n and the edges inside count: so it is enough to try
-- every set of numbers of 1 to n. The rest asks only about each body.
-- Assumes nothing.
use mathlib.Core.Path.{◌≡◌, sym, ◌∙◌}
use mathlib.Core.Bool.{Bool}
use mathlib.Core.List.{List}
use Prim.Native.Nat.{ℕ, ◌*◌, ◌-◌}
use lib.ListN.{length}
use Rattle.rule.specs.Sets.{◌and◌, ◌or◌, isnt, ◌=?◌, ◌≤?◌, Set, In, count, at}
use Rattle.rule.specs.Legal.{Design, Ends, k, inside}
use Rattle.rule.specs.Figures.{Share, InGroup, GroupLead, Groups}
use Rattle.known.proofs.Decides.{Decides, self_decides, reworded, and_decides, or_decides, if_decides, eq_decides, le_decides}
use Rattle.known.proofs.Decides.{in?, in_decides, each?, each_decides}
use Rattle.known.proofs.Trying.{some?, some_decides}
use Rattle.known.proofs.LegalTest.{counts_depend}

unfoldable pub share? : Design → Set → ℕ → ℕ → Bool
share? d kept u v = some? (λ w. w u and (w v and count (inside d kept w) d.m =? k d * (count w d.n - 1))) d.n

unfoldable pub in_group? : Design → Set → ℕ → ℕ → Bool
in_group? d kept u v = v =? u or share? d kept u v

unfoldable pub leads? : Design → Set → ℕ → ℕ → Bool
leads? d kept u lead =
    in? d.n lead and (in_group? d kept u lead and each? (λ v. isnt (in_group? d kept u v) or lead ≤? v) d.n)

unfoldable pub groups? : Design → Set → List ℕ → Bool
groups? d kept list = length list =? d.n and each? (λ u. leads? d kept u (at list u)) d.n

module _ (d : Design) (ends : Ends d) (kept : Set) where
  pub share_decides : (u v : ℕ) → In d.n u → In d.n v → Decides (share? d kept u v) (Share d kept u v)
  unfolding share?
  share_decides u v hu hv =
      reworded
      (some_decides _ _ d.n (λ w. and_decides (self_decides (w u)) (λ _. and_decides (self_decides (w v)) (λ _. eq_decides _ _)))
      (λ s t f z. (sym (f u hu) ∙ z.0, (sym (f v hv) ∙ z.1.0, counts_depend d ends kept (λ x y. y ≡ k d * (x - 1)) s t f z.1.1))))
      (λ z. record { bodies = z.0; holds_one = z.1.0; holds_other = z.1.1.0; exact = z.1.1.1 })
      (λ z. (z.bodies, (z.holds_one, (z.holds_other, z.exact))))

  pub in_group_decides : (u v : ℕ) → In d.n u → In d.n v → Decides (in_group? d kept u v) (InGroup d kept u v)
  unfolding in_group?
  in_group_decides u v hu hv = or_decides (eq_decides v u) (share_decides u v hu hv)

  pub leads_decides : (u lead : ℕ) → In d.n u → Decides (leads? d kept u lead) (GroupLead d kept u lead)
  unfolding leads?
  leads_decides u lead hu =
      reworded
      (and_decides (in_decides d.n lead)
      (λ hl.
      and_decides (in_group_decides u lead hu hl)
      (λ _. each_decides _ _ d.n (λ v hv. if_decides (in_group_decides u v hu hv) (le_decides lead v)))))
      (λ z. record { body = z.0; in_group = z.1.0; smallest = z.1.1 })
      (λ z. (z.body, (z.in_group, z.smallest)))

  pub groups_decides : (list : List ℕ) → Decides (groups? d kept list) (Groups d kept list)
  unfolding groups?
  groups_decides list =
      reworded
      (and_decides (eq_decides (length list) d.n) (λ _. each_decides _ _ d.n (λ u hu. leads_decides u (at list u) hu)))
      (λ z. record { as_long = z.0; leads = z.1 })
      (λ z. (z.as_long, z.leads))
