-- A list filled from the front, body by body, with the smallest body near each.
-- Assumes nothing.
use mathlib.Core.Path.{◌≡◌, refl, sym, ap, ◌∙◌, subst}
use mathlib.Core.List.{List}
use Prim.Native.Nat.{ℕ, suc, ◌+◌, ◌≤◌, ◌<◌}
use native.Mathlib.Numerals.{add-one}
use native.Mathlib.Omega.{arith}
use lib.ListN.{length, drop, set, length-set}
use lib.Seq.{drop-set-lt}
use Rattle.rule.specs.Sets.{Set, In, put, at}
use Rattle.rule.proofs.Tests.{in_split, put_same, put_other}
use Rattle.rule.proofs.Places.{at_set}
use Rattle.groups.specs.Classes.{Leader, ClassesListed}

-- the first v places are filled
pub record Listing (near : ℕ → Set) (n : ℕ) (before now : List ℕ) (v : ℕ) : Type 0 where
  pub within : v ≤ n
  pub as_long : length now ≡ length before
  pub leads : (u : ℕ) → In v u → Leader (near u) n (at now u)
  pub past : drop n now ≡ drop n before

module _ {near : ℕ → Set} {n : ℕ} {before : List ℕ} where
  pub listing_none : Listing near n before before 0
  listing_none = record { within = omega arith; as_long = refl; leads = λ u h. absurd (omega arith); past = refl }

  pub listing_all : {now : List ℕ} {v : ℕ} → n ≤ v → Listing near n before now v → ClassesListed near n before now
  listing_all l k =
      record { as_long = k.as_long; leads = λ u h. k.leads u (omega arith); past = k.past }

  pub listing_more : {now : List ℕ} {v lead : ℕ} → v < n → n ≤ length before → Leader (near (v + 1)) n lead → Listing near n before now v
      → Listing near n before (set now v lead) (v + 1)
  listing_more {now} {v} {lead} l room is k =
      subst (Listing near n before (set now v lead)) (sym (add-one v))
      (record {
        within = omega arith;
        as_long = length-set now v lead ∙ k.as_long;
        leads =
            λ u h.
            in_split v u h
            (λ r. subst (Leader (near u) n) (sym (ap (λ (f : ℕ → ℕ). f u) stored ∙ put_other (at now) (suc v) lead u (omega arith))) (k.leads u r))
            (λ q.
            subst (λ (z : ℕ). Leader (near z) n (at (set now v lead) z)) (add-one v ∙ sym q)
            (subst (Leader (near (v + 1)) n)
            (sym (ap (λ (f : ℕ → ℕ). f (v + 1)) stored ∙ ap (put (at now) (suc v) lead) (add-one v) ∙ put_same (at now) (suc v) lead)) is));
        past = drop-set-lt n now v lead l ∙ k.past;
      })
    where
      stored : at (set now v lead) ≡ put (at now) (suc v) lead
      stored = at_set now v lead (omega (arith, k.as_long))
