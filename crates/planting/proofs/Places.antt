-- A loop over the 64 places of a row, lent as a part of the list, that applies g at each: what is done so far is applied at the
-- places below t.
-- Assumes nothing.
use mathlib.Core.Path.{◌≡◌, sym, ap, ◌∙◌, subst}
use mathlib.Core.Bool.{true}
use mathlib.Core.List.{List}
use Prim.Native.Nat.{ℕ, ◌+◌, ◌≤◌, ◌<◌}
use native.Mathlib.Omega.{arith}
use borrow.Rule.Slice.PartMut.{mid_of, put_mid, put_same as put_back}
use lib.ListN.{length, get_or, set, take, drop}
use lib.Seq.{length-take-le, get_or-append-add, set-append_left}
use Rattle.std.proofs.Common.{◌++◌}
use Rattle.std.proofs.lemmas.List.{get_or_append_left, set-append_right}
use Rattle.rule.specs.Sets.{◌<?◌, ◌with◌}
use Rattle.rule.proofs.Tests.{same_test, lt_of, lt_is, by_eq, put_other, put_same}
use Rattle.labels.specs.Rows.{Applied}
use Rattle.labels.proofs.Rows.{applied_none, applied_agree, applied_more}

-- what a part of a list holds stands in the whole, at a and on
module _ (a k : ℕ) (xs ys : List ℕ) (inside : a ≤ length xs) where
  abbrev after : List ℕ
  after = drop k (drop a xs)

  part_at : (j : ℕ) → j < length ys → get_or (put_mid a k xs ys) (a + j) 0 ≡ get_or ys j 0
  part_at j l =
      subst (λ (n : ℕ). get_or (put_mid a k xs ys) (n + j) 0 ≡ get_or ys j 0) (length-take-le a xs inside)
      (get_or-append-add (take a xs) (ys ++ after) j 0 ∙ get_or_append_left ys after 0 j l)

  part_set : (j v : ℕ) → j < length ys → put_mid a k xs (set ys j v) ≡ set (put_mid a k xs ys) (a + j) v
  part_set j v l =
      sym
      (set-append_right (take a xs) (ys ++ after) a (a + j) v (length-take-le a xs inside) (omega arith)
      ∙ ap (λ (z : List ℕ). take a xs ++ z)
      (subst (λ (n : ℕ). set (ys ++ after) n v ≡ set ys j v ++ after) (omega arith) (set-append_left ys after j v l)))

pub record Passed (g : ℕ → ℕ) (base : ℕ) (before now : List ℕ) (t : ℕ) : Type 0 where
  pub most : t ≤ 64
  pub applied : Applied g base (λ r. r <? t) before now

module _ (g : ℕ → ℕ) (base : ℕ) (before : List ℕ) where
  passed_none : Passed g base before before 0
  passed_none = record { most = omega arith; applied = applied_none g base (λ r. r <? 0) before (λ r _ h. omega (arith, lt_of r 0 h)) }

  passed_more : (now : List ℕ) (t : ℕ) → t < 64 → base + 64 ≤ length before → Passed g base before now t
      → Passed g base before (set now (base + t) (g (get_or now (base + t) 0))) (t + 1)
  passed_more now t l long p =
      record {
        most = omega arith;
        applied =
            applied_agree g base ((λ r. r <? t) with t) (λ r. r <? (t + 1)) before _ (λ r _. next r)
            (applied_more g base (λ r. r <? t) before now t l (λ h. omega (arith, lt_of t t h)) (omega arith) p.applied);
      }
    where
      next : (r : ℕ) → ((λ r. r <? t) with t) r ≡ (r <? (t + 1))
      next r =
          by_eq r t
          (λ q. ap ((λ r. r <? t) with t) q ∙ put_same (λ r. r <? t) t true ∙ sym (lt_is r (t + 1) (omega arith)))
          (λ ne.
          put_other (λ r. r <? t) t true r ne
          ∙ same_test _ _ (λ h. lt_is r (t + 1) (omega (arith, lt_of r t h))) (λ h. lt_is r t (omega (arith, lt_of r (t + 1) h))))

  -- the same, where the part is written
  module _ (k : ℕ) where
    pub passed_begun : Passed g base before (put_mid base k before (mid_of base k before)) 0
    passed_begun = subst (λ (z : List ℕ). Passed g base before z 0) (sym (put_back base k before)) passed_none

    pub passed_on : (items : List ℕ) (t v : ℕ) → t < 64 → t < length items → base + 64 ≤ length before → v ≡ g (get_or items t 0)
        → Passed g base before (put_mid base k before items) t → Passed g base before (put_mid base k before (set items t v)) (t + 1)
    passed_on items t v l in_part long is_v p =
        let inside : base ≤ length before = omega arith in
        subst (λ (z : List ℕ). Passed g base before z (t + 1))
        (ap (λ (w : ℕ). set (put_mid base k before items) (base + t) w) (ap g (part_at base k before items inside t in_part) ∙ sym is_v)
        ∙ sym (part_set base k before items inside t v in_part))
        (passed_more (put_mid base k before items) t l long p)

  pub passed_all : (now : List ℕ) (t : ℕ) → 64 ≤ t → Passed g base before now t → Applied g base (λ _. true) before now
  passed_all now t l p = applied_agree g base (λ r. r <? t) (λ _. true) before now (λ r h. lt_is r t (omega arith)) p.applied
