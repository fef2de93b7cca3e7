-- A set written as a list (`numbers` of crate rule): what stands in it, that everything of the set does, and that it ascends.
-- And places of a list with another behind it.
-- Assumes nothing.
use mathlib.Core.Path.{◌≡◌, refl, sym, ap, ◌∙◌, subst, subst₂}
use mathlib.Core.Logic.{◌⊎◌, inl, inr, ⊎_elim}
use mathlib.Core.Bool.{Bool}
use mathlib.Core.List.{List, [], ◌∷◌, ◌++◌, append-nil}
use Prim.Native.Nat.{ℕ, zero, suc, ◌+◌, ◌-◌, ◌<◌}
use native.Mathlib.Nat.{add-sub_of_le}
use native.Mathlib.Omega.{arith}
use lib.ListN.{length, get_or, length-append, get_or-append}
use lib.Seq.{get_or-append-add, get_or-append_seam}
use Rattle.rule.specs.Sets.{Is, Set, In, only_if, numbers}
use Rattle.rule.proofs.Tests.{cases, is_false, by_le, in_one, in_split}

-- ---- a list with another behind it

-- a place of the whole is one of the first list, or one of the second behind it
pub record Behind (l n : List ℕ) (p : ℕ) : Type 0 where
  pub place : ℕ
  pub within : place < length n
  pub counts : p ≡ length l + place
  pub holds : get_or (l ++ n) p 0 ≡ get_or n place 0

pub split_place : (l n : List ℕ) (p : ℕ) → p < length (l ++ n) → ((p < length l) × (get_or (l ++ n) p 0 ≡ get_or l p 0)) ⊎ Behind l n p
split_place l n p h =
    by_le (length l) p
    (λ le.
    let j = p - length l in
    let e : p ≡ length l + j = sym (add-sub_of_le le) in
    inr
    (record {
      place = j;
      within = omega (arith, h, length-append l n);
      counts = e;
      holds = ap (λ (z : ℕ). get_or (l ++ n) z 0) e ∙ get_or-append-add l n j 0;
    }))
    (λ lt. inl (lt, get_or-append l n 0 p lt))

-- ---- the numbers of a set

module _ (s : Set) where
  with_last : (m : ℕ) → Is (s (suc m)) → numbers s (suc m) ≡ numbers s m ++ (suc m ∷ [])
  unfolding numbers
  with_last m t = ap (λ (b : Bool). numbers s m ++ only_if b (suc m)) t

  pub without_last : (m : ℕ) → ¬ (Is (s (suc m))) → numbers s (suc m) ≡ numbers s m
  unfolding numbers
  without_last m n = ap (λ (b : Bool). numbers s m ++ only_if b (suc m)) (is_false (s (suc m)) n) ∙ append-nil (numbers s m)

  -- what stands in the list
  pub numbers_at : (m p : ℕ) → p < length (numbers s m) → In m (get_or (numbers s m) p 0) × Is (s (get_or (numbers s m) p 0))
  unfolding numbers
  numbers_at zero p h = absurd (omega arith)
  numbers_at (suc m) p h =
      cases (s (suc m))
      (λ t.
      let h' = subst (λ (l : List ℕ). p < length l) (with_last m t) h in
      subst (λ (l : List ℕ). In (suc m) (get_or l p 0) × Is (s (get_or l p 0))) (sym (with_last m t))
      (⊎_elim
      (λ w.
      let o = numbers_at m p w.0 in
      subst (λ (z : ℕ). In (suc m) z × Is (s z)) (sym w.1) (in_one m _ o.0, o.1))
      (λ w. subst (λ (z : ℕ). In (suc m) z × Is (s z)) (sym (w.holds ∙ last w.place w.within)) (omega arith, t))
      (split_place (numbers s m) (suc m ∷ []) p h')))
      (λ n.
      let o = numbers_at m p (subst (λ (l : List ℕ). p < length l) (without_last m n) h) in
      subst (λ (l : List ℕ). In (suc m) (get_or l p 0) × Is (s (get_or l p 0))) (sym (without_last m n)) (in_one m _ o.0, o.1))
    where
      last : (j : ℕ) → j < 1 → get_or (suc m ∷ []) j 0 ≡ suc m
      last zero l = refl
      last (suc j) l = absurd (omega arith)

  -- everything of the set stands in the list
  pub numbers_has : (m y : ℕ) → In m y → Is (s y) → (p : ℕ) × ((p < length (numbers s m)) × (get_or (numbers s m) p 0 ≡ y))
  numbers_has zero y h i = absurd (omega arith)
  numbers_has (suc m) y h i = in_split m y h (λ h'. old (numbers_has m y h' i)) new
    where
      Has : List ℕ → Type 0
      Has l = (p : ℕ) × ((p < length l) × (get_or l p 0 ≡ y))

      old : Has (numbers s m) → Has (numbers s (suc m))
      old w =
          cases (s (suc m))
          (λ t.
          subst Has (sym (with_last m t))
          (w.0, (omega (arith, w.1.0, length-append (numbers s m) (suc m ∷ [])), get_or-append (numbers s m) (suc m ∷ []) 0 w.0 w.1.0 ∙ w.1.1)))
          (λ n. subst Has (sym (without_last m n)) w)

      new : y ≡ suc m → Has (numbers s (suc m))
      new q =
          subst Has (sym (with_last m (subst (λ (z : ℕ). Is (s z)) q i)))
          (length (numbers s m), (omega (arith, length-append (numbers s m) (suc m ∷ [])), get_or-append_seam (numbers s m) (suc m) [] 0 ∙ sym q))

  -- the list ascends
  pub numbers_ascend : (m p r : ℕ) → p < r → r < length (numbers s m) → get_or (numbers s m) p 0 < get_or (numbers s m) r 0
  unfolding numbers
  numbers_ascend zero p r l h = absurd (omega arith)
  numbers_ascend (suc m) p r l h =
      cases (s (suc m))
      (λ t.
      subst (λ (q : List ℕ). get_or q p 0 < get_or q r 0) (sym (with_last m t))
      (⊎_elim
      (λ w. subst₂ (λ (a b : ℕ). a < b) (sym (get_or-append (numbers s m) (suc m ∷ []) 0 p (omega arith))) (sym w.1) (numbers_ascend m p r l w.0))
      (λ w.
      let lt : p < length (numbers s m) = omega (arith, w.counts, w.within) in
      subst₂ (λ (a b : ℕ). a < b) (sym (get_or-append (numbers s m) (suc m ∷ []) 0 p lt)) (sym (w.holds ∙ last w.place w.within))
      (omega (arith, (numbers_at m p lt).0.high)))
      (split_place (numbers s m) (suc m ∷ []) r (subst (λ (q : List ℕ). r < length q) (with_last m t) h))))
      (λ n.
      subst (λ (q : List ℕ). get_or q p 0 < get_or q r 0) (sym (without_last m n))
      (numbers_ascend m p r l (subst (λ (q : List ℕ). r < length q) (without_last m n) h)))
    where
      last : (j : ℕ) → j < 1 → get_or (suc m ∷ []) j 0 ≡ suc m
      last zero l = refl
      last (suc j) l = absurd (omega arith)

  -- so no number stands at two places
  pub numbers_once : (m p r : ℕ) → p < length (numbers s m) → r < length (numbers s m) → get_or (numbers s m) p 0 ≡ get_or (numbers s m) r 0 → p ≡ r
  numbers_once m p r hp hr q =
      by_le p r (λ a. by_le r p (λ b. omega arith) (λ b. absurd (omega (arith, numbers_ascend m p r b hr))))
      (λ b. absurd (omega (arith, numbers_ascend m r p b hp)))
