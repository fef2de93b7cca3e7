-- Lists of numbers and their members: by place, the numbers of a set, lists that ascend.
--
-- A number is a member when it stands at some place, so what is known of the places of `numbers` (crate theory, Numbers/Listing) is known of
-- its members. Two lists that ascend and have the same members are one: the smallest stands in front, and so on.
-- Not here: the set that a list holds, which is in Bodies.antt.
-- Assumes nothing.
use mathlib.Core.Path.{◌≡◌, refl, sym, ap₂, subst}
use mathlib.Core.Logic.{inl, inr, ⊎_elim}
use mathlib.Core.List.{List, [], ◌∷◌}
use Prim.Native.Nat.{ℕ, zero, suc, ◌<◌}
use native.Mathlib.Omega.{arith}
use lib.ListN.{length, get_or}
use Rattle.rule.specs.Sets.{Is, Set, In, numbers}
use Rattle.theory.proofs.Numbers.Listing.{numbers_at, numbers_has, numbers_ascend}
use Rattle.restated.specs.Bars.{Member, DifferentBodies}
use Rattle.restated.specs.BookBars.{Ascending}

-- ---- places

member_at : (l : List ℕ) (p : ℕ) → p < length l → Member (get_or l p 0) l
member_at [] p h = absurd (omega arith)
member_at (x ∷ l) zero h = inl refl
member_at (x ∷ l) (suc p) h = inr (member_at l p (omega arith))

member_place : (l : List ℕ) (y : ℕ) → Member y l → (p : ℕ) × ((p < length l) × (get_or l p 0 ≡ y))
member_place [] y h = absurd h
member_place (x ∷ l) y (inl q) = (0, (omega arith, sym q))
member_place (x ∷ l) y (inr h) = let w = member_place l y h in (suc w.0, (omega (arith, w.1.0), w.1.1))

ascending_by_places : (l : List ℕ) → ((p r : ℕ) → p < r → r < length l → get_or l p 0 < get_or l r 0) → Ascending l
ascending_by_places [] f = tt
ascending_by_places (x ∷ l) f = (
  λ y h.
      let w = member_place l y h in
      subst (λ (z : ℕ). x < z) w.1.1 (f 0 (suc w.0) (omega arith) (omega (arith, w.1.0))),
  ascending_by_places l (λ p r h k. f (suc p) (suc r) (omega arith) (omega arith)),
)

-- ---- lists that ascend

-- no number comes twice
pub ascending_different : (n : ℕ) (l : List ℕ) → Ascending l → ((y : ℕ) → Member y l → In n y) → DifferentBodies n l
ascending_different n [] a f = tt
ascending_different n (x ∷ l) a f =
    let h = f x (inl refl) in
    (h.low, h.high, (λ m. absurd (omega (arith, a.0 x m))), ascending_different n l a.1 (λ y m. f y (inr m)))

-- the same members, so the same list
pub ascending_same : (l k : List ℕ) → Ascending l → Ascending k → ((y : ℕ) → Member y l → Member y k) → ((y : ℕ) → Member y k → Member y l) → l ≡ k
ascending_same [] [] a b f g = refl
ascending_same [] (z ∷ k) a b f g = absurd (g z (inl refl))
ascending_same (x ∷ l) [] a b f g = absurd (f x (inl refl))
ascending_same (x ∷ l) (z ∷ k) a b f g =
    ap₂ (λ (i : ℕ) (t : List ℕ). i ∷ t) first
    (ascending_same l k a.1 b.1 (λ y m. behind y (a.0 y m) (f y (inr m))) (λ y m. behind' y (b.0 y m) (g y (inr m))))
  where
    first : x ≡ z
    first =
        ⊎_elim (λ q. q)
        (λ m. ⊎_elim (λ q. sym q) (λ o. absurd (omega (arith, a.0 z o, b.0 x m))) (g z (inl refl)))
        (f x (inl refl))

    behind : (y : ℕ) → x < y → Member y (z ∷ k) → Member y k
    behind y h m = ⊎_elim (λ q. absurd (omega (arith, first))) (λ o. o) m

    behind' : (y : ℕ) → z < y → Member y (x ∷ l) → Member y l
    behind' y h m = ⊎_elim (λ q. absurd (omega (arith, first))) (λ o. o) m

-- ---- the numbers of a set

module _ (s : Set) (m : ℕ) where
  pub numbers_member : (y : ℕ) → In m y → Is (s y) → Member y (numbers s m)
  numbers_member y h k =
      let w = numbers_has s m y h k in
      subst (λ (z : ℕ). Member z (numbers s m)) w.1.1 (member_at (numbers s m) w.0 w.1.0)

  pub member_numbers : (y : ℕ) → Member y (numbers s m) → In m y × Is (s y)
  member_numbers y h =
      let w = member_place (numbers s m) y h in
      subst (λ (z : ℕ). In m z × Is (s z)) w.1.1 (numbers_at s m w.0 w.1.0)

  pub numbers_ascending : Ascending (numbers s m)
  numbers_ascending = ascending_by_places (numbers s m) (numbers_ascend s m)
