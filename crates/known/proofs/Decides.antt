-- A test decides a statement when it holds exactly when the statement does. The laws below build such tests along the shape
-- of the statement, from tests that decide its parts.
--
-- In order: a test by itself, and other words for a statement; `and`, `or`, `isnt`; numbers; each of 1 to m; lists.
-- That some set, or every set, is as a statement says is decided in proofs/Trying.antt.
-- Assumes nothing.
use mathlib.Core.Path.{◌≡◌, refl, sym, ap₂, subst}
use mathlib.Core.Logic.{◌⊎◌, inl, inr, ⊎_elim, ◌↔◌}
use mathlib.Core.Bool.{Bool, true, false}
use mathlib.Core.List.{List, [], ◌∷◌, head-eq_of_cons-eq, tail-eq_of_cons-eq, cons≢nil}
use Prim.Native.Nat.{ℕ, zero, suc, ◌≤◌}
use Rattle.rule.specs.Sets.{Is, ◌and◌, ◌or◌, isnt, ◌=?◌, ◌≤?◌, Set, In, numbers, Lists}
use Rattle.rule.proofs.Tests.{cases, never, and_make, and_l, and_r, or_l, or_r, or_elim, isnt_make, isnt_not}
use Rattle.rule.proofs.Tests.{eq_of, eq_is, le_of, le_is, in_one, in_last, in_split, in_zero}
use Rattle.rule.proofs.Counting.{lists_determined}

abbrev pub Decides : Bool → Type 0 → Type 0
Decides b P = Is b ↔ P

pub self_decides : (b : Bool) → Decides b (Is b)
self_decides b = (λ h. h, λ h. h)

-- what comes to the same is decided by the same test
pub reworded : {b : Bool} {P Q : Type 0} → Decides b P → (P → Q) → (Q → P) → Decides b Q
reworded p there back = (λ h. there (p.0 h), λ z. p.1 (back z))

-- ---- and, or, isnt

module _ {a b : Bool} {P Q : Type 0} where
  -- the second test need decide only where the first statement holds
  pub and_decides : Decides a P → (P → Decides b Q) → Decides (a and b) (P × Q)
  and_decides p q = (
    λ h. let x = p.0 (and_l _ _ h) in (x, (q x).0 (and_r a _ h)),
    λ z. and_make _ _ (p.1 z.0) ((q z.0).1 z.1),
  )

  pub or_decides : Decides a P → Decides b Q → Decides (a or b) (P ⊎ Q)
  or_decides p q = (
    λ h. ⊎_elim (λ x. inl (p.0 x)) (λ y. inr (q.0 y)) (or_elim a b h),
    λ z. ⊎_elim (λ x. or_l _ _ (p.1 x)) (λ y. or_r _ _ (q.1 y)) z,
  )

  pub if_decides : Decides a P → Decides b Q → Decides (isnt a or b) (P → Q)
  if_decides p q = (
    λ h x. ⊎_elim (λ na. absurd (isnt_not a na (p.1 x))) (λ y. q.0 y) (or_elim (isnt a) b h),
    λ f. cases a (λ h. or_r _ _ (q.1 (f (p.0 h)))) (λ nh. or_l _ _ (isnt_make a nh)),
  )

pub not_decides : {a : Bool} {P : Type 0} → Decides a P → Decides (isnt a) (¬ P)
not_decides {a} p = (λ h x. isnt_not a h (p.1 x), λ nx. isnt_make a (λ h. nx (p.0 h)))

-- ---- numbers

pub eq_decides : (m n : ℕ) → Decides (m =? n) (m ≡ n)
eq_decides m n = (eq_of m n, eq_is m n)

pub le_decides : (m n : ℕ) → Decides (m ≤? n) (m ≤ n)
le_decides m n = (le_of m n, le_is m n)

unfoldable pub in? : ℕ → ℕ → Bool
in? m i = 1 ≤? i and i ≤? m

pub in_decides : (m i : ℕ) → Decides (in? m i) (In m i)
unfolding in?
in_decides m i =
    reworded (and_decides (le_decides 1 i) (λ _. le_decides i m)) (λ z. record { low = z.0; high = z.1 }) (λ z. (z.low, z.high))

-- ---- each of 1 to m

-- each of 1 to m is in s. (A `let` waits: the first that is not ends it.)
unfoldable pub each? : Set → ℕ → Bool
each? s zero = true
each? s (suc m) = let rest = each? s m in s (suc m) and rest

pub each_decides : (s : Set) (P : ℕ → Type 0) (m : ℕ) → ((i : ℕ) → In m i → Decides (s i) (P i))
    → Decides (each? s m) ((i : ℕ) → In m i → P i)
unfolding each?
each_decides s P zero f = (λ _ i h. in_zero h, λ _. refl)
each_decides s P (suc m) f =
    let lower = each_decides s P m (λ i h. f i (in_one m i h)) in
    let last = f (suc m) (in_last m) in (
      λ h i k. in_split m i k (λ l. lower.0 (and_r (s (suc m)) _ h) i l) (λ e. subst P (sym e) (last.0 (and_l _ _ h))),
      λ g. and_make _ _ (last.1 (g (suc m) (in_last m))) (lower.1 (λ i l. g i (in_one m i l))),
    )

-- ---- lists

unfoldable pub same? : List ℕ → List ℕ → Bool
same? [] [] = true
same? [] (y ∷ ys) = false
same? (x ∷ xs) [] = false
same? (x ∷ xs) (y ∷ ys) = x =? y and same? xs ys

pub same_decides : (xs ys : List ℕ) → Decides (same? xs ys) (xs ≡ ys)
unfolding same?
same_decides [] [] = (λ _. refl, λ _. refl)
same_decides [] (y ∷ ys) = (λ h. never h, λ e. absurd (cons≢nil (sym e)))
same_decides (x ∷ xs) [] = (λ h. never h, λ e. absurd (cons≢nil e))
same_decides (x ∷ xs) (y ∷ ys) =
    reworded (and_decides (eq_decides x y) (λ _. same_decides xs ys)) (λ z. ap₂ ◌∷◌ z.0 z.1)
    (λ e. (head-eq_of_cons-eq e, tail-eq_of_cons-eq e))

-- a list of the numbers of which P holds is the list of those that pass the test
pub lists_decides : (s : Set) (P : ℕ → Type 0) (m : ℕ) (list : List ℕ) → ((i : ℕ) → In m i → Decides (s i) (P i))
    → Decides (same? list (numbers s m)) (Lists P m list)
lists_decides s P m list f =
    reworded (same_decides list (numbers s m)) (λ e. record { chosen = s; exactly = f; in_order = e })
    (λ z. lists_determined z (record { chosen = s; exactly = f; in_order = refl }))
