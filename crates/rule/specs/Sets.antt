-- Sets of numbers and how many they hold. Edges are numbered 1 to m and bodies 1 to n; a set of either is a test on
-- numbers, and 0 and the numbers past the end are never counted.
--
-- In order: tests; numbers in range; a set with one number more or less, and cut off below a number; counting; a set
-- written as a list, smallest first.
use Rattle.std.specs.Prelude.{◌≡◌, ◌↔◌, Bool, true, false, cond, not, ◌&&◌, ◌||◌, List, [], ◌∷◌, ◌++◌, ℕ, zero, suc, ◌+◌, ◌≤◌, get_or, eqb, ltb, leb}

-- ---- tests

-- the test holds
abbrev pub Is : Bool → Type 0
Is b = b ≡ true

infixl 35 ◌and◌
infixl 30 ◌or◌
infix 50 ◌=?◌
infix 50 ◌<?◌
infix 50 ◌≤?◌
unfoldable pub ◌and◌ : Bool → Bool → Bool
a and b = a && b

unfoldable pub ◌or◌ : Bool → Bool → Bool
a or b = a || b

unfoldable pub isnt : Bool → Bool
isnt b = not b

unfoldable pub ◌=?◌ : ℕ → ℕ → Bool
m =? n = eqb m n

unfoldable pub ◌<?◌ : ℕ → ℕ → Bool
m <? n = ltb m n

unfoldable pub ◌≤?◌ : ℕ → ℕ → Bool
m ≤? n = leb m n

-- ---- sets

abbrev pub Set : Type 0
Set = ℕ → Bool

-- i is one of 1 to m
pub record In (m i : ℕ) : Type 0 where
  pub low : 1 ≤ i
  pub high : i ≤ m

-- f, but v at x
unfoldable pub put : {A : Type 0} → (ℕ → A) → ℕ → A → ℕ → A
put f x v i = cond (i =? x) v (f i)

infixl 70 ◌with◌
infixl 70 ◌without◌
abbrev pub ◌with◌ : Set → ℕ → Set
s with e = put s e true

abbrev pub ◌without◌ : Set → ℕ → Set
s without e = put s e false

-- the numbers of s that are smaller than e
unfoldable pub below : Set → ℕ → Set
below s e i = s i and i <? e

-- ---- counting

-- 1 for a test that holds, 0 for one that does not
abbrev pub one_if : Bool → ℕ
one_if true = 1
one_if false = 0

-- how many of 1 to m are in s
unfoldable pub count : Set → ℕ → ℕ
count s zero = 0
count s (suc m) = count s m + one_if (s (suc m))

-- ---- lists

-- what a list holds of number i: edges and bodies count from 1, places of a list from 0
unfoldable pub at : List ℕ → ℕ → ℕ
at list zero = 0
at list (suc i) = get_or list i 0

-- x alone where the test holds, and nothing where not
abbrev pub only_if : Bool → ℕ → List ℕ
only_if true x = x ∷ []
only_if false x = []

-- those of 1 to m that are in s, smallest first
unfoldable pub numbers : Set → ℕ → List ℕ
numbers s zero = []
numbers s (suc m) = numbers s m ++ only_if (s (suc m)) (suc m)

-- the list is exactly those of 1 to m of which P holds, smallest first
pub record Lists (P : ℕ → Type 0) (m : ℕ) (list : List ℕ) : Type 0 where
  pub chosen : Set
  pub exactly : (i : ℕ) → In m i → (Is (chosen i) ↔ P i)
  pub in_order : list ≡ numbers chosen m
