-- The bodies that are with v in each of the first forests, as a word, forest by forest; and the smallest of them, which is the lowest
-- bit of the word.
-- Assumes nothing.
use mathlib.Core.Path.{◌≡◌, sym, ap, ap₂, ◌∙◌, subst}
use mathlib.Core.Logic.{◌≢◌}
use mathlib.Core.Bool.{false≢true}
use mathlib.Core.List.{List}
use Prim.Native.Nat.{ℕ, suc, ◌+◌, ◌-◌, ◌*◌, ◌^◌, ◌≤◌, ◌<◌}
use native.Mathlib.Numerals.{add-one}
use native.Mathlib.Omega.{arith}
use lib.Bits.{bit_and}
use lib.ListN.{get_or}
use Rattle.rule.specs.Sets.{Is, ◌and◌, In}
use Rattle.theory.specs.Numbers.{every}
use Rattle.theory.proofs.Numbers.Smallest.{every_make}
use Rattle.words.specs.Bits.{bit, Lowest}
use Rattle.words.proofs.Bits.{bit_zero, bit_and_lem, bit_all}
use Rattle.tables.specs.Tables.{spot, label, crowd}
use Rattle.groups.specs.Passes.{Seated}
use Rattle.groups.specs.Classes.{together, Leader}

-- the word has the bodies that are with v in each of the forests 1 to i
abbrev pub With : (root who : List ℕ) (v i word : ℕ) → Type 0
With root who v i word = (u : ℕ) → In 64 u → bit word (u - 1) ≡ together root who i v u

module _ (root who : List ℕ) (v : ℕ) where
  -- the word of v's label stands in the table
  pub in_table : Seated root who → In 64 v → (i x l : ℕ) → i < 6 → x ≡ spot (suc i) v → l ≡ get_or root x 0 → i * 64 + l < 384
  in_table s h i x l less at_x at_l =
      omega (arith, less, at_l, ap (λ (z : ℕ). get_or root z 0) at_x, s.small (suc i) v (omega arith) h)

  pub with_none : With root who v 0 (2 ^ 64 - 1)
  unfolding together every
  with_none u h = bit_all 64 (u - 1) (omega arith)

  -- one forest more: what the code reads at index x of root and y of who
  pub with_more : (i word x y : ℕ) → x ≡ spot (suc i) v → y ≡ i * 64 + get_or root x 0 → With root who v i word
      → With root who v (i + 1) (bit_and word (get_or who y 0))
  unfolding together every
  with_more i word x y at_x at_y w u h =
      subst (λ (z : ℕ). bit (bit_and word (get_or who y 0)) (u - 1) ≡ together root who z v u) (sym (add-one i))
      (bit_and_lem word (get_or who y 0) (u - 1)
      ∙ ap₂ ◌and◌ (w u h) (ap (λ (z : ℕ). bit (get_or who z 0) (u - 1)) (omega (arith, at_y, ap (λ (z : ℕ). get_or root z 0) at_x))))

-- ---- the smallest

module _ (root who : List ℕ) (s : Seated root who) (j n v word : ℕ) (few : j ≤ 6) (fits : n ≤ 64) (hv : In n v) (w : With root who v j word) where
  own : Is (together root who j v v)
  unfolding together
  own = every_make (λ i. bit (crowd who i (label root i v)) (v - 1)) j (λ i r. s.own i v (omega arith) (omega arith))

  pub class_not_empty : word ≢ 0
  class_not_empty z = false≢true (sym (ap (λ (x : ℕ). bit x (v - 1)) z ∙ bit_zero (v - 1)) ∙ w v (omega arith) ∙ own)

  pub class_leads : (t : ℕ) → Lowest word t → Leader (together root who j v) n (t + 1)
  class_leads t low =
      record {
        body = omega (arith, least v hv own);
        is_near = sym (w (t + 1) (omega arith)) ∙ subst (λ (z : ℕ). Is (bit word z)) (omega arith) low.is_set;
        smallest = least;
      }
    where
      least : (u : ℕ) → In n u → Is (together root who j v u) → t + 1 ≤ u
      least u h near = let none : ¬ (u - 1 < t) = λ l. low.lowest (u - 1) l (w u (omega arith) ∙ near) in omega arith
