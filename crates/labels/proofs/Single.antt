-- Every body a tree by itself: the labels of a set with no edge, which joins no two bodies.
-- Assumes nothing.
use mathlib.Core.Path.{◌≡◌, refl, sym, ap, ap₂, ◌∙◌, subst}
use mathlib.Core.List.{List}
use Prim.Native.Nat.{ℕ, ◌+◌, ◌-◌, ◌%◌, ◌^◌, ◌<◌}
use native.Mathlib.Omega.{arith}
use lib.ListN.{length, get_or, set}
use lib.Seq.{get_or-set_same, get_or-set_other}
use Rattle.rule.specs.Sets.{Is, ◌=?◌, Set, In}
use Rattle.rule.specs.Legal.{Design}
use Rattle.rule.proofs.Tests.{same_test, eq_of, eq_is, by_eq}
use Rattle.theory.specs.Joined.{joined}
use Rattle.theory.proofs.Joined.Laws.{joined_refl, joined_least}
use Rattle.words.specs.Bits.{bit}
use Rattle.words.proofs.Bits.{bit_power}
use Rattle.tables.specs.Tables.{start, label, crowd, Labels}
use Rattle.labels.specs.Labels.{Empty}

pub joined_none : (d : Design) (s : Set) → Empty d s → (x y : ℕ) → joined d s x y ≡ (x =? y)
joined_none d s none x y =
    same_test _ _
    (λ h. eq_is x y (joined_least d s (λ x y. x ≡ y) (λ x. refl) (λ x y z p q. p ∙ q) (λ e he i. absurd (none e he i)) x y h))
    (λ h. subst (λ (z : ℕ). Is (joined d s x z)) (eq_of x y h) (joined_refl d s x))

-- ---- a table filled from the front

-- the first places hold what h says
abbrev pub Front : (ℕ → ℕ) → List ℕ → ℕ → Type 0
Front h list i = (k : ℕ) → k < i → get_or list k 0 ≡ h k

pub front_more : (h : ℕ → ℕ) (list : List ℕ) (i : ℕ) → i < length list → Front h list i → Front h (set list i (h i)) (i + 1)
front_more h list i l f k less =
    by_eq k i (λ q. subst (λ (z : ℕ). get_or (set list i (h i)) z 0 ≡ h z) (sym q) (get_or-set_same list i (h i) 0 l))
    (λ ne. get_or-set_other list i k (h i) 0 ne ∙ f k (omega arith))

-- ---- the labels

-- each place of a row has its own number, and the word with that bit alone
pub record Alone (root who : List ℕ) (i : ℕ) : Type 0 where
  pub names : Front (λ k. k % 64) root i
  pub words : Front (λ k. 2 ^ (k % 64)) who i

module _ (root who : List ℕ) (a : Alone root who 384) (f : ℕ) (hf : In 6 f) where
  in_row : (t : ℕ) → t < 64 → (start f + t < 384) × ((start f + t) % 64 ≡ t)
  in_row t l = omega arith

  own_label : (x : ℕ) → In 64 x → label root f x ≡ x - 1
  own_label x h = let r = in_row (x - 1) (omega arith) in a.names (start f + (x - 1)) r.0 ∙ r.1

  own_word : (t : ℕ) → t < 64 → crowd who f t ≡ 2 ^ t
  own_word t l = let r = in_row t l in a.words (start f + t) r.0 ∙ ap (λ (z : ℕ). 2 ^ z) r.1

  less_one : (x y : ℕ) → In 64 x → In 64 y → (x - 1 =? y - 1) ≡ (x =? y)
  less_one x y hx hy = same_test _ _ (λ h. eq_is x y (omega (arith, eq_of _ _ h))) (λ h. eq_is _ _ (ap (λ (z : ℕ). z - 1) (eq_of x y h)))

  pub labels_alone : (d : Design) (s : Set) → Empty d s → Labels d s f root who
  labels_alone d s none =
      record {
        small = λ x h. omega (arith, own_label x h);
        same = λ x y hx hy. ap₂ ◌=?◌ (own_label x hx) (own_label y hy) ∙ less_one x y hx hy ∙ sym (joined_none d s none x y);
        bodies =
            λ x y hx hy.
            ap (λ (l : ℕ). bit (crowd who f l) (y - 1)) (own_label x hx)
            ∙ ap (λ (w : ℕ). bit w (y - 1)) (own_word (x - 1) (omega arith))
            ∙ bit_power (x - 1) (y - 1)
            ∙ less_one y x hy hx
            ∙ same_test _ _ (λ h. eq_is x y (sym (eq_of y x h))) (λ h. eq_is y x (sym (eq_of x y h)))
            ∙ sym (joined_none d s none x y);
      }
