-- The other three laws of undo, over designs grown from empty. Adding an edge takes nothing out of what is implied; adding an implied
-- edge puts nothing in; if x is not implied but is once y is added, then y is implied once x is added in its place.
--
-- All three only compare legal sets of the same edges: the old kept ones with x, with y or with both. The edges' numbers differ, so
-- the sets are carried along (Transport.antt), the two new numbers changing places (Reorder.antt).
-- Assumes nothing.
use mathlib.Core.Path.{◌≡◌, refl, sym, ap, ◌∙◌}
use mathlib.Core.Logic.{◌≢◌}
use Prim.Native.Nat.{ℕ, suc}
use native.Mathlib.Omega.{arith}
use Rattle.rule.specs.Sets.{Is, ◌=?◌, Set, In, ◌with◌}
use Rattle.rule.specs.Legal.{Design, Legal, Grown}
use Rattle.rule.specs.declared.Edge.{Edge}
use Rattle.rule.specs.Books.{plus}
use Rattle.rule.proofs.Tests.{in_one, put_other, with_self, with_old}
use Rattle.theory.specs.Order.{ImpliedBy}
use Rattle.theory.proofs.Laws.Transport.{legal_carried}
use Rattle.theory.proofs.Laws.Reorder.{LooksAs, looks_as, looks_back, looks_old, looks_new, looks_oldest, looks_second, swap, swap_cases, swap_twice, renumbered_swap}
use Rattle.theory.proofs.Laws.Grown.{old_kept, new_kept}
use Rattle.theory.proofs.Laws.Order.{legal_renumbered}

-- ---- carrying sets by what their edges look like

-- edge i of p goes to edge j of q, which is in t and looks the same
record Goes (p q : Design) (t : Set) (i j : ℕ) : Type 0 where
  looks : LooksAs p q i j
  range : In q.m j
  is_in : Is (t j)

by_looks : (p q : Design) (s t : Set) (f : ℕ → ℕ) → p.a ≡ q.a → p.b ≡ q.b → p.n ≡ q.n
    → ((i : ℕ) → In p.m i → f (f i) ≡ i) → ((i : ℕ) → In p.m i → Is (s i) → Goes p q t i (f i)) → Legal q t → Legal p s
by_looks p q s t f a b n twice g =
    legal_carried p q s t f
    (record {
      a = a;
      b = b;
      n = n;
      into =
          record {
            range = λ i h k. (g i h k).range;
            goes = λ i h k. (g i h k).is_in;
            once = λ i j hi hj _ _ same. sym (twice i hi) ∙ ap f same ∙ twice j hj;
          };
      one = λ i h k. (g i h k).looks.one;
      other = λ i h k. (g i h k).looks.other;
      red = λ i h k. (g i h k).looks.red;
    })

-- an edge of s with e that is not e is one of s
old_of : (s : Set) (e i : ℕ) → i ≢ e → Is ((s with e) i) → Is (s i)
old_of s e i ne t = sym (put_other s e _ i ne) ∙ t

-- ---- two edges, x and y

module _ (d : Design) (x y : Edge) where
  abbrev with_x : Design
  with_x = plus d x

  abbrev with_y : Design
  with_y = plus d y

  abbrev y_then_x : Design
  y_then_x = plus with_y x

  abbrev x_then_y : Design
  x_then_y = plus with_x y

  -- the numbers of the first and of the second new edge
  abbrev first : ℕ
  first = suc d.m

  abbrev second : ℕ
  second = suc (suc d.m)

  -- x looks alike with y before it and without
  x_alike : LooksAs with_x y_then_x first second
  x_alike = looks_as with_x y_then_x first second x.one x.other (x.colour =? 1) (looks_new d x) (looks_second d y x)

  old_alike : (i : ℕ) → In d.m i → LooksAs with_x y_then_x i i
  old_alike i h = looks_as with_x y_then_x i i _ _ _ (looks_old d x i h) (looks_oldest d y x i h)

  -- ---- y left out, and y put in where it is not in the set

  without_y : (k l : Set) → ((i : ℕ) → In d.m i → Is (k i) → Is (l i)) → Legal y_then_x (l with second) → Legal with_x (k with first)
  unfolding plus
  without_y k l f =
      by_looks with_x y_then_x (k with first) (l with second) (swap d.m) refl refl refl (λ i h. swap_twice d.m i (in_one first i h))
      (λ i h.
      swap_cases d.m (λ i j. In first i → Is ((k with first) i) → Goes with_x y_then_x (l with second) i j)
      (λ i o _ t.
      record { looks = old_alike i o; range = omega arith; is_in = with_old l second i (f i o (old_of k first i (omega arith) t)) })
      (λ _ _. record { looks = x_alike; range = omega arith; is_in = with_self l second }) (λ past _. absurd (omega (arith, past.high))) i
      (in_one first i h) h)

  with_no_y : (k l : Set) → ¬ (Is (l first)) → ((i : ℕ) → In d.m i → Is (l i) → Is (k i)) → Legal with_x (k with first) → Legal y_then_x (l with second)
  unfolding plus
  with_no_y k l not f =
      by_looks y_then_x with_x (l with second) (k with first) (swap d.m) refl refl refl (swap_twice d.m)
      (swap_cases d.m (λ i j. Is ((l with second) i) → Goes y_then_x with_x (k with first) i j)
      (λ i o t.
      record {
        looks = looks_back with_x y_then_x i i (old_alike i o);
        range = omega arith;
        is_in = with_old k first i (f i o (old_of l second i (omega arith) t));
      })
      (λ t. absurd (not (old_of l second first (omega arith) t)))
      (λ _. record { looks = looks_back with_x y_then_x first second x_alike; range = omega arith; is_in = with_self k first }))

  -- ---- y first or x first

  in_either_order : (l g : Set) → ((i : ℕ) → In d.m i → Is (l i) → Is (g i)) → Is (g first) → Legal x_then_y (g with second) → Legal y_then_x (l with second)
  unfolding plus
  in_either_order l g f x_kept =
      legal_renumbered y_then_x x_then_y (swap d.m) (swap d.m) (renumbered_swap d y x) (l with second) (g with second)
      (swap_cases d.m (λ i j. Is ((l with second) i) → Is ((g with second) j))
      (λ i o t. with_old g second i (f i o (old_of l second i (omega arith) t))) (λ _. with_self g second) (λ _. with_old g second first x_kept))

  -- ---- the laws

  module _ (k l : Set) (gk : Grown d k) (gl : Grown with_y l) where
    same : (i : ℕ) → In d.m i → k i ≡ l i
    same = old_kept d y k l gk gl

    -- adding y takes nothing out of what is implied
    pub more_implied : ImpliedBy d k x → ImpliedBy with_y l x
    unfolding plus
    more_implied not legal = not (without_y k l (λ i h t. sym (same i h) ∙ t) legal)

    -- adding an implied y puts nothing in
    pub implied_adds_none : ImpliedBy d k y → ImpliedBy with_y l x → ImpliedBy d k x
    unfolding plus
    implied_adds_none y_implied not legal =
        not
        (with_no_y k l (λ t. y_implied ((new_kept d y k l gk gl).0 t)) (λ i h t. same i h ∙ t) legal)

    -- x is not implied, but is once y is added: then y is implied once x is added in its place
    pub exchange_law : (g : Set) → Grown with_x g → ¬ (ImpliedBy d k x) → ImpliedBy with_y l x → ImpliedBy with_x g y
    unfolding plus
    exchange_law g gg not_implied implied legal =
        not_implied
        (λ keeps.
        implied
        (in_either_order l g (λ i h t. sym (old_kept d x k g gk gg i h) ∙ (same i h ∙ t)) ((new_kept d x k g gk gg).1 keeps) legal))
