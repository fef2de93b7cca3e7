-- Tests on bodies that tell an edge z of s: two bodies that s joins differ exactly when z is between them. Each bit of the words of the
-- tables is such a test, and a bit of a slot that is not filled tells 0, which is no edge.
--
-- In order: tests that tell 0; a test changed by c at the bodies of another test; one edge more; one edge for another.
-- Assumes nothing.
use mathlib.Core.Path.{◌≡◌, refl, sym, ap, ap₂, ◌∙◌}
use mathlib.Core.Logic.{◌⊎◌, ⊎_elim, ◌≢◌}
use mathlib.Core.Bool.{Bool, true, false}
use Prim.Native.Nat.{ℕ}
use native.Mathlib.Omega.{arith}
use Rattle.rule.specs.Sets.{Is, ◌and◌, Set, In, ◌with◌, ◌without◌}
use Rattle.rule.specs.Legal.{Design}
use Rattle.rule.proofs.Tests.{cases, same_test, is_false, and_make, and_l, and_r}
use Rattle.theory.specs.Joined.{joined, spans}
use Rattle.theory.proofs.Joined.Laws.{joined_sym, joined_trans, joined_split}
use Rattle.theory.proofs.Joined.Acyclic.{Acyclic}
use Rattle.words.proofs.Bits.{◌differs◌, differs_same, same_differs}
use Rattle.words.proofs.Differs.{differs_comm, differs_assoc, differs_left_comm, false_differs, and_differs}
use Rattle.planting.proofs.Between.{between, between_not, between_sym, crossing_edge}
use Rattle.planting.proofs.Exchanged.{between_in, between_swapped}

abbrev pub Tells : Design → Set → (z : ℕ) → (ℕ → Bool) → Type 0
Tells d s z w = (x y : ℕ) → In 64 x → In 64 y → Is (joined d s x y) → (w x differs w y) ≡ between d s z x y

pub tells_same : (d : Design) (s : Set) (z : ℕ) (w r : ℕ → Bool) → ((x : ℕ) → In 64 x → w x ≡ r x) → Tells d s z w → Tells d s z r
tells_same d s z w r q tells x y hx hy h = sym (ap₂ ◌differs◌ (q x hx) (q y hy)) ∙ tells x y hx hy h

-- ---- no edge

pub between_none : (d : Design) (s : Set) (x y : ℕ) → Is (joined d s x y) → between d s 0 x y ≡ false
between_none d s x y h =
    is_false (between d s 0 x y) (λ t. omega (arith, (crossing_edge d s 0 x y h (between_not d s 0 x y t)).0.low))

-- ---- what changed

-- the test w, changed by c at the bodies of t
abbrev pub changed : (w t : ℕ → Bool) → Bool → ℕ → Bool
changed w t c x = w x differs (t x and c)

pub changed_differs : (w t : ℕ → Bool) (c : Bool) (x y : ℕ)
    → (changed w t c x differs changed w t c y) ≡ ((w x differs w y) differs ((t x differs t y) and c))
changed_differs w t c x y = simp (and_differs, differs_assoc, differs_left_comm)

none_changes : (a c t : Bool) → ¬ (Is t) → (a differs (t and c)) ≡ a
none_changes a c t n = ap (λ (b : Bool). a differs b) (is_false (t and c) (λ h. n (and_l t c h))) ∙ differs_comm a false ∙ false_differs a

-- ---- one edge more

-- t has the bodies that s joins to u
abbrev pub Near : Design → Set → (t : ℕ → Bool) → ℕ → Type 0
Near d s t u = (x : ℕ) → In 64 x → t x ≡ joined d s u x

module _ (d : Design) (s : Set) (e : ℕ) (apart : ¬ (Is (spans d s e))) (t : ℕ → Bool) (one_tree : Near d s t (d.one e) ⊎ Near d s t (d.other e)) where
  -- bodies of one tree change alike
  alike : (x y : ℕ) → In 64 x → In 64 y → Is (joined d s x y) → t x ≡ t y
  alike x y hx hy h = ⊎_elim (from (d.one e)) (from (d.other e)) one_tree
    where
      from : (u : ℕ) → Near d s t u → t x ≡ t y
      from u near =
          near x hx
          ∙ same_test _ _ (λ p. joined_trans d s u x y p h) (λ p. joined_trans d s u y x p (joined_sym d s x y h))
          ∙ sym (near y hy)

  -- of two bodies at either end of e one changes
  unlike : (x y : ℕ) → In 64 x → In 64 y → Is (joined d s x (d.one e)) → Is (joined d s (d.other e) y) → Is (t x differs t y)
  unfolding spans
  unlike x y hx hy p q = ⊎_elim at_one at_other one_tree
    where
      at_one : Near d s t (d.one e) → Is (t x differs t y)
      at_one near =
          cases (t x differs t y) (λ h. h)
          (λ n.
          absurd
          (apart
          (joined_trans d s (d.one e) y (d.other e)
          (sym (near y hy) ∙ sym (differs_same (t x) (t y) n) ∙ near x hx ∙ joined_sym d s x (d.one e) p) (joined_sym d s (d.other e) y q))))

      at_other : Near d s t (d.other e) → Is (t x differs t y)
      at_other near =
          cases (t x differs t y) (λ h. h)
          (λ n.
          absurd
          (apart
          (joined_trans d s (d.one e) x (d.other e) (joined_sym d s x (d.one e) p)
          (joined_sym d s (d.other e) x (sym (near x hx) ∙ differs_same (t x) (t y) n ∙ near y hy ∙ q)))))

  module _ (he : In 64 (d.one e)) (ho : In 64 (d.other e)) (w : ℕ → Bool) (k : Bool) (z before : ℕ) (old : Tells d s before w)
      (one_side : (x y : ℕ) → Is (joined d s x y) → between d (s with e) z x y ≡ between d s before x y)
      (two_sides : (x y : ℕ) → Is (joined d s x (d.one e)) → Is (joined d s (d.other e) y)
      → between d (s with e) z x y ≡ ((between d s before x (d.one e) differs between d s before (d.other e) y) differs k)) where
    abbrev c : Bool
    c = (w (d.one e) differs w (d.other e)) differs k

    over_e : (x y : ℕ) → In 64 x → In 64 y → Is (joined d s x (d.one e)) → Is (joined d s (d.other e) y)
        → (changed w t c x differs changed w t c y) ≡ between d (s with e) z x y
    over_e x y hx hy p q =
        changed_differs w t c x y
        ∙ ap (λ (b : Bool). (w x differs w y) differs (b and c)) (unlike x y hx hy p q)
        ∙ regroup (w x) (w (d.one e)) (w (d.other e)) (w y) k
        ∙ ap₂ (λ (a b : Bool). (a differs b) differs k) (old x (d.one e) hx he p) (old (d.other e) y ho hy q)
        ∙ sym (two_sides x y p q)
      where
        regroup : (a b c f k : Bool) → ((a differs f) differs (true and ((b differs c) differs k))) ≡ (((a differs b) differs (c differs f)) differs k)
        regroup a b c f k =
            ap (λ (t : Bool). (a differs f) differs t) (same_test _ _ (λ h. and_r true _ h) (λ h. and_make true _ refl h))
            ∙ simp (differs_assoc, differs_left_comm)

    pub tells_more : Tells d (s with e) z (changed w t c)
    tells_more x y hx hy h =
        ⊎_elim
        (λ p.
        changed_differs w t c x y
        ∙ none_changes (w x differs w y) c (t x differs t y) (same_differs (t x) (t y) (alike x y hx hy p))
        ∙ old x y hx hy p
        ∙ sym (one_side x y p))
        (⊎_elim (λ p. over_e x y hx hy p.0 p.1)
        (λ p.
        differs_comm (changed w t c x) (changed w t c y)
        ∙ over_e y x hy hx (joined_sym d s (d.one e) y p.1) (joined_sym d s x (d.other e) p.0)
        ∙ between_sym d (s with e) z y x))
        (joined_split d s e x y h)

-- ---- one edge for another

module _ (d : Design) (s : Set) (ac : Acyclic d s) (x y : ℕ) (hx : In d.m x) (new : ¬ (Is (s x))) (over : Is (spans d s x))
    (needs_y : ¬ (Is (spans d (s without y) x))) (t : ℕ → Bool) (told : Tells d s y t) (he : In 64 (d.one x)) (ho : In 64 (d.other x))
    (same : (p q : ℕ) → joined d (s without y with x) p q ≡ joined d s p q) where
  -- x is told by what told y
  pub tells_in : Tells d (s without y with x) x t
  tells_in p q hp hq h = told p q hp hq (sym (same p q) ∙ h) ∙ sym (between_in d s ac x y hx new over needs_y p q)

  pub tells_swapped : (z : ℕ) (w : ℕ → Bool) → z ≢ x → z ≢ y → Tells d s z w
      → Tells d (s without y with x) z (changed w t (w (d.one x) differs w (d.other x)))
  unfolding spans
  tells_swapped z w nx ny old p q hp hq h =
      let pq : Is (joined d s p q) = sym (same p q) ∙ h in
      changed_differs w t (w (d.one x) differs w (d.other x)) p q
      ∙ ap₂ ◌differs◌ (old p q hp hq pq) (ap₂ ◌and◌ (told p q hp hq pq) (old (d.one x) (d.other x) he ho over))
      ∙ sym (between_swapped d s ac x y hx new over needs_y z nx ny p q pq)
