-- An edge x swapped for an edge y on its path in a loop-free set: which edges are between which bodies.
--
-- x is between the bodies that y was between. Another edge z that is not on the path of x is between the bodies that it was between,
-- for without z the swap changes nothing that is joined. An edge z on the path of x is between p and q afterwards exactly when
-- one of y and z was, and not the other: without both, the tree has three parts, and x joins the two outer ones.
-- Assumes nothing.
use mathlib.Core.Path.{◌≡◌, refl, sym, ap, ◌∙◌}
use mathlib.Core.Logic.{◌⊎◌, inl, inr, ⊎_elim, ◌≢◌}
use mathlib.Core.Bool.{Bool, true, false, false≢true}
use Prim.Native.Nat.{ℕ}
use Rattle.rule.specs.Sets.{Is, ◌and◌, isnt, Set, In, ◌with◌, ◌without◌}
use Rattle.rule.specs.Legal.{Design}
use Rattle.rule.proofs.Tests.{cases, same_test, is_false, and_make, and_l, and_r, isnt_make, isnt_not, put_id, put_put, put_comm, with_self, with_old, without_old, without_make, without_ne}
use Rattle.theory.specs.Joined.{joined, spans}
use Rattle.theory.proofs.Joined.Laws.{joined_sym, joined_trans, joined_mono, joined_split, spans_edge, swap_same}
use Rattle.theory.proofs.Joined.Acyclic.{Acyclic, both_deleted_at}
use Rattle.words.proofs.Bits.{◌differs◌}
use Rattle.words.proofs.Differs.{differs_comm, false_differs}
use Rattle.planting.proofs.Between.{between, up, crossing_edge, not_both, two_parts}

-- j holds exactly where a and b hold together or fail together
agree_or_not : (j a b : Bool) → (Is a → Is b → Is j) → (Is a → ¬ (Is b) → ¬ (Is j)) → (¬ (Is a) → Is b → ¬ (Is j)) → (¬ (Is a) → ¬ (Is b) → Is j)
    → isnt j ≡ (isnt a differs isnt b)
unfolding isnt ◌differs◌
agree_or_not true true true f g h k = refl
agree_or_not false true true f g h k = absurd (false≢true (f refl refl))
agree_or_not true true false f g h k = absurd (g refl false≢true refl)
agree_or_not false true false f g h k = refl
agree_or_not true false true f g h k = absurd (h false≢true refl refl)
agree_or_not false false true f g h k = refl
agree_or_not true false false f g h k = refl
agree_or_not false false false f g h k = absurd (false≢true (k false≢true false≢true))

and_all : (a b : Bool) → Is b → (a and b) ≡ a
and_all a b h = same_test _ _ (λ k. and_l a b k) (λ k. and_make a b k h)

with_none : (a b c : Bool) → ¬ (Is c) → (a differs (b and c)) ≡ a
with_none a b c n =
    ap (λ (t : Bool). a differs t) (is_false (b and c) (λ k. n (and_r b c k))) ∙ differs_comm a false ∙ false_differs a

-- ---- where an edge is between p and q, and between u and v

module _ (d : Design) (s : Set) (ac : Acyclic d s) (z p q u v : ℕ) (pq : Is (joined d s p q)) (npq : ¬ (Is (joined d (s without z) p q)))
    (uv : Is (joined d s u v)) (nuv : ¬ (Is (joined d (s without z) u v))) where
  -- p hangs with u and q with v, or the other way round
  sides : (Is (joined d (s without z) p u) × Is (joined d (s without z) v q)) ⊎ (Is (joined d (s without z) p v) × Is (joined d (s without z) u q))
  sides =
      let tr = joined_trans d (s without z) in
      let sy = joined_sym d (s without z) in
      let pv : Is (joined d s p v) = joined_trans d s p q v pq (not_both d s z p q u v pq npq uv nuv) in
      let pu : Is (joined d s p u) = joined_trans d s p v u pv (joined_sym d s u v uv) in
      cases (joined d (s without z) p u)
      (λ h. inl (h, two_parts d s z ac v p q (joined_sym d s p v pv) (λ k. nuv (tr u p v (sy p u h) (sy v p k))) pq npq))
      (λ n.
      inr
      (two_parts d s z ac p u v pu n uv nuv, two_parts d s z ac u p q (joined_sym d s p u pu) (λ k. n (sy u p k)) pq npq))

-- ---- two edges gone

module _ (d : Design) (s : Set) (y z : ℕ) where
  -- without both, and without the one alone
  without_one : (p q : ℕ) → Is (joined d (s without z without y) p q) → Is (joined d (s without y) p q)
  without_one =
      joined_mono d (s without z without y) (s without y)
      (λ e _ k. without_make s y e (without_old s z e (without_old (s without z) y e k)) (without_ne (s without z) y e k))

  -- p cannot hang with u when z goes and with v when y goes, while q hangs with v and with u
  crossed : (p q u v : ℕ) → ¬ (Is (joined d (s without z) u v)) → Is (joined d (s without z) p u) × Is (joined d (s without z) v q)
      → Is (joined d (s without y) p v) × Is (joined d (s without y) u q) → Is (joined d (s without y) u v)
  crossed p q u v n a b =
      let tr = joined_trans d (s without z) in
      let sy = joined_sym d (s without z) in
      joined_sym d (s without y) v u
      (not_both d (s without y) z p v q u b.0 (λ k. n (tr u p v (sy p u a.0) (others p v k))) (joined_sym d (s without y) u q b.1)
      (λ k. n (tr u q v (sy q u (others q u k)) (sy v q a.1))))
    where
      others : (p q : ℕ) → Is (joined d (s without y without z) p q) → Is (joined d (s without z) p q)
      others =
          joined_mono d (s without y without z) (s without z)
          (λ e _ k. without_make s z e (without_old s y e (without_old (s without y) z e k)) (without_ne (s without y) z e k))

-- ---- the swap

module _ (d : Design) (s : Set) (ac : Acyclic d s) (x y : ℕ) (hx : In d.m x) (new : ¬ (Is (s x))) (over : Is (spans d s x))
    (needs_y : ¬ (Is (spans d (s without y) x))) where
  pub between_in : (p q : ℕ) → between d (s without y with x) x p q ≡ between d s y p q
  unfolding between
  between_in p q =
      ap (λ (t : Set). isnt (joined d t p q))
      (put_put (s without y) x true false ∙ put_id (s without y) x false (is_false ((s without y) x) (λ h. new (without_old s y x h))))

  module _ (z : ℕ) (nx : z ≢ x) (ny : z ≢ y) where
    abbrev left : Set
    left = s without z without y with x

    later : (p q : ℕ) → joined d (s without y with x without z) p q ≡ joined d (s without z without y with x) p q
    later p q =
        ap (λ (t : Set). joined d t p q)
        (put_comm (s without y) x z true false (λ e. nx (sym e)) ∙ ap (λ (t : Set). t with x) (put_comm s y z false false (λ e. ny (sym e))))

    -- z is not on the path of x
    off_path : Is (joined d (s without z) (d.one x) (d.other x)) → (p q : ℕ) → joined d (s without z without y with x) p q ≡ joined d (s without z) p q
    unfolding spans
    off_path h = swap_same d (s without z) x y hx h (λ k. needs_y (without_one d s y z (d.one x) (d.other x) k))

    -- z is on the path of x
    module _ (needs_z : ¬ (Is (joined d (s without z) (d.one x) (d.other x)))) (p q : ℕ) (pq : Is (joined d s p q)) where
      round : (t : Set) (u v : ℕ) → Is (joined d t p u) → Is (joined d t v q) → Is (joined d t p q) → Is (joined d t u v)
      round t u v a b k = joined_trans d t u p v (joined_sym d t p u a) (joined_trans d t p q v k (joined_sym d t v q b))

      -- who is joined by way of x is joined neither without y nor without z
      passes : Is (joined d left p q)
          → Is (joined d (s without z without y) p q) ⊎ (¬ (Is (joined d (s without z) p q)) × ¬ (Is (joined d (s without y) p q)))
      unfolding spans
      passes h =
          let z_gone = up d (s without z) y in
          let y_gone = without_one d s y z in
          ⊎_elim (λ k. inl k)
          (⊎_elim
          (λ w.
          inr (
            λ k. needs_z (round (s without z) _ _ (z_gone _ _ w.0) (z_gone _ _ w.1) k),
            λ k. needs_y (round (s without y) _ _ (y_gone _ _ w.0) (y_gone _ _ w.1) k),
          ))
          (λ w.
          inr (
            λ k. needs_z (joined_sym d (s without z) _ _ (round (s without z) _ _ (z_gone _ _ w.0) (z_gone _ _ w.1) k)),
            λ k. needs_y (joined_sym d (s without y) _ _ (round (s without y) _ _ (y_gone _ _ w.0) (y_gone _ _ w.1) k)),
          )))
          (joined_split d (s without z without y) x p q h)

      -- who stays joined without z and without y is joined without both
      stays : (u v : ℕ) → Is (joined d (s without z) u v) → Is (joined d (s without y) u v) → Is (joined d (s without z without y) u v)
      stays u v a b =
          cases (joined d (s without z without y) u v) (λ k. k)
          (λ n.
          let edge = crossing_edge d (s without z) y u v a n in
          joined_mono d (s without y without z) (s without z without y)
          (λ e _ k.
          let o = without_old (s without y) z e k in
          without_make (s without z) y e (without_make s z e (without_old s y e o) (without_ne (s without y) z e k)) (without_ne s y e o))
          u v (both_deleted_at d s u v z y edge.0 (without_old s z y edge.1) ac b a))

      joins : (u v : ℕ) → Is (joined d left u v) → Is (joined d (s without z) p u) × Is (joined d (s without z) v q)
          → Is (joined d (s without y) p u) × Is (joined d (s without y) v q) → Is (joined d left p q)
      joins u v k a b =
          let more = joined_mono d (s without z without y) left (λ e _ i. with_old (s without z without y) x e i) in
          joined_trans d left p u q (more p u (stays p u a.0 b.0)) (joined_trans d left u v q k (more v q (stays v q a.1 b.1)))

      -- both are between p and q: p hangs with one end of x when z goes, and with the same one when y goes
      outer : ¬ (Is (joined d (s without z) p q)) → ¬ (Is (joined d (s without y) p q)) → Is (joined d left p q)
      unfolding spans
      outer nz gone =
          let u = d.one x in
          let v = d.other x in
          let by_x : Is (joined d left u v) = spans_edge d left x hx (with_self (s without z without y) x) in
          let flip : (w u v : ℕ) → Is (joined d (s without w) p u) × Is (joined d (s without w) v q) → Is (joined d (s without w) q v) × Is (joined d (s without w) u p) =
          λ w u v a. (joined_sym d (s without w) v q a.1, joined_sym d (s without w) p u a.0) in
          ⊎_elim
          (λ a.
          ⊎_elim (λ b. joins u v by_x a b) (λ b. absurd (needs_y (crossed d s y z p q u v needs_z a b))) (sides d s ac y p q u v pq gone over needs_y))
          (λ a.
          ⊎_elim (λ b. absurd (needs_y (crossed d s y z q p u v needs_z (flip z v u a) (flip y u v b))))
          (λ b. joins v u (joined_sym d left u v by_x) a b) (sides d s ac y p q u v pq gone over needs_y))
          (sides d s ac z p q u v pq nz over needs_z)

      is_on_path : isnt (joined d left p q) ≡ (isnt (joined d (s without z) p q) differs isnt (joined d (s without y) p q))
      is_on_path =
          agree_or_not (joined d left p q) (joined d (s without z) p q) (joined d (s without y) p q)
          (λ a b. joined_mono d (s without z without y) left (λ e _ i. with_old (s without z without y) x e i) p q (stays p q a b))
          (λ a n h. ⊎_elim (λ k. n (without_one d s y z p q k)) (λ k. k.0 a) (passes h))
          (λ n b h. ⊎_elim (λ k. n (up d (s without z) y p q k)) (λ k. k.1 b) (passes h))
          outer

    pub between_swapped : (p q : ℕ) → Is (joined d s p q)
        → between d (s without y with x) z p q ≡ (between d s z p q differs (between d s y p q and between d s z (d.one x) (d.other x)))
    unfolding between
    between_swapped p q h =
        ap isnt (later p q)
        ∙ cases (joined d (s without z) (d.one x) (d.other x))
        (λ k.
        ap isnt (off_path k p q)
        ∙ sym (with_none (isnt (joined d (s without z) p q)) (isnt (joined d (s without y) p q)) (isnt (joined d (s without z) (d.one x) (d.other x))) (λ t. isnt_not _ t k)))
        (λ k.
        is_on_path k p q h
        ∙ sym (ap (λ (t : Bool). isnt (joined d (s without z) p q) differs t) (and_all (isnt (joined d (s without y) p q)) _ (isnt_make _ k))))
