-- One edge more, between bodies that were not joined: which edges are between which bodies.
--
-- Two bodies that were joined have the same edges between them as before. A body that was joined to the one end and a body that was
-- joined to the other have between them the new edge, and each edge that was between one of them and its end: it was between
-- just one of them and its end, for it stands in one tree.
-- Assumes nothing.
use mathlib.Core.Path.{◌≡◌, refl, sym, ap, ◌∙◌, subst}
use mathlib.Core.Logic.{⊎_elim, ◌≢◌}
use mathlib.Core.Bool.{Bool, true, false, false≢true}
use Prim.Native.Nat.{ℕ}
use Rattle.rule.specs.Sets.{Is, isnt, Set, In, ◌with◌, ◌without◌}
use Rattle.rule.specs.Legal.{Design}
use Rattle.rule.proofs.Tests.{same_test, is_false, put_id, put_put, put_comm, with_self, with_old, without_old}
use Rattle.theory.specs.Joined.{joined, spans}
use Rattle.theory.proofs.Joined.Laws.{joined_sym, joined_trans, joined_mono, joined_split, spans_edge, turned_at}
use Rattle.words.proofs.Bits.{◌differs◌}
use Rattle.planting.proofs.Between.{between, up, not_both}

-- two tests of which one fails at most
fails_once : (j a b : Bool) → (Is j → Is a × Is b) → (Is a → Is b → Is j) → ¬ (¬ (Is a) × ¬ (Is b)) → isnt j ≡ (isnt a differs isnt b)
unfolding isnt ◌differs◌
fails_once true a b f g n = sym (subst (λ (t : Bool). (isnt t differs isnt b) ≡ false) (sym (f refl).0) (ap (λ (t : Bool). isnt true differs isnt t) (f refl).1))
fails_once false true true f g n = absurd (false≢true (g refl refl))
fails_once false true false f g n = refl
fails_once false false true f g n = refl
fails_once false false false f g n = absurd (n (false≢true, false≢true))

module _ (d : Design) (s : Set) (e : ℕ) (he : In d.m e) (apart : ¬ (Is (spans d s e))) where
  not_in : ¬ (Is (s e))
  not_in i = apart (spans_edge d s e he i)

  -- without the new edge all is as before
  pub with_without_same : (s with e without e) ≡ s
  with_without_same = put_put s e true false ∙ put_id s e false (is_false (s e) not_in)

  pub between_new : (x y : ℕ) → between d (s with e) e x y ≡ isnt (joined d s x y)
  unfolding between
  between_new x y = ap (λ (t : Set). isnt (joined d t x y)) with_without_same

  -- x was joined to the one end, y to the other: they were not joined, nor x and the other end
  module _ (x y : ℕ) (hx : Is (joined d s x (d.one e))) (hy : Is (joined d s (d.other e) y)) where
    pub parted : ¬ (Is (joined d s x y))
    unfolding spans
    parted h =
        apart
        (joined_trans d s (d.one e) x (d.other e) (joined_sym d s x (d.one e) hx)
        (joined_trans d s x y (d.other e) h (joined_sym d s (d.other e) y hy)))

    parted_end : ¬ (Is (joined d s x (d.other e)))
    unfolding spans
    parted_end h = apart (joined_trans d s (d.one e) x (d.other e) (joined_sym d s x (d.one e) hx) h)

  module _ (z : ℕ) (ne : z ≢ e) where
    -- the other edge may be taken out first
    later : (x y : ℕ) → joined d (s with e without z) x y ≡ joined d (s without z with e) x y
    later x y = ap (λ (t : Set). joined d t x y) (put_comm s e z true false (λ q. ne (sym q)))

    pub between_old : (x y : ℕ) → Is (joined d s x y) → between d (s with e) z x y ≡ between d s z x y
    unfolding between
    between_old x y h =
        ap isnt
        (later x y
        ∙ same_test _ _
        (λ p. ⊎_elim (λ q. q) (λ o. absurd (apart (turned_at d (s without z) s e x y (λ f _ k. without_old s z f k) o h))) (joined_split d (s without z) e x y p))
        (joined_mono d (s without z) (s without z with e) (λ f _ k. with_old (s without z) e f k) x y))

    pub between_parted : (x y : ℕ) → Is (joined d s x (d.one e)) → Is (joined d s (d.other e) y)
        → between d (s with e) z x y ≡ (between d s z x (d.one e) differs between d s z (d.other e) y)
    unfolding between spans
    between_parted x y hx hy =
        ap isnt (later x y)
        ∙ fails_once _ _ _
        (λ p.
        ⊎_elim (λ q. absurd (parted x y hx hy (up d s z x y q)))
        (⊎_elim (λ w. w) (λ w. absurd (parted_end x y hx hy (up d s z x (d.other e) w.0)))) (joined_split d (s without z) e x y p))
        (λ p q.
        let more = joined_mono d (s without z) (s without z with e) (λ f _ k. with_old (s without z) e f k) in
        let tr = joined_trans d (s without z with e) in
        tr x (d.one e) y (more x (d.one e) p)
        (tr (d.one e) (d.other e) y (spans_edge d (s without z with e) e he (with_self (s without z) e)) (more (d.other e) y q)))
        (λ n.
        apart
        (joined_trans d s (d.one e) y (d.other e) (not_both d s z x (d.one e) (d.other e) y hx n.0 hy n.1) (joined_sym d s (d.other e) y hy)))
