-- Two trees become one. `near` tells which bodies are joined before, `far` after u and v have been linked.
--
-- The bodies near u take the name of v, and the word at that name gets the bodies of both trees. From a body of either tree `far`
-- reaches just the bodies of both; from any other body it reaches what `near` does.
-- Assumes nothing.
use mathlib.Core.Path.{◌≡◌, sym, ap, ap₂, ◌∙◌, subst}
use mathlib.Core.Logic.{◌⊎◌, inl, inr, ⊎_elim, ◌≢◌}
use mathlib.Core.Bool.{Bool, cond}
use Prim.Native.Nat.{ℕ, ◌-◌, ◌<◌}
use Rattle.rule.specs.Sets.{Is, ◌or◌, ◌=?◌, In}
use Rattle.rule.proofs.Tests.{cases, same_test, is_false, or_l, or_r, or_elim, eq_of, eq_is, eq_self, by_eq}
use Rattle.theory.proofs.Rank.Leaders.{Equivalence, Linked}
use Rattle.words.specs.Bits.{bit}

-- two bodies have one name exactly when they are near, and the word of a name has the bodies with that name
pub record Named (near : ℕ → ℕ → Bool) (name crowd : ℕ → ℕ) : Type 0 where
  pub small : (x : ℕ) → In 64 x → name x < 64
  pub same : (x y : ℕ) → In 64 x → In 64 y → (name x =? name y) ≡ near x y
  pub bodies : (x y : ℕ) → In 64 x → In 64 y → bit (crowd (name x)) (y - 1) ≡ near x y

-- the bodies near u have taken the name of v
pub record Renamed (near : ℕ → ℕ → Bool) (u v : ℕ) (name crowd name' crowd' : ℕ → ℕ) : Type 0 where
  pub taken : (x : ℕ) → In 64 x → name' x ≡ cond (near u x) (name v) (name x)
  pub both : (y : ℕ) → In 64 y → bit (crowd' (name v)) (y - 1) ≡ (near u y or near v y)
  pub others : (l : ℕ) → l ≢ name v → crowd' l ≡ crowd l

or_alone : (a b : Bool) → ¬ (Is a) → (a or b) ≡ b
or_alone a b n = same_test _ _ (λ h. ⊎_elim (λ p. absurd (n p)) (λ p. p) (or_elim a b h)) (λ h. or_r a b h)

module _ (near far : ℕ → ℕ → Bool) (eqn : Equivalence near) (eqf : Equivalence far) (u v : ℕ) (k : Linked near far eqn eqf 64 u v) where
  -- ---- what `far` reaches

  from_one : (x y : ℕ) → Is (near u x) → far x y ≡ (near u y or near v y)
  from_one x y h =
      same_test _ _
      (λ p.
      ⊎_elim (λ q. or_l _ _ (eqn.trans u x y h q)) (⊎_elim (λ q. or_r (near u y) _ q.1) (λ q. or_l _ _ q.1)) (k.only x y p))
      (λ p.
      eqf.trans x u y (eqf.symm u x (k.grows u x h))
      (⊎_elim (λ q. k.grows u y q) (λ q. eqf.trans u v y k.links (k.grows v y q)) (or_elim _ _ p)))

  from_other : (x y : ℕ) → Is (near v x) → far x y ≡ (near u y or near v y)
  from_other x y h =
      same_test _ _
      (λ p.
      ⊎_elim (λ q. or_r (near u y) _ (eqn.trans v x y h q)) (⊎_elim (λ q. or_r (near u y) _ q.1) (λ q. or_l _ _ q.1)) (k.only x y p))
      (λ p.
      eqf.trans x v y (eqf.symm v x (k.grows v x h))
      (⊎_elim (λ q. eqf.trans v u y (eqf.symm u v k.links) (k.grows u y q)) (λ q. k.grows v y q) (or_elim _ _ p)))

  -- y is not near u, and x is near u as little or not near v
  elsewhere : (x y : ℕ) → ¬ (Is (near u x)) → ¬ (Is (near u y)) ⊎ ¬ (Is (near v x)) → far x y ≡ near x y
  elsewhere x y nu o =
      same_test _ _
      (λ p.
      ⊎_elim (λ q. q)
      (⊎_elim (λ q. absurd (nu (eqn.symm x u q.0))) (λ q. absurd (⊎_elim (λ n. n q.1) (λ n. n (eqn.symm x v q.0)) o))) (k.only x y p))
      (λ p. k.grows x y p)

  -- ---- the names

  module _ (name crowd name' crowd' : ℕ → ℕ) (old : Named near name crowd) (re : Renamed near u v name crowd name' crowd') where
    renamed : (x : ℕ) → In 64 x → Is (near u x) → name' x ≡ name v
    renamed x h p = re.taken x h ∙ ap (λ (b : Bool). cond b (name v) (name x)) p

    stays : (x : ℕ) → In 64 x → ¬ (Is (near u x)) → name' x ≡ name x
    stays x h n = re.taken x h ∙ ap (λ (b : Bool). cond b (name v) (name x)) (is_false (near u x) n)

    same_name : (x y : ℕ) → In 64 x → In 64 y → (name' x =? name' y) ≡ far x y
    same_name x y hx hy =
        cases (near u x)
        (λ p.
        cases (near u y)
        (λ q. ap₂ ◌=?◌ (renamed x hx p) (renamed y hy q) ∙ eq_self (name v) ∙ sym (from_one x y p ∙ or_l _ _ q))
        (λ q.
        ap₂ ◌=?◌ (renamed x hx p) (stays y hy q) ∙ old.same v y k.other_body hy ∙ sym (from_one x y p ∙ or_alone _ _ q)))
        (λ p.
        cases (near u y)
        (λ q.
        ap₂ ◌=?◌ (stays x hx p) (renamed y hy q) ∙ old.same x v hx k.other_body
        ∙ sym
        (same_test (far x y) (far y x) (eqf.symm x y) (eqf.symm y x)
        ∙ from_one y x q
        ∙ or_alone _ _ p
        ∙ same_test (near v x) (near x v) (eqn.symm v x) (eqn.symm x v)))
        (λ q. ap₂ ◌=?◌ (stays x hx p) (stays y hy q) ∙ old.same x y hx hy ∙ sym (elsewhere x y p (inl q))))

    crowd_at : (x y : ℕ) → In 64 x → In 64 y → bit (crowd' (name' x)) (y - 1) ≡ far x y
    crowd_at x y hx hy =
        cases (near u x)
        (λ p. ap (λ (l : ℕ). bit (crowd' l) (y - 1)) (renamed x hx p) ∙ re.both y hy ∙ sym (from_one x y p))
        (λ p.
        ap (λ (l : ℕ). bit (crowd' l) (y - 1)) (stays x hx p)
        ∙ by_eq (name x) (name v)
        (λ q.
        ap (λ (l : ℕ). bit (crowd' l) (y - 1)) q
        ∙ re.both y hy
        ∙ sym (from_other x y (eqn.symm x v (sym (old.same x v hx k.other_body) ∙ eq_is _ _ q))))
        (λ ne.
        ap (λ (w : ℕ). bit w (y - 1)) (re.others (name x) ne)
        ∙ old.bodies x y hx hy
        ∙ sym (elsewhere x y p (inr (λ h. ne (eq_of _ _ (old.same x v hx k.other_body ∙ eqn.symm v x h)))))))

    pub named_renamed : Named far name' crowd'
    named_renamed =
        record {
          small =
              λ x h.
              cases (near u x) (λ p. subst (λ (l : ℕ). l < 64) (sym (renamed x h p)) (old.small v k.other_body))
              (λ p. subst (λ (l : ℕ). l < 64) (sym (stays x h p)) (old.small x h));
          same = same_name;
          bodies = crowd_at;
        }
