-- Laws of `Applied` (specs/Rows.antt), and of a loop that takes the bits of a word one by one, lowest first, and changes the list at
-- each: what is done so far is applied at the bits that the word had and has no more.
-- Assumes nothing.
use mathlib.Core.Path.{◌≡◌, refl, sym, ap, ◌∙◌, subst}
use mathlib.Core.Bool.{Bool, true, cond, false≢true}
use mathlib.Core.List.{List}
use Prim.Native.Nat.{ℕ, ◌+◌, ◌≤◌, ◌<◌}
use native.Mathlib.Omega.{arith}
use lib.ListN.{length, get_or, set, length-set}
use lib.Seq.{get_or-set_same, get_or-set_other}
use Rattle.rule.specs.Sets.{Is, ◌and◌, isnt, ◌=?◌, Set, ◌with◌}
use Rattle.rule.proofs.Tests.{same_test, is_false, and_make, and_l, and_r, isnt_make, isnt_not, eq_of, eq_is, by_eq, put_same, put_other, with_old, with_self}
use Rattle.words.specs.Bits.{bit, Lowest, Without}
use Rattle.words.proofs.Bits.{bit_zero}
use Rattle.labels.specs.Rows.{Applied}

module _ (g : ℕ → ℕ) (base : ℕ) where
  pub applied_none : (p : Set) (list : List ℕ) → ((t : ℕ) → t < 64 → ¬ (Is (p t))) → Applied g base p list list
  applied_none p list none =
      record {
        as_long = refl;
        row = λ t l. sym (ap (λ (b : Bool). cond b (g (get_or list (base + t) 0)) (get_or list (base + t) 0)) (is_false (p t) (none t l)));
        else = λ i o. refl;
      }

  pub applied_agree : (p q : Set) (before after : List ℕ) → ((t : ℕ) → t < 64 → p t ≡ q t) → Applied g base p before after
      → Applied g base q before after
  applied_agree p q before after f a =
      record {
        as_long = a.as_long;
        row = λ t l. a.row t l ∙ ap (λ (b : Bool). cond b (g (get_or before (base + t) 0)) (get_or before (base + t) 0)) (f t l);
        else = a.else;
      }

  module _ (p : Set) (before now : List ℕ) (t : ℕ) (small : t < 64) (new : ¬ (Is (p t))) (inside : base + t < length before) (a : Applied g base p before now) where
    -- the place is as it was
    untouched : get_or now (base + t) 0 ≡ get_or before (base + t) 0
    untouched =
        a.row t small ∙ ap (λ (b : Bool). cond b (g (get_or before (base + t) 0)) (get_or before (base + t) 0)) (is_false (p t) new)

    more_row : (r : ℕ) → r < 64
        → get_or (set now (base + t) (g (get_or now (base + t) 0))) (base + r) 0
        ≡ cond ((p with t) r) (g (get_or before (base + r) 0)) (get_or before (base + r) 0)
    more_row r l =
        by_eq r t
        (λ q.
        subst
        (λ (z : ℕ).
        get_or (set now (base + t) (g (get_or now (base + t) 0))) (base + z) 0 ≡ cond ((p with t) z) (g (get_or before (base + z) 0)) (get_or before (base + z) 0))
        (sym q)
        (get_or-set_same now (base + t) (g (get_or now (base + t) 0)) 0 (omega (arith, a.as_long))
        ∙ ap g untouched
        ∙ sym (ap (λ (b : Bool). cond b (g (get_or before (base + t) 0)) (get_or before (base + t) 0)) (put_same p t true))))
        (λ ne.
        get_or-set_other now (base + t) (base + r) (g (get_or now (base + t) 0)) 0 (omega arith)
        ∙ a.row r l
        ∙ sym (ap (λ (b : Bool). cond b (g (get_or before (base + r) 0)) (get_or before (base + r) 0)) (put_other p t true r ne)))

    -- one place more
    pub applied_more : Applied g base (p with t) before (set now (base + t) (g (get_or now (base + t) 0)))
    applied_more =
        record {
          as_long = length-set now (base + t) _ ∙ a.as_long;
          row = more_row;
          else = λ i o. get_or-set_other now (base + t) i _ 0 (o t small) ∙ a.else i o;
        }

-- ---- bit by bit

-- of the word's bits those in `left` wait, and at the others g is applied
pub record Left (g : ℕ → ℕ) (base word : ℕ) (before now : List ℕ) (left : ℕ) : Type 0 where
  pub applied : Applied g base (λ t. bit word t and isnt (bit left t)) before now
  pub within : (t : ℕ) → Is (bit left t) → Is (bit word t)

module _ (g : ℕ → ℕ) (base word : ℕ) (before : List ℕ) where
  pub left_all : Left g base word before before word
  left_all =
      record {
        applied = applied_none g base _ before (λ t l h. isnt_not (bit word t) (and_r (bit word t) _ h) (and_l _ _ h));
        within = λ t h. h;
      }

  module _ (now : List ℕ) (left t next : ℕ) (fits : base + 64 ≤ length before) (low : Lowest left t) (less : Without left t next) (l : Left g base word before now left) where
    -- what waits next is what waited, without t
    goes : (r : ℕ) → ((λ r. bit word r and isnt (bit left r)) with t) r ≡ (bit word r and isnt (bit next r))
    goes r =
        same_test _ _
        (λ h.
        by_eq r t (λ q. and_make _ _ (subst (λ (z : ℕ). Is (bit word z)) (sym q) (l.within t low.is_set)) (isnt_make _ (λ w. gone r q w)))
        (λ ne.
        let old : Is (bit word r and isnt (bit left r)) = sym (put_other (λ r. bit word r and isnt (bit left r)) t true r ne) ∙ h in
        and_make _ _ (and_l _ _ old) (isnt_make _ (λ w. isnt_not (bit left r) (and_r (bit word r) _ old) (stayed r w)))))
        (λ h.
        by_eq r t (λ q. subst (λ (z : ℕ). Is (((λ r. bit word r and isnt (bit left r)) with t) z)) (sym q) (with_self (λ r. bit word r and isnt (bit left r)) t))
        (λ ne.
        with_old (λ r. bit word r and isnt (bit left r)) t r
        (and_make _ _ (and_l _ _ h)
        (isnt_make _
        (λ w. isnt_not (bit next r) (and_r (bit word r) _ h) (less.bits r ∙ and_make _ _ w (isnt_make _ (λ e. ne (eq_of r t e)))))))))
      where
        stayed : (r : ℕ) → Is (bit next r) → Is (bit left r)
        stayed r w = and_l _ _ (sym (less.bits r) ∙ w)

        gone : (r : ℕ) → r ≡ t → ¬ (Is (bit next r))
        gone r q w = isnt_not (r =? t) (and_r (bit left r) _ (sym (less.bits r) ∙ w)) (eq_is r t q)

    pub left_step : Left g base word before (set now (base + t) (g (get_or now (base + t) 0))) next
    left_step =
        record {
          applied =
              applied_agree g base _ _ before _ (λ r _. goes r)
              (applied_more g base (λ r. bit word r and isnt (bit left r)) before now t low.small
              (λ h. isnt_not (bit left t) (and_r (bit word t) _ h) low.is_set) (omega (arith, low.small)) l.applied);
          within = λ r h. l.within r (and_l _ _ (sym (less.bits r) ∙ h));
        }

  pub left_none : (now : List ℕ) (left : ℕ) → left ≡ 0 → Left g base word before now left → Applied g base (bit word) before now
  left_none now left q l =
      applied_agree g base _ (bit word) before now
      (λ t _.
      same_test _ _ (λ h. and_l _ _ h)
      (λ h. and_make _ _ h (isnt_make _ (λ w. false≢true (sym (ap (λ (z : ℕ). bit z t) q ∙ bit_zero t) ∙ w)))))
      l.applied
