-- An edge offered anew beside one with the same ends and colour, its twin: it does what its twin does. With the new edge a set is legal in
-- the longer design exactly when with the twin it is legal in the shorter one, so both have the same circuit among edges that hold neither.
-- And where the kept edges take the twin, its circuit by definition is every kept edge.
--
-- The change of numbering sends the twin's number to the new one, or back, and leaves the others as they are.
-- Assumes nothing.
use mathlib.Core.Path.{◌≡◌, refl, sym, ap, ◌∙◌, subst}
use mathlib.Core.Logic.{⊎_elim, ◌↔◌, ◌≢◌}
use mathlib.Core.List.{List}
use Prim.Native.Nat.{ℕ, suc}
use native.Mathlib.Omega.{arith}
use Rattle.rule.specs.Sets.{Is, ◌=?◌, Set, In, put, ◌with◌, ◌without◌, numbers}
use Rattle.rule.specs.Legal.{Design, Keeps, Circuit}
use Rattle.rule.specs.declared.Edge.{Edge}
use Rattle.rule.specs.Books.{plus}
use Rattle.rule.proofs.Tests.{by_eq, put_same, put_other, with_elim, with_self, with_old, without_old, in_one, in_last}
use Rattle.rule.proofs.Counting.{with_mono}
use Rattle.rule.proofs.Legality.{legal_sub}
use Rattle.theory.proofs.Numbers.Listing.{without_last}
use Rattle.theory.proofs.Laws.Plus.{plus_one, plus_other, plus_red, new_one, new_other, new_red}
use Rattle.theory.proofs.Laws.Transport.{Carries, legal_carried}

-- ---- one number for another

-- x is sent to y, and every other number to itself
abbrev sends : (x y : ℕ) → ℕ → ℕ
sends x y = put (λ i. i) x y

sends_back : (x y i : ℕ) → i ≢ y → sends y x (sends x y i) ≡ i
sends_back x y i ne =
    by_eq i x (λ q. ap (λ (j : ℕ). sends y x (sends x y j)) q ∙ ap (sends y x) (put_same (λ j. j) x y) ∙ put_same (λ j. j) y x ∙ sym q)
    (λ nx. ap (sends y x) (put_other (λ j. j) x y i nx) ∙ put_other (λ j. j) y x i ne)

-- no two numbers, of those that are not y, go to one
sends_once : (x y i j : ℕ) → i ≢ y → j ≢ y → sends x y i ≡ sends x y j → i ≡ j
sends_once x y i j ni nj q = sym (sends_back x y i ni) ∙ ap (sends y x) q ∙ sends_back x y j nj

-- what holds of y at x, and of every other number of s at itself, holds of where the numbers of s with x go
sends_cases : (P : ℕ → ℕ → Type 0) (s : Set) (x y : ℕ) → P x y → ((i : ℕ) → i ≢ x → Is (s i) → P i i) → (i : ℕ) → Is ((s with x) i) → P i (sends x y i)
sends_cases P s x y at_x else i t =
    by_eq i x (λ q. subst (λ (j : ℕ). P j (sends x y j)) (sym q) (subst (P x) (sym (put_same (λ j. j) x y)) at_x))
    (λ ne. subst (P i) (sym (put_other (λ j. j) x y i ne)) (else i ne (sym (put_other s x _ i ne) ∙ t)))

-- ---- the twin

module _ (d : Design) (given : Edge) (e : ℕ) (h : In d.m e) (one : d.one e ≡ given.one) (other : d.other e ≡ given.other)
    (red : d.red e ≡ (given.colour =? 1)) where
  abbrev new : ℕ
  new = suc d.m

  to_new : (s : Set) → Carries d (plus d given) (s with e) (s with suc d.m) (sends e (suc d.m))
  unfolding plus
  to_new s =
      record {
        a = refl;
        b = refl;
        n = refl;
        into =
            record {
              range = λ i hi t. sends_cases (λ i z. In d.m i → In new z) s e new (λ _. omega arith) (λ i _ _ k. in_one d.m i k) i t hi;
              goes = λ i _ t. sends_cases (λ i z. Is ((s with new) z)) s e new (with_self s new) (λ i _ k. with_old s new i k) i t;
              once = λ i j hi hj _ _ q. sends_once e new i j (omega arith) (omega arith) q;
            };
        one =
            λ i hi t.
            sends_cases (λ i z. In d.m i → (plus d given).one z ≡ d.one i) s e new (λ _. new_one d given ∙ sym one)
            (λ i _ _ k. plus_one d given i (omega arith)) i t hi;
        other =
            λ i hi t.
            sends_cases (λ i z. In d.m i → (plus d given).other z ≡ d.other i) s e new (λ _. new_other d given ∙ sym other)
            (λ i _ _ k. plus_other d given i (omega arith)) i t hi;
        red =
            λ i hi t.
            sends_cases (λ i z. In d.m i → (plus d given).red z ≡ d.red i) s e new (λ _. new_red d given ∙ sym red)
            (λ i _ _ k. plus_red d given i (omega arith)) i t hi;
      }

  -- back from the new edge to its twin, which s does not hold
  to_twin : (s : Set) → ¬ (Is (s e)) → Carries (plus d given) d (s with suc d.m) (s with e) (sends (suc d.m) e)
  unfolding plus
  to_twin s not =
      record {
        a = refl;
        b = refl;
        n = refl;
        into =
            record {
              range = λ i hi t. sends_cases (λ i z. In new i → In d.m z) s new e (λ _. h) (λ i ne _ k. omega arith) i t hi;
              goes = λ i _ t. sends_cases (λ i z. Is ((s with e) z)) s new e (with_self s e) (λ i _ k. with_old s e i k) i t;
              once = λ i j _ _ ti tj q. sends_once new e i j (apart i ti) (apart j tj) q;
            };
        one =
            λ i _ t.
            sends_cases (λ i z. d.one z ≡ (plus d given).one i) s new e (one ∙ sym (new_one d given))
            (λ i ne _. sym (plus_one d given i ne)) i t;
        other =
            λ i _ t.
            sends_cases (λ i z. d.other z ≡ (plus d given).other i) s new e (other ∙ sym (new_other d given))
            (λ i ne _. sym (plus_other d given i ne)) i t;
        red =
            λ i _ t.
            sends_cases (λ i z. d.red z ≡ (plus d given).red i) s new e (red ∙ sym (new_red d given))
            (λ i ne _. sym (plus_red d given i ne)) i t;
      }
    where
      apart : (i : ℕ) → Is ((s with suc d.m) i) → i ≢ e
      apart i t q =
          ⊎_elim (λ l. omega (arith, h.high)) (λ k. not (subst (λ (j : ℕ). Is (s j)) q k)) (with_elim s (suc d.m) i t)

  -- with the new edge a set is legal exactly when it is with its twin
  pub twin_keeps : (s : Set) → ¬ (Is (s e)) → (Keeps (plus d given) s (suc d.m) ↔ Keeps d s e)
  twin_keeps s not = (
    legal_carried d (plus d given) (s with e) (s with suc d.m) (sends e (suc d.m)) (to_new s),
    legal_carried (plus d given) d (s with suc d.m) (s with e) (sends (suc d.m) e) (to_twin s not),
  )

  module _ (kept : Set) (not : ¬ (Is (kept e))) where
    -- the circuit of the new edge is its twin's
    pub twin_circuit : ¬ (Is (kept (suc d.m))) → (list : List ℕ) → Circuit (plus d given) kept (suc d.m) list → Circuit d kept e list
    unfolding plus
    twin_circuit past list c =
        record {
          chosen = c.chosen;
          exactly =
              λ i hi.
              let same = twin_keeps (kept without i) (λ t. not (without_old kept i e t)) in
              let in_longer = c.exactly i (in_one d.m i hi) in (
                (λ t. let k = in_longer.0 t in (k.0, same.0 k.1)),
                (λ k. in_longer.1 (k.0, same.1 k.1)),
              );
          in_order =
              c.in_order ∙ without_last c.chosen d.m (λ t. past ((c.exactly (suc d.m) (in_last d.m)).0 t).0);
        }

    -- where the new edge is kept, every kept edge is in its twin's circuit
    pub free_circuit : Keeps (plus d given) kept (suc d.m) → Circuit d kept e (numbers kept d.m)
    free_circuit keeps =
        record {
          chosen = kept;
          exactly =
              λ i hi. (
                (λ k.
                    (k, legal_sub d (kept without i with e) (kept with e) (with_mono d.m (kept without i) kept e (λ j _ t. without_old kept i j t)) ((twin_keeps kept not).0 keeps))),
                (λ k. k.0),
              );
          in_order = refl;
        }
