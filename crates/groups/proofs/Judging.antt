-- One pass of deletion, edge by edge: of the first e edges those that do not stay are deleted, and the others are as they were. Then
-- what a whole pass does to the number of edges that are left: as many fewer as were deleted, so where none was deleted all stay.
-- Assumes nothing.
use mathlib.Core.Path.{◌≡◌, refl, sym, ap, ◌∙◌, subst}
use mathlib.Core.Logic.{◌≢◌}
use mathlib.Core.Bool.{Bool, true, false, cond}
use mathlib.Core.List.{List}
use Prim.Native.Nat.{ℕ, suc, ◌+◌, ◌≤◌, ◌<◌}
use native.Mathlib.Numerals.{add-one}
use native.Mathlib.Omega.{arith}
use lib.ListN.{length, get_or, set, length-set}
use Rattle.rule.specs.Sets.{Is, ◌and◌, isnt, ◌<?◌, Set, In, put, one_if, count, at}
use Rattle.rule.proofs.Tests.{cases, by_eq, never, same_test, is_false, and_make, and_l, and_r, isnt_make, isnt_not, lt_of, lt_is, in_split, put_same, put_other}
use Rattle.rule.proofs.Counting.{count_eq, count_le, count_pos, count_split}
use Rattle.rule.proofs.Places.{at_suc, at_set}
use Rattle.groups.specs.Passes.{Thinned}

-- those that go
abbrev pub going : Set → List ℕ → Set
going stay before e = 0 <? at before e and isnt (stay e)

either_zero : (t : Bool) → ◌≡◌ {A = ℕ} (cond t 0 0) 0
either_zero true = refl
either_zero false = refl

-- the first e edges are judged
pub record Judged (stay : Set) (before now : List ℕ) (e gone : ℕ) : Type 0 where
  pub past : Thinned stay e before now gone
  pub rest : (i : ℕ) → e < i → at now i ≡ at before i

module _ {stay : Set} {before : List ℕ} where
  pub judged_none : Judged stay before before 0 0
  unfolding count
  judged_none =
      record { past = record { as_long = refl; left = λ e h. absurd (omega arith); number = refl }; rest = λ i l. refl }

  -- no more edges go than are judged
  pub judged_few : {now : List ℕ} {e gone : ℕ} → Judged stay before now e gone → gone ≤ e
  judged_few {e = e} j = omega (arith, j.past.number, count_le (going stay before) e)

  pub judged_all : {now : List ℕ} {e gone m : ℕ} → e ≤ m → m ≤ e → Judged stay before now e gone → Thinned stay m before now gone
  judged_all {now = now} {gone = gone} l g j = subst (λ (z : ℕ). Thinned stay z before now gone) (omega arith) j.past

  module _ {now : List ℕ} {e gone : ℕ} (j : Judged stay before now e gone) where
    -- what the code reads of edge e + 1
    read : get_or now e 0 ≡ at before (suc e)
    read = sym (at_suc now e) ∙ j.rest (suc e) (omega arith)

    -- the code's next edge
    next : (now' : List ℕ) (gone' : ℕ) → Judged stay before now' (suc e) gone' → Judged stay before now' (e + 1) gone'
    next now' gone' = subst (λ (z : ℕ). Judged stay before now' z gone') (sym (add-one e))

    judged_kept : cond (stay (suc e)) (at before (suc e)) 0 ≡ at before (suc e) → ¬ (Is (going stay before (suc e))) → Judged stay before now (e + 1) gone
    unfolding count
    judged_kept same none =
        next now gone
        (record {
          past =
              record {
                as_long = j.past.as_long;
                left =
                    λ i h.
                    in_split e i h (λ k. j.past.left i k)
                    (λ q. subst (λ (z : ℕ). at now z ≡ cond (stay z) (at before z) 0) (sym q) (j.rest (suc e) (omega arith) ∙ sym same));
                number = omega (arith, j.past.number, ap one_if (is_false (going stay before (suc e)) none));
              };
          rest = λ i l. j.rest i (omega arith);
        })

    -- edge e + 1 stays
    pub judged_stays : Is (stay (suc e)) → Judged stay before now (e + 1) gone
    judged_stays s =
        judged_kept (ap (λ (b : Bool). cond b (at before (suc e)) 0) s) (λ g. isnt_not (stay (suc e)) (and_r (0 <? at before (suc e)) _ g) s)

    -- edge e + 1 was deleted before, or never kept
    pub judged_empty : get_or now e 0 ≡ 0 → Judged stay before now (e + 1) gone
    judged_empty none =
        judged_kept (subst (λ (z : ℕ). cond (stay (suc e)) z 0 ≡ z) (sym none ∙ read) (either_zero (stay (suc e))))
        (λ g. omega (arith, read, lt_of 0 (at before (suc e)) (and_l _ _ g)))

    -- edge e + 1 goes
    pub judged_gone : e < length before → get_or now e 0 ≢ 0 → ¬ (Is (stay (suc e))) → Judged stay before (set now e 0) (e + 1) (gone + 1)
    unfolding count
    judged_gone l some n =
        next (set now e 0) (gone + 1)
        (record {
          past =
              record {
                as_long = length-set now e 0 ∙ j.past.as_long;
                left =
                    λ i h.
                    in_split e i h (λ k. elsewhere i (omega arith) ∙ j.past.left i k)
                    (λ q.
                    subst (λ (z : ℕ). at (set now e 0) z ≡ cond (stay z) (at before z) 0) (sym q)
                    (ap (λ (f : ℕ → ℕ). f (suc e)) stored
                    ∙ put_same (at now) (suc e) 0
                    ∙ sym (ap (λ (b : Bool). cond b (at before (suc e)) 0) (is_false (stay (suc e)) n))));
                number = omega (arith, j.past.number, ap one_if (and_make (0 <? at before (suc e)) (isnt (stay (suc e))) (lt_is _ _ (omega (arith, read))) (isnt_make (stay (suc e)) n)));
              };
          rest = λ i k. elsewhere i (omega arith) ∙ j.rest i (omega arith);
        })
      where
        stored : at (set now e 0) ≡ put (at now) (suc e) 0
        stored = at_set now e 0 (omega (arith, j.past.as_long))

        elsewhere : (i : ℕ) → i ≢ suc e → at (set now e 0) i ≡ at now i
        elsewhere i ne = ap (λ (f : ℕ → ℕ). f i) stored ∙ put_other (at now) (suc e) 0 i ne

-- ---- a whole pass

positive_if : (t : Bool) (x : ℕ) → (0 <? cond t x 0) ≡ (0 <? x and t)
positive_if true x = same_test _ _ (λ h. and_make _ _ h refl) (λ h. and_l _ _ h)
positive_if false x = same_test _ _ (λ h. absurd (omega (arith, lt_of 0 0 h))) (λ h. never (and_r (0 <? x) false h))

-- how many edges are left
abbrev pub left_over : ℕ → List ℕ → ℕ
left_over m list = count (λ e. 0 <? at list e) m

module _ {stay : Set} {m : ℕ} {before after : List ℕ} {gone : ℕ} (t : Thinned stay m before after gone) where
  pub thinned_fewer : left_over m after + gone ≡ left_over m before
  thinned_fewer =
      omega (
        arith,
        t.number,
        count_split (λ e. 0 <? at before e) stay m,
        count_eq (λ e. 0 <? at after e) (λ e. 0 <? at before e and stay e) m
            (λ e h. ap (λ (z : ℕ). 0 <? z) (t.left e h) ∙ positive_if (stay e) (at before e)),
      )

  pub thinned_none : gone ≡ 0 → (e : ℕ) → In m e → 1 ≤ at before e → Is (stay e)
  thinned_none none e h l =
      cases (stay e) (λ s. s)
      (λ n. absurd (omega (arith, t.number, count_pos (going stay before) m e h (and_make (0 <? at before e) _ (lt_is 0 _ l) (isnt_make (stay e) n)))))

  pub thinned_same : gone ≡ 0 → (e : ℕ) → In m e → at after e ≡ at before e
  thinned_same none e h =
      by_eq (at before e) 0 (λ q. t.left e h ∙ subst (λ (z : ℕ). cond (stay e) z 0 ≡ z) (sym q) (either_zero (stay e)))
      (λ ne. t.left e h ∙ ap (λ (b : Bool). cond b (at before e) 0) (thinned_none none e h (omega arith)))
