-- The loop of `all_kept`: the numbers of a set are listed by one pass over 1 to m. A number that is in the set is written behind those before
-- it, and there is room for it since there is room for all; one that is not leaves the list as it is.
-- Assumes nothing.
use mathlib.Core.Path.{◌≡◌, refl, sym, ap, ◌∙◌, subst}
use mathlib.Core.Logic.{◌≢◌}
use mathlib.Core.List.{List, [], ◌∷◌, ◌++◌}
use Prim.Native.Nat.{ℕ, suc, ◌+◌, ◌≤◌, ◌<◌}
use native.Mathlib.Numerals.{add-one}
use native.Mathlib.Omega.{arith}
use lib.ListN.{length, get_or, set, length-append}
use Rattle.rule.specs.Sets.{Is, Set, count, at, numbers}
use Rattle.rule.proofs.Tests.{lt_of, lt_is}
use Rattle.rule.proofs.Counting.{length_numbers}
use Rattle.theory.proofs.Laws.Transport.{count_into}
use Rattle.reaching.specs.Laid.{Laid}
use Rattle.reaching.proofs.Laid.{laid_none, laid_length, laid_more}
use Rattle.reaching.proofs.Numbers.{numbers_in, numbers_out}
use Rattle.search.specs.Marks.{MarksWritten}
use Rattle.book.proofs.Figures.{placed}

-- further on there are no fewer
count_further : (s : Set) (i m : ℕ) → i ≤ m → count s i ≤ count s m
count_further s i m h =
    count_into i m s s (λ j. j) (record { range = λ j hj _. omega arith; goes = λ _ _ t. t; once = λ _ _ _ _ _ _ q. q })

-- an edge has a forest where its entry is not 0
pub has_forest : (forests : List ℕ) (e : ℕ) → get_or forests e 0 ≢ 0 → Is (placed forests (suc e))
unfolding at
has_forest forests e ne = lt_is 0 (get_or forests e 0) (omega arith)

pub has_none : (forests : List ℕ) (e : ℕ) → get_or forests e 0 ≡ 0 → ¬ (Is (placed forests (suc e)))
unfolding at
has_none forests e q t = omega (arith, lt_of 0 (get_or forests e 0) t)

module _ (s : Set) where
  pub none_listed : (before : List ℕ) → MarksWritten before 0 (numbers s 0) before 0
  unfolding numbers
  none_listed before = record { laid = laid_none before 0 (omega arith); counts = refl }

  module _ (e : ℕ) {before now : List ℕ} {n : ℕ} (w : MarksWritten before 0 (numbers s e) now n) where
    pub as_long : length now ≡ length before
    as_long = laid_length w.laid

    pub next_out : ¬ (Is (s (suc e))) → MarksWritten before 0 (numbers s (e + 1)) now n
    next_out not = subst (λ (l : List ℕ). MarksWritten before 0 l now n) (sym (ap (numbers s) (add-one e) ∙ numbers_out s e not)) w

    module _ (t : Is (s (suc e))) (m : ℕ) (further : e < m) (room : count s m ≤ length before) where
      pub room_for_next : n < length before
      room_for_next =
          omega (
            arith,
            w.counts,
            length_numbers s e,
            length_numbers s (suc e),
            ap length (numbers_in s e t),
            length-append (numbers s e) (suc e ∷ []),
            count_further s (suc e) m (omega arith),
          )

      pub next_in : MarksWritten before 0 (numbers s (e + 1)) (set now n (e + 1)) (n + 1)
      next_in =
          subst (λ (z : ℕ). MarksWritten before 0 (numbers s z) (set now n z) (n + 1)) (sym (add-one e))
          (subst (λ (l : List ℕ). MarksWritten before 0 l (set now n (suc e)) (n + 1)) (sym (numbers_in s e t)) longer)
        where
          longer : MarksWritten before 0 (numbers s e ++ (suc e ∷ [])) (set now n (suc e)) (n + 1)
          longer =
              record {
                laid =
                    subst (λ (j : ℕ). Laid before 0 (numbers s e ++ (suc e ∷ [])) (set now j (suc e))) (sym w.counts)
                    (laid_more w.laid (suc e) (omega (arith, room_for_next, w.counts)));
                counts = omega (arith, w.counts, length-append (numbers s e) (suc e ∷ []));
              }
