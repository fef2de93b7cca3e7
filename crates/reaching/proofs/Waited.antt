-- One edge more waits among those that wait in number order. `waited` is the queue after the loop that makes room for it from behind:
-- while a larger number stands before the free place, it moves into it. Where the numbers of a set stand in order, those of the
-- set with the edge then do: by induction on the bound of the set, the last number is larger than the edge and moves, or is smaller
-- and all stay.
-- Assumes nothing.
use mathlib.Core.Path.{◌≡◌, refl, sym, ap, ap₂, ◌∙◌, subst}
use mathlib.Core.Logic.{◌≢◌}
use mathlib.Core.Bool.{Bool, true, cond}
use mathlib.Core.List.{List, [], ◌∷◌, ◌++◌, append_assoc}
use Prim.Native.Nat.{ℕ, zero, suc, ◌+◌, ◌-◌, ◌≤◌, ◌<◌}
use native.Mathlib.Omega.{arith}
use lib.ListN.{length, get_or, take, drop, set, length-append, get_or-append}
use lib.Seq.{append_snoc, set-append_seam, get_or-append_seam, get_or-append-add, drop-cons, length-take-le}
use Rattle.rule.specs.Sets.{Is, ◌and◌, isnt, ◌<?◌, Set, In, ◌with◌, numbers}
use Rattle.rule.proofs.Tests.{cases, is_false, and_make, and_l, and_r, isnt_make, isnt_not, lt_of, lt_is, by_eq, put_other, with_self, with_old}
use Rattle.rule.proofs.Counting.{count_with, numbers_eq, length_numbers}
use Rattle.theory.proofs.Numbers.Listing.{numbers_at}
use Rattle.reaching.specs.Laid.{Laid, TakesIn}
use Rattle.reaching.proofs.Laid.{laid_length}
use Rattle.reaching.proofs.Numbers.{numbers_in, numbers_out}

-- ---- the loop

-- place q is free, and edge e is to stand there or before it, but not before the place `first`
unfoldable pub waited : (e first q : ℕ) → List ℕ → List ℕ
waited e first zero queue = set queue 0 e
waited e first (suc q) queue =
    cond (first <? suc q and isnt (get_or queue q 0 <? e)) (waited e first q (set queue (suc q) (get_or queue q 0))) (set queue (suc q) e)

pub waited_moves : (e first q : ℕ) (queue : List ℕ) → first < q → e ≤ get_or queue (q - 1) 0
    → waited e first q queue ≡ waited e first (q - 1) (set queue q (get_or queue (q - 1) 0))
unfolding waited
waited_moves e first zero queue l h = absurd (omega arith)
waited_moves e first (suc q) queue l h =
    let last : suc q - 1 ≡ q = omega arith in
    let h' : e ≤ get_or queue q 0 = subst (λ (z : ℕ). e ≤ get_or queue z 0) last h in
    ap (λ (b : Bool). cond b (waited e first q (set queue (suc q) (get_or queue q 0))) (set queue (suc q) e))
    (and_make _ _ (lt_is first (suc q) l) (isnt_make _ (λ t. omega (arith, lt_of _ _ t))))
    ∙ ap (λ (z : ℕ). waited e first z (set queue (suc q) (get_or queue z 0))) (sym last)

pub waited_stops : (e first q : ℕ) (queue : List ℕ) → (first < q → get_or queue (q - 1) 0 < e) → waited e first q queue ≡ set queue q e
unfolding waited
waited_stops e first zero queue h = refl
waited_stops e first (suc q) queue h =
    let last : suc q - 1 ≡ q = omega arith in
    ap (λ (b : Bool). cond b (waited e first q (set queue (suc q) (get_or queue q 0))) (set queue (suc q) e))
    (is_false _
    (λ t.
    isnt_not _ (and_r (first <? suc q) _ t)
    (lt_is _ _ (subst (λ (z : ℕ). get_or queue z 0 < e) last (h (lt_of _ _ (and_l _ _ t)))))))

-- ---- the numbers of a set

module _ (e : ℕ) (s : Set) (new : ¬ (Is (s e))) (front : List ℕ) where
  -- the numbers of a set, of 1 to m, behind the front
  abbrev behind : Set → ℕ → List ℕ
  behind t m = front ++ numbers t m

  behind_in : (t : Set) (m : ℕ) → Is (t (suc m)) → behind t (suc m) ≡ behind t m ++ (suc m ∷ [])
  behind_in t m h = ap (λ (l : List ℕ). front ++ l) (numbers_in t m h) ∙ sym (append_assoc front (numbers t m) (suc m ∷ []))

  behind_out : (t : Set) (m : ℕ) → ¬ (Is (t (suc m))) → behind t (suc m) ≡ behind t m
  behind_out t m h = ap (λ (l : List ℕ). front ++ l) (numbers_out t m h)

  -- all are smaller
  waited_last : (m x : ℕ) (rest : List ℕ) → m < e → waited e (length front) (length (behind s m)) (behind s m ++ x ∷ rest) ≡ behind s m ++ e ∷ rest
  waited_last m x rest l =
      waited_stops e (length front) (length (behind s m)) (behind s m ++ x ∷ rest) smaller ∙ set-append_seam (behind s m) x rest e
    where
      smaller : length front < length (behind s m) → get_or (behind s m ++ x ∷ rest) (length (behind s m) - 1) 0 < e
      smaller h =
          let j = length (numbers s m) - 1 in
          let long = length-append front (numbers s m) in
          let at : length (behind s m) - 1 ≡ length front + j = omega arith in
          let is : get_or (behind s m ++ x ∷ rest) (length (behind s m) - 1) 0 ≡ get_or (numbers s m) j 0 =
          get_or-append (behind s m) (x ∷ rest) 0 (length (behind s m) - 1) (omega arith)
          ∙ ap (λ (z : ℕ). get_or (behind s m) z 0) at
          ∙ get_or-append-add front (numbers s m) j 0 in
          omega (arith, is, (numbers_at s m j (omega arith)).0.high)

  -- the last is larger, and moves
  waited_larger : (m x : ℕ) (rest : List ℕ) → e ≤ m
      → waited e (length front) (length (behind s m ++ (suc m ∷ []))) (behind s m ++ (suc m ∷ []) ++ x ∷ rest)
      ≡ waited e (length front) (length (behind s m)) (behind s m ++ suc m ∷ suc m ∷ rest)
  waited_larger m x rest l =
      let all = behind s m ++ (suc m ∷ []) in
      let long = length-append (behind s m) (suc m ∷ []) in
      let last : length all - 1 ≡ length (behind s m) = omega arith in
      let is : get_or (all ++ x ∷ rest) (length all - 1) 0 ≡ suc m =
      ap₂ (λ (k : List ℕ) (z : ℕ). get_or k z 0) (append_snoc (behind s m) (suc m) (x ∷ rest)) last ∙ get_or-append_seam (behind s m) (suc m) (x ∷ rest) 0 in
      waited_moves e (length front) (length all) (all ++ x ∷ rest) (omega (arith, length-append front (numbers s m))) (omega arith)
      ∙ ap₂ (λ (z : ℕ) (k : List ℕ). waited e (length front) z k) last
      (ap (set (all ++ x ∷ rest) (length all)) is ∙ set-append_seam all x rest (suc m) ∙ append_snoc (behind s m) (suc m) (suc m ∷ rest))

  waited_numbers : (m x : ℕ) (rest : List ℕ) → In m e
      → waited e (length front) (length (behind s m)) (behind s m ++ x ∷ rest) ≡ behind (s with e) m ++ rest
  waited_numbers zero x rest h = absurd (omega arith)
  waited_numbers (suc m) x rest h =
      cases (s (suc m))
      (λ larger.
      let ne : e ≢ suc m = λ q. new (subst (λ (z : ℕ). Is (s z)) (sym q) larger) in
      ap (λ (l : List ℕ). waited e (length front) (length l) (l ++ x ∷ rest)) (behind_in s m larger)
      ∙ waited_larger m x rest (omega arith)
      ∙ waited_numbers m (suc m) (suc m ∷ rest) (omega arith)
      ∙ sym (append_snoc (behind (s with e) m) (suc m) rest)
      ∙ ap (λ (l : List ℕ). l ++ rest) (sym (behind_in (s with e) m (with_old s e (suc m) larger))))
      (λ none.
      ap (λ (l : List ℕ). waited e (length front) (length l) (l ++ x ∷ rest)) (behind_out s m none)
      ∙ by_eq e (suc m)
      (λ q.
      waited_last m x rest (omega arith)
      ∙ ap₂ (λ (l : List ℕ) (z : ℕ). front ++ l ++ z ∷ rest) (numbers_eq s (s with e) m (λ y k. sym (put_other s e true y (omega arith)))) q
      ∙ sym (append_snoc (behind (s with e) m) (suc m) rest)
      ∙ ap (λ (l : List ℕ). l ++ rest) (sym (behind_in (s with e) m (subst (λ (z : ℕ). Is ((s with e) z)) q (with_self s e)))))
      (λ ne.
      waited_numbers m x rest (omega arith)
      ∙ ap (λ (l : List ℕ). l ++ rest) (sym (behind_out (s with e) m (λ t. none (sym (put_other s e true (suc m) (λ q. ne (sym q))) ∙ t))))))

-- an edge that is none of them waits among the numbers of a set
laid_waited : (old now : List ℕ) (first e m : ℕ) (s : Set) → Laid old first (numbers s m) now → first + length (numbers s m) < length old → In m e
    → ¬ (Is (s e)) → Laid old first (numbers (s with e) m) (waited e first (first + length (numbers s m)) now)
laid_waited old now first e m s f room h new =
    let n = first + length (numbers s m) in
    let long : length (take first old) ≡ first = length-take-le first old (omega arith) in
    let one_more : length (numbers (s with e) m) ≡ suc (length (numbers s m)) =
    length_numbers (s with e) m ∙ count_with s m e h new ∙ ap suc (sym (length_numbers s m)) in
    let seam : suc n ≡ first + length (numbers (s with e) m) = omega arith in
    record {
      room = omega arith;
      over =
          ap₂ (λ (j : ℕ) (l : List ℕ). waited e first j l) (sym (length-append (take first old) (numbers s m) ∙ ap (λ (z : ℕ). z + length (numbers s m)) long))
          (f.over ∙ ap (λ (l : List ℕ). take first old ++ numbers s m ++ l) (drop-cons old n 0 room))
          ∙ subst (λ (z : ℕ). waited e z (length (take first old ++ numbers s m)) (take first old ++ numbers s m ++ get_or old n 0 ∷ drop (suc n) old) ≡ take first old ++ numbers (s with e) m ++ drop (suc n) old) long
          (waited_numbers e s new (take first old) m (get_or old n 0) (drop (suc n) old) h)
          ∙ ap (λ (z : ℕ). take first old ++ numbers (s with e) m ++ drop z old) seam;
    }

-- so does the loop, wherever it stops
pub takes_in : (e first size q : ℕ) (before queue : List ℕ) → waited e first q queue ≡ waited e first size before → (first < q → get_or queue (q - 1) 0 < e)
    → size < length before → TakesIn e first size before (set queue q e)
takes_in e first size q before queue same stops room =
    record {
      in_order =
          λ old s m h new at f.
          subst (Laid old first (numbers (s with e) m)) (ap (λ (n : ℕ). waited e first n before) (sym at) ∙ sym same ∙ waited_stops e first q queue stops)
          (laid_waited old before first e m s f (omega (arith, laid_length f)) h new);
    }
