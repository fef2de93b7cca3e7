-- Legal sets go along with a change of numbering: a map of edge numbers that sends no two edges of s to one, and keeps ends and
-- colours, carries legality from where it leads back to s. Subsets, prefixes, an appended edge and another order are all of this kind.
--
-- Into each set of bodies the map sends no more edges than there are, so what is sparse there is sparse here.
-- Assumes nothing.
use mathlib.Core.Path.{◌≡◌, sym, ap, ◌∙◌, subst}
use mathlib.Core.Bool.{Bool}
use Prim.Native.Nat.{ℕ, zero, suc, ◌*◌, ◌-◌, ◌≤◌}
use native.Mathlib.Omega.{arith}
use Rattle.rule.specs.Sets.{Is, ◌and◌, ◌or◌, isnt, ◌=?◌, Set, In, one_if, count}
use Rattle.rule.specs.Legal.{Design, inside, Sparse, first_part, second_part, Legal}
use Rattle.rule.proofs.Tests.{cases, is_false, and_make, and_l, and_r, eq_of, in_one}
use Rattle.rule.proofs.Counting.{count_none}
use Rattle.rule.proofs.Legality.{inside_make, inside_in, inside_one, inside_other}
use Rattle.theory.proofs.Numbers.Sums.{sum_mono, sum_count, fibre}

-- ---- a map that sends no two numbers of s to one

-- a set in which any two numbers are equal has at most one
count_one : (s : Set) (m : ℕ) → ((i j : ℕ) → In m i → In m j → Is (s i) → Is (s j) → i ≡ j) → count s m ≤ 1
unfolding count
count_one s zero f = omega arith
count_one s (suc m) f =
    cases (s (suc m))
    (λ t.
    omega
    (arith, ap one_if t, count_none s m (λ i h k. omega (arith, h.high, f i (suc m) (in_one m i h) (omega arith) k t))))
    (λ n. omega (arith, ap one_if (is_false (s (suc m)) n), count_one s m (λ i j hi hj. f i j (in_one m i hi) (in_one m j hj))))

-- s goes into t, no two numbers to one
pub record Into (m n : ℕ) (s t : Set) (f : ℕ → ℕ) : Type 0 where
  pub range : (i : ℕ) → In m i → Is (s i) → In n (f i)
  pub goes : (i : ℕ) → In m i → Is (s i) → Is (t (f i))
  pub once : (i j : ℕ) → In m i → In m j → Is (s i) → Is (s j) → f i ≡ f j → i ≡ j

pub count_into : (m n : ℕ) (s t : Set) (f : ℕ → ℕ) → Into m n s t f → count s m ≤ count t n
count_into m n s t f k =
    omega (arith, fibre s f m n k.range, sum_count t n, sum_mono (λ v. count (λ i. s i and f i =? v) m) (λ v. one_if (t v)) n each)
  where
    each : (v : ℕ) → In n v → count (λ i. s i and f i =? v) m ≤ one_if (t v)
    each v h =
        cases (t v)
        (λ tv.
        omega (
          arith,
          ap one_if tv,
          count_one (λ i. s i and f i =? v) m
              (λ i j hi hj ki kj.
              k.once i j hi hj (and_l _ _ ki) (and_l _ _ kj) (eq_of _ _ (and_r (s i) _ ki) ∙ sym (eq_of _ _ (and_r (s j) _ kj)))),
        ))
        (λ nv.
        omega (
          arith,
          count_none (λ i. s i and f i =? v) m
              (λ i hi ki. nv (subst (λ (z : ℕ). Is (t z)) (eq_of _ _ (and_r (s i) _ ki)) (k.goes i hi (and_l _ _ ki)))),
        ))

-- ---- legal sets

-- f keeps profile and bodies, and the ends and the colour of each edge of s
pub record Carries (d e : Design) (s t : Set) (f : ℕ → ℕ) : Type 0 where
  pub a : d.a ≡ e.a
  pub b : d.b ≡ e.b
  pub n : d.n ≡ e.n
  pub into : Into d.m e.m s t f
  pub one : (i : ℕ) → In d.m i → Is (s i) → e.one (f i) ≡ d.one i
  pub other : (i : ℕ) → In d.m i → Is (s i) → e.other (f i) ≡ d.other i
  pub red : (i : ℕ) → In d.m i → Is (s i) → e.red (f i) ≡ d.red i

module _ (d e : Design) (s t : Set) (f : ℕ → ℕ) (k : Carries d e s t f) where
  -- a part of s that goes into a sparse part of t
  sparse_carried : (c : ℕ) (p q : Set) → ((i : ℕ) → Is (p i) → Is (s i)) → ((i : ℕ) → In d.m i → Is (p i) → Is (q (f i))) → Sparse e c q → Sparse d c p
  unfolding Sparse
  sparse_carried c p q inner goes sparse w nonempty =
      let bodies : count w d.n ≡ count w e.n = ap (count w) k.n in
      omega (
        arith,
        sparse w (omega arith),
        ap (λ (z : ℕ). c * (z - 1)) bodies,
        count_into d.m e.m (inside d p w) (inside e q w) f
            (record {
              range = λ i h z. k.into.range i h (inner i (inside_in d p w i z));
              goes =
                  λ i h z.
                  let si = inner i (inside_in d p w i z) in
                  inside_make e q w (f i) (goes i h (inside_in d p w i z))
                  (subst (λ (v : ℕ). Is (w v)) (sym (k.one i h si)) (inside_one d p w i z))
                  (subst (λ (v : ℕ). Is (w v)) (sym (k.other i h si)) (inside_other d p w i z));
              once = λ i j hi hj zi zj. k.into.once i j hi hj (inner i (inside_in d p w i zi)) (inner j (inside_in d p w j zj));
            }),
      )

  pub legal_carried : Legal e t → Legal d s
  unfolding first_part second_part
  legal_carried legal =
      let first : Set = λ i. legal.first (f i) in
      record {
        first = first;
        reds_with_first =
            subst (λ (c : ℕ). Sparse d c (first_part d s first)) (sym k.a)
            (sparse_carried e.a (first_part d s first) (first_part e t legal.first) (λ i z. and_l _ _ z)
            (λ i h z.
            let si = and_l _ _ z in
            and_make _ _ (k.into.goes i h si) (subst (λ (c : Bool). Is (c or first i)) (sym (k.red i h si)) (and_r (s i) _ z)))
            legal.reds_with_first);
        second =
            subst (λ (c : ℕ). Sparse d c (second_part d s first)) (sym k.b)
            (sparse_carried e.b (second_part d s first) (second_part e t legal.first) (λ i z. and_l _ _ z)
            (λ i h z.
            let si = and_l _ _ z in
            and_make _ _ (k.into.goes i h si) (subst (λ (c : Bool). Is (isnt (c or first i))) (sym (k.red i h si)) (and_r (s i) _ z)))
            legal.second);
      }
