-- Laws of `Renumbered` (specs/Order.antt), the same edges in another order: every design is in its own order, and orders go back and one
-- behind the other; one edge more, the last in both; and two edges more, the one first or the other first.
--
-- With one edge more the last number goes to the last number. With two more, their numbers change places, and an edge looks in the one
-- design as its number looks in the other.
--
-- Not here: what the same edges in another order come to, in Order.antt; from lists of edges to designs, crate promises.
-- Assumes nothing.
use mathlib.Core.Path.{◌≡◌, refl, sym, ap, ◌∙◌, subst}
use mathlib.Core.Bool.{Bool}
use Prim.Native.Nat.{ℕ, suc}
use native.Mathlib.Omega.{arith}
use Rattle.rule.specs.Sets.{◌=?◌, In, put}
use Rattle.rule.specs.Legal.{Design}
use Rattle.rule.specs.declared.Edge.{Edge}
use Rattle.rule.specs.Books.{plus}
use Rattle.rule.proofs.Tests.{in_one, in_split, put_same, put_other}
use Rattle.theory.specs.Order.{Renumbered}
use Rattle.theory.proofs.Laws.Plus.{plus_one, plus_other, plus_red, new_one, new_other, new_red}

-- ---- any two designs

pub renumbered_same : (d : Design) → Renumbered d d (λ i. i) (λ i. i)
renumbered_same d =
    record {
      a = refl;
      b = refl;
      n = refl;
      to_range = λ i h. h;
      fro_range = λ j h. h;
      there = λ i h. refl;
      back = λ j h. refl;
      one = λ i h. refl;
      other = λ i h. refl;
      red = λ i h. refl;
    }

pub renumbered_back : (d e : Design) (to fro : ℕ → ℕ) → Renumbered d e to fro → Renumbered e d fro to
renumbered_back d e to fro r =
    record {
      a = sym r.a;
      b = sym r.b;
      n = sym r.n;
      to_range = r.fro_range;
      fro_range = r.to_range;
      there = r.back;
      back = r.there;
      one = λ j h. sym (r.one (fro j) (r.fro_range j h)) ∙ ap e.one (r.back j h);
      other = λ j h. sym (r.other (fro j) (r.fro_range j h)) ∙ ap e.other (r.back j h);
      red = λ j h. sym (r.red (fro j) (r.fro_range j h)) ∙ ap e.red (r.back j h);
    }

pub renumbered_then : (c d e : Design) (to fro on off : ℕ → ℕ) → Renumbered c d to fro → Renumbered d e on off
    → Renumbered c e (λ i. on (to i)) (λ j. fro (off j))
renumbered_then c d e to fro on off r s =
    record {
      a = r.a ∙ s.a;
      b = r.b ∙ s.b;
      n = r.n ∙ s.n;
      to_range = λ i h. s.to_range (to i) (r.to_range i h);
      fro_range = λ j h. r.fro_range (off j) (s.fro_range j h);
      there = λ i h. ap fro (s.there (to i) (r.to_range i h)) ∙ r.there i h;
      back = λ j h. ap on (r.back (off j) (s.fro_range j h)) ∙ s.back j h;
      one = λ i h. s.one (to i) (r.to_range i h) ∙ r.one i h;
      other = λ i h. s.other (to i) (r.to_range i h) ∙ r.other i h;
      red = λ i h. s.red (to i) (r.to_range i h) ∙ r.red i h;
    }

-- ---- what an edge looks like

-- edge i of d has the ends a and b, and is red or not as c says
pub record Looks (d : Design) (i a b : ℕ) (c : Bool) : Type 0 where
  pub one : d.one i ≡ a
  pub other : d.other i ≡ b
  pub red : d.red i ≡ c

-- edge j of q looks like edge i of p
abbrev pub LooksAs : (p q : Design) (i j : ℕ) → Type 0
LooksAs p q i j = Looks q j (p.one i) (p.other i) (p.red i)

pub looks_as : (p q : Design) (i j a b : ℕ) (c : Bool) → Looks p i a b c → Looks q j a b c → LooksAs p q i j
looks_as p q i j a b c l m = record { one = m.one ∙ sym l.one; other = m.other ∙ sym l.other; red = m.red ∙ sym l.red }

pub looks_back : (p q : Design) (i j : ℕ) → LooksAs p q i j → LooksAs q p j i
looks_back p q i j l = record { one = sym l.one; other = sym l.other; red = sym l.red }

module _ (d : Design) (x : Edge) where
  -- an old edge looks as it did
  pub looks_old : (i : ℕ) → In d.m i → LooksAs d (plus d x) i i
  looks_old i h =
      record { one = plus_one d x i (omega arith); other = plus_other d x i (omega arith); red = plus_red d x i (omega arith) }

  pub looks_new : Looks (plus d x) (suc d.m) x.one x.other (x.colour =? 1)
  looks_new = record { one = new_one d x; other = new_other d x; red = new_red d x }

-- of two edges more, the old edges, the first and the second
module _ (d : Design) (x y : Edge) where
  abbrev one_more : Design
  one_more = plus d x

  pub looks_oldest : (i : ℕ) → In d.m i → LooksAs d (plus (plus d x) y) i i
  unfolding plus
  looks_oldest i h =
      let old = looks_old d x i h in
      let kept = looks_old one_more y i (in_one d.m i h) in
      record { one = kept.one ∙ old.one; other = kept.other ∙ old.other; red = kept.red ∙ old.red }

  pub looks_first : Looks (plus (plus d x) y) (suc d.m) x.one x.other (x.colour =? 1)
  unfolding plus
  looks_first =
      let new = looks_new d x in
      let kept = looks_old one_more y (suc d.m) (omega arith) in
      record { one = kept.one ∙ new.one; other = kept.other ∙ new.other; red = kept.red ∙ new.red }

  pub looks_second : Looks (plus (plus d x) y) (suc (suc d.m)) y.one y.other (y.colour =? 1)
  unfolding plus
  looks_second = looks_new one_more y

-- ---- one edge more in both orders

-- a map with one number more sent past the end, and what holds of old numbers and of the new one
next_cases : (f : ℕ → ℕ) (m n : ℕ) (P : ℕ → ℕ → Type 0) → ((i : ℕ) → In m i → P i (f i)) → P (suc m) (suc n)
    → (i : ℕ) → In (suc m) i → P i (put f (suc m) (suc n) i)
next_cases f m n P old new i h =
    in_split m i h (λ k. subst (P i) (sym (put_other f (suc m) (suc n) i (omega arith))) (old i k))
    (λ q. subst (λ (z : ℕ). P z (put f (suc m) (suc n) z)) (sym q) (subst (P (suc m)) (sym (put_same f (suc m) (suc n))) new))

module _ (d e : Design) (to fro : ℕ → ℕ) (r : Renumbered d e to fro) (x : Edge) where
  abbrev to_last : ℕ → ℕ
  to_last = put to (suc d.m) (suc e.m)

  abbrev fro_last : ℕ → ℕ
  fro_last = put fro (suc e.m) (suc d.m)

  looks_last : (i : ℕ) → In (suc d.m) i → LooksAs (plus d x) (plus e x) i (put to (suc d.m) (suc e.m) i)
  looks_last =
      next_cases to d.m e.m (LooksAs (plus d x) (plus e x))
      (λ i h.
      let here = looks_old d x i h in
      let there = looks_old e x (to i) (r.to_range i h) in
      record {
        one = there.one ∙ r.one i h ∙ sym here.one;
        other = there.other ∙ r.other i h ∙ sym here.other;
        red = there.red ∙ r.red i h ∙ sym here.red;
      })
      (looks_as (plus d x) (plus e x) (suc d.m) (suc e.m) x.one x.other (x.colour =? 1) (looks_new d x) (looks_new e x))

  pub renumbered_plus :
      Renumbered (plus d x) (plus e x) (put to (suc d.m) (suc e.m)) (put fro (suc e.m) (suc d.m))
  unfolding plus
  renumbered_plus =
      record {
        a = r.a;
        b = r.b;
        n = r.n;
        to_range = next_cases to d.m e.m (λ i j. In (suc e.m) j) (λ i h. in_one e.m (to i) (r.to_range i h)) (omega arith);
        fro_range = next_cases fro e.m d.m (λ j i. In (suc d.m) i) (λ j h. in_one d.m (fro j) (r.fro_range j h)) (omega arith);
        there =
            next_cases to d.m e.m (λ i j. fro_last j ≡ i)
            (λ i h. let k = r.to_range i h in put_other fro (suc e.m) (suc d.m) (to i) (omega arith) ∙ r.there i h)
            (put_same fro (suc e.m) (suc d.m));
        back =
            next_cases fro e.m d.m (λ j i. to_last i ≡ j)
            (λ j h. let k = r.fro_range j h in put_other to (suc d.m) (suc e.m) (fro j) (omega arith) ∙ r.back j h)
            (put_same to (suc d.m) (suc e.m));
        one = λ i h. (looks_last i h).one;
        other = λ i h. (looks_last i h).other;
        red = λ i h. (looks_last i h).red;
      }

-- ---- two edges more, the one first or the other

-- the numbers m + 1 and m + 2 change places
unfoldable pub swap : ℕ → ℕ → ℕ
swap m = put (put (λ i. i) (suc m) (suc (suc m))) (suc (suc m)) (suc m)

module _ (m : ℕ) where
  swap_old : (i : ℕ) → In m i → swap m i ≡ i
  unfolding swap
  swap_old i h = put_other _ (suc (suc m)) (suc m) i (omega arith) ∙ put_other _ (suc m) (suc (suc m)) i (omega arith)

  swap_first : swap m (suc m) ≡ suc (suc m)
  unfolding swap
  swap_first = put_other _ (suc (suc m)) (suc m) (suc m) (omega arith) ∙ put_same _ (suc m) (suc (suc m))

  swap_second : swap m (suc (suc m)) ≡ suc m
  unfolding swap
  swap_second = put_same _ (suc (suc m)) (suc m)

  -- what holds of an old number and itself, and of each of the two and the other, holds of every number and where it goes
  pub swap_cases : (P : ℕ → ℕ → Type 0) → ((i : ℕ) → In m i → P i i) → P (suc m) (suc (suc m)) → P (suc (suc m)) (suc m)
      → (i : ℕ) → In (suc (suc m)) i → P i (swap m i)
  swap_cases P old first second i h =
      in_split (suc m) i h
      (λ k.
      in_split m i k (λ o. subst (P i) (sym (swap_old i o)) (old i o))
      (λ q. subst (λ (z : ℕ). P z (swap m z)) (sym q) (subst (P (suc m)) (sym swap_first) first)))
      (λ q. subst (λ (z : ℕ). P z (swap m z)) (sym q) (subst (P (suc (suc m))) (sym swap_second) second))

  pub swap_twice : (i : ℕ) → In (suc (suc m)) i → swap m (swap m i) ≡ i
  swap_twice = swap_cases (λ i j. swap m j ≡ i) swap_old swap_second swap_first

  swap_range : (i : ℕ) → In (suc (suc m)) i → In (suc (suc m)) (swap m i)
  swap_range = swap_cases (λ i j. In (suc (suc m)) j) (λ i h. omega arith) (omega arith) (omega arith)

module _ (d : Design) (x y : Edge) where
  abbrev this_first : Design
  this_first = plus (plus d x) y

  abbrev that_first : Design
  that_first = plus (plus d y) x

  looks_swapped : (i : ℕ) → In (suc (suc d.m)) i → LooksAs this_first that_first i (swap d.m i)
  looks_swapped =
      swap_cases d.m (LooksAs this_first that_first)
      (λ i h. looks_as this_first that_first i i _ _ _ (looks_oldest d x y i h) (looks_oldest d y x i h))
      (looks_as this_first that_first _ _ _ _ _ (looks_first d x y) (looks_second d y x))
      (looks_as this_first that_first _ _ _ _ _ (looks_second d x y) (looks_first d y x))

  pub renumbered_swap :
      Renumbered (plus (plus d x) y) (plus (plus d y) x) (swap d.m) (swap d.m)
  unfolding plus
  renumbered_swap =
      record {
        a = refl;
        b = refl;
        n = refl;
        to_range = swap_range d.m;
        fro_range = swap_range d.m;
        there = swap_twice d.m;
        back = swap_twice d.m;
        one = λ i h. (looks_swapped i h).one;
        other = λ i h. (looks_swapped i h).other;
        red = λ i h. (looks_swapped i h).red;
      }
