-- Laws of the tests of specs/Sets.antt. A fact is `Is b`, a negative `¬ (Is b)`; a proof goes by cases with `cases`.
--
-- In order: cases; `and`, `or`, `isnt`; the tests on numbers; `put`, `with`, `without`, `below`; numbers in range.
-- Assumes nothing.
use mathlib.Core.Path.{◌≡◌, refl, sym, ap, ◌∙◌, subst, fun_ext}
use mathlib.Core.Logic.{◌⊎◌, inl, inr, ◌≢◌}
use mathlib.Core.Bool.{Bool, true, false, cond, false≢true}
use Prim.Native.Nat.{ℕ, suc, ◌≤◌, ◌<◌}
use native.Mathlib.Omega.{arith}
use borrow.Author.Tests.{ltb-true, leb-true, eqb-true, lt-ltb, le-leb, eq-eqb}
use Rattle.rule.specs.Sets.{Is, ◌and◌, ◌or◌, isnt, ◌=?◌, ◌<?◌, ◌≤?◌, Set, In, put, ◌with◌, ◌without◌, below}

-- ---- cases

pub cases {ℓ} : {C : Type ℓ} (b : Bool) → (Is b → C) → (¬ (Is b) → C) → C
cases true yes_case no_case = yes_case refl
cases false yes_case no_case = no_case false≢true

pub never : {C : Type 0} → Is false → C
never h = absurd (false≢true h)

-- two tests that hold together are equal
pub same_test : (a b : Bool) → (Is a → Is b) → (Is b → Is a) → a ≡ b
same_test true b f g = sym (f refl)
same_test false true f g = g refl
same_test false false f g = refl

pub test_dec : (b : Bool) → Dec (Is b)
test_dec b = cases b (λ h. yes h) (λ h. no h)

pub is_false : (b : Bool) → ¬ (Is b) → b ≡ false
is_false true h = absurd (h refl)
is_false false h = refl

-- ---- and, or, isnt

pub and_make : (a b : Bool) → Is a → Is b → Is (a and b)
unfolding ◌and◌
and_make true b h k = k
and_make false b h k = never h

pub and_l : (a b : Bool) → Is (a and b) → Is a
unfolding ◌and◌
and_l true b h = refl
and_l false b h = h

pub and_r : (a b : Bool) → Is (a and b) → Is b
unfolding ◌and◌
and_r true b h = h
and_r false b h = never h

pub or_l : (a b : Bool) → Is a → Is (a or b)
unfolding ◌or◌
or_l true b h = refl
or_l false b h = never h

pub or_r : (a b : Bool) → Is b → Is (a or b)
unfolding ◌or◌
or_r true b h = refl
or_r false b h = h

pub or_elim : (a b : Bool) → Is (a or b) → Is a ⊎ Is b
unfolding ◌or◌
or_elim true b h = inl refl
or_elim false b h = inr h

pub isnt_make : (b : Bool) → ¬ (Is b) → Is (isnt b)
unfolding isnt
isnt_make true h = absurd (h refl)
isnt_make false h = refl

pub isnt_not : (b : Bool) → Is (isnt b) → ¬ (Is b)
unfolding isnt
isnt_not true h k = false≢true h
isnt_not false h k = false≢true k

pub not_isnt : (b : Bool) → ¬ (Is (isnt b)) → Is b
unfolding isnt
not_isnt true h = refl
not_isnt false h = absurd (h refl)

-- ---- tests on numbers

pub eq_of : (m n : ℕ) → Is (m =? n) → m ≡ n
unfolding ◌=?◌
eq_of m n h = eqb-true m n h

pub eq_is : (m n : ℕ) → m ≡ n → Is (m =? n)
unfolding ◌=?◌
eq_is m n e = eq-eqb m n e

pub eq_self : (n : ℕ) → Is (n =? n)
eq_self n = eq_is n n refl

pub lt_of : (m n : ℕ) → Is (m <? n) → m < n
unfolding ◌<?◌
lt_of m n h = ltb-true m n h

pub lt_is : (m n : ℕ) → m < n → Is (m <? n)
unfolding ◌<?◌
lt_is m n h = lt-ltb m n h

pub le_of : (m n : ℕ) → Is (m ≤? n) → m ≤ n
unfolding ◌≤?◌
le_of m n h = leb-true m n h

pub le_is : (m n : ℕ) → m ≤ n → Is (m ≤? n)
unfolding ◌≤?◌
le_is m n h = le-leb m n h

pub not_lt : (m n : ℕ) → ¬ (Is (m <? n)) → n ≤ m
not_lt m n h = let f : ¬ (m < n) = λ l. h (lt_is m n l) in omega arith

pub not_le : (m n : ℕ) → ¬ (Is (m ≤? n)) → n < m
not_le m n h = let f : ¬ (m ≤ n) = λ l. h (le_is m n l) in omega arith

pub by_eq {ℓ} : {C : Type ℓ} (m n : ℕ) → (m ≡ n → C) → (m ≢ n → C) → C
by_eq m n f g = cases (m =? n) (λ h. f (eq_of m n h)) (λ h. g (λ e. h (eq_is m n e)))

pub by_le {ℓ} : {C : Type ℓ} (m n : ℕ) → (m ≤ n → C) → (n < m → C) → C
by_le m n f g = cases (m ≤? n) (λ h. f (le_of m n h)) (λ h. g (not_le m n h))

-- ---- put, with, without, below

module _ {A : Type 0} (f : ℕ → A) where
  pub put_same : (x : ℕ) (v : A) → put f x v x ≡ v
  unfolding put
  put_same x v = ap (λ (t : Bool). cond t v (f x)) (eq_self x)

  pub put_other : (x : ℕ) (v : A) (i : ℕ) → i ≢ x → put f x v i ≡ f i
  unfolding put
  put_other x v i ne = ap (λ (t : Bool). cond t v (f i)) (is_false (i =? x) (λ h. ne (eq_of i x h)))

  -- what holds of the new value at x, and of f elsewhere, holds of every value
  pub put_cases : (P : ℕ → A → Type 0) (x : ℕ) (v : A) → P x v → ((i : ℕ) → i ≢ x → P i (f i)) → (i : ℕ) → P i (put f x v i)
  put_cases P x v at_x else i =
      by_eq i x (λ e. subst (λ (j : ℕ). P j (put f x v j)) (sym e) (subst (P x) (sym (put_same x v)) at_x))
      (λ ne. subst (P i) (sym (put_other x v i ne)) (else i ne))

  -- to put what is there changes nothing; the later of two values at one number stays; at two numbers the order does not matter
  pub put_id : (x : ℕ) (v : A) → f x ≡ v → put f x v ≡ f
  put_id x v q =
      fun_ext (λ i. by_eq i x (λ e. subst (λ (j : ℕ). put f x v j ≡ f j) (sym e) (put_same x v ∙ sym q)) (λ ne. put_other x v i ne))

pub put_put : {A : Type 0} (f : ℕ → A) (x : ℕ) (v w : A) → put (put f x v) x w ≡ put f x w
put_put f x v w =
    fun_ext
    (λ i.
    by_eq i x (λ e. subst (λ (j : ℕ). put (put f x v) x w j ≡ put f x w j) (sym e) (put_same (put f x v) x w ∙ sym (put_same f x w)))
    (λ ne. put_other (put f x v) x w i ne ∙ put_other f x v i ne ∙ sym (put_other f x w i ne)))

pub put_comm : {A : Type 0} (f : ℕ → A) (x y : ℕ) (v w : A) → x ≢ y → put (put f x v) y w ≡ put (put f y w) x v
put_comm f x y v w ne =
    fun_ext
    (λ i.
    by_eq i x
    (λ e.
    subst (λ (j : ℕ). put (put f x v) y w j ≡ put (put f y w) x v j) (sym e)
    (put_other (put f x v) y w x ne ∙ put_same f x v ∙ sym (put_same (put f y w) x v)))
    (λ nx.
    by_eq i y
    (λ e.
    subst (λ (j : ℕ). put (put f x v) y w j ≡ put (put f y w) x v j) (sym e)
    (put_same (put f x v) y w ∙ sym (put_same f y w) ∙ sym (put_other (put f y w) x v y (λ q. ne (sym q)))))
    (λ ny.
    put_other (put f x v) y w i ny ∙ put_other f x v i nx ∙ sym (put_other f y w i ny) ∙ sym (put_other (put f y w) x v i nx))))

pub put_map : {A B : Type 0} (g : A → B) (f : ℕ → A) (x : ℕ) (v : A) → (λ i. g (put f x v i)) ≡ put (λ i. g (f i)) x (g v)
put_map {B = B} g f x v =
    fun_ext
    (λ i.
    by_eq i x
    (λ e.
    subst (λ (j : ℕ). g (put f x v j) ≡ put (λ i. g (f i)) x (g v) j) (sym e)
    (ap g (put_same f x v) ∙ sym (put_same {A = B} (λ i. g (f i)) x (g v))))
    (λ ne. ap g (put_other f x v i ne) ∙ sym (put_other {A = B} (λ i. g (f i)) x (g v) i ne)))

module _ (s : Set) where
  pub with_self : (e : ℕ) → Is ((s with e) e)
  with_self e = put_same s e true

  pub with_old : (e i : ℕ) → Is (s i) → Is ((s with e) i)
  with_old e i h = by_eq i e (λ q. subst (λ (j : ℕ). Is ((s with e) j)) (sym q) (with_self e)) (λ ne. put_other s e true i ne ∙ h)

  pub with_elim : (e i : ℕ) → Is ((s with e) i) → (i ≡ e) ⊎ Is (s i)
  with_elim e i h = by_eq i e (λ q. inl q) (λ ne. inr (sym (put_other s e true i ne) ∙ h))

  pub without_old : (e i : ℕ) → Is ((s without e) i) → Is (s i)
  without_old e i h =
      by_eq i e (λ q. never (sym (put_same s e false) ∙ subst (λ (j : ℕ). Is ((s without e) j)) q h)) (λ ne. sym (put_other s e false i ne) ∙ h)

  pub without_ne : (e i : ℕ) → Is ((s without e) i) → i ≢ e
  without_ne e i h q = false≢true (sym (put_same s e false) ∙ subst (λ (j : ℕ). Is ((s without e) j)) q h)

  pub without_make : (e i : ℕ) → Is (s i) → i ≢ e → Is ((s without e) i)
  without_make e i h ne = put_other s e false i ne ∙ h

  pub below_in : (e i : ℕ) → Is (below s e i) → Is (s i)
  unfolding below
  below_in e i h = and_l _ _ h

  pub below_lt : (e i : ℕ) → Is (below s e i) → i < e
  unfolding below
  below_lt e i h = lt_of _ _ (and_r (s i) _ h)

  pub below_make : (e i : ℕ) → Is (s i) → i < e → Is (below s e i)
  unfolding below
  below_make e i h l = and_make _ _ h (lt_is _ _ l)

-- ---- numbers in range

pub in_one : (m i : ℕ) → In m i → In (suc m) i
in_one m i h = omega arith

pub in_last : (m : ℕ) → In (suc m) (suc m)
in_last m = omega arith

-- one of 1 to m + 1 is one of 1 to m, or m + 1 itself
pub in_split {ℓ} : {C : Type ℓ} (m i : ℕ) → In (suc m) i → (In m i → C) → (i ≡ suc m → C) → C
in_split m i h f g = by_eq i (suc m) g (λ ne. f (omega arith))

pub in_zero {ℓ} : {C : Type ℓ} {i : ℕ} → In 0 i → C
in_zero {i = i} h = absurd (omega arith)
