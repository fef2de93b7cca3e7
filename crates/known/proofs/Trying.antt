-- Whether some set, or every set, is as a statement says is decided by trying all sets of numbers of 1 to n, where the
-- statement depends on 1 to n alone: it passes from a set to any other that holds the same of 1 to n.
--
-- The sets are tried with n put in, and with n left out, over all sets of numbers below n. None is missed: a set w is as the
-- statement says, so w with n put as w has it is so too, and what is left to choose lies below n: by induction on n.
-- Assumes nothing.
use mathlib.Core.Path.{◌≡◌, refl, sym, ◌∙◌}
use mathlib.Core.Logic.{⊎_elim}
use mathlib.Core.Bool.{Bool, true, false}
use Prim.Native.Nat.{ℕ, zero, suc}
use native.Mathlib.Omega.{arith}
use Rattle.rule.specs.Sets.{Is, ◌or◌, isnt, Set, put, ◌with◌, ◌without◌}
use Rattle.rule.proofs.Tests.{cases, is_false, or_l, or_r, or_elim, put_cases, put_same, put_other, by_eq, in_zero}
use Rattle.rule.proofs.Counting.{Agree}
use Rattle.known.proofs.Decides.{Decides, not_decides}

-- the statement depends on 1 to n alone
abbrev pub Depends : ℕ → (Set → Type 0) → Type 0
Depends n P = (v w : Set) → Agree n v w → P v → P w

-- some set of numbers of 1 to n passes the test. (A `let` waits: the sets without n are tried only where none with it passes.)
unfoldable pub some? : (Set → Bool) → ℕ → Bool
some? p zero = p (λ _. false)
some? p (suc n) =
    let out = some? (λ w. p (w without suc n)) n in
    some? (λ w. p (w with suc n)) n or out

-- every set of numbers of 1 to n passes the test
unfoldable pub every? : (Set → Bool) → ℕ → Bool
every? p n = isnt (some? (λ w. isnt (p w)) n)

-- ---- some

pub some_sound : (p : Set → Bool) (n : ℕ) → Is (some? p n) → (w : Set) × Is (p w)
unfolding some?
some_sound p zero h = ((λ _. false), h)
some_sound p (suc n) h =
    ⊎_elim
    (λ x. let z = some_sound (λ w. p (w with suc n)) n x in (z.0 with suc n, z.1))
    (λ y. let z = some_sound (λ w. p (w without suc n)) n y in (z.0 without suc n, z.1))
    (or_elim _ _ h)

-- to put a number as the set has it changes nothing
put_as_was : (n : ℕ) (w : Set) (t : Bool) → w (suc n) ≡ t → Agree (suc n) w (put w (suc n) t)
put_as_was n w t e i h = put_cases w (λ j x. w j ≡ x) (suc n) t e (λ j _. refl) i

-- sets that agree on 1 to n agree on 1 to n + 1 once n + 1 is put alike in both
put_agrees : (n : ℕ) (t : Bool) (v w : Set) → Agree n v w → Agree (suc n) (put v (suc n) t) (put w (suc n) t)
put_agrees n t v w f i h =
    by_eq i (suc n) (λ e. rw (e, put_same v, put_same w))
    (λ ne. put_other v (suc n) t i ne ∙ f i (omega arith) ∙ sym (put_other w (suc n) t i ne))

pub some_complete : (p : Set → Bool) (n : ℕ) → Depends n (λ w. Is (p w)) → (w : Set) → Is (p w) → Is (some? p n)
unfolding some?
some_complete p zero f w h = f w (λ _. false) (λ i k. in_zero k) h
some_complete p (suc n) f w h =
    let tried : (t : Bool) → w (suc n) ≡ t → Is (some? (λ v. p (put v (suc n) t)) n) =
    λ t e.
    some_complete (λ v. p (put v (suc n) t)) n (λ x y a. f (put x (suc n) t) (put y (suc n) t) (put_agrees n t x y a)) w
    (f w (put w (suc n) t) (put_as_was n w t e) h) in
    cases (w (suc n)) (λ t. or_l _ _ (tried true t)) (λ nt. or_r _ _ (tried false (is_false _ nt)))

-- ---- both, as decisions

pub some_decides : (p : Set → Bool) (P : Set → Type 0) (n : ℕ) → ((w : Set) → Decides (p w) (P w)) → Depends n P
    → Decides (some? p n) ((w : Set) × P w)
some_decides p P n decides depends = (
  λ h. let z = some_sound p n h in (z.0, (decides z.0).0 z.1),
  λ z. some_complete p n (λ v w a h. (decides w).1 (depends v w a ((decides v).0 h))) z.0 ((decides z.0).1 z.1),
)

module _ (p : Set → Bool) (P : Set → Type 0) (n : ℕ) (decides : (w : Set) → Decides (p w) (P w)) (depends : Depends n P) where
  none_fails : Decides (every? p n) (¬ ((w : Set) × ¬ P w))
  unfolding every?
  none_fails =
      not_decides
      (some_decides (λ w. isnt (p w)) (λ w. ¬ P w) n (λ w. not_decides (decides w))
      (λ v w a np x. np (depends w v (λ i h. sym (a i h)) x)))

  pub every_decides : Decides (every? p n) ((w : Set) → P w)
  every_decides = (
    λ h w. cases (p w) (decides w).0 (λ np. absurd (none_fails.0 h (w, λ x. np ((decides w).1 x)))),
    λ k. none_fails.1 (λ z. z.1 (k z.0)),
  )
