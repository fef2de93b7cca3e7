-- Any two outcomes that the definitions permit are equal: the set kept of a grown design, the circuit, the group list, the
-- first bad place, the reason of a refusal, and the whole outcome of each call. An offer and a question leave one thing
-- open, the choice of forests and with it moved.
-- Assumes nothing.
use mathlib.Core.Path.{◌≡◌, refl, sym, ap₂, ◌∙◌}
use mathlib.Core.Logic.{inl, inr}
use mathlib.Core.Bool.{cond}
use mathlib.Core.List.{List, [], ◌∷◌}
use Prim.Native.Nat.{ℕ, zero, suc, ◌<◌}
use native.Mathlib.Nat.{le_antisymm}
use native.Mathlib.Omega.{arith}
use lib.Seq.{ext_get_or}
use lib.Dec.{eqb}
use Rattle.rule.specs.declared.Book.{Book}
use Rattle.rule.specs.declared.Reason.{Reason}
use Rattle.rule.specs.declared.Reason.TheVariants.{Profile, Bodies, Body, SameBody, Colour, Full, Short, Unsound, Line}
use Rattle.rule.specs.Sets.{Set, In, below, at}
use Rattle.rule.specs.Legal.{Design, Keeps, Circuit, Grown}
use Rattle.rule.specs.Figures.{GroupLead, Groups}
use Rattle.rule.specs.Books.{Sound, FirstBad}
use Rattle.rule.specs.Reasons.{number_of, place_of, Check, Pass, Fail}
use Rattle.rule.proofs.Tests.{same_test, by_le, below_in, below_lt, below_make}
use Rattle.rule.proofs.Counting.{Agree, with_mono, lists_determined}
use Rattle.rule.proofs.Legality.{legal_sub}

-- ---- lists

pub circuit_determined : (d : Design) (kept : Set) (e : ℕ) {l₁ l₂ : List ℕ} → Circuit d kept e l₁ → Circuit d kept e l₂ → l₁ ≡ l₂
circuit_determined d kept e x y = lists_determined x y

pub lead_determined : {d : Design} {kept : Set} {u x y : ℕ} → GroupLead d kept u x → GroupLead d kept u y → x ≡ y
lead_determined {x = x} {y} p q = le_antisymm (p.smallest y q.body q.in_group) (q.smallest x p.body p.in_group)

pub groups_determined : {d : Design} {kept : Set} {l₁ l₂ : List ℕ} → Groups d kept l₁ → Groups d kept l₂ → l₁ ≡ l₂
unfolding at
groups_determined {d} {l₁ = l₁} {l₂} p q =
    ext_get_or 0 l₁ l₂ (p.as_long ∙ sym q.as_long)
    (λ i h. let b : In d.n (suc i) = omega (arith, p.as_long) in lead_determined (p.leads (suc i) b) (q.leads (suc i) b))

-- ---- the kept set of a grown design

-- what is kept at e depends on the kept edges below e alone
pub keeps_same : (d : Design) (s t : Set) (e : ℕ) → ((f : ℕ) → In d.m f → f < e → s f ≡ t f) → Keeps d (below s e) e → Keeps d (below t e) e
keeps_same d s t e eq legal =
    legal_sub d _ _
    (with_mono d.m (below t e) (below s e) e
    (λ f h i. let l = below_lt t e f i in below_make s e f (eq f h l ∙ below_in t e f i) l))
    legal

-- any two sets grown from the same edges agree: by induction on the edge number
module _ (d : Design) (s t : Set) (gs : Grown d s) (gt : Grown d t) where
  grown_below : (n f : ℕ) → In d.m f → f < n → s f ≡ t f
  grown_below zero f h l = absurd (omega arith)
  grown_below (suc n) f h l =
      let low : (g : ℕ) → In d.m g → g < f → s g ≡ t g = λ g hg lg. grown_below n g hg (omega arith) in
      same_test (s f) (t f) (λ i. (gt f h).1 (keeps_same d s t f low ((gs f h).0 i)))
      (λ i. (gs f h).1 (keeps_same d t s f (λ g hg lg. sym (low g hg lg)) ((gt f h).0 i)))

  pub grown_determined : Agree d.m s t
  grown_determined f h = grown_below (suc f) f h (omega arith)

-- ---- the first bad place

pub first_bad_determined : {B : Book} {p q : ℕ} → FirstBad B p → FirstBad B q → p ≡ q
first_bad_determined {p = p} {q} x y =
    by_le p q
    (λ h. by_le q p (λ h'. le_antisymm h h') (λ l. absurd (x.breaks (y.first p l))))
    (λ l. absurd (y.breaks (x.first q l)))

-- a book with a bad place is not sound
pub first_bad_unsound : {B : Book} {p : ℕ} → FirstBad B p → ¬ Sound B
unfolding Sound
first_bad_unsound {p = p} x sound = x.breaks (sound p x.within)

-- ---- reasons

-- the reason of a number and of the place that comes with it
reason_of : ℕ → ℕ → Reason
reason_of number place =
    cond (eqb number 1) Profile
    (cond (eqb number 2) Bodies
    (cond (eqb number 3) Body
    (cond (eqb number 4) SameBody
    (cond (eqb number 5) Colour (cond (eqb number 6) Full (cond (eqb number 7) Short (cond (eqb number 8) (Unsound place) Line)))))))

reason_of_lem : (r : Reason) → reason_of (number_of r) (place_of r) ≡ r
unfolding reason_of
reason_of_lem Profile = refl
reason_of_lem Bodies = refl
reason_of_lem Body = refl
reason_of_lem SameBody = refl
reason_of_lem Colour = refl
reason_of_lem Full = refl
reason_of_lem Short = refl
reason_of_lem (Unsound place) = refl
reason_of_lem Line = refl

-- the number and the place tell the reason
pub reason_determined : (r s : Reason) → number_of r ≡ number_of s → place_of r ≡ place_of s → r ≡ s
reason_determined r s number place = sym (reason_of_lem r) ∙ ap₂ reason_of number place ∙ reason_of_lem s

-- what comes with each check is one thing
abbrev pub Single : List Check → Type 0
Single [] = Unit
Single (c ∷ rest) = ((p q : ℕ) → c.with_it p → c.with_it q → p ≡ q) × Single rest

pub fail_determined : (cs : List Check) → Single cs → {r s : Reason} → Fail cs r → Fail cs s → r ≡ s
fail_determined [] single x y = absurd x
fail_determined (c ∷ rest) single {r} {s} (inl x) (inl y) =
    reason_determined r s (x.1 ∙ sym y.1) (single.0 (place_of r) (place_of s) x.2 y.2)
fail_determined (c ∷ rest) single (inl x) (inr y) = absurd (x.0 y.0)
fail_determined (c ∷ rest) single (inr x) (inl y) = absurd (y.0 x.0)
fail_determined (c ∷ rest) single (inr x) (inr y) = fail_determined rest single.1 x.1 y.1

pub pass_not_fail : (cs : List Check) (r : Reason) → Pass cs → ¬ Fail cs r
pass_not_fail [] r p f = f
pass_not_fail (c ∷ rest) r p (inl x) = x.0 p.0
pass_not_fail (c ∷ rest) r p (inr x) = pass_not_fail rest r p.1 x.1

pub nothing_single : (p q : ℕ) → p ≡ 0 → q ≡ 0 → p ≡ q
nothing_single p q x y = x ∙ sym y

pub place_single : (B : Book) (p q : ℕ) → FirstBad B p → FirstBad B q → p ≡ q
place_single B p q x y = first_bad_determined x y
