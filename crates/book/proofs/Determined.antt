-- Any two outcomes that the contracts permit for one input agree: of opening, of the three figures, and of the checks. And what document
-- 01 says of the books that opening gives, and of freedom.
-- Assumes nothing.
use mathlib.Core.Path.{◌≡◌, refl, ap}
use mathlib.Core.List.{List}
use Rattle.std.specs.Prelude.{Result, Ok, Err}
use Prim.Native.Nat.{ℕ, ◌+◌, ◌*◌, ◌-◌}
use native.Mathlib.Omega.{arith}
use Rattle.rule.specs.declared.Book.{Book}
use Rattle.rule.specs.declared.Reason.{Reason}
use Rattle.rule.specs.declared.Verdict.{Verdict}
use Rattle.rule.specs.Sets.{count}
use Rattle.rule.specs.Figures.{freedom}
use Rattle.rule.specs.Books.{design_of, kept_of, Sound}
use Rattle.rule.specs.Reasons.{Check}
use Rattle.rule.specs.Calls.{new_book, zero_book, Open, Freedom, Dropped, Judge}
use Rattle.rule.proofs.Legality.{freedom_adds_up}
use Rattle.rule.proofs.Determined.{Single, fail_determined, pass_not_fail}
use Rattle.rule.proofs.Outcomes.{open_determined, freedom_determined, dropped_determined, judge_determined}
use Rattle.theory.proofs.Legal.Sound.{sound_head, sound_legal}
use Rattle.book.specs.declared.Opened.{Opened}
use Rattle.book.specs.Checks.{FoundBy}

-- ---- any two outcomes agree

pub openings_agree : (a b n : ℕ) (x y : Opened) → Open a b n x.book x.answer → Open a b n y.book y.answer → x ≡ y
openings_agree a b n x y p q =
    let same = open_determined a b n x.book y.book x.answer y.answer p q in
    λ i. record { answer = same.1 i; book = same.0 i }

pub freedoms_agree : (B : Book) (x y : Result ℕ Reason) → Freedom B x → Freedom B y → x ≡ y
freedoms_agree = freedom_determined

pub droppeds_agree : (B : Book) (x y : Result ℕ Reason) → Dropped B x → Dropped B y → x ≡ y
droppeds_agree = dropped_determined

pub verdicts_agree : (B : Book) (x y : Result Verdict Reason) → Judge B x → Judge B y → x ≡ y
verdicts_agree = judge_determined

-- two answers of the same checks, with any claims on what more is so
pub checks_agree : (cs : List Check) → Single cs → (more other : Type 0) (x y : Result Unit Reason) → FoundBy cs more x → FoundBy cs other y → x ≡ y
checks_agree cs single more other (Ok _) (Ok _) p q = refl
checks_agree cs single more other (Ok _) (Err r) p q = absurd (pass_not_fail cs r p.0 q)
checks_agree cs single more other (Err r) (Ok _) p q = absurd (pass_not_fail cs r q.0 p)
checks_agree cs single more other (Err r) (Err s) p q = ap Err (fail_determined cs single {r = r} {s = s} p q)

-- ---- what document 01 says besides

-- a book of zeros throughout is not sound
pub zeros_unsound : ¬ Sound zero_book
unfolding new_book
zeros_unsound sound = omega (arith, (sound_head zero_book sound).profile.0.low)

-- freedom and the kept count of a sound book add up to k·(n−1)
pub freedom_and_kept : (B : Book) → Sound B → freedom (design_of B) (kept_of B) + count (kept_of B) B.count ≡ (B.a + B.b) * (B.n - 1)
unfolding design_of
freedom_and_kept B sound = freedom_adds_up (design_of B) (kept_of B) (sound_head B sound).bodies.low (sound_legal B sound)
