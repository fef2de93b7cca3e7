-- A sound book keeps at most 378 edges; and every offer leaves a book in which freedom and the kept count add up to k·(n−1).
--
-- The first: at most k·(n−1) edges are kept, and k is at most 6, n at most 64. The second: an offer leaves a sound book sound.
-- Assumes nothing.
use mathlib.Core.Path.{◌≡◌, sym, subst}
use mathlib.Core.List.{List}
use Prim.Native.Nat.{ℕ, ◌+◌, ◌*◌, ◌-◌, ◌≤◌}
use native.Mathlib.Omega.{arith}
use Rattle.rule.specs.declared.Book.{Book}
use Rattle.rule.specs.declared.Answer.{Answer}
use Rattle.rule.specs.declared.Answer.TheVariants.{Kept, Implied, Refused}
use Rattle.rule.specs.Sets.{count}
use Rattle.rule.specs.Figures.{freedom}
use Rattle.rule.specs.declared.Edge.{Edge}
use Rattle.rule.specs.Books.{design_of, kept_of, Sound}
use Rattle.rule.specs.Calls.{Offer}
use Rattle.rule.proofs.Legality.{legal_size}
use Rattle.theory.proofs.Legal.Sound.{sound_head, sound_legal}
use Rattle.book.proofs.Figures.{full_fits}
use Rattle.book.proofs.Determined.{freedom_and_kept}
use Rattle.engine.specs.Take.{Full}
use Rattle.engine.proofs.Offers.{kept_sound, implied_sound}
use Rattle.step.specs.Runs.{Run}
use Rattle.step.proofs.Runs.{run_grew}

pub at_most_378 : (B : Book) → Sound B → count (kept_of B) B.count ≤ 378
unfolding design_of
at_most_378 B sound =
    let head = sound_head B sound in
    omega (
      arith,
      legal_size (design_of B) (kept_of B) head.bodies.low (sound_legal B sound),
      full_fits B.a B.b B.n head.profile.0.high head.profile.1.high head.bodies.high,
    )

-- ---- after every call

-- (A book of the program is `Full`: its arrays have 512 places.)
pub offer_sound : (before after : Book) (given : Edge) (list listed : List ℕ) (answer : Answer) → Full before → Sound before
    → Offer before after given list listed answer → Sound after
offer_sound before after given list listed (Kept c) full sound o = kept_sound before after given list listed c full o
offer_sound before after given list listed (Implied c) full sound o = implied_sound before after given list listed c full o
offer_sound before after given list listed (Refused r) full sound o = subst Sound (sym o.1) sound

-- freedom and the kept count
abbrev AddsUp : Book → Type 0
AddsUp B = freedom (design_of B) (kept_of B) + count (kept_of B) B.count ≡ (B.a + B.b) * (B.n - 1)

pub offer_adds_up : (before after : Book) (given : Edge) (list listed : List ℕ) (answer : Answer) → Full before → Sound before
    → Offer before after given list listed answer → AddsUp after
offer_adds_up before after given list listed answer full sound o =
    freedom_and_kept after (offer_sound before after given list listed answer full sound o)

pub run_adds_up : {B : Book} → Run B → AddsUp B
run_adds_up {B} run = freedom_and_kept B (run_grew run).sound
