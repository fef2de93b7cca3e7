-- Room for a circuit and for its line: a circuit is some of the kept edges, of which a sound book has at most k·(n−1), so at most 378, and each has a
-- number up to 512. So 8 bytes of key, four bytes a number and the LF fit 2,048.
-- Assumes nothing.
use mathlib.Core.Path.{sym, ap, subst}
use mathlib.Core.List.{List}
use Prim.Native.Nat.{ℕ, ◌≤◌}
use native.Mathlib.Omega.{arith}
use lib.ListN.{length}
use Rattle.rule.specs.declared.Book.{Book}
use Rattle.rule.specs.Sets.{count}
use Rattle.rule.specs.Legal.{Circuit}
use Rattle.rule.specs.Books.{design_of, kept_of, Sound}
use Rattle.rule.proofs.Counting.{count_eq, count_mono, length_numbers}
use Rattle.rule.proofs.Legality.{legal_size}
use Rattle.theory.proofs.Numbers.Listing.{numbers_at}
use Rattle.theory.proofs.Legal.Sound.{sound_head, sound_legal}
use Rattle.book.proofs.Figures.{placed, kept_placed, full_fits}
use Rattle.text.specs.Lines.{line}
use Rattle.reports.specs.Keys.{key_implied}
use Rattle.reports.specs.Steps.{line_room}
use Rattle.lines.proofs.Sizes.{Numbers, line_at_most}

kept_few : (B : Book) → Sound B → count (kept_of B) B.count ≤ 378
unfolding design_of
kept_few B sound =
    let head = sound_head B sound in
    omega (
      arith,
      legal_size (design_of B) (kept_of B) head.bodies.low (sound_legal B sound),
      full_fits B.a B.b B.n head.profile.0.high head.profile.1.high head.bodies.high,
    )

pub placed_few : (B : Book) → Sound B → count (placed B.forests) B.count ≤ 378
placed_few B sound = omega (arith, kept_few B sound, count_eq (kept_of B) (placed B.forests) B.count (kept_placed B))

circuit_few : (B : Book) → Sound B → (e : ℕ) {list : List ℕ} → Circuit (design_of B) (kept_of B) e list → length list ≤ 378
unfolding design_of
circuit_few B sound e c =
    omega (
      arith,
      ap length c.in_order,
      length_numbers c.chosen B.count,
      count_mono c.chosen (kept_of B) B.count (λ i h t. ((c.exactly i h).0 t).0),
      kept_few B sound,
    )

circuit_numbers : (B : Book) → Sound B → (e : ℕ) {list : List ℕ} → Circuit (design_of B) (kept_of B) e list → Numbers list
unfolding design_of
circuit_numbers B sound e c =
    subst Numbers (sym c.in_order) (λ i h. omega (arith, (numbers_at c.chosen B.count i h).0.high, (sound_head B sound).edges))

pub circuit_fits : (B : Book) → Sound B → (e : ℕ) {list : List ℕ} → Circuit (design_of B) (kept_of B) e list → length (line key_implied list) ≤ line_room
circuit_fits B sound e {list} c = omega (arith, line_at_most key_implied list (circuit_numbers B sound e c), circuit_few B sound e c)
