-- `book::free_of`: k·(n−1) less those counted (proofs/Figures.antt). The bound of the product asks only for two small numbers, and the bound of what is counted is turned
-- to what was read of the book, so that a wrong product fails where its value is wanted.
use mathlib.Core.Path.{sym}
use Prim.Native.Nat.{ℕ, ◌*◌, ◌≤◌, ◌<◌}
use native.Mathlib.Omega.{arith}
use native.Mathlib.Nat.{mul-le-mul}
use Rattle.theory.proofs.Legal.Sound.{sound_head}
use Rattle.book.proofs.Figures.{found_fits, is_freedom}
use Rattle.book.proofs.tally.free_of.Goals as goal

-- a product of two numbers as small as these fits, whichever they are
small : (x y : ℕ) → x ≤ 6 → y ≤ 63 → x * y < 65536
small x y hx hy = omega (arith, mul-le-mul {n₂ = 6} {m₂ = 63} hx hy)

pub overflow_sub-result : goal.overflow_sub-result
overflow_sub-result c = omega (arith, c.from-n.ensures, (sound_head c.args.book.now c.requires).bodies.low)

pub overflow_mul-result : goal.overflow_mul-result
overflow_mul-result c =
    let head = sound_head c.args.book.now c.requires in
    record {
      fits =
          small _ _ (omega (arith, c.from-a.ensures, c.from-b.ensures, head.profile.0.high, head.profile.1.high))
          (omega (arith, c.from-n.ensures, head.bodies.high));
    }

pub kept-requires : goal.kept-requires
kept-requires c = (sound_head c.args.book.now c.requires).edges

pub overflow_sub-result-2 : goal.overflow_sub-result-2
overflow_sub-result-2 c =
    rw (sym c.from-a.ensures, sym c.from-b.ensures, sym c.from-n.ensures) at (found_fits c.args.book.now c.requires c.kept.result c.kept.ensures)

pub returns : goal.returns
returns c =
    rw (c.from-a.ensures, c.from-b.ensures, c.from-n.ensures) (is_freedom c.args.book.now c.requires c.kept.result c.kept.ensures)
