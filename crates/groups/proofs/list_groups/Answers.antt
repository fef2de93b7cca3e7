-- `groups::list_groups`: the book's classes are listed with limit k, over k forests (Grouping.antt).
use mathlib.Core.Path.{ap₂, refl}
use Prim.Native.Nat.{ℕ, ◌+◌, ◌≤◌}
use native.Mathlib.Omega.{arith}
use Rattle.theory.proofs.Legal.Sound.{sound_head}
use Rattle.groups.proofs.Grouping.{forests_few, book_given, classes_grouped}
use Rattle.groups.proofs.list_groups.Goals as goal

pub invariant_of-limits : goal.invariant_of-limits
invariant_of-limits c =
    let few : c.from-a.result + c.from.result ≤ 6 = omega (arith, forests_few c.args.book.now c.requires.0, c.from-a.ensures, c.from.ensures) in
    record { red_few = omega (arith, few); black_few = few }

pub classes-requires : goal.classes-requires
classes-requires c =
    let book = c.args.book.now in
    let sound = c.requires.0 in
    let few : c.from-a.result + c.from.result ≤ 6 = omega (arith, forests_few book sound, c.from-a.ensures, c.from.ensures) in
    let bodies : book.n ≤ 64 = (sound_head book sound).bodies.high in
    record { given = book_given book sound; few = (few, bodies); room = omega (arith, c.requires.1, bodies) }

pub returns : goal.returns
returns c =
    let book = c.args.book.now in
    classes_grouped book c.requires.0 c.args.list.now c.classes.new.list c.requires.1 (c.from-a.result + c.from.result) book.n
    (ap₂ (λ (x y : ℕ). x + y) c.from-a.ensures c.from.ensures) refl c.classes.ensures
