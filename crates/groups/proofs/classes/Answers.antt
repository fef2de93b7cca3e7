-- `groups::classes`: the greatest closed set, and the list of the classes that its labels give (Reading.antt).
use mathlib.Core.Path.{subst}
use Prim.Native.Nat.{ℕ}
use native.Mathlib.Omega.{arith}
use Rattle.groups.specs.Classes.{together_in, ClassesListed}
use Rattle.groups.proofs.Reading.{listed_joined}
use Rattle.groups.proofs.classes.Goals as goal

pub leaders-requires : goal.leaders-requires
leaders-requires c =
    let n = c.from.ensures in
    record { j_bound = (c.requires.few.0, (omega (arith, n, c.requires.few.1), omega (arith, n, c.requires.room))); seated = c.shrink.ensures.seated }

pub returns : goal.returns
returns c =
    let x = c.args in
    let L = c.shrink.new.labels in
    λ d lent coloured arr.
    listed_joined d _ _ L.root L.who (c.shrink.ensures.core d lent coloured arr).labels
    x.j x.book.now.n c.requires.few.0 c.requires.few.1 x.list.now c.leaders.new.list
    (subst (λ (n : ℕ). ClassesListed (together_in L x.j) n x.list.now c.leaders.new.list) c.from.ensures c.leaders.ensures)
