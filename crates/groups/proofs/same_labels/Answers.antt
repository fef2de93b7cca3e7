-- `groups::same_labels`: `all` answers yes where each of the first j forests has one label for u and v, and else no.
use mathlib.Core.Path.{◌≡◌, refl}
use mathlib.Core.Bool.{false}
use Prim.Native.Nat.{◌+◌}
use Rattle.rule.specs.Sets.{Is}
use Rattle.std.proofs.Common.{arith, rules, tests}
use Rattle.std.proofs.lemmas.Iterator.{cases_from_all, YieldsList-from_range}
use Rattle.groups.proofs.Reading.{one_label, same_of}
use Rattle.groups.proofs.same_labels.Goals as goal

pub returns : goal.returns
returns c =
    let x = c.args in
    same_of x.labels.now.root x.u x.v x.j c.all.result
    (cases_from_all _ _ _ (λ i. Is (one_label x.labels.now.root x.u x.v (i + 1))) (λ i. one_label x.labels.now.root x.u x.v (i + 1) ≡ false)
    c.all.ensures.ran (YieldsList-from_range 0 x.j x.j refl (omega arith)) (λ i q k. search (rules, tests)) (λ i q k. search (rules, tests)))
