-- `search::mark`: the edges at the places passed are marked, and no others (`Marked`).
use mathlib.Core.Path.{◌≡◌, sym, ap, ◌∙◌, subst₂}
use Prim.Native.Nat.{ℕ, ◌+◌, ◌-◌, ◌/◌, ◌%◌, ◌^◌, ◌<◌}
use native.Mathlib.Omega.{arith}
use lib.Bits.{bit_or}
use lib.ListN.{get_or, set, take, drop, length-take}
use lib.Seq.{get_or-take}
use Rattle.std.proofs.lemmas.Grind.{get_or_after_one}
use Rattle.search.specs.Marks.{Marked}
use Rattle.search.proofs.Marking.{one_marked}
use Rattle.search.proofs.mark.Goals as goal

pub loop-e-preserved : goal.loop-e-preserved
loop-e-preserved c =
    let edges = c.args.queue.now.edges in
    let marks = c.loop-e.marks in
    let n = c.args.queue.now.size - 1 in
    let i = c.loop-e.e-index in
    let q = i + 1 in
    let h : i < n = omega (arith, length-take n (drop 1 edges)) in
    let at : q ≡ 1 + i = omega arith in
    let same : get_or (take n (drop 1 edges)) i 0 ≡ get_or edges q 0 =
    get_or-take n (drop 1 edges) i 0 h ∙ get_or_after_one edges i 0 ∙ ap (λ (z : ℕ). get_or edges z 0) (sym at) in
    let small : get_or edges q 0 < 576 = c.requires.1 q (omega arith) (omega arith) in
    subst₂ (λ (j b : ℕ). Marked edges (q + 1) (set marks j (bit_or (get_or marks j 0) b))) (sym (c.from-i.ensures ∙ ap (λ (z : ℕ). z / 64) same))
    (sym (c.one.ensures ∙ ap (λ (z : ℕ). 2 ^ z) (c.from.ensures ∙ ap (λ (z : ℕ). z % 64) same)))
    (one_marked q (omega arith) c.loop-e.invariant (omega (arith, small)))
