-- `groups::remains`: the edge is read, and the labels of its ends are compared as far as its limit.
use mathlib.Core.Path.{◌≡◌, ap, ◌∙◌}
use mathlib.Core.Bool.{cond}
use Prim.Native.Nat.{ℕ, ◌+◌}
use native.Mathlib.Omega.{arith}
use lib.ListN.{get_or}
use Rattle.rule.specs.declared.Book.{Book}
use Rattle.rule.specs.declared.Edge.{Edge}
use Rattle.rule.specs.Sets.{◌=?◌, at}
use Rattle.rule.specs.Books.{the_edge, edge_of}
use Rattle.rule.proofs.Places.{edge_at_index}
use Rattle.groups.proofs.Reading.{either_most, stays_at}
use Rattle.groups.proofs.remains.Goals as goal

-- what the book says at an index is the edge that was read there
read : (B : Book) (e : ℕ) {edge : Edge} → edge ≡ edge_of B (e + 1) → edge ≡ the_edge (get_or B.ones e 0) (get_or B.others e 0) (get_or B.colours e 0)
read B e is = is ∙ edge_at_index B e

pub same_labels-requires : goal.same_labels-requires
unfolding at
same_labels-requires c =
    let limits = c.args.limits in
    let few = either_most (c.edge-edge.result.colour =? 1) limits.red limits.black 6 limits.red_few limits.black_few in
    let is = read c.args.book.now c.args.e c.edge-edge.ensures in
    let one = c.from-u.ensures ∙ ap (λ (x : Edge). x.one) is in
    let other = c.from-v.ensures ∙ ap (λ (x : Edge). x.other) is in
    (omega (arith, few, c.of-j.ensures), (omega (arith, c.requires.ends, one, other), omega (arith, c.requires.ends, one, other)))

pub returns : goal.returns
returns c =
    let book = c.args.book.now in
    let limits = c.args.limits in
    let is = read book c.args.e c.edge-edge.ensures in
    c.same_labels.ensures
    ∙ stays_at c.args.labels.now.root book.ones book.others book.colours limits.red limits.black c.args.e c.of-j.result
    c.from-u.result c.from-v.result
    (c.of-j.ensures ∙ ap (λ (x : Edge). cond (x.colour =? 1) limits.red limits.black) is)
    (c.from-u.ensures ∙ ap (λ (x : Edge). x.one) is) (c.from-v.ensures ∙ ap (λ (x : Edge). x.other) is)
