-- `search::turn`: the book tells the edge's bodies, its colour and its forest, and with these it tries its forests.
use mathlib.Core.Path.{◌≡◌, refl, sym, ap, ◌∙◌, subst}
use mathlib.Core.Bool.{cond}
use mathlib.Core.List.{List}
use Prim.Native.Nat.{ℕ, ◌+◌, ◌-◌, ◌<◌, ◌≤◌}
use native.Mathlib.Omega.{arith}
use lib.ListN.{get_or}
use Rattle.std.specs.Prelude.{None}
use Rattle.rule.specs.Sets.{◌=?◌}
use Rattle.rule.specs.Forests.{limit}
use Rattle.rule.specs.declared.Edge.{Edge}
use Rattle.rule.specs.Books.{the_edge}
use Rattle.rule.proofs.Places.{edge_at_index}
use Rattle.theory.specs.Search.{edge_at}
use Rattle.reaching.specs.Trying.{Tells, Trying}
use Rattle.search.specs.Given.{IsEdge, Given}
use Rattle.search.specs.Answers.{Turned}
use Rattle.search.proofs.AllTurns.{limit_is, queue_at, edge_range, earlier_edge, edge_read, has_turn, turn_ends, turn_goes}
use Rattle.search.proofs.turn.Goals as goal

module _ {a k place n : ℕ} {ones others colours forests root way edge queue from seen : List ℕ}
    (g : Given a k ones others colours forests root way edge) (low : 1 ≤ place) (h : place < n)
    (s : Turned g queue from seen place n None) {r : ℕ} (is_r : r ≡ get_or queue place 0) where
  -- the edge there is one of the book
  edge_some : 1 ≤ r
  edge_some = omega (arith, is_r, queue_at g place s place h, (edge_range g place s h).low)

  index_few : r - 1 < 512
  index_few = omega (arith, is_r, earlier_edge g place s h low)

  -- the reads are over
  module _ {E : Edge} {own last : ℕ} (is_edge : E ≡ the_edge (get_or ones (r - 1) 0) (get_or others (r - 1) 0) (get_or colours (r - 1) 0))
      (is_own : own ≡ get_or forests (r - 1) 0) (is_last : last ≡ cond (E.colour =? 1) a k) where
    edge_told : IsEdge g.d g.forest (edge_at s.waiting place) E own
    edge_told =
        subst (λ (is : Edge). IsEdge g.d g.forest (edge_at s.waiting place) is own) (sym is_edge)
        (subst
        (λ (z : ℕ). IsEdge g.d g.forest (edge_at s.waiting place) (the_edge (get_or ones (z - 1) 0) (get_or others (z - 1) 0) (get_or colours (z - 1) 0)) own)
        (sym is_r) (edge_read g place s h low refl refl (is_own ∙ ap (λ (z : ℕ). get_or forests (z - 1) 0) is_r)))

    last_told : limit g.d (edge_at s.waiting place) ≡ last
    last_told = limit_is edge_told g.for_red g.for_black ∙ sym is_last

    abbrev tries : Trying E.one E.other place n root way edge queue from seen
    tries = has_turn g place s h edge_told

pub edge-edge-requires : goal.edge-edge-requires
edge-edge-requires c = index_few c.requires.0 c.requires.1.0 c.requires.1.1.0 c.requires.1.1.1 c.from-i.ensures

pub try_forests-requires : goal.try_forests-requires
try_forests-requires c =
    let is = c.edge-edge.ensures ∙ edge_at_index c.args.book.now (c.from-i.result - 1) in
    let g = c.requires.0 in
    let low = c.requires.1.0 in
    let h = c.requires.1.1.0 in
    let s = c.requires.1.1.1 in (
      tries g low h s c.from-i.ensures is c.from-own.ensures c.of-last.ensures,
      (
        last_told g low h s c.from-i.ensures is c.from-own.ensures c.of-last.ensures,
        (edge_told g low h s c.from-i.ensures is c.from-own.ensures c.of-last.ensures).stands,
      ),
    )

pub returns-in_err-forest : goal.returns-in_err-forest
returns-in_err-forest c g s =
    let is = c.edge-edge.ensures ∙ edge_at_index c.args.book.now (c.from-i.result - 1) in
    let low = c.requires.1.0 in
    let h = c.requires.1.1.0 in
    let told = edge_told g low h s c.from-i.ensures is c.from-own.ensures c.of-last.ensures in
    let last = last_told g low h s c.from-i.ensures is c.from-own.ensures c.of-last.ensures in
    let Q = c.try_forests.new.queue in
    subst (Turned g Q.edges Q.from Q.seen (c.args.place + 1) Q.size) (sym c.from_residual.ensures)
    (turn_goes g c.args.place s h told last
    (subst (Tells _ _ _ _) c.in_err-forest.was
    (c.try_forests.ensures (tries g low h s c.from-i.ensures is c.from-own.ensures c.of-last.ensures) last told.stands)))

pub returns : goal.returns
returns c g s =
    let is = c.edge-edge.ensures ∙ edge_at_index c.args.book.now (c.from-i.result - 1) in
    let low = c.requires.1.0 in
    let h = c.requires.1.1.0 in
    let told = edge_told g low h s c.from-i.ensures is c.from-own.ensures c.of-last.ensures in
    let last = last_told g low h s c.from-i.ensures is c.from-own.ensures c.of-last.ensures in
    turn_ends g c.args.place s h told last c.try_forests.new.queue.size
    (subst (Tells _ _ _ _) c.in_ok-forest.was
    (c.try_forests.ensures (tries g low h s c.from-i.ensures is c.from-own.ensures c.of-last.ensures) last told.stands))
