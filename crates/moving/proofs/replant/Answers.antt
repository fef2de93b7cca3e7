-- `moving::replant`: the loop walks along the path (proofs/Walking.antt), and the last edge is added.
use Rattle.std.proofs.Common.{◌≡◌, ℕ, List, refl, sym, ap, ◌∙◌, subst, subst₂, reverse}
use Rattle.rule.specs.declared.Book.{Book}
use Rattle.tables.specs.declared.Labels.{Labels}
use Rattle.rule.specs.Sets.{at}
use Rattle.planting.specs.Calls.{Addable, Added}
use Rattle.moving.specs.Moves.{Exchangeable, Exchanged}
use Rattle.moving.proofs.Walking.{Walking, walking_start, one_more, none_left, can_step, walking_step, can_add, walked_all}
use Rattle.moving.proofs.replant.Goals as goal

pub loop-y-init : goal.loop-y-init
loop-y-init c =
    let all = ap (λ i. i.iter.rest.now) c.into_iter-y-iterator.ensures.into_iter_gives
    ∙ ap (λ i. i.rest.now) c.rev-y-items.ensures.source ∙ c.iter.ensures.rest in (
      (λ t.
          subst (λ (rest : List ℕ). Walking t c.args.book.now.forests c.args.tables.now.way c.args.tables.now.edge (reverse rest) c.args.number)
          (sym all) (walking_start t)),
      refl,
      refl,
      refl,
    )

pub exchange-requires : goal.exchange-requires
exchange-requires c =
    let t = c.requires in
    let inv = c.loop-y.invariant in
    let b = c.loop-y.book in
    let w = one_more t b.forests c.loop-y.tables.way c.loop-y.tables.edge _ _ c.loop-y.x _ c.in-Some.ensures.steps (inv.0 t) in
    subst₂ (λ (ones others : List ℕ). Exchangeable c.loop-y.x c.in-Some.field-0.now ones others b.forests)
    (sym (ap (λ (b : Book). b.ones) inv.1)) (sym (ap (λ (b : Book). b.others) inv.1))
    (can_step t b.forests c.loop-y.tables.way c.loop-y.tables.edge _ c.loop-y.x c.in-Some.field-0.now w)

pub loop-y-preserved : goal.loop-y-preserved
loop-y-preserved c =
    let inv = c.loop-y.invariant in
    let b = c.loop-y.book in
    let now = c.exchange.new in
    let y = c.in-Some.field-0.now in (
      (λ t.
          walking_step t b.forests c.loop-y.tables.way c.loop-y.tables.edge _ c.loop-y.x y
          (one_more t b.forests c.loop-y.tables.way c.loop-y.tables.edge _ _ c.loop-y.x y c.in-Some.ensures.steps (inv.0 t)) _ _ _
          (subst₂
          (λ (ones others : List ℕ).
          Exchanged c.loop-y.x y ones others b.forests c.loop-y.tables.way c.loop-y.tables.edge now.book.forests now.tables.way now.tables.edge)
          (ap (λ (b : Book). b.ones) inv.1) (ap (λ (b : Book). b.others) inv.1) c.exchange.ensures.exchanges)),
      c.exchange.ensures.book ∙ ap (λ (b : Book). record b { forests = now.book.forests }) inv.1,
      c.exchange.ensures.labels ∙ inv.2,
      c.exchange.ensures.size ∙ inv.3,
    )

pub add-requires : goal.add-requires
add-requires c =
    let t = c.requires in
    let inv = c.loop-y.invariant in
    let w = none_left t c.loop-y.book.forests c.loop-y.tables.way c.loop-y.tables.edge _ c.loop-y.x c.in-None.ensures.steps.0 (inv.0 t) in
    let at_ones : at c.loop-y.book.ones c.loop-y.x ≡ at c.args.book.now.ones c.loop-y.x = ap (λ (b : Book). at b.ones c.loop-y.x) inv.1 in
    let at_others : at c.loop-y.book.others c.loop-y.x ≡ at c.args.book.now.others c.loop-y.x = ap (λ (b : Book). at b.others c.loop-y.x) inv.1 in
    subst₂ (λ (labels : Labels) (size : List ℕ). Addable c.from.result c.from-2.result c.from-3.result labels.root size)
    (sym inv.2) (sym inv.3)
    (can_add t c.loop-y.book.forests c.loop-y.tables.way c.loop-y.tables.edge c.loop-y.x w c.from.result c.from-2.result c.from-3.result
    c.from.ensures (c.from-2.ensures ∙ c.read-u.ensures ∙ at_ones) (c.from-3.ensures ∙ c.read-v.ensures ∙ at_others))

pub returns-clause-replanted : goal.returns-clause-replanted
returns-clause-replanted c t =
    let inv = c.loop-y.invariant in
    let w = none_left t c.loop-y.book.forests c.loop-y.tables.way c.loop-y.tables.edge _ c.loop-y.x c.in-None.ensures.steps.0 (inv.0 t) in
    let at_ones : at c.loop-y.book.ones c.loop-y.x ≡ at c.args.book.now.ones c.loop-y.x = ap (λ (b : Book). at b.ones c.loop-y.x) inv.1 in
    let at_others : at c.loop-y.book.others c.loop-y.x ≡ at c.args.book.now.others c.loop-y.x = ap (λ (b : Book). at b.others c.loop-y.x) inv.1 in
    let now = c.add.new.tables in
    walked_all t c.loop-y.book.forests c.loop-y.tables.way c.loop-y.tables.edge c.loop-y.x w c.from.result c.from-2.result c.from-3.result
    c.from.ensures (c.from-2.ensures ∙ c.read-u.ensures ∙ at_ones) (c.from-3.ensures ∙ c.read-v.ensures ∙ at_others) _ _ _ _ _ _
    (subst₂
    (λ (labels : Labels) (size : List ℕ).
    Added c.from.result c.from-2.result c.from-3.result c.loop-y.x labels.root c.loop-y.tables.way labels.who c.loop-y.tables.edge size
    now.labels.root now.way now.labels.who now.edge now.size)
    inv.2 inv.3 c.add.ensures)
    c.store.ensures
