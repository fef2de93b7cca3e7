-- `pager::report_edge`: kept or implied, by the forest of the edge (Says.antt).
use borrow.Author.Rules.{rules}
use native.Mathlib.Omega.{arith}
use mathlib.Core.Path.{sym, ◌∙◌}
use Rattle.theory.proofs.Legal.Sound.{sound_head}
use Rattle.pager.proofs.Tallies.{forest_next, forest_some}
use Rattle.pager.proofs.Says.{edge_implied, edge_kept}
use Rattle.pager.proofs.report_edge.Goals as goal

pub overflow_add-i : goal.overflow_add-i
overflow_add-i c = record { fits = omega (arith, c.requires, (sound_head c.args.place.source.book.now c.args.place.source.sound).edges) }

pub implied_line-requires : goal.implied_line-requires
implied_line-requires c =
    let source = c.args.place.source in
    record {
      listable =
          record {
            sound = source.sound;
            place = omega (arith, c.requires);
            implied = forest_next source.book.now c.args.place.line 0 (sym c.forest_at-forest.ensures ∙ c.if-forest-eq0.true);
            who = source.tables.now.labels.who;
            size = source.tables.now.size;
            tabled = source.held;
          };
      room = search rules;
    }

pub returns-then-forest-eq0 : goal.returns-then-forest-eq0
returns-then-forest-eq0 c =
    edge_implied c.args.place.source.book.now c.args.place.line (sym c.forest_at-forest.ensures ∙ c.if-forest-eq0.true)
    c.implied_line.ensures

pub kept_line-requires : goal.kept_line-requires
kept_line-requires c =
    let place = c.args.place in
    record {
      edge = c.requires;
      has_forest = forest_some place.source.book.now place.line (λ q. c.if-forest-eq0.false (c.forest_at-forest.ensures ∙ q));
    }

pub returns : goal.returns
returns c =
    edge_kept c.args.place.source.book.now c.args.place.line c.requires
    (λ q. c.if-forest-eq0.false (c.forest_at-forest.ensures ∙ q)) c.kept_line.ensures
