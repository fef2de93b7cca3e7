-- `pager::forest_line`: kept or implied, by the forest of the edge (Says.antt).
use borrow.Author.Rules.{rules}
use native.Mathlib.Omega.{arith}
use mathlib.Core.Path.{ap, sym, ◌∙◌}
use mathlib.Core.List.{[], ◌∷◌}
use Prim.Native.Nat.{ℕ}
use Rattle.text.specs.Lines.{line}
use Rattle.text.proofs.Overwrites.{writes_as}
use Rattle.theory.proofs.Legal.Sound.{sound_head}
use Rattle.reports.specs.Keys.{key_forest}
use Rattle.pager.proofs.Rooms.{number_line_room}
use Rattle.pager.proofs.Tallies.{forest_next}
use Rattle.pager.proofs.Says.{forest_implied, forest_kept}
use Rattle.pager.proofs.certificate.forest_line.Goals as goal

pub overflow_add-e : goal.overflow_add-e
overflow_add-e c = record { fits = omega (arith, c.requires, (sound_head c.args.source.book.now c.args.source.sound).edges) }

pub implied_line-requires : goal.implied_line-requires
implied_line-requires c =
    let source = c.args.source in
    record {
      listable =
          record {
            sound = source.sound;
            place = omega (arith, c.requires);
            implied = forest_next source.book.now c.args.e 0 (sym c.forest_at-forest.ensures ∙ c.if-forest-eq0.true);
            who = source.tables.now.labels.who;
            size = source.tables.now.size;
            tabled = source.held;
          };
      room = search rules;
    }

pub returns-then-forest-eq0 : goal.returns-then-forest-eq0
returns-then-forest-eq0 c =
    forest_implied c.args.source.book.now c.args.e (sym c.forest_at-forest.ensures ∙ c.if-forest-eq0.true) c.implied_line.ensures

pub number_line-requires : goal.number_line-requires
number_line-requires c = number_line_room key_forest c.from.result _ (omega arith) (search rules) (search rules)

pub returns : goal.returns
returns c =
    forest_kept c.args.source.book.now c.args.e (omega (arith, c.forest_at-forest.ensures))
    (writes_as (ap (λ (n : ℕ). line key_forest (n ∷ [])) (c.from.ensures ∙ c.forest_at-forest.ensures)) c.number_line.ensures)
