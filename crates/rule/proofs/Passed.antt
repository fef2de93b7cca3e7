-- What passed checks give, by name. Checks that passed are a nested pair, one behind the other; here its parts get names, and nobody else goes by their
-- position, so that a check more moves none of them.
--
-- In order: a question's checks; an offer's.
-- Not here: that passed checks exclude a refusal (Determined.antt).
-- Assumes nothing.
use mathlib.Core.List.{List}
use Prim.Native.Nat.{ℕ, ◌≤◌, ◌<◌}
use lib.ListN.{length}
use Rattle.rule.specs.declared.Book.{Book}
use Rattle.rule.specs.declared.Edge.{Edge}
use Rattle.rule.specs.Books.{EdgeRange, capacity, Sound}
use Rattle.rule.specs.Reasons.{Pass, circuit_room, question_checks, offer_checks}

-- the book is sound, the edge fits it, and the lent list has room for a circuit
pub record Asked (B : Book) (given : Edge) (list : List ℕ) : Type 0 where
  pub sound : Sound B
  pub range : EdgeRange B.n given
  pub room : circuit_room ≤ length list

module _ (B : Book) (given : Edge) (list : List ℕ) where
  pub passed_question : Pass (question_checks B given list) → Asked B given list
  passed_question p =
      record {
        sound = p.0;
        range = record { one = p.1.1.0.0; other = p.1.1.0.1; different = p.1.1.1.0; colour = p.1.0 };
        room = p.1.1.1.1.0;
      }

  pub question_passes : Asked B given list → Pass (question_checks B given list)
  question_passes a =
      let r = a.range in
      (a.sound, (r.colour, ((r.one, r.other), (r.different, (a.room, tt)))))

-- and it is not full
pub record Offerable (B : Book) (given : Edge) (list : List ℕ) : Type 0 where
  pub asked : Asked B given list
  pub space : B.count < capacity

module _ (B : Book) (given : Edge) (list : List ℕ) where
  pub passed_offer : Pass (offer_checks B given list) → Offerable B given list
  passed_offer p =
      record {
        asked =
            record {
              sound = p.0;
              range = record { one = p.1.1.0.0; other = p.1.1.0.1; different = p.1.1.1.0; colour = p.1.0 };
              room = p.1.1.1.1.0;
            };
        space = p.1.1.1.1.1.0;
      }

  pub offer_passes : Offerable B given list → Pass (offer_checks B given list)
  offer_passes o =
      let r = o.asked.range in
      (o.asked.sound, (r.colour, ((r.one, r.other), (r.different, (o.asked.room, (o.space, tt))))))
