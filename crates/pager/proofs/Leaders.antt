-- The group list as it is written: listed in bytes, widened, and then written as a line.
--
-- The first n places of the widened list are those of the list, which are the group list of the book.
-- Assumes nothing.
use Rattle.std.specs.Prelude.{Ok}
use mathlib.Core.Path.{◌≡◌, refl, sym, ap, ◌∙◌, subst}
use mathlib.Core.List.{List}
use Prim.Native.Nat.{ℕ, ◌≤◌}
use native.Mathlib.Omega.{arith}
use lib.ListN.{length, take, drop, length-append}
use lib.Seq.{length-take-le, take_at}
use Rattle.rule.specs.declared.Book.{Book}
use Rattle.rule.specs.Figures.{Groups}
use Rattle.rule.specs.Books.{design_of, kept_of, Sound}
use Rattle.rule.specs.Calls.{Filled, Grouped}
use Rattle.theory.proofs.Legal.Sound.{sound_head}
use Rattle.text.specs.Lines.{line}
use Rattle.text.specs.Puts.{Writes}
use Rattle.reports.specs.Keys.{key_groups}
use Rattle.reports.specs.Reports.{GroupsLine}
use Rattle.reports.specs.Steps.{Puts, line_room}
use Rattle.pager.proofs.Rooms.{groups_room}

module _ (B : Book) (sound : Sound B) where
  pub bodies_few : B.n ≤ 64
  bodies_few = (sound_head B sound).bodies.high

  module _ (list listed : List ℕ) (grouped : Grouped B list listed (Ok tt)) where
    pub listed_long : B.n ≤ length listed
    listed_long = omega (arith, bodies_few, grouped.0.1.0, grouped.3)

    pub first_long : length (take B.n listed) ≡ B.n
    first_long = length-take-le B.n listed listed_long

    module _ (wide widened : List ℕ) (is : Filled (take B.n listed) wide widened) where
      pub widened_long : B.n ≤ length widened
      widened_long =
          omega (arith, first_long, ap length is, length-append (take B.n listed) (drop (length (take B.n listed)) wide))

      same_first : take B.n widened ≡ take B.n listed
      same_first = ap (take B.n) is ∙ take_at (take B.n listed) (drop (length (take B.n listed)) wide) B.n first_long

      are_groups : Groups (design_of B) (kept_of B) (take B.n widened)
      are_groups = subst (Groups (design_of B) (kept_of B)) (sym same_first) grouped.1

      pub leaders_room : (places : ℕ) → line_room ≤ places → length (line key_groups (take B.n widened)) ≤ places
      leaders_room places room = groups_room B sound (take B.n widened) places are_groups room

      pub says_groups : {s after : List ℕ} {r : ℕ} → Writes (line key_groups (take B.n widened)) s after r
          → Puts (GroupsLine (design_of B) (kept_of B)) s after r
      says_groups w =
          record {
            bytes = line key_groups (take B.n widened);
            says = record { list = take B.n widened; is_list = are_groups; is_line = refl };
            writes = w;
          }
