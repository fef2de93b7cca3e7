-- Moved is at most the number kept before the call.
--
-- An earlier edge that was implied has forest 0 before and after; so an earlier edge whose forest differs was kept.
-- Assumes nothing.
use mathlib.Core.Path.{sym, subst}
use mathlib.Core.List.{List}
use Prim.Native.Nat.{ℕ, ◌≤◌}
use native.Mathlib.Omega.{arith}
use Rattle.rule.specs.declared.Book.{Book}
use Rattle.rule.specs.declared.Answer.TheVariants.{Kept}
use Rattle.rule.specs.Sets.{Is, isnt, ◌=?◌, In, count}
use Rattle.rule.specs.Forests.{moved}
use Rattle.rule.specs.declared.Edge.{Edge}
use Rattle.rule.specs.Books.{design_of, forest_of, kept_of}
use Rattle.rule.specs.Calls.{KeepsIt, Offer, Question}
use Rattle.rule.proofs.Tests.{by_le, isnt_not, eq_is}
use Rattle.rule.proofs.Counting.{count_mono}
use Rattle.theory.proofs.Legal.Kept.{kept_make}

module _ (B : Book) (given : Edge) where
  differs_was_kept : (forest : ℕ → ℕ) (c : ℕ) → KeepsIt B given forest c → (e : ℕ) → In B.count e → Is (isnt (forest_of B e =? forest e))
      → Is (kept_of B e)
  unfolding design_of
  differs_was_kept forest c says e h t =
      by_le 1 (forest_of B e) (λ l. kept_make (design_of B) (forest_of B) e h.high l)
      (λ none.
      by_le 1 (forest e) (λ l. absurd (omega (arith, (says.earlier e h).0 l)))
      (λ still. absurd (isnt_not (forest_of B e =? forest e) t (eq_is _ _ (omega arith)))))

  said_at_most_kept : (forest : ℕ → ℕ) (c : ℕ) → KeepsIt B given forest c → c ≤ count (kept_of B) B.count
  unfolding moved
  said_at_most_kept forest c says =
      subst (λ (z : ℕ). z ≤ count (kept_of B) B.count) (sym says.moves)
      (count_mono (λ e. isnt (forest_of B e =? forest e)) (kept_of B) B.count (differs_was_kept forest c says))

  pub moved_at_most_kept : (after : Book) (list listed : List ℕ) (c : ℕ) → Offer B after given list listed (Kept c)
      → c ≤ count (kept_of B) B.count
  moved_at_most_kept after list listed c o = said_at_most_kept (forest_of after) c o.says

  pub question_moved_at_most_kept : (list listed : List ℕ) (c : ℕ) → Question B given list listed (Kept c) → c ≤ count (kept_of B) B.count
  question_moved_at_most_kept list listed c q = said_at_most_kept q.forest c q.says
