-- What a row of the table states, by the definitions of crate rule.
--
-- In order: the design of a row, and the edges that it says are kept; the ends and the outcome of an offer; a row holds; all rows
-- of a table hold.
use Rattle.std.specs.Prelude.{◌≡◌, ◌≢◌, Bool, true, false, List, [], ◌∷◌, ℕ, length, get_or}
use Rattle.rule.specs.Sets.{◌=?◌, Set, In, below}
use Rattle.rule.specs.Legal.{Design, Keeps, Implies, Circuit, Grown}
use Rattle.rule.specs.Figures.{freedom, dropped, verdict, Groups}
use Rattle.known.specs.Rows.{RowOutcome, RowOffer, Row, r}
use Rattle.known.specs.Rows.RowOutcome.{kept, implied}

-- ---- the design of a row

abbrev no_offer : RowOffer
no_offer = r 0 0 (implied [])

-- offer e of the row. Offers count from 1, and what stands at other numbers is never asked
unfoldable pub offer : Row → ℕ → RowOffer
offer row e = get_or (no_offer ∷ row.offers) e no_offer

-- edge e is offer e
unfoldable pub row_design : Row → Design
row_design row =
    record {
      a = row.a;
      b = row.b;
      n = row.bodies;
      m = length row.offers;
      one = λ e. (offer row e).u;
      other = λ e. (offer row e).v;
      red = λ e. (offer row e).colour =? 1;
    }

abbrev pub is_kept : RowOutcome → Bool
is_kept kept = true
is_kept (implied circuit) = false

-- the edges that the row says are kept
unfoldable pub row_kept : Row → Set
row_kept row e = is_kept (offer row e).outcome

-- ---- what the row says of it

-- edge e joins two different bodies of 1 to n
pub record Joins (d : Design) (e : ℕ) : Type 0 where
  pub one : In d.n (d.one e)
  pub other : In d.n (d.other e)
  pub different : d.one e ≢ d.other e

-- edge e, offered when the edges `before` are kept, is kept; or it is implied, and the list is its circuit
abbrev pub HasOutcome : (d : Design) (before : Set) (e : ℕ) → RowOutcome → Type 0
HasOutcome d before e kept = Keeps d before e
HasOutcome d before e (implied circuit) = Implies d before e × Circuit d before e circuit

pub record RowHolds (row : Row) : Type 0 where
  pub joins : (e : ℕ) → In (row_design row).m e → Joins (row_design row) e
  -- the edges said to be kept are those kept when all are offered in order to an empty book
  pub grown : Grown (row_design row) (row_kept row)
  -- each offer has its outcome with the edges kept before it
  pub outcomes : (e : ℕ) → In (row_design row).m e → HasOutcome (row_design row) (below (row_kept row) e) e (offer row e).outcome
  pub free : freedom (row_design row) (row_kept row) ≡ row.free
  pub drops : dropped (row_design row) (row_kept row) ≡ row.dropped
  pub judged : verdict (row_design row) (row_kept row) ≡ row.verdict
  pub grouped : Groups (row_design row) (row_kept row) row.groups

abbrev pub AllHold : List Row → Type 0
AllHold [] = Unit
AllHold (row ∷ rest) = RowHolds row × AllHold rest
