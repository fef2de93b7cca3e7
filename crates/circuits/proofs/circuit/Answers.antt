-- `circuits::circuit`: what the search says of the twin is what the list holds of edge e (proofs/Circling.antt).
use mathlib.Core.Path.{◌≡◌, ap}
use mathlib.Core.List.{List}
use Prim.Native.Nat.{ℕ, ◌-◌, ◌≤◌, ◌<◌}
use native.Mathlib.Omega.{arith}
use lib.ListN.{length}
use Rattle.rule.specs.declared.Book.{Book}
use Rattle.rule.specs.Books.{Sound}
use Rattle.rule.specs.Sets.{count}
use Rattle.rule.proofs.Places.{edge_at_index}
use Rattle.theory.proofs.Legal.Sound.{sound_head}
use Rattle.book.proofs.Figures.{placed}
use Rattle.tables.specs.declared.Tables.{Tables}
use Rattle.circuits.specs.Listable.{ListableIn}
use Rattle.circuits.proofs.Room.{placed_few}
use Rattle.circuits.proofs.Circling.{asks, found_holds, stuck_holds}
use Rattle.circuits.proofs.circuit.Goals as goal

-- before the search
few_edges : (B : Book) {e : ℕ} (T : Tables) → ListableIn B e T → e - 1 < 512
few_edges B T l = omega (arith, l.place.high, (sound_head B l.sound).edges)

-- a place was found: the list is as long as before, and has room for all that are kept
room : (B : Book) → Sound B → {list listed : List ℕ} → 378 ≤ length list → listed ≡ list → count (placed B.forests) B.count ≤ length listed
room B sound long same = omega (arith, placed_few B sound, ap length same, long)

pub edge-twin-requires : goal.edge-twin-requires
edge-twin-requires c = let few = few_edges c.args.book.now c.args.tables.now c.requires.listable in omega (arith, few, c.from-i.ensures)

pub place_for-requires : goal.place_for-requires
place_for-requires c = record { room = c.requires.room; seekable = rw (c.edge-twin.ensures, edge_at_index, c.from-i.ensures) (asks c.args.book.now c.args.e c.requires.listable) }

pub all_kept-requires : goal.all_kept-requires
all_kept-requires c =
    let book = c.args.book.now in
    let sound = c.requires.listable.sound in
    ((sound_head book sound).edges, room book sound c.requires.room c.in-Found.ensures.1.1)

pub returns-in-Found : goal.returns-in-Found
returns-in-Found c =
    found_holds c.args.book.now c.args.e c.requires.listable _ _ _ (rw (c.edge-twin.ensures, edge_at_index, c.from-i.ensures) at c.in-Found.ensures.1.0) _ _ _ c.all_kept.ensures

pub returns-in-Stuck : goal.returns-in-Stuck
returns-in-Stuck c =
    rw c.from.ensures
    (stuck_holds c.args.book.now c.args.e c.requires.listable c.args.list.now c.place_for.new.list _ (rw (c.edge-twin.ensures, edge_at_index, c.from-i.ensures) at c.in-Stuck.ensures.1))
