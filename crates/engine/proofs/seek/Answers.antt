-- `engine::seek`: the search computes the model's, and the path or the circuit is read off what it leaves (proofs/Seeking.antt).
use borrow.Author.Rules.{rules}
use mathlib.Core.Path.{◌≡◌, refl}
use mathlib.Core.List.{List}
use Prim.Native.Nat.{ℕ, ◌<◌}
use lib.ListN.{length}
use Rattle.std.specs.Prelude.{Some, None}
use Rattle.rule.specs.declared.Book.{Book}
use Rattle.rule.specs.declared.Edge.{Edge}
use Rattle.rule.specs.Books.{offered, next}
use Rattle.theory.specs.Search.{search as searching}
use Rattle.theory.specs.Search.Result.{found, going}
use Rattle.tables.specs.declared.Tables.{Tables}
use Rattle.reaching.specs.declared.waiting.Queue.{Queue}
use Rattle.reaching.specs.Setting.{HoldsWaiting}
use Rattle.reaching.specs.Trying.{Comes}
use Rattle.search.specs.declared.End.{End}
use Rattle.search.specs.Given.{SoughtIn}
use Rattle.search.specs.Answers.{SearchedIn}
use Rattle.search.specs.Ends.{LedIn, Traced, QueuedIn, CircuitListed}
use Rattle.engine.specs.Seek.{forests_for, SeekableIn, EndsIn, Fails}
use Rattle.engine.proofs.Seeking.{sought, searched, led, small_forest, ends_there, waits, fails_there}
use Rattle.engine.proofs.seek.Goals as goal

module _ (B : Book) (given : Edge) (T : Tables) (s : SeekableIn B given T) (Q : Queue) where
  abbrev asked : SoughtIn B given T
  asked = sought B given s

  -- where it ended
  module _ (end : End) (told : (t : SoughtIn B given T) → SearchedIn t Q (Some end)) where
    come : Comes (λ w. HoldsWaiting w Q.edges Q.from) (found end.place end.forest) (searching (offered B given) (forests_for B) (next B))
    come = searched B given s Q.edges Q.from Q.size (Some end) (told asked)

    abbrev way_back : LedIn end.place Q
    way_back = led B given s end.place end.forest Q.edges Q.from come

    forest_small : end.forest < 256
    forest_small = small_forest B given s end.place end.forest Q.edges Q.from come

    ends : {path path' : List ℕ} {n : ℕ} → length path ≡ 379 → ((t : LedIn end.place Q) → Traced t.w end.place path path' n)
        → EndsIn B given path' n end.forest × (length path' ≡ 379)
    ends {path} {path'} {n} long traced = ends_there B given s end.place end.forest Q.edges Q.from come path path' n long (traced way_back)

  -- where it did not
  module _ (told : (t : SoughtIn B given T) → SearchedIn t Q None) where
    stuck : Comes (λ w. (Q.size ≡ length w.queue) × HoldsWaiting w Q.edges Q.from) going (searching (offered B given) (forests_for B) (next B))
    stuck = searched B given s Q.edges Q.from Q.size None (told asked)

    abbrev all_waiting : QueuedIn Q
    all_waiting = waits B given s Q.size Q.edges Q.from stuck

    fails : {list listed : List ℕ} {len : ℕ} → length listed ≡ length list
        → ((t : QueuedIn Q) → CircuitListed t.w t.d.m Q.size list listed len) → Fails B given list listed len × (len < 65536)
    fails {list} {listed} {len} long circuit = fails_there B given s Q.size Q.edges Q.from stuck list listed len long (circuit all_waiting)

pub search-requires : goal.search-requires
search-requires c = sought c.args.book.now c.args.edge c.requires.seekable

pub trail-n-requires : goal.trail-n-requires
trail-n-requires c =
    way_back c.args.book.now c.args.edge c.args.tables.now c.requires.seekable c.search.new.queue c.in-Some.end c.in-Some.ensures

pub overflow_cast-result : goal.overflow_cast-result
overflow_cast-result c =
    let small =
    forest_small c.args.book.now c.args.edge c.args.tables.now c.requires.seekable c.search.new.queue c.in-Some.end c.in-Some.ensures in
    search (rules, small)

pub invariant_of-scratch : goal.invariant_of-scratch
invariant_of-scratch c =
    record {
      path_long =
          (ends c.args.book.now c.args.edge c.args.tables.now c.requires.seekable c.search.new.queue c.in-Some.end c.in-Some.ensures
          c.args.scratch.now.path_long c.trail-n.ensures).1;
    }

pub returns-in-Some : goal.returns-in-Some
returns-in-Some c = (
  (ends c.args.book.now c.args.edge c.args.tables.now c.requires.seekable c.search.new.queue c.in-Some.end c.in-Some.ensures
      c.args.scratch.now.path_long c.trail-n.ensures).0,
  refl,
)

pub circuit-m-requires : goal.circuit-m-requires
circuit-m-requires c = (
  c.requires.room,
  all_waiting c.args.book.now c.args.edge c.args.tables.now c.requires.seekable c.search.new.queue c.in-None.ensures,
)

pub overflow_cast-result-in-None : goal.overflow_cast-result-in-None
overflow_cast-result-in-None c =
    let small =
    (fails c.args.book.now c.args.edge c.args.tables.now c.requires.seekable c.search.new.queue c.in-None.ensures
    c.circuit-m.auto.list c.circuit-m.ensures).1 in
    search (rules, small)

pub returns-in-None : goal.returns-in-None
returns-in-None c =
    (fails c.args.book.now c.args.edge c.args.tables.now c.requires.seekable c.search.new.queue c.in-None.ensures
    c.circuit-m.auto.list c.circuit-m.ensures).0
