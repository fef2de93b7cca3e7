-- A book that grows from lists of edges.
use Rattle.rule.specs.declared.Book.{Book}
use Rattle.rule.specs.Books.{Sound, GrownBook}
use Rattle.rule.specs.Calls.{new_book}
use Rattle.text.specs.EdgeLists.{EdgeLists, edges_in}
use Rattle.reports.specs.Reads.{Offers}
use Rattle.tables.specs.declared.Tables.{Tables}
use Rattle.engine.specs.Take.{TablesReadyIn}

-- a book was opened and offered as many edges of the lists as it has, and the tables hold its forests
pub record Growing (given : EdgeLists) (B : Book) (T : Tables) : Type 0 where
  pub offers : Offers (new_book B.a B.b B.n) (edges_in given B.count) B
  pub sound : Sound B
  pub grown : GrownBook B
  pub ready : TablesReadyIn B T
