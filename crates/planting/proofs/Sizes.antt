-- The tables are as long as they must be: each value of the struct is (crate tables, src/lib.rt, its ghost fields).
-- Assumes nothing.
use Rattle.tables.specs.declared.Tables.{Tables}
use Rattle.planting.specs.Calls.{Sized}

pub sized : (T : Tables) → Sized T.labels.root T.way T.labels.who T.edge T.size
sized T =
    record {
      root_long = T.labels.root_long;
      way_long = T.way_long;
      who_long = T.labels.who_long;
      edge_long = T.edge_long;
      size_long = T.size_long;
    }
