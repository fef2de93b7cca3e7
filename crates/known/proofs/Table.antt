-- The theorem over the table: every row of it, P1 to P10 of document 01, holds by the definitions of crate rule.
--
-- `all_hold_decides` (proofs/RowTest.antt) says of every list of rows that a test answers true exactly when all of them hold. Here
-- the test is computed on the table.
-- Assumes nothing.
use mathlib.Core.Path.{refl}
use Rattle.rule.specs.Sets.{◌and◌, ◌or◌, isnt, ◌=?◌, ◌<?◌, ◌≤?◌, put, below, count, at, numbers}
use Rattle.rule.specs.Legal.{inside, first_part, second_part}
use Rattle.rule.specs.Figures.{freedom, dropped, verdict}
use Rattle.known.specs.Rows.{table}
use Rattle.known.specs.Holds.{offer, row_design, row_kept, AllHold}
use Rattle.known.proofs.Decides.{in?, each?, same?}
use Rattle.known.proofs.Trying.{some?, every?}
use Rattle.known.proofs.LegalTest.{sparse?, legal?, in_circuit?, circuit?}
use Rattle.known.proofs.GroupTest.{share?, in_group?, leads?, groups?}
use Rattle.known.proofs.RowTest.{joins?, outcome?, offer_holds?, holds?, all_hold?, all_hold_decides}

pub table_holds : AllHold table
unfolding table offer row_design row_kept all_hold? holds? joins? offer_holds? outcome? groups? leads? in_group? share? circuit?
    in_circuit? legal? sparse? every? some? each? same? in? at ◌and◌ ◌or◌ isnt ◌=?◌ ◌<?◌ ◌≤?◌ put below count numbers inside
    first_part second_part freedom dropped verdict
table_holds = (all_hold_decides table).0 refl
