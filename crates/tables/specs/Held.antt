-- What the struct of the tables holds: the definitions of Tables.antt, at its fields.
use Rattle.std.specs.Prelude.{ℕ}
use Rattle.rule.specs.Legal.{Design}
use Rattle.tables.specs.Tables.{Tabled}
use Rattle.tables.specs.declared.Tables.{Tables}

-- the tables hold the forests 1 to 6 of the design
abbrev pub Holds : Design → (ℕ → ℕ) → Tables → Type 0
Holds d forest T = Tabled d forest T.labels.root T.way T.labels.who T.edge T.size
