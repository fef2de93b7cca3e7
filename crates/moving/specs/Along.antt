-- The definitions of Moves.antt at the fields of the book and of the tables.
use Rattle.std.specs.Prelude.{List, ℕ}
use Rattle.rule.specs.declared.Book.{Book}
use Rattle.tables.specs.declared.Tables.{Tables}
use Rattle.moving.specs.Moves.{Exchangeable, Exchanged, Replanting, Replanted}

-- `exchange` stays inside the arrays
abbrev pub CanExchange : (x y : ℕ) → Book → Type 0
CanExchange x y B = Exchangeable x y B.ones B.others B.forests

-- x has y's forest, and y's place in the tables
abbrev pub Exchanges : (x y : ℕ) → Book → Tables → Book → Tables → Type 0
Exchanges x y B T B' T' = Exchanged x y B.ones B.others B.forests T.way T.edge B'.forests T'.way T'.edge

-- a path leads from the edge `number` to an edge that is free in the forest found
abbrev pub Replants : (number found : ℕ) → List ℕ → Book → Tables → Type 0
Replants number found path B T =
    Replanting number found path B.ones B.others B.forests T.labels.root T.way T.labels.who T.edge T.size

-- the edges have moved along it, and the tables hold the forests as they are now
abbrev pub Lands : (number found : ℕ) → List ℕ → Book → Tables → Book → Tables → Type 0
Lands number found path B T B' T' =
    (t : Replants number found path B T) → Replanted t B'.forests T'.labels.root T'.way T'.labels.who T'.edge T'.size
