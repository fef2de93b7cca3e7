-- The definitions of Calls.antt at the fields of the tables.
use Rattle.std.specs.Prelude.{ℕ}
use Rattle.tables.specs.declared.Tables.{Tables}
use Rattle.planting.specs.Calls.{Addable, Added, Swapped}

-- `add` stays inside the tables
abbrev pub CanAdd : (f u v : ℕ) → Tables → Type 0
CanAdd f u v T = Addable f u v T.labels.root T.size

-- edge e, between u and v, which forest f did not join, stands in forest f
abbrev pub Adds : (f u v e : ℕ) → (before after : Tables) → Type 0
Adds f u v e T T' =
    Added f u v e T.labels.root T.way T.labels.who T.edge T.size T'.labels.root T'.way T'.labels.who T'.edge T'.size

-- edge x, between u and v, has taken the place of y, which stood in forest f on the path between u and v
abbrev pub Swaps : (f u v x y : ℕ) → (before after : Tables) → Type 0
Swaps f u v x y T T' = Swapped f u v x y T.way T.edge T'.way T'.edge
