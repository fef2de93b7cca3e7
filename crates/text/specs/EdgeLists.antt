-- Edges in lists: their first bodies, their second bodies and their colours, edge i, counted from 0, at place i of each. A text is read into such lists, and a book is grown
-- from them.
--
-- In order: the lists; an edge entered in them, and edges entered from the front; the edges that stand in lists, and the sheet of them.
use Rattle.std.specs.Prelude.{◌≡◌, List, [], ◌∷◌, ◌++◌, map, ℕ, zero, suc, length, get_or, set}
use Rattle.rule.specs.declared.Edge.{Edge}
use Rattle.rule.specs.Books.{capacity}
use Rattle.rule.specs.Calls.{Filled}
use Rattle.text.specs.declared.edges.Edges.{Edges}
use Rattle.text.specs.Sheets.{Sheet}

pub record EdgeLists : Type 0 where
  pub ones : List ℕ
  pub others : List ℕ
  pub colours : List ℕ

abbrev pub lists : (ones others colours : List ℕ) → EdgeLists
lists ones others colours = record { ones = ones; others = others; colours = colours }

-- the lists of a value `Edges` of src/
abbrev pub lists_of : Edges → EdgeLists
lists_of e = lists e.ones e.others e.colours

-- each has as many places as a book has edges at most
pub record Roomy (l : EdgeLists) : Type 0 where
  pub ones_long : length l.ones ≡ capacity
  pub others_long : length l.others ≡ capacity
  pub colours_long : length l.colours ≡ capacity

-- ---- entered

-- an edge stands at place i, and all else is as it was
pub record EdgeEntered (i : ℕ) (e : Edge) (before after : EdgeLists) : Type 0 where
  pub one : after.ones ≡ set before.ones i e.one
  pub other : after.others ≡ set before.others i e.other
  pub colour : after.colours ≡ set before.colours i e.colour

-- these edges stand in the lists, in front of what the lists held
pub record EdgesEntered (edges : List Edge) (before after : EdgeLists) : Type 0 where
  pub ones : Filled (map (λ (e : Edge). e.one) edges) before.ones after.ones
  pub others : Filled (map (λ (e : Edge). e.other) edges) before.others after.others
  pub colours : Filled (map (λ (e : Edge). e.colour) edges) before.colours after.colours

-- ---- read back

-- an edge of zeros, which is none
abbrev pub blank : Edge
blank = record { one = 0; other = 0; colour = 0 }

-- edge i as it stands in the lists, and the first m of them
abbrev pub edge_in : EdgeLists → ℕ → Edge
edge_in l i = record { one = get_or l.ones i 0; other = get_or l.others i 0; colour = get_or l.colours i 0 }

unfoldable pub edges_in : EdgeLists → ℕ → List Edge
edges_in l zero = []
edges_in l (suc m) = edges_in l m ++ edge_in l m ∷ []

-- the sheet of four numbers and of the lists
abbrev pub sheet_in : (a b n m : ℕ) → EdgeLists → Sheet
sheet_in a b n m l = record { a = a; b = b; n = n; edges = edges_in l m }
