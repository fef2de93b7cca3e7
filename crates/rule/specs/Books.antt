-- A book as a design, and when it is sound.
--
-- In order: an edge as it is given (the struct `Edge` of src/lib.rt); the edges, the design, the forests and the kept edges of a book; the ranges of document 01, "Sizes"; the
-- rule of each place (0 the head, e edge e); sound, and the first place that breaks a rule; grown; a design with one edge more.
use Rattle.std.specs.Prelude.{◌≡◌, ◌⊎◌, ◌≢◌, ℕ, zero, suc, ◌≤◌, ◌<◌}
use Rattle.rule.specs.declared.Book.{Book}
use Rattle.rule.specs.declared.Edge.{Edge}
use Rattle.rule.specs.Sets.{◌=?◌, Set, In, put, below, at}
use Rattle.rule.specs.Legal.{Design, Grown}
use Rattle.rule.specs.Forests.{Chain, in_forest, kept_in, Permitted}

-- ---- an edge

-- the edge between u and v of this colour
abbrev pub the_edge : (u v colour : ℕ) → Edge
the_edge u v colour = record { one = u; other = v; colour = colour }

-- ---- a book

-- edge e of a book, as it was given
unfoldable pub edge_of : Book → ℕ → Edge
edge_of B e = the_edge (at B.ones e) (at B.others e) (at B.colours e)

unfoldable pub design_of : Book → Design
design_of B =
    record {
      a = B.a;
      b = B.b;
      n = B.n;
      m = B.count;
      one = at B.ones;
      other = at B.others;
      red = λ e. at B.colours e =? 1;
    }

abbrev pub forest_of : Book → ℕ → ℕ
forest_of B = at B.forests

abbrev pub kept_of : Book → Set
kept_of B = kept_in (design_of B) (forest_of B)

-- ---- ranges

-- a and b each 1 to 3
abbrev pub ProfileRange : ℕ → ℕ → Type 0
ProfileRange a b = In 3 a × In 3 b

-- n 1 to 64
abbrev pub BodiesRange : ℕ → Type 0
BodiesRange n = In 64 n

-- 512 edges in a book
abbrev pub capacity : ℕ
capacity = 512

-- 1 red, 2 black
abbrev pub ColourRange : ℕ → Type 0
ColourRange c = (c ≡ 1) ⊎ (c ≡ 2)

-- an edge in range: two different bodies in 1 to n, and a colour
pub record EdgeRange (n : ℕ) (e : Edge) : Type 0 where
  pub one : In n e.one
  pub other : In n e.other
  pub different : e.one ≢ e.other
  pub colour : ColourRange e.colour

-- ---- the rules of a book

pub record HeadRule (B : Book) : Type 0 where
  pub profile : ProfileRange B.a B.b
  pub bodies : BodiesRange B.n
  pub edges : B.count ≤ capacity

-- edge e has two different bodies in 1 to n, a colour and a permitted forest number, and closes no loop of its forest among the
-- edges of smaller number
pub record EdgeRule (B : Book) (e : ℕ) : Type 0 where
  pub range : EdgeRange B.n (edge_of B e)
  pub permitted : Permitted (design_of B) (forest_of B) e
  pub closes_none :
      1 ≤ forest_of B e → ¬ Chain (design_of B) (below (in_forest (forest_of B) (forest_of B e)) e) (at B.ones e) (at B.others e)

-- the rule of a place: 0 is the head, e is edge e
unfoldable pub Obeys : Book → ℕ → Type 0
Obeys B zero = HeadRule B
Obeys B (suc i) = EdgeRule B (suc i)

unfoldable pub Sound : Book → Type 0
Sound B = (place : ℕ) → place ≤ B.count → Obeys B place

-- the first place that breaks its rule
pub record FirstBad (B : Book) (place : ℕ) : Type 0 where
  pub within : place ≤ B.count
  pub breaks : ¬ Obeys B place
  pub first : (before : ℕ) → before < place → Obeys B before

-- ---- grown from empty

-- the edges kept are those that are kept when the book's edges are offered in order to an empty book
abbrev pub GrownBook : Book → Type 0
GrownBook B = Grown (design_of B) (kept_of B)

-- ---- one edge more

-- the design with one edge more, between u and v
unfoldable pub plus : Design → Edge → Design
plus d given =
    record {
      a = d.a;
      b = d.b;
      n = d.n;
      m = suc d.m;
      one = put d.one (suc d.m) given.one;
      other = put d.other (suc d.m) given.other;
      red = put d.red (suc d.m) (given.colour =? 1);
    }

-- the number of the edge that is offered
abbrev pub next : Book → ℕ
next B = suc B.count

-- the design of a book with the offered edge. (A question may be asked of a full book: the offered edge needs no place in it.)
abbrev pub offered : Book → Edge → Design
offered B given = plus (design_of B) given
