-- The line that is due at each place of a text, and what is checked of it: document 01, "Book text" and "Reasons for saying no".
--
-- In order: what the lines before have said; the kinds of lines; the table of due lines; book text as a grammar.
use Rattle.std.specs.Prelude.{◌≡◌, ◌≢◌, List, [], ◌∷◌, ◌++◌, ℕ, ◌+◌, ◌≤◌, ◌<◌, length}
use Rattle.rule.specs.Sets.{In}
use Rattle.rule.specs.declared.Edge.{Edge}
use Rattle.rule.specs.Books.{ProfileRange, BodiesRange, ColourRange, capacity}
use Rattle.rule.specs.Reasons.{Check, plain}
use Rattle.grammar.specs.Grammar.{DueLine, Grammar}
use Rattle.text.specs.Lines.{Number, line, key_a, key_b, key_bodies, key_edges}
use Rattle.text.specs.Sheets.{edge_text}

-- what the lines before have said, in their order: nothing yet; a; a and b; those and the number of bodies; those, the
-- number of edges, and the edges so far
pub data Said : Type 0 where
  nothing : Said
  to_a : (a : ℕ) → Said
  to_b : (a b : ℕ) → Said
  to_bodies : (a b n : ℕ) → Said
  to_edges : (a b n m : ℕ) → List Edge → Said

-- how many lines that is
unfoldable pub lines_said : Said → ℕ
lines_said nothing = 0
lines_said (to_a a) = 1
lines_said (to_b a b) = 2
lines_said (to_bodies a b n) = 3
lines_said (to_edges a b n m edges) = 4 + length edges

-- a key and one number
abbrev pub number_line : List ℕ → (ℕ → Said) → (ℕ → List Check) → DueLine Said
number_line key then checks =
    record { Value = ℕ; Allowed = Number; bytes = λ v. line key (v ∷ []); then = then; checks = checks }

-- 1 at the line of a; where b is known, 1 is judged of both at the line of b
abbrev pub FirstRange : ℕ → Type 0
FirstRange a = In 3 a

-- an edge line: its bodies are numbers of a text, its colour is red or black
pub record Writable (e : Edge) : Type 0 where
  pub one : Number e.one
  pub other : Number e.other
  pub colour : ColourRange e.colour

-- it is allowed while fewer than m have come
abbrev pub EdgeAllowed : ℕ → List Edge → Edge → Type 0
EdgeAllowed m before e = (length before < m) × Writable e

-- an edge line, after those before it: 3 comes before 4
abbrev pub edge_line : (a b n m : ℕ) → List Edge → DueLine Said
edge_line a b n m before =
    record {
      Value = Edge;
      Allowed = EdgeAllowed m before;
      bytes = edge_text;
      then = λ e. to_edges a b n m (before ++ e ∷ []);
      checks = λ e. plain 3 (In n e.one × In n e.other) ∷ plain 4 (e.one ≢ e.other) ∷ [];
    }

-- lines 1 to 4, and then the edge lines; when they have all come no line is allowed
unfoldable pub due : Said → DueLine Said
due nothing = number_line key_a (λ a. to_a a) (λ a. plain 1 (FirstRange a) ∷ [])
due (to_a a) = number_line key_b (λ b. to_b a b) (λ b. plain 1 (ProfileRange a b) ∷ [])
due (to_b a b) = number_line key_bodies (λ n. to_bodies a b n) (λ n. plain 2 (BodiesRange n) ∷ [])
due (to_bodies a b n) = number_line key_edges (λ m. to_edges a b n m []) (λ m. plain 6 (m ≤ capacity) ∷ [])
due (to_edges a b n m before) = edge_line a b n m before

-- all lines have come, and nothing follows
abbrev pub Ended : Said → List ℕ → Type 0
Ended nothing rest = ⊥
Ended (to_a a) rest = ⊥
Ended (to_b a b) rest = ⊥
Ended (to_bodies a b n) rest = ⊥
Ended (to_edges a b n m edges) rest = (length edges ≡ m) × (rest ≡ [])

abbrev pub book_text : Grammar
book_text = record { Said = Said; nothing = nothing; lines = lines_said; due = due; Ended = Ended }
