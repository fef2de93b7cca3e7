-- Lines that come in sections, one behind the other: a report, a certificate. Lines are counted from 0.
--
-- In order: a section; lines of which each has its own words; a line for each edge; the lines of sections.
-- Not here: which sections there are (Reports.antt); the laws, each said once for all sections (proofs/Sections.antt).
use Rattle.std.specs.Prelude.{◌≡◌, ◌⊎◌, List, [], ◌∷◌, ℕ, zero, suc, ◌+◌, ◌-◌, ◌≤◌, ◌<◌, length}

-- how many lines it has, and what its line i is
pub record Section : Type 1 where
  pub number : ℕ
  pub Says : ℕ → List ℕ → Type 0

-- ---- what a section says

-- these bytes and no others
abbrev pub Exactly : List ℕ → List ℕ → Type 0
Exactly is bytes = bytes ≡ is

-- what line j of these is
abbrev pub Nth : List (List ℕ → Type 0) → ℕ → List ℕ → Type 0
Nth [] j bytes = ⊥
Nth (Says ∷ rest) zero bytes = Says bytes
Nth (Says ∷ rest) (suc j) bytes = Nth rest j bytes

-- lines of which each has its own words
abbrev pub in_order : List (List ℕ → Type 0) → Section
in_order ls = record { number = length ls; Says = Nth ls }

-- a line for each edge, 1 to m
abbrev pub for_each : ℕ → (ℕ → List ℕ → Type 0) → Section
for_each m Says = record { number = m; Says = λ i bytes. Says (suc i) bytes }

-- ---- one behind the other

-- how many lines the sections have together
unfoldable pub lines_in : List Section → ℕ
lines_in [] = 0
lines_in (s ∷ rest) = s.number + lines_in rest

-- line i is a line of the first section, or of those behind it
unfoldable pub LineIn : List Section → ℕ → List ℕ → Type 0
LineIn [] i bytes = ⊥
LineIn (s ∷ rest) i bytes = ((i < s.number) × s.Says i bytes) ⊎ ((s.number ≤ i) × LineIn rest (i - s.number) bytes)
