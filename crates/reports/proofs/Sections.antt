-- Laws of lines in sections, each said once for every report: a line stands in its section, or behind it; past the last there is none; where each
-- section's lines are determined the lines are; what is true of each section's lines is true of the lines; and what every section's lines are turned
-- into, the lines are.
--
-- Each is an induction on the sections: line i is of the first, or line i less the first's number is of those behind.
-- Not here: which sections a report and a certificate have (specs/Reports.antt), and that the lines of these are determined (crate readings).
-- Assumes nothing.
use mathlib.Core.Path.{◌≡◌, refl, sym, ◌∙◌, subst}
use mathlib.Core.Logic.{inl, inr}
use mathlib.Core.List.{List, [], ◌∷◌, ◌++◌}
use Prim.Native.Nat.{ℕ, zero, suc, ◌+◌, ◌-◌, ◌≤◌, ◌<◌}
use native.Mathlib.Omega.{arith}
use Rattle.reports.specs.Sections.{Section, Exactly, Nth, lines_in, LineIn}

-- ---- where a line stands

pub line_first : (s : Section) (rest : List Section) (i : ℕ) (bytes : List ℕ) → i < s.number → s.Says i bytes → LineIn (s ∷ rest) i bytes
unfolding LineIn
line_first s rest i bytes h l = inl (h, l)

pub line_behind : (s : Section) (rest : List Section) (i : ℕ) (bytes : List ℕ) → s.number ≤ i → LineIn rest (i - s.number) bytes
    → LineIn (s ∷ rest) i bytes
unfolding LineIn
line_behind s rest i bytes h l = inr (h, l)

-- so far behind the sections before it, the line is its section's line i
pub line_is : (before : List Section) (s : Section) (rest : List Section) (i j : ℕ) (bytes : List ℕ) → i < s.number → j ≡ lines_in before + i
    → LineIn (before ++ s ∷ rest) j bytes → s.Says i bytes
unfolding LineIn lines_in
line_is [] s rest i j bytes h q (inl l) = let same : j ≡ i = omega (arith, q) in subst (λ (k : ℕ). s.Says k bytes) same l.1
line_is [] s rest i j bytes h q (inr l) = absurd (omega (arith, l.0))
line_is (t ∷ before) s rest i j bytes h q (inl l) = absurd (omega (arith, l.0))
line_is (t ∷ before) s rest i j bytes h q (inr l) = line_is before s rest i (j - t.number) bytes h (omega (arith, l.0)) l.1

pub line_within : (ss : List Section) (i : ℕ) (bytes : List ℕ) → LineIn ss i bytes → i < lines_in ss
unfolding LineIn lines_in
line_within [] i bytes p = absurd p
line_within (s ∷ rest) i bytes (inl p) = omega (arith, p.0)
line_within (s ∷ rest) i bytes (inr p) = omega (arith, p.0, line_within rest (i - s.number) bytes p.1)

-- the number of a line, said otherwise
pub nth_as : (ls : List (List ℕ → Type 0)) (i j : ℕ) (bytes : List ℕ) → i ≡ j → Nth ls j bytes → Nth ls i bytes
nth_as ls i j bytes q l = subst (λ (k : ℕ). Nth ls k bytes) (sym q) l

-- ---- of all lines, of all sections

abbrev pub Every : ((List ℕ → Type 0) → Type 0) → List (List ℕ → Type 0) → Type 0
Every P [] = Unit
Every P (Says ∷ rest) = P Says × Every P rest

abbrev pub Each : (Section → Type 0) → List Section → Type 0
Each P [] = Unit
Each P (s ∷ rest) = P s × Each P rest

-- ---- determined

-- no two lists of bytes have it
abbrev pub Determined : (List ℕ → Type 0) → Type 0
Determined Says = (x y : List ℕ) → Says x → Says y → x ≡ y

pub exactly_determined : (bytes : List ℕ) → Determined (Exactly bytes)
exactly_determined bytes x y p q = p ∙ sym q

pub nth_determined : (ls : List (List ℕ → Type 0)) → Every Determined ls → (j : ℕ) → Determined (Nth ls j)
nth_determined [] d j x y p q = absurd p
nth_determined (Says ∷ rest) d zero x y p q = d.0 x y p q
nth_determined (Says ∷ rest) d (suc j) x y p q = nth_determined rest d.1 j x y p q

pub line_determined : (ss : List Section) → Each (λ s. (i : ℕ) → Determined (s.Says i)) ss → (i : ℕ) → Determined (LineIn ss i)
unfolding LineIn
line_determined [] d i x y p q = absurd p
line_determined (s ∷ rest) d i x y (inl p) (inl q) = d.0 i x y p.1 q.1
line_determined (s ∷ rest) d i x y (inl p) (inr q) = absurd (omega (arith, p.0, q.0))
line_determined (s ∷ rest) d i x y (inr p) (inl q) = absurd (omega (arith, p.0, q.0))
line_determined (s ∷ rest) d i x y (inr p) (inr q) = line_determined rest d.1 (i - s.number) x y p.1 q.1

-- ---- what every line has

-- whatever bytes it says have this
abbrev pub Has : (List ℕ → Type 0) → (List ℕ → Type 0) → Type 0
Has P Says = (bytes : List ℕ) → Says bytes → P bytes

pub nth_has : (P : List ℕ → Type 0) (ls : List (List ℕ → Type 0)) → Every (Has P) ls → (j : ℕ) → Has P (Nth ls j)
nth_has P [] h j bytes l = absurd l
nth_has P (Says ∷ rest) h zero bytes l = h.0 bytes l
nth_has P (Says ∷ rest) h (suc j) bytes l = nth_has P rest h.1 j bytes l

pub line_has : (P : List ℕ → Type 0) (ss : List Section) → Each (λ s. (i : ℕ) → Has P (s.Says i)) ss → (i : ℕ) → Has P (LineIn ss i)
unfolding LineIn
line_has P [] h i bytes l = absurd l
line_has P (s ∷ rest) h i bytes (inl l) = h.0 i bytes l.1
line_has P (s ∷ rest) h i bytes (inr l) = line_has P rest h.1 (i - s.number) bytes l.1

-- ---- turned into others

-- the one's lines are the other's, as many
pub record Turns (s t : Section) : Type 0 where
  pub as_many : s.number ≡ t.number
  pub turn : (i : ℕ) (bytes : List ℕ) → i < s.number → s.Says i bytes → t.Says i bytes

pub turns_same : (s : Section) → Turns s s
turns_same s = record { as_many = refl; turn = λ i bytes h l. l }

abbrev pub AllTurn : List Section → List Section → Type 0
AllTurn [] ts = Unit
AllTurn (s ∷ ss) [] = ⊥
AllTurn (s ∷ ss) (t ∷ ts) = Turns s t × AllTurn ss ts

pub line_turned : (ss ts : List Section) → AllTurn ss ts → (i : ℕ) (bytes : List ℕ) → LineIn ss i bytes → LineIn ts i bytes
unfolding LineIn
line_turned [] ts f i bytes l = absurd l
line_turned (s ∷ ss) [] f i bytes l = absurd f
line_turned (s ∷ ss) (t ∷ ts) f i bytes (inl l) = inl (omega (arith, l.0, f.0.as_many), f.0.turn i bytes l.0 l.1)
line_turned (s ∷ ss) (t ∷ ts) f i bytes (inr l) =
    let same : i - s.number ≡ i - t.number = omega (arith, f.0.as_many) in
    inr (
      omega (arith, l.0, f.0.as_many),
      subst (λ (k : ℕ). LineIn ts k bytes) same (line_turned ss ts f.1 (i - s.number) bytes l.1),
    )
