-- What `Labels` rest on: what the set joins, and one row of each table. So labels are carried along where both stay, as those of the
-- other forests are when `unite` has changed one.
-- Assumes nothing.
use mathlib.Core.Path.{◌≡◌, refl, sym, ap, ap₂, ◌∙◌, subst}
use mathlib.Core.Logic.{◌≢◌}
use mathlib.Core.List.{List}
use Prim.Native.Nat.{ℕ, ◌+◌, ◌-◌, ◌<◌}
use native.Mathlib.Omega.{arith}
use lib.ListN.{get_or}
use Rattle.rule.specs.Sets.{◌=?◌, Set, In}
use Rattle.rule.specs.Legal.{Design}
use Rattle.theory.specs.Joined.{joined}
use Rattle.words.specs.Bits.{bit}
use Rattle.tables.specs.Tables.{start, label, crowd, Labels}
use Rattle.labels.specs.Rows.{Outside}
use Rattle.labels.specs.Labels.{United}

-- the row of forest g is as it was
abbrev pub SameRow : ℕ → (before after : List ℕ) → Type 0
SameRow g before after = (t : ℕ) → t < 64 → get_or after (start g + t) 0 ≡ get_or before (start g + t) 0

pub row_kept : (g : ℕ) (list : List ℕ) → SameRow g list list
row_kept g list t l = refl

-- the row of another forest
pub other_row : (f g : ℕ) → In 6 f → In 6 g → g ≢ f → (t : ℕ) → t < 64 → Outside (start f) (start g + t)
other_row f g hf hg ne t l r k q = omega arith

pub row_else : (f g : ℕ) → In 6 f → In 6 g → g ≢ f → (before after : List ℕ) → ((i : ℕ) → Outside (start f) i → get_or after i 0 ≡ get_or before i 0)
    → SameRow g before after
row_else f g hf hg ne before after else t l = else (start g + t) (other_row f g hf hg ne t l)

module _ (d : Design) (s t : Set) (same : (x y : ℕ) → joined d s x y ≡ joined d t x y) (g : ℕ) where
  pub labels_carried : (root who root' who' : List ℕ) → SameRow g root root' → SameRow g who who' → Labels d s g root who
      → Labels d t g root' who'
  labels_carried root who root' who' roots whos l =
      let name : (x : ℕ) → In 64 x → label root' g x ≡ label root g x = λ x h. roots (x - 1) (omega arith) in
      record {
        small = λ x h. subst (λ (z : ℕ). z < 64) (sym (name x h)) (l.small x h);
        same = λ x y hx hy. ap₂ ◌=?◌ (name x hx) (name y hy) ∙ l.same x y hx hy ∙ same x y;
        bodies =
            λ x y hx hy.
            ap (λ (z : ℕ). bit (crowd who' g z) (y - 1)) (name x hx)
            ∙ ap (λ (z : ℕ). bit z (y - 1)) (whos (label root g x) (l.small x hx))
            ∙ l.bodies x y hx hy
            ∙ same x y;
      }

  pub united_else : (f u v word : ℕ) (root who root' who' : List ℕ) → In 6 f → In 6 g → g ≢ f → United f u v root who root' who' word
      → Labels d s g root who → Labels d t g root' who'
  united_else f u v word root who root' who' hf hg ne un =
      labels_carried root who root' who' (row_else f g hf hg ne root root' un.root_else) (row_else f g hf hg ne who who' un.who_else)
