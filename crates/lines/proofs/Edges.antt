-- The line of an edge by its colour.
-- Assumes nothing.
use mathlib.Core.Path.{◌≡◌, ap}
use mathlib.Core.Logic.{◌≢◌}
use mathlib.Core.List.{List, [], ◌∷◌}
use Prim.Native.Nat.{ℕ}
use Rattle.text.specs.Lines.{line, key_red, key_black}
use Rattle.text.specs.Sheets.{edge_text}
use Rattle.text.proofs.Picks.{pick_eq, pick_ne}

module _ (one other colour : ℕ) where
  pub edge_red : colour ≡ 1 → edge_text (record { one = one; other = other; colour = colour }) ≡ line key_red (one ∷ other ∷ [])
  unfolding edge_text
  edge_red h = ap (λ (key : List ℕ). line key (one ∷ other ∷ [])) (pick_eq colour 1 key_red key_black h)

  pub edge_black : colour ≢ 1 → edge_text (record { one = one; other = other; colour = colour }) ≡ line key_black (one ∷ other ∷ [])
  unfolding edge_text
  edge_black h = ap (λ (key : List ℕ). line key (one ∷ other ∷ [])) (pick_ne colour 1 key_red key_black h)
