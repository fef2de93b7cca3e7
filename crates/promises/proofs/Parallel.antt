-- Two different edges of one forest between the same bodies, either way round, are a closed loop: the one is a chain between the ends of
-- the other.
-- Assumes nothing.
use mathlib.Core.Path.{◌≡◌, refl, sym, subst₂}
use mathlib.Core.Logic.{◌⊎◌, ⊎_elim, ◌≢◌}
use Prim.Native.Nat.{ℕ, ◌+◌, ◌≤◌}
use native.Mathlib.Omega.{arith}
use Rattle.rule.specs.declared.Book.{Book}
use Rattle.rule.specs.Sets.{Is, Set, In, ◌without◌}
use Rattle.rule.specs.Legal.{Design}
use Rattle.rule.specs.Forests.{Chain, Loopless, in_forest, Permitted}
use Rattle.rule.specs.Books.{design_of, forest_of, Sound}
use Rattle.rule.proofs.Tests.{without_make}
use Rattle.rule.proofs.Loops.{chain_edge, chain_sym}
use Rattle.theory.proofs.Legal.Kept.{forest_make, limit_most}
use Rattle.theory.proofs.Legal.Sound.{sound_arranged}

-- edges e and f have the same two bodies
abbrev pub SameBodies : Design → ℕ → ℕ → Type 0
SameBodies d e f = ((d.one f ≡ d.one e) × (d.other f ≡ d.other e)) ⊎ ((d.one f ≡ d.other e) × (d.other f ≡ d.one e))

pub parallel_edges_loop : (d : Design) (s : Set) (e f : ℕ) → In d.m e → In d.m f → e ≢ f → Is (s e) → Is (s f) → SameBodies d e f
    → ¬ Loopless d s
unfolding Loopless
parallel_edges_loop d s e f he hf ne ie if same loopless =
    let edge : Chain d (s without e) (d.one f) (d.other f) = chain_edge d f hf (without_make s e f if (λ q. ne (sym q))) in
    loopless e he ie
    (⊎_elim (λ p. subst₂ (Chain d (s without e)) p.0 p.1 edge)
    (λ p. chain_sym d (subst₂ (Chain d (s without e)) p.0 p.1 edge)) same)

-- so a book with two such kept edges in one forest is not sound
pub parallel_edges_unsound : (B : Book) (e f : ℕ) → In B.count e → In B.count f → e ≢ f → 1 ≤ forest_of B e → forest_of B f ≡ forest_of B e
    → SameBodies (design_of B) e f → ¬ Sound B
unfolding design_of Permitted
parallel_edges_unsound B e f he hf ne low same bodies sound =
    let arranged = sound_arranged B sound in
    let range : In (B.a + B.b) (forest_of B e) = omega (arith, arranged.permitted e he, limit_most (design_of B) e) in
    parallel_edges_loop (design_of B) (in_forest (forest_of B) (forest_of B e)) e f he hf ne (forest_make (forest_of B) (forest_of B e) e refl)
    (forest_make (forest_of B) (forest_of B e) f same) bodies (arranged.loopless (forest_of B e) range)
