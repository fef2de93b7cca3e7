-- Which bodies a set of edges joins, as a test that can be computed: edge by edge, in number order.
use Rattle.std.specs.Prelude.{ℕ, zero, suc, Bool}
use Rattle.rule.specs.Sets.{◌and◌, ◌or◌, isnt, ◌=?◌, Set, ◌without◌}
use Rattle.rule.specs.Legal.{Design}

-- x and y, where u and v are linked and `near` tells which bodies were joined before
unfoldable pub linked : (ℕ → ℕ → Bool) → ℕ → ℕ → ℕ → ℕ → Bool
linked near u v x y = (near x u and near v y) or (near x v and near u y)

-- joined by those of the edges 1 to j that are in s
unfoldable pub joined_up_to : Design → Set → ℕ → ℕ → ℕ → Bool
joined_up_to d s zero x y = x =? y
joined_up_to d s (suc j) x y = joined_up_to d s j x y or (s (suc j) and linked (joined_up_to d s j) (d.one (suc j)) (d.other (suc j)) x y)

-- joined by edges of s
unfoldable pub joined : Design → Set → ℕ → ℕ → Bool
joined d s x y = joined_up_to d s d.m x y

-- the ends of edge e are joined by edges of s
unfoldable pub spans : Design → Set → ℕ → Bool
spans d s e = joined d s (d.one e) (d.other e)

-- y is on the path of s between the ends of e: they are joined by s, and not without y
unfoldable pub on_path : Design → Set → ℕ → ℕ → Bool
on_path d s e y = s y and (spans d s e and isnt (spans d (s without y) e))
