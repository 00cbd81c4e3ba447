-- The chapter Steps of docs/RULES.md: what lies between neighbouring knots x, with samples y at them.
use Rattle.std.specs.Prelude.{List, ℕ, ◌+◌, Float}
use Rattle.rules.specs.Numbers.{◌⊖◌, ◌⊗◌, ◌⊘◌, six, at}

-- the step from knot i to the next
unfoldable pub h : List Float → ℕ → Float
h x i = at x (i + 1) ⊖ at x i

-- the slope of the straight line from sample i to the next
unfoldable pub s : List Float → List Float → ℕ → Float
unfolding h
s x y i = (at y (i + 1) ⊖ at y i) ⊘ h x i

-- six times the difference of two neighbouring slopes
unfoldable pub u : List Float → List Float → ℕ → Float
unfolding s
u x y k = six ⊗ (s x y (k + 1) ⊖ s x y k)
