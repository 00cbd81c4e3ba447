-- The chapter Qualities of docs/RULES.md: what the knots of an axis must be for a query of even axes, and where they first are not.
use Rattle.std.specs.Prelude.{Bool, List, ℕ, ◌-◌, Float}
use Rattle.rules.specs.Numbers.{at, any}
use Rattle.rules.specs.Sizes.{Grid, points, knots}
use Rattle.rules.specs.Refusals.{number_refused, step_refused, knots_refused}
use Rattle.rules.specs.Even.{first_that, first_failing, uneven_refused}
use Rattle.query_even.specs.declared.qualities.Quality.{Quality}
use Rattle.query_even.specs.declared.qualities.Quality.TheVariants.{Finite, Rising, Even}

-- n knots lack it: one is infinite or NaN; 8 refuses them; 21 does
abbrev pub lacks : Quality → List Float → ℕ → Bool
lacks Finite x n = any (λ k. number_refused (at x k)) n
lacks Rising x n = knots_refused x n
lacks Even x n = uneven_refused x n

-- by what they do first: that knot; the lower knot of a step that 8 refuses; the interval that is too far from interval 0. It is 0 where
-- they do not
abbrev pub first_lack : Quality → List Float → ℕ → ℕ
first_lack Finite x n = first_that (λ k. number_refused (at x k)) n 0
first_lack Rising x n = first_that (step_refused x) (n - 1) 0
first_lack Even x n = first_failing x n

-- the lowest axis in use whose knots lack it, and 0 where none does
unfoldable pub lacking_axis : Quality → Grid → ℕ
unfolding first_that
lacking_axis quality g = first_that (λ i. lacks quality (knots g i) (points g i)) g.axes 0

-- by what it does first, and 0 where no axis does
unfoldable pub lacking_place : Quality → Grid → ℕ
unfolding first_that first_failing step_refused lacking_axis
lacking_place quality g = first_lack quality (knots g (lacking_axis quality g)) (points g (lacking_axis quality g))
