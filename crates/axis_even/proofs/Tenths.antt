-- What the theorem asks of an axis can be met, and both cells come out: on the knots 0.1 0.2 0.3 0.4 both inner knots lie in direct cell 1.
use Rattle.std.proofs.Common.{◌≡◌, ℕ, zero, suc, ◌+◌, ◌<◌, true, List, [], ◌∷◌, refl, arith}
use lib.Ieee as Ieee
use lib.Ieee.{Float, binary64, lt, fits}
use lib.Ieee.Scale.{finite}
use Rattle.base_floats.specs.Place.{Real}
use Rattle.rules.specs.Numbers.{at}
use Rattle.rules.specs.Steps.{h}
use Rattle.rules.specs.Even.{absolute, doubled, tolerance, first_that, first_failing, direct_cell}
use Rattle.axis_even.proofs.DirectCells.{EvenAxis}

abbrev tenths : List Float
tenths =
    Ieee.of_bits binary64 0x3FB9_9999_9999_999A
    ∷ Ieee.of_bits binary64 0x3FC9_9999_9999_999A
    ∷ Ieee.of_bits binary64 0x3FD3_3333_3333_3333
    ∷ Ieee.of_bits binary64 0x3FD9_9999_9999_999A
    ∷ []

abbrev cell_of_knot : ℕ → ℕ
cell_of_knot k = direct_cell (at tenths 0) (h tenths 0) 4 (at tenths k)

real : (k : ℕ) → k < 4 → Real (at tenths k)
unfolding Ieee.of_bits fits
real zero l = record { fits = tt; finite = refl }
real (suc zero) l = record { fits = tt; finite = refl }
real (suc (suc zero)) l = record { fits = tt; finite = refl }
real (suc (suc (suc zero))) l = record { fits = tt; finite = refl }
real (suc (suc (suc (suc k)))) l = absurd (let z : ⊥ = omega arith in z)

rise : (k : ℕ) → k + 1 < 4 → lt (at tenths k) (at tenths (k + 1)) ≡ true
unfolding Ieee.of_bits lt
rise zero l = refl
rise (suc zero) l = refl
rise (suc (suc zero)) l = refl
rise (suc (suc (suc k))) l = absurd (let z : ⊥ = omega arith in z)

steps : (k : ℕ) → k + 1 < 4 → finite (h tenths k) ≡ true
unfolding h Ieee.of_bits Ieee.sub Ieee.add Ieee.neg
steps zero l = refl
steps (suc zero) l = refl
steps (suc (suc zero)) l = refl
steps (suc (suc (suc k))) l = absurd (let z : ⊥ = omega arith in z)

pub tenths_even : EvenAxis tenths 4
unfolding h absolute doubled tolerance first_failing first_that Ieee.add Ieee.sub Ieee.mul Ieee.neg Ieee.lt Ieee.of_bits
tenths_even = record {
  some = omega arith;
  few = omega arith;
  real = real;
  rise = rise;
  steps = steps;
  even = refl;
  wide = refl;
}

pub both_cells : (cell_of_knot 1 ≡ 1) × (cell_of_knot 2 ≡ 1)
unfolding h direct_cell Ieee.add Ieee.sub Ieee.div Ieee.neg Ieee.lt Ieee.of_bits
both_cells = (refl, refl)
