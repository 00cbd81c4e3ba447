-- What the steps of the blend give: the weights of an axis, numbers blended by them, and a cell with one axis fewer.
use Rattle.std.specs.Prelude.{◌≡◌, ◌≢◌, List, [], ◌∷◌, ℕ, ◌+◌, ◌*◌, ◌%◌, ◌<◌, ◌≤◌, length, set, Float}
use Rattle.rules.specs.Numbers.{◌⊕◌, ◌⊗◌, at}
use Rattle.rules.specs.Query.{hermite}
use Rattle.query_blend.specs.declared.Weights.{Weights}

-- the last line of `evaluate_hermite_1d`
abbrev pub weighted : Weights → Float → Float → Float → Float → Float
weighted w p0 m0 p1 m1 = w.h00 ⊗ p0 ⊕ w.h10 ⊗ m0 ⊕ w.h01 ⊗ p1 ⊕ w.h11 ⊗ m1

-- the same of numbers that stand in pairs, a value and its slope
abbrev pub weighted_at : Weights → (ℕ → Float) → ℕ → ℕ → Float
weighted_at w x lower upper = weighted w (x lower) (x (lower + 1)) (x upper) (x (upper + 1))

-- of four neighbouring pairs
abbrev pub four_weighted : Weights → (ℕ → Float) → ℕ → ℕ → List Float
four_weighted w x lower upper =
    weighted_at w x lower upper
    ∷ weighted_at w x (lower + 2) (upper + 2)
    ∷ weighted_at w x (lower + 4) (upper + 4)
    ∷ weighted_at w x (lower + 6) (upper + 6)
    ∷ []

-- a list with four numbers in their places, from e on
abbrev pub with_four : List Float → ℕ → List Float → List Float
with_four s e four = set (set (set (set s e (at four 0)) (e + 1) (at four 1)) (e + 2) (at four 2)) (e + 3) (at four 3)

-- the weights of a width and a fraction, whatever they are put to
pub record WeightsOf (width t : Float) (w : Weights) : Type 0 where
  pub blended : (p0 m0 p1 m1 : Float) → weighted w p0 m0 p1 m1 ≡ hermite p0 m0 p1 m1 width t

-- the weights of axis a, where those of the axes stand one after the other, four to an axis
abbrev pub weights_in : List Float → ℕ → Weights
weights_in weights a =
    record { h00 = at weights (4 * a); h10 = at weights (4 * a + 1); h01 = at weights (4 * a + 2); h11 = at weights (4 * a + 3) }

-- so many axes have the weights of their widths and fractions, where the first of them is axis `lowest`
abbrev pub WeightsOn : ℕ → ℕ → (ℕ → Float) → (ℕ → Float) → List Float → Type 0
WeightsOn axes lowest widths ts weights = (a : ℕ) → a < axes → WeightsOf (widths (lowest + a)) (ts (lowest + a)) (weights_in weights a)

-- pairs for a run of so many blends, which come in fours
pub record RunGiven (count : ℕ) (numbers : List Float) (lower upper : ℕ) : Type 0 where
  pub fours : count % 4 ≡ 0
  pub lower_there : lower + 2 * count ≤ length numbers
  pub upper_there : upper + 2 * count ≤ length numbers
  pub few : length numbers ≤ 4096

-- the run of them
pub record RunBlended (count : ℕ) (numbers : List Float) (lower upper : ℕ) (w : Weights) (run : List Float) : Type 0 where
  pub same_length : length run ≡ count
  pub number : (k : ℕ) → k < count → at run k ≡ weighted_at w (at numbers) (lower + 2 * k) (upper + 2 * k)

-- so many numbers are one, or come in fours
abbrev pub ByFours : ℕ → Type 0
ByFours size = size ≢ 1 → size % 4 ≡ 0

-- the first numbers of a list are those of a cell without its lowest axis, which is removed by these weights
abbrev pub Smaller : Weights → ℕ → (ℕ → Float) → List Float → Type 0
Smaller w size cell later = (e : ℕ) → e < size → at later e ≡ weighted_at w cell (2 * e) (2 * size + 2 * e)

-- one axis removed in place
pub record Blended (cell later : List Float) (size : ℕ) (w : Weights) : Type 0 where
  pub same_length : length later ≡ length cell
  pub smaller : Smaller w size (at cell) later
