-- What each sweep leaves behind, said of every lane l below four. Only one step is said, a row by its neighbour: proofs/ goes from there to
-- the rules.
use Rattle.std.specs.Prelude.{◌≡◌, ◌≢◌, cond, List, ℕ, ◌+◌, ◌-◌, ◌*◌, ◌<◌, ◌≤◌, ltb, length, Float}
use Rattle.rules.specs.Numbers.{at, ◌⊕◌, ◌⊖◌, ◌⊗◌, ◌⊘◌, two, six}
use Rattle.grid_scratch.specs.Layout.{divisors_row, helpers_row, four_slopes, four_moments, four_blocks, tensor_begin, row, Outside}
use Rattle.tensor_fours.specs.Fours.{Four, in_row, place}
use Rattle.tensor_plan.specs.PlanOfEnds.{Room}

-- lane l's numbers at knots 0 to n stand in the working tensor, `step` apart, the first o behind the lane's place
pub record Lanes (w : List Float) (n : ℕ) (p : List ℕ) (o step : ℕ) : Type 0 where
  pub rows : Room w n
  pub behind : Four (λ l. tensor_begin ≤ place p l)
  pub within : Four (λ l. (k : ℕ) → k ≤ n → place p l + (o + k * step) < length w)

-- the slope of lane l's numbers over the step from knot k, as the steps in front give it
abbrev pub step_slope : List Float → List ℕ → ℕ → ℕ → ℕ → Float
step_slope w p step k l = (at w (place p l + (k + 1) * step) ⊖ at w (place p l + k * step)) ⊘ at w k

-- j is no place of the slopes from knot `from` to knot stop - 1
abbrev pub OffSlopes : ℕ → ℕ → ℕ → Type 0
OffSlopes from stop j = (k i : ℕ) → from ≤ k → k < stop → i < 4 → j ≢ four_slopes + 4 * k + i

-- after `slopes`
pub record Sloped (w w' : List Float) (from stop : ℕ) (p : List ℕ) (step : ℕ) : Type 0 where
  pub same_length : length w' ≡ length w
  pub slopes : (l : ℕ) → l < 4 → (k : ℕ) → k < stop → from ≤ k → in_row w' four_slopes k l ≡ step_slope w p step k l
  pub kept : (j : ℕ) → OffSlopes from stop j → at w' j ≡ at w j

-- after `forward`
pub record Forward (w w' : List Float) (first stop : ℕ) (p : List ℕ) (step : ℕ) : Type 0 where
  pub same_length : length w' ≡ length w
  pub first_is : (l : ℕ) → l < 4 → in_row w' four_moments first l ≡ in_row w four_moments first l
  pub slopes : (l : ℕ) → l < 4 → (k : ℕ) → k < stop → first < k → in_row w' four_slopes k l ≡ step_slope w p step k l
  pub next : (l : ℕ) → l < 4 → (k : ℕ) → k + 1 < stop → first ≤ k
      → in_row w' four_moments (k + 1) l
      ≡ (six ⊗ (in_row w' four_slopes (k + 1) l ⊖ in_row w' four_slopes k l) ⊖ at w k ⊗ in_row w' four_moments k l) ⊘ row w divisors_row
      (k + 1)
  pub kept : (j : ℕ) → Outside four_moments (four_blocks 1) j → OffSlopes (first + 1) stop j → at w' j ≡ at w j

-- after `back`
pub record Back (w w' : List Float) (low from : ℕ) : Type 0 where
  pub same_length : length w' ≡ length w
  pub top : (l : ℕ) → l < 4 → in_row w' four_moments from l ≡ in_row w four_moments from l
  pub next : (l : ℕ) → l < 4 → (k : ℕ) → low ≤ k → k < from
      → in_row w' four_moments k l ≡ in_row w four_moments k l ⊖ row w helpers_row k ⊗ in_row w' four_moments (k + 1) l
  pub below : (l : ℕ) → l < 4 → (k : ℕ) → k < low → in_row w' four_moments k l ≡ in_row w four_moments k l
  pub kept : (j : ℕ) → Outside four_moments (four_blocks 1) j → at w' j ≡ at w j

-- lane l's knot slope at knot k, where n is the last, from slopes and moments in their blocks
abbrev pub inner_slope : List Float → ℕ → ℕ → Float
inner_slope w k l = in_row w four_slopes k l ⊖ at w k ⊗ (two ⊗ in_row w four_moments k l ⊕ in_row w four_moments (k + 1) l) ⊘ six

abbrev pub last_slope : List Float → ℕ → ℕ → Float
last_slope w n l = in_row w four_slopes (n - 1) l ⊕ at w (n - 1) ⊗ (in_row w four_moments (n - 1) l ⊕ two ⊗ in_row w four_moments n l) ⊘ six

abbrev pub slope_at : List Float → ℕ → ℕ → ℕ → Float
slope_at w n k l = cond (ltb k n) (inner_slope w k l) (last_slope w n l)

-- n numbers of each lane stored, number k of lane l o + k * step behind its place. Lanes may be one and the same, so it is said by a G,
-- what belongs at each place, as in tensor_fours' Stored; the plan and all else in the working tensor is kept
pub record Laid (w w' : List Float) (p : List ℕ) (o step n : ℕ) (numbers : ℕ → ℕ → Float) : Type 0 where
  pub same_length : length w' ≡ length w
  pub there : (G : ℕ → Float)
      → ((l : ℕ) → l < 4 → (k : ℕ) → k < n → numbers k l ≡ G (place p l + (o + k * step)))
      → (l : ℕ) → l < 4 → (k : ℕ) → k < n → at w' (place p l + (o + k * step)) ≡ G (place p l + (o + k * step))
  pub still : (G : ℕ → Float)
      → ((l : ℕ) → l < 4 → (k : ℕ) → k < n → numbers k l ≡ G (place p l + (o + k * step)))
      → (j : ℕ) → tensor_begin ≤ j → at w j ≡ G j → at w' j ≡ G j
  pub rows : (j : ℕ) → j < four_slopes → at w' j ≡ at w j
  pub kept : (j : ℕ) → tensor_begin ≤ j → ((l : ℕ) → l < 4 → (k : ℕ) → k < n → j ≢ place p l + (o + k * step)) → at w' j ≡ at w j
