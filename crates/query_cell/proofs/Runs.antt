-- The runs of a cell without its first axis, of two axes or more: where the corners of a run stand, and those above them on the first axis.
use native.Mathlib.Omega.{arith}
use mathlib.Core.Path.{◌≡◌, refl, ap, ◌∙◌}
use Prim.Native.Nat.{ℕ, zero, suc, ◌+◌, ◌-◌, ◌*◌, ◌/◌, ◌%◌, ◌^◌, ◌<◌, ◌≤◌}
use native.Mathlib.Nat.{one-mul}
use Rattle.rules.specs.Sizes.{Place, moved, flat}
use Rattle.rules.specs.Query.{corner}
use Rattle.rules.proofs.Places.{One, flat_ext}
use Rattle.grid.specs.Strides.{stride}
use Rattle.query_cell.proofs.Apart.{raised}

module _ (n : ℕ → ℕ) (lower : Place) (run : ℕ) where
  -- ---- where the first of a run's two corners stands

  two_axes : run < 1 → One 2 (corner 2 lower (2 * run)) lower
  unfolding corner
  two_axes h zero l = omega arith
  two_axes h (suc zero) l = omega arith
  two_axes h (suc (suc j)) l = absurd (omega arith)

  three_axes : run < 2 → One 3 (corner 3 lower (2 * run)) (moved lower 1 (lower 1 + run))
  unfolding corner
  three_axes h zero l = omega arith
  three_axes h (suc zero) l = omega arith
  three_axes h (suc (suc zero)) l = omega arith
  three_axes h (suc (suc (suc j))) l = absurd (omega arith)

  abbrev half_raised : Place
  half_raised = moved lower 1 (lower 1 + run / 2)

  four_axes : run < 4 → One 4 (corner 4 lower (2 * run)) (moved half_raised 2 (half_raised 2 + run % 2))
  unfolding corner
  four_axes h zero l = omega arith
  four_axes h (suc zero) l = omega arith
  four_axes h (suc (suc zero)) l = omega arith
  four_axes h (suc (suc (suc zero))) l = omega arith
  four_axes h (suc (suc (suc (suc j)))) l = absurd (omega arith)

  -- ---- where the corner above it on the first axis stands

  two_above : run < 1 → One 2 (corner 2 lower (2 * run + 2)) (moved (corner 2 lower (2 * run)) 0 (corner 2 lower (2 * run) 0 + 1))
  unfolding corner
  two_above h zero l = omega arith
  two_above h (suc zero) l = omega arith
  two_above h (suc (suc j)) l = absurd (omega arith)

  three_above : run < 2 → One 3 (corner 3 lower (2 * run + 4)) (moved (corner 3 lower (2 * run)) 0 (corner 3 lower (2 * run) 0 + 1))
  unfolding corner
  three_above h zero l = omega arith
  three_above h (suc zero) l = omega arith
  three_above h (suc (suc zero)) l = omega arith
  three_above h (suc (suc (suc j))) l = absurd (omega arith)

  four_above : run < 4 → One 4 (corner 4 lower (2 * run + 8)) (moved (corner 4 lower (2 * run)) 0 (corner 4 lower (2 * run) 0 + 1))
  unfolding corner
  four_above h zero l = omega arith
  four_above h (suc zero) l = omega arith
  four_above h (suc (suc zero)) l = omega arith
  four_above h (suc (suc (suc zero))) l = omega arith
  four_above h (suc (suc (suc (suc j)))) l = absurd (omega arith)

  -- ---- on two to four axes

  pub run_at : (axes : ℕ) → 2 ≤ axes → axes ≤ 4 → run < 2 ^ axes / 4
      → flat n axes (corner axes lower (2 * run)) ≡ flat n axes lower + run / 2 * stride n axes 1 + run % 2 * stride n axes (axes - 2)
  run_at zero some few h = absurd (omega arith)
  run_at (suc zero) some few h = absurd (omega arith)
  run_at (suc (suc zero)) some few h =
      let none : run ≡ 0 = omega arith in
      flat_ext n 2 (corner 2 lower (2 * run)) lower (two_axes (omega arith)) ∙ rw none (omega arith)
  run_at (suc (suc (suc zero))) some few h =
      let less : run < 2 = omega arith in
      let half : run / 2 ≡ 0 = omega arith in
      let rest : run % 2 ≡ run = omega arith in
      flat_ext n 3 (corner 3 lower (2 * run)) (moved lower 1 (lower 1 + run)) (three_axes less)
      ∙ raised n 3 1 run lower (omega arith)
      ∙ rw (half, rest) (omega arith)
  run_at (suc (suc (suc (suc zero)))) some few h =
      flat_ext n 4 (corner 4 lower (2 * run)) (moved half_raised 2 (half_raised 2 + run % 2)) (four_axes h)
      ∙ raised n 4 2 (run % 2) half_raised (omega arith)
      ∙ ap (λ (x : ℕ). x + run % 2 * stride n 4 2) (raised n 4 1 (run / 2) lower (omega arith))
  run_at (suc (suc (suc (suc (suc axes))))) some few h = absurd (omega arith)

  pub corner_above : (axes : ℕ) → 2 ≤ axes → axes ≤ 4 → run < 2 ^ axes / 4
      → flat n axes (corner axes lower (2 * run + 2 ^ axes / 2)) ≡ flat n axes (corner axes lower (2 * run)) + stride n axes 0
  corner_above zero some few h = absurd (omega arith)
  corner_above (suc zero) some few h = absurd (omega arith)
  corner_above (suc (suc zero)) some few h =
      flat_ext n 2 (corner 2 lower (2 * run + 2)) (moved (corner 2 lower (2 * run)) 0 (corner 2 lower (2 * run) 0 + 1)) (two_above h)
      ∙ raised n 2 0 1 (corner 2 lower (2 * run)) (omega arith)
      ∙ rw one-mul refl
  corner_above (suc (suc (suc zero))) some few h =
      flat_ext n 3 (corner 3 lower (2 * run + 4)) (moved (corner 3 lower (2 * run)) 0 (corner 3 lower (2 * run) 0 + 1)) (three_above h)
      ∙ raised n 3 0 1 (corner 3 lower (2 * run)) (omega arith)
      ∙ rw one-mul refl
  corner_above (suc (suc (suc (suc zero)))) some few h =
      flat_ext n 4 (corner 4 lower (2 * run + 8)) (moved (corner 4 lower (2 * run)) 0 (corner 4 lower (2 * run) 0 + 1)) (four_above h)
      ∙ raised n 4 0 1 (corner 4 lower (2 * run)) (omega arith)
      ∙ rw one-mul refl
  corner_above (suc (suc (suc (suc (suc axes))))) some few h = absurd (omega arith)
