-- How far apart places stand: an index more on an axis is a stride more, and the stride of an axis is that of the next times its points.
use mathlib.Core.Path.{◌≡◌, refl}
use mathlib.Core.Logic.{⊎_elim}
use Prim.Native.Nat.{ℕ, zero, suc, ◌+◌, ◌*◌, ◌<◌}
use native.Mathlib.Omega.{arith}
use native.Mathlib.Nat.{add-mul, mul_right_comm, eq-or-lt_of_le, le_of_suc-le-suc}
use Rattle.rules.specs.Sizes.{Place, moved, flat}
use Rattle.rules.proofs.Places.{moved_own, flat_ext}
use Rattle.grid.specs.Strides.{stride}
use Rattle.grid.proofs.Strides.{stride_along, stride_more_axes, stride_last}

-- the index on axis i raised by k
pub raised : (n : ℕ → ℕ) (d i k : ℕ) (p : Place) → i < d → flat n d (moved p i (p i + k)) ≡ flat n d p + k * stride n d i
raised n d i k p lt =
    omega (
      arith,
      stride_along n d i (p i + k) p lt,
      stride_along n d i (p i) p lt,
      flat_ext n d (moved p i (p i)) p (moved_own p i d),
      add-mul (p i) k (stride n d i),
    )

-- .. and of the axis before another
pub stride_before : (n : ℕ → ℕ) (d i : ℕ) → suc i < d → stride n d (suc i) * n (suc i) ≡ stride n d i
stride_before n zero i lt = absurd (omega arith)
stride_before n (suc d) i lt =
    ⊎_elim
    (λ e. last e)
    (λ less.
    rw (
      stride_more_axes n d (suc i) less,
      stride_more_axes n d i (omega arith),
      mul_right_comm (stride n d (suc i)) (n d) (n (suc i)),
      stride_before n d i less,
    )
    refl)
    (eq-or-lt_of_le (le_of_suc-le-suc lt))
  where
    last : suc i ≡ d → stride n (suc d) (suc i) * n (suc i) ≡ stride n (suc d) i
    last e = rw (stride_more_axes n d i (omega arith), ← e, stride_last n (suc i), stride_last n i) refl
