-- The head of an axis, read, and what is worked out from it.
use Rattle.std.specs.Prelude.{◌≡◌, List, ℕ, ◌+◌, ◌*◌, ◌≤◌}
use Rattle.grid_codes.specs.Kinds.{values_of_kind}
use Rattle.sheet_read.specs.Fields.{points_at, lower_kind, upper_kind, mode_said}
use Rattle.sheet_read.specs.declared.heads.Head.{Head}

-- the head of the axis that begins at bit `at`
pub record HeadOf (bytes : List ℕ) (at : ℕ) (head : Head) : Type 0 where
  pub points : head.points ≡ points_at bytes at
  pub lower : head.lower ≡ lower_kind bytes at
  pub upper : head.upper ≡ upper_kind bytes at
  pub mode : head.mode ≡ mode_said bytes at

-- how many of the two ends have a number
abbrev pub values_of_head : Head → ℕ
values_of_head head = values_of_kind head.lower + values_of_kind head.upper

-- where its knots begin
abbrev pub knots_of_head : ℕ → ℕ → Head → ℕ
knots_of_head width at head = at + 12 + width + 64 * values_of_head head

-- places that are small numbers
pub record SmallHead (width at : ℕ) (head : Head) : Type 0 where
  pub width_most : width ≤ 2
  pub at_most : at ≤ 131072
  pub points_most : head.points ≤ 256
