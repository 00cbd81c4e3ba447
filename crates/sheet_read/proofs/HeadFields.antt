-- What is worked out from the head of an axis is what the fields of the sheet say, and so is its fault.
use mathlib.Core.Path.{◌≡◌, sym, ap, ap₂, ◌∙◌}
use mathlib.Core.Bool.{Bool, true, false, cond}
use mathlib.Core.List.{List}
use Prim.Native.Nat.{ℕ, ◌+◌, ◌*◌, ◌<◌, ◌≤◌}
use native.Mathlib.Omega.{arith}
use lib.ListN.{length}
use Rattle.base_bits.specs.Bits.{numbers_short}
use Rattle.grid_codes.specs.Kinds.{values_of_kind, periodic_at_one_end}
use Rattle.rules.specs.declared.Condition.{Condition}
use Rattle.rules.specs.declared.Mode.{Mode}
use Rattle.grid_codes.specs.Modes.{unknown_mode, mode_of_number}
use Rattle.sheet_read.specs.Fields.{
  mode_bits,
  points_at,
  lower_kind,
  upper_kind,
  mode_said,
  values_at,
  axis_at,
  knots_begin,
  axis_end,
}
use Rattle.sheet_read.specs.Faults.{axis_fault}
use Rattle.sheet_read.specs.Heads.{HeadOf, values_of_head, knots_of_head, SmallHead}
use Rattle.sheet_read.specs.declared.heads.Head.{Head}
use Rattle.sheet_read.proofs.Extents.{extent, value_most}
use Rattle.sheet_read.proofs.AxisFaults.{few_points, one_periodic, other_mode, patterns}

pub values_most : (head : Head) → values_of_head head ≤ 2
values_most head = omega (arith, value_most head.lower, value_most head.upper)

pub axis_of_parts :
    (bytes : List ℕ) (at n : ℕ) (condition : Condition) (mode : Mode)
    → n ≡ points_at bytes at → condition ≡ (axis_at bytes at).condition → mode ≡ mode_of_number (mode_said bytes at)
    → record { points = n; condition = condition; mode = mode } ≡ axis_at bytes at
unfolding axis_at
axis_of_parts bytes at n condition mode p c m = rw (p, c, m)

module _ (bytes : List ℕ) (at : ℕ) (head : Head) (read : HeadOf bytes at head) where
  pub values_are : values_of_head head ≡ values_at bytes at
  unfolding values_at
  values_are = ap₂ (λ (a b : ℕ). values_of_kind a + values_of_kind b) read.lower read.upper

  module _ (width : ℕ) (is : width ≡ mode_bits bytes) where
    pub knots_are : knots_of_head width at head ≡ knots_begin bytes at
    unfolding knots_begin
    knots_are = ap₂ (λ (w v : ℕ). at + 12 + w + 64 * v) is values_are

    pub end_is : knots_of_head width at head + 64 * head.points ≡ axis_end bytes at
    unfolding axis_end
    end_is = ap₂ (λ (k n : ℕ). k + 64 * n) knots_are read.points

    pub small : at ≤ 131072 → SmallHead width at head
    small few = let reach = extent bytes at in
        record { width_most = omega (arith, is); at_most = few; points_most = omega (arith, read.points) }

    -- the fault of the axis, test by test, where its head is there
    module _ (room : at + (12 + width) ≤ 8 * length bytes) where
      pub head_few : head.points < 2 → 2 ≡ axis_fault bytes at
      head_few few = few_points bytes at (omega (arith, room)) (omega (arith, few, read.points))

      module _ (enough : 2 ≤ head.points) where
        enough_there : 2 ≤ points_at bytes at
        enough_there = omega (arith, enough, read.points)

        kinds_there : at + 10 + 2 ≤ 8 * length bytes
        kinds_there = omega (arith, room)

        kinds_are : (b : Bool) → periodic_at_one_end head.lower head.upper ≡ b
            → periodic_at_one_end (lower_kind bytes at) (upper_kind bytes at) ≡ b
        kinds_are b e = ap₂ (λ (l u : ℕ). periodic_at_one_end l u) (sym read.lower) (sym read.upper) ∙ e

        pub head_periodic : periodic_at_one_end head.lower head.upper ≡ true → 13 ≡ axis_fault bytes at
        head_periodic one = one_periodic bytes at enough_there kinds_there (kinds_are true one)

        module _ (none : periodic_at_one_end head.lower head.upper ≡ false) where
          mode_there : at + 12 + mode_bits bytes ≤ 8 * length bytes
          mode_there = omega (arith, room, is)

          mode_is : (b : Bool) → unknown_mode head.mode ≡ b → unknown_mode (mode_said bytes at) ≡ b
          mode_is b e = ap (λ (n : ℕ). unknown_mode n) (sym read.mode) ∙ e

          pub head_other_mode : unknown_mode head.mode ≡ true → 22 ≡ axis_fault bytes at
          head_other_mode other = other_mode bytes at enough_there kinds_there (kinds_are false none) mode_there (mode_is true other)

          pub head_patterns :
              unknown_mode head.mode ≡ false
              → (test : Bool) → numbers_short bytes (at + 12 + width) (values_of_head head + head.points) ≡ test
              → cond test 11 0 ≡ axis_fault bytes at
          head_patterns known test short =
              patterns bytes at enough_there kinds_there (kinds_are false none) mode_there (mode_is false known) test
              (sym
              (ap₂ (λ (p n : ℕ). numbers_short bytes p n) (ap (λ (w : ℕ). at + 12 + w) is)
              (ap₂ (λ (a b : ℕ). a + b) values_are read.points))
              ∙ short)
