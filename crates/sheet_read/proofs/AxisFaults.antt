-- The fault of an axis, test by test, and what holds of an axis that has none.
use mathlib.Core.Path.{◌≡◌, refl}
use mathlib.Core.Bool.{Bool, true, false, cond}
use mathlib.Core.List.{List}
use Prim.Native.Nat.{ℕ, ◌+◌, ◌*◌, ◌<◌, ◌≤◌}
use native.Mathlib.Omega.{arith}
use borrow.Author.Tests.{lt-ltb, le-ltb, ltb-true, ltb-false}
use lib.Dec.{ltb}
use lib.ListN.{length}
use Rattle.rules.specs.Refusals.{points_refused}
use Rattle.base_bits.specs.Bits.{short, numbers_short}
use Rattle.grid_codes.specs.Kinds.{periodic_at_one_end}
use Rattle.grid_codes.specs.Modes.{unknown_mode}
use Rattle.sheet_read.specs.Fields.{mode_bits, points_at, lower_kind, upper_kind, mode_said, values_at, values_begin}
use Rattle.sheet_read.specs.Faults.{axis_fault}
use Rattle.sheet_read.proofs.Extents.{extent}

module _ (bytes : List ℕ) (at : ℕ) where
  abbrev bits : ℕ
  bits = 8 * length bytes

  pub no_points : bits < at + 8 → 11 ≡ axis_fault bytes at
  unfolding axis_fault
  no_points gone = rw (lt-ltb bits (at + 8) gone)

  pub few_points : at + 8 ≤ bits → points_at bytes at < 2 → 2 ≡ axis_fault bytes at
  unfolding axis_fault
  few_points room few = rw (le-ltb bits (at + 8) room, lt-ltb (points_at bytes at) 2 few)

  module _ (enough : 2 ≤ points_at bytes at) where
    enough_points : points_refused (points_at bytes at) ≡ false
    enough_points =
        let reach = extent bytes at in
        rw (le-ltb (points_at bytes at) 2 (omega arith), le-ltb 256 (points_at bytes at) (omega arith))

    no_lower_kind : at + 8 ≤ bits → bits < at + 8 + 2 → 11 ≡ axis_fault bytes at
    unfolding axis_fault
    no_lower_kind room gone = rw (le-ltb bits (at + 8) room, enough_points, lt-ltb bits (at + 8 + 2) gone)

    no_upper_kind : at + 8 + 2 ≤ bits → bits < at + 10 + 2 → 11 ≡ axis_fault bytes at
    unfolding axis_fault
    no_upper_kind room gone =
        rw (le-ltb bits (at + 8) (omega arith), enough_points, le-ltb bits (at + 8 + 2) room, lt-ltb bits (at + 10 + 2) gone)

    -- where one of the two kinds is not there
    pub no_kinds : at + 8 ≤ bits → bits < at + 8 + 4 → 11 ≡ axis_fault bytes at
    no_kinds room gone = go (ltb bits (at + 8 + 2)) refl
      where
        go : (b : Bool) → ltb bits (at + 8 + 2) ≡ b → 11 ≡ axis_fault bytes at
        go true e = no_lower_kind room (ltb-true bits (at + 8 + 2) e)
        go false e = no_upper_kind (ltb-false bits (at + 8 + 2) e) (omega (arith, gone))

    module _ (room : at + 10 + 2 ≤ bits) where
      pub one_periodic : periodic_at_one_end (lower_kind bytes at) (upper_kind bytes at) ≡ true → 13 ≡ axis_fault bytes at
      unfolding axis_fault
      one_periodic one =
          rw (
            le-ltb bits (at + 8) (omega arith),
            enough_points,
            le-ltb bits (at + 8 + 2) (omega arith),
            le-ltb bits (at + 10 + 2) room,
            one,
          )

      module _ (none : periodic_at_one_end (lower_kind bytes at) (upper_kind bytes at) ≡ false) where
        pub no_mode : bits < at + 12 + mode_bits bytes → 11 ≡ axis_fault bytes at
        unfolding axis_fault
        no_mode gone =
            rw (
              le-ltb bits (at + 8) (omega arith),
              enough_points,
              le-ltb bits (at + 8 + 2) (omega arith),
              le-ltb bits (at + 10 + 2) room,
              none,
              lt-ltb bits (at + 12 + mode_bits bytes) gone,
            )

        module _ (mode_room : at + 12 + mode_bits bytes ≤ bits) where
          pub other_mode : unknown_mode (mode_said bytes at) ≡ true → 22 ≡ axis_fault bytes at
          unfolding axis_fault
          other_mode other =
              rw (
                le-ltb bits (at + 8) (omega arith),
                enough_points,
                le-ltb bits (at + 8 + 2) (omega arith),
                le-ltb bits (at + 10 + 2) room,
                none,
                le-ltb bits (at + 12 + mode_bits bytes) mode_room,
                other,
              )

          pub patterns : unknown_mode (mode_said bytes at) ≡ false
              → (test : Bool) → numbers_short bytes (values_begin bytes at) (values_at bytes at + points_at bytes at) ≡ test
              → cond test 11 0 ≡ axis_fault bytes at
          unfolding axis_fault
          patterns known test short =
              rw (
                le-ltb bits (at + 8) (omega arith),
                enough_points,
                le-ltb bits (at + 8 + 2) (omega arith),
                le-ltb bits (at + 10 + 2) room,
                none,
                le-ltb bits (at + 12 + mode_bits bytes) mode_room,
                known,
                short,
              )
