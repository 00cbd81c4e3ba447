-- How far a cell in range reaches: every number on the way to its sum fits 64 bits, and its number at a position lies in -65,536 .. 65,536.
use mathlib.Core.Path.{◌≡◌}
use mathlib.Core.Bool.{true, ◌&&◌}
use Prim.Native.Nat.{ℕ, ◌+◌, ◌*◌, ◌<◌, ◌≤◌}
use native.Mathlib.Omega.{arith}
use lib.Dec.{leb}
use lib.IntN.{ℤ, pos, negsuc, ◌*ℤ◌}
use borrow.Author.Tests.{leb-true}
use mir.Syntax.{w64}
use Rattle.base_integers.specs.Sized.{Sized}
use Rattle.base_integers.proofs.Sizes.{sized_pos, sized_mul, sized_add, sized_sub, sized_more, sized_fits}
use Rattle.base_integers.proofs.Tests.{both}
use Rattle.device_cell.specs.DeviceCell.{exact, cell_number, value_in_range, slope_in_range, cell_in_range}
use Rattle.device_cell.specs.CellWeights.{weight_p0, weight_p1, weight_d0, weight_d1, weights_at, weighted, Room}
use Rattle.device_cell.specs.declared.Cell.{Cell}
use Rattle.device_cell.proofs.Weighed.{weighed, exact_is}
use Rattle.device_cell.proofs.Nearest.{nearest_sized}

sized_value : (z : ℤ) → value_in_range z ≡ true → Sized 32768 z
sized_value (pos n) e = let h = leb-true n 32767 e in record { sized = omega arith }
sized_value (negsuc n) e = let h = leb-true n 32767 (both (leb n 32767) true e).0 in record { sized = omega arith }

sized_slope : (z : ℤ) → slope_in_range z ≡ true → Sized 131072 z
sized_slope (pos n) e = let h = leb-true n 131071 e in record { sized = omega arith }
sized_slope (negsuc n) e = let h = leb-true n 131071 (both (leb n 131071) true e).0 in record { sized = omega arith }

record InRange (c : Cell) : Type 0 where
  p0 : Sized 32768 c.p0
  p1 : Sized 32768 c.p1
  d0 : Sized 131072 c.d0
  d1 : Sized 131072 c.d1

known : (c : Cell) → cell_in_range c ≡ true → InRange c
unfolding cell_in_range
known c e =
    let first = both (value_in_range c.p0) (value_in_range c.p1 && (slope_in_range c.d0 && slope_in_range c.d1)) e in
    let second = both (value_in_range c.p1) (slope_in_range c.d0 && slope_in_range c.d1) first.1 in
    let third = both (slope_in_range c.d0) (slope_in_range c.d1) second.1 in
    record {
      p0 = sized_value c.p0 first.0;
      p1 = sized_value c.p1 second.0;
      d0 = sized_slope c.d0 third.0;
      d1 = sized_slope c.d1 third.1;
    }

module _ (c : Cell) (k : ℕ) (range : cell_in_range c ≡ true) (h : k ≤ 256) where
  part_p0 : Sized (weight_p0 k * 32768) ((weights_at k).p0 *ℤ c.p0)
  part_p0 = sized_mul (sized_pos (weight_p0 k)) (known c range).p0

  part_d0 : Sized (weight_d0 k * 131072) ((weights_at k).d0 *ℤ c.d0)
  part_d0 = sized_mul (sized_pos (weight_d0 k)) (known c range).d0

  part_p1 : Sized (weight_p1 k * 32768) ((weights_at k).p1 *ℤ c.p1)
  part_p1 = sized_mul (sized_pos (weight_p1 k)) (known c range).p1

  part_d1 : Sized (weight_d1 k * 131072) ((weights_at k).d1 *ℤ c.d1)
  part_d1 = sized_mul (sized_pos (weight_d1 k)) (known c range).d1

  -- the values weigh 256³ together, and the slopes at most 2 ^ 22
  pub sum_sized : Sized 1099511627776 (weighted (weights_at k) c.p0 c.p1 c.d0 c.d1)
  sum_sized =
      let w = weighed k h in
      sized_more (omega arith) (sized_sub (sized_add (sized_add part_p0 part_d0) part_p1) part_d1)

  pub room : Room (weights_at k) c.p0 c.p1 c.d0 c.d1
  room =
      let w = weighed k h in
      let of_p0 : weight_p0 k * 32768 < 9223372036854775808 = omega arith in
      let of_d0 : weight_d0 k * 131072 < 9223372036854775808 = omega arith in
      let of_p1 : weight_p1 k * 32768 < 9223372036854775808 = omega arith in
      let of_d1 : weight_d1 k * 131072 < 9223372036854775808 = omega arith in
      let of_two : weight_p0 k * 32768 + weight_d0 k * 131072 < 9223372036854775808 = omega arith in
      let of_three : weight_p0 k * 32768 + weight_d0 k * 131072 + weight_p1 k * 32768 < 9223372036854775808 = omega arith in
      let of_all : 1099511627776 < 9223372036854775808 = omega arith in
      record {
        of_p0 = sized_fits w64 part_p0 of_p0;
        of_d0 = sized_fits w64 part_d0 of_d0;
        of_p1 = sized_fits w64 part_p1 of_p1;
        of_d1 = sized_fits w64 part_d1 of_d1;
        of_two = sized_fits w64 (sized_add part_p0 part_d0) of_two;
        of_three = sized_fits w64 (sized_add (sized_add part_p0 part_d0) part_p1) of_three;
        of_all = sized_fits w64 sum_sized of_all;
      }

  pub number_sized : Sized 65536 (cell_number c k)
  number_sized = nearest_sized (exact c k) (rw (exact_is c k h) sum_sized)
