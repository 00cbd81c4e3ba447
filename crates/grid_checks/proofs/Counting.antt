-- The points of the axes are counted in one pass: what is known at each axis, and what the pass finds of the sizes.
use mathlib.Core.Path.{◌≡◌, refl, sym}
use mathlib.Core.Bool.{true, false}
use Prim.Native.Nat.{ℕ, ◌+◌, ◌*◌, ◌^◌, ◌<◌, ◌≤◌}
use native.Mathlib.Nat.{one-mul, mul_right_comm, le_refl, pow-le-pow_right}
use native.Mathlib.Omega.{arith}
use lib.Dec.{lit<, ltb}
use borrow.Author.Tests.{lt-ltb, le-ltb, ltb-false}
use Rattle.rules.specs.Numbers.{any}
use Rattle.rules.specs.Sizes.{sum_below, product_below}
use Rattle.rules.specs.Refusals.{points_refused}
use Rattle.base_numbers.proofs.Scan.{neither, any_none, any_more, any_found}
use Rattle.grid.proofs.Products.{sum_none, sum_more, product_none, product_more, product_bound, of_four, with_masks}
use Rattle.std.specs.Prelude.{Ok, Err}
use Rattle.rules.specs.declared.Refusal.TheVariants.{Points, Tensor}
use Rattle.grid_checks.specs.Check.{points_check}
use Rattle.grid_checks.specs.SizesFound.{SizesFound}
use Rattle.grid_checks.proofs.Rows.{stop, pass}

-- the first i axes are counted: no points of theirs are refused, these are their knots, and these their places times the masks of all axes
pub record Counted (axes : ℕ) (n : ℕ → ℕ) (i knots numbers : ℕ) : Type 0 where
  pub within : i ≤ axes
  pub none_refused : any (λ j. points_refused (n j)) i ≡ false
  pub knots_counted : knots ≡ sum_below n i
  pub few_knots : knots ≤ i * 256
  pub numbers_counted : numbers ≡ product_below n i * 2 ^ axes
  pub few_places : product_below n i ≤ 256 ^ i

module _ (axes : ℕ) (n : ℕ → ℕ) where
  -- ---- at each axis

  pub counted_none : {masks : ℕ} → masks ≡ 2 ^ axes → Counted axes n 0 0 masks
  counted_none e = record {
    within = omega arith;
    none_refused = any_none _;
    knots_counted = sym (sum_none n);
    few_knots = omega arith;
    numbers_counted = rw (product_none, one-mul) e;
    few_places = rw product_none (le_refl 1);
  }

  module _ {i knots numbers : ℕ} (counted : Counted axes n i knots numbers) where
    pub counted_more : i < axes → points_refused (n i) ≡ false → Counted axes n (i + 1) (knots + n i) (numbers * n i)
    counted_more l fine =
        let few : n i ≤ 256 = ltb-false 256 (n i) (neither (ltb (n i) 2) (ltb 256 (n i)) fine).1 in
        record {
          within = omega arith;
          none_refused = any_more _ i counted.none_refused fine;
          knots_counted = rw (sum_more, counted.knots_counted);
          few_knots = omega (arith, counted.few_knots);
          numbers_counted = rw (product_more, counted.numbers_counted) (mul_right_comm (product_below n i) (2 ^ axes) (n i));
          few_places = rw product_more (product_bound (product_below n i) (n i) i counted.few_places few);
        }

    pub few_numbers : axes ≤ 4 → numbers ≤ 68719476736
    few_numbers few =
        rw counted.numbers_counted
        (with_masks (of_four (product_below n i) i counted.few_places (omega (arith, counted.within)))
        (pow-le-pow_right (lit< tt) {i = axes} {j = 4} few))

    pub counted_all : axes ≤ i → Counted axes n axes knots numbers
    counted_all past = let e : i ≡ axes = omega (arith, counted.within) in rw e at counted

  -- ---- what is found

  pub found_points : {i : ℕ} → i < axes → points_refused (n i) ≡ true → SizesFound axes n (Err Points)
  unfolding points_check
  found_points {i} l bad = record { refusal = stop _ refl (any_found _ i axes l bad); sizes = tt }

  module _ {knots numbers : ℕ} (counted : Counted axes n axes knots numbers) where
    pub found_large : 4096 < numbers → SizesFound axes n (Err Tensor)
    unfolding points_check
    found_large large = record {
      refusal = pass _ refl counted.none_refused (stop _ refl (lt-ltb _ _ (rw counted.numbers_counted at large)));
      sizes = tt;
    }

    pub found_sizes : numbers ≤ 4096 → SizesFound axes n (Ok (record { knots = knots; numbers = numbers }))
    unfolding points_check
    found_sizes small = record {
      refusal = pass _ refl counted.none_refused (pass _ refl (le-ltb _ _ (rw counted.numbers_counted at small)) refl);
      sizes = record { knots = counted.knots_counted; numbers = counted.numbers_counted };
    }
