-- A step of a walk: on in the run, to the next run, to the next slab.
use native.Mathlib.Omega.{arith}
use native.Mathlib.Nat.{add-mul, one-mul, zero-mul}
use mathlib.Core.Path.{◌≡◌, ap, ◌∙◌}
use Prim.Native.Nat.{ℕ, ◌+◌, ◌*◌, ◌/◌, ◌%◌, ◌<◌, ◌≤◌}
use lib.Arith.{digits_div, digits_mod}
use Rattle.tensor_starts.specs.declared.Cursor.{Cursor}
use Rattle.tensor_starts.specs.declared.Walk.{Walk}
use Rattle.tensor_starts.specs.Walks.{lane_start, Stands}

more : (a b : ℕ) → (a + 1) * b ≡ a * b + b
more a b = add-mul a 1 b ∙ ap (λ (m : ℕ). a * b + m) (one-mul b)

pub stands_first : (k : Walk) → 0 < k.inner → 0 < k.middle
    → Stands (record { lane = 0; at = k.start; inner = 0; middle = 0; run = k.start; slab = k.start }) k
stands_first k some_inner some_middle = record {
  outer = 0;
  inner_below = some_inner;
  middle_below = some_middle;
  lane_is =
      let e : 0 * k.middle + 0 ≡ 0 = omega (arith, zero-mul k.middle) in
      rw e (omega (arith, zero-mul k.inner));
  slab_is = omega (arith, zero-mul k.farthest);
  run_is = omega (arith, zero-mul k.far);
  at_is = omega (arith, zero-mul k.near);
}

module _ (c : Cursor) (k : Walk) (s : Stands c k) where
  pub in_run :
      c.inner + 1 < k.inner
      → Stands (record { lane = c.lane + 1; at = c.at + k.near; inner = c.inner + 1; middle = c.middle; run = c.run; slab = c.slab })
      k
  in_run less = record {
    outer = s.outer;
    inner_below = less;
    middle_below = s.middle_below;
    lane_is = omega (arith, s.lane_is);
    slab_is = s.slab_is;
    run_is = s.run_is;
    at_is = omega (arith, s.at_is, more c.inner k.near);
  }

  pub next_run :
      k.inner ≤ c.inner + 1 → c.middle + 1 < k.middle
      → Stands
      (record { lane = c.lane + 1; at = c.run + k.far; inner = 0; middle = c.middle + 1; run = c.run + k.far; slab = c.slab }) k
  next_run full less =
      let e : s.outer * k.middle + (c.middle + 1) ≡ s.outer * k.middle + c.middle + 1 = omega arith in
      record {
        outer = s.outer;
        inner_below = omega (arith, s.inner_below);
        middle_below = less;
        lane_is = rw e (omega (arith, s.lane_is, s.inner_below, more (s.outer * k.middle + c.middle) k.inner));
        slab_is = s.slab_is;
        run_is = omega (arith, s.run_is, more c.middle k.far);
        at_is = omega (arith, zero-mul k.near);
      }

  pub next_slab :
      k.inner ≤ c.inner + 1 → k.middle ≤ c.middle + 1
      → Stands
      (record {
        lane = c.lane + 1;
        at = c.slab + k.farthest;
        inner = 0;
        middle = 0;
        run = c.slab + k.farthest;
        slab = c.slab + k.farthest;
      })
      k
  next_slab full all =
      let e : (s.outer + 1) * k.middle + 0 ≡ s.outer * k.middle + c.middle + 1 =
      omega (arith, s.middle_below, more s.outer k.middle) in
      record {
        outer = s.outer + 1;
        inner_below = omega (arith, s.inner_below);
        middle_below = omega (arith, s.middle_below);
        lane_is = rw e (omega (arith, s.lane_is, s.inner_below, more (s.outer * k.middle + c.middle) k.inner));
        slab_is = omega (arith, s.slab_is, more s.outer k.farthest);
        run_is = omega (arith, zero-mul k.far);
        at_is = omega (arith, zero-mul k.near);
      }

  -- the cursor is where its lane starts
  pub stands_at : c.at ≡ lane_start k c.lane
  unfolding lane_start
  stands_at =
      let row : c.lane / k.inner ≡ s.outer * k.middle + c.middle =
      ap (λ (t : ℕ). t / k.inner) s.lane_is ∙ digits_div (s.outer * k.middle + c.middle) s.inner_below in
      let inner : c.lane % k.inner ≡ c.inner =
      ap (λ (t : ℕ). t % k.inner) s.lane_is ∙ digits_mod (s.outer * k.middle + c.middle) s.inner_below in
      let outer : c.lane / k.inner / k.middle ≡ s.outer = ap (λ (t : ℕ). t / k.middle) row ∙ digits_div s.outer s.middle_below in
      let middle : c.lane / k.inner % k.middle ≡ c.middle =
      ap (λ (t : ℕ). t % k.middle) row ∙ digits_mod s.outer s.middle_below in
      rw (outer, middle, inner) (omega (arith, s.at_is, s.run_is, s.slab_is))
