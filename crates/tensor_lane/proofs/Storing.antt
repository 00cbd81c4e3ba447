-- Numbers stored one after another, step apart, on plain lists.
use native.Mathlib.Omega.{arith}
use native.Mathlib.Nat.{mul-lt-mul_of_pos_right}
use mathlib.Core.Path.{◌≡◌, refl, ap₂, ◌∙◌}
use mathlib.Core.List.{List}
use Prim.Native.Nat.{ℕ, ◌+◌, ◌-◌, ◌*◌, ◌<◌, ◌≤◌}
use lib.ListN.{length, set, take, drop, length-set}
use lib.Seq.{get_or-set_same, get_or-set_other}
use lib.Ieee.{Float, nan}
use borrow.Author.Count.{below_more}
use Rattle.rules.specs.Numbers.{at}
use Rattle.rules.specs.Curve.{knot_slope}
use Rattle.tensor_lane.specs.LaneInScratch.{Lies, Stored, slope_of_rows}
use Rattle.tensor_lane.proofs.Parts.{part_ext}

pub record Turn (w₀ w : List Float) (numbers : ℕ → Float) (n to step k : ℕ) : Type 0 where
  pub lies : Lies w₀ n to step
  pub apart : 1 ≤ step
  pub most : k ≤ n
  pub same_length : length w ≡ length w₀
  pub done : Stored w₀ w numbers k to step

pub turn_first : (w : List Float) (numbers : ℕ → Float) (n to step : ℕ) → Lies w n to step → 1 ≤ step → Turn w w numbers n to step 0
turn_first w numbers n to step l a = record {
  lies = l;
  apart = a;
  most = omega arith;
  same_length = refl;
  done = record { same_length = refl; values = λ k h. absurd (omega arith); kept = λ j h. refl };
}

pub turn_next :
    (w₀ w : List Float) (numbers : ℕ → Float) (n to step k : ℕ) (v : Float) → Turn w₀ w numbers n to step k → k < n → v ≡ numbers k
    → Turn w₀ (set w (to + k * step) v) numbers n to step (k + 1)
turn_next w₀ w numbers n to step k v t lt e = record {
  lies = t.lies;
  apart = t.apart;
  most = omega arith;
  same_length = simp length-set t.same_length;
  done = record {
    same_length = simp length-set t.same_length;
    values = below_more _ k
        (λ j h.
        get_or-set_other w (to + k * step) (to + j * step) v nan
        (let m : j * step < k * step = mul-lt-mul_of_pos_right h t.apart in omega arith)
        ∙ t.done.values j h)
        (get_or-set_same w (to + k * step) v nan (omega (arith, t.lies.within k lt, t.same_length)) ∙ e);
    kept = λ j o. get_or-set_other w (to + k * step) j v nan (o k (omega arith)) ∙ t.done.kept j (λ i h. o i (omega arith));
  };
}

pub turn_last : (w₀ w : List Float) (numbers : ℕ → Float) (n to step k : ℕ) → Turn w₀ w numbers n to step k → n ≤ k
    → Stored w₀ w numbers n to step
turn_last w₀ w numbers n to step k t ge = let e : k ≡ n = omega (arith, t.most) in rw e at t.done

-- the slopes are read from rows that stay
pub slope_kept :
    (w₀ w x : List Float) (n to step k j : ℕ) → Lies w₀ n to step → length x ≤ 256 → Stored w₀ w (slope_of_rows w₀ x) k to step
    → slope_of_rows w x j ≡ slope_of_rows w₀ x j
slope_kept w₀ w x n to step k j lies few done =
    ap₂ (λ (y m : List Float). knot_slope x (length x - 1) y m j) (row_kept 0 (omega arith)) (row_kept 1792 (omega arith))
  where
    row_kept : (a : ℕ) → a + length x ≤ 2048 → take (length x) (drop a w) ≡ take (length x) (drop a w₀)
    row_kept a h =
        part_ext w₀ w a (length x) (omega (arith, lies.room)) done.same_length
        (λ i l. done.kept (a + i) (λ e m. omega (arith, lies.behind)))
