-- The turns of `some_slope_refused`, on plain lists.
use native.Mathlib.Omega.{arith}
use mathlib.Core.Path.{◌≡◌, refl, sym, ap, ap₂, ◌∙◌}
use mathlib.Core.Bool.{Bool, false, not, ◌||◌}
use mathlib.Core.List.{List}
use Prim.Native.Nat.{ℕ, ◌+◌, ◌-◌, ◌<◌, ◌≤◌}
use lib.ListN.{length, set, length-set}
use lib.Ieee.{Float, nan}
use lib.Ieee.Scale.{finite}
use Rattle.rules.specs.Numbers.{at, any}
use Rattle.rules.specs.Refusals.{number_refused}
use Rattle.rules.specs.Curve.{knot_slope, knot_slopes}
use Rattle.rules.proofs.Tables.{length_table, at_table}
use Rattle.base_numbers.proofs.Front.{front, front_none, front_more, front_all}
use Rattle.base_numbers.proofs.Scan.{any_none, any_next}
use Rattle.axis_moments.specs.SlopeAndValue.{AxisLengths}
use Rattle.axis_curve.specs.Work.{SlopesWorked}

-- all the slopes
abbrev slopes : List Float → List Float → List Float → List Float
slopes x y m = knot_slopes x (length x - 1) y m

-- there is one for each knot
pub slopes_length : (x y m : List Float) → 1 ≤ length x → length (slopes x y m) ≡ length x
unfolding knot_slopes
slopes_length x y m some = length_table (length x - 1 + 1) _ ∙ omega arith

-- whether the slope at a knot is refused
abbrev refused_at : List Float → List Float → List Float → ℕ → Bool
refused_at x y m k = number_refused (at (slopes x y m) k)

-- the slopes before knot i are stored, and the flag tells whether one of them is refused
pub record Turn (x y m row₀ row : List Float) (refused : Bool) (i : ℕ) : Type 0 where
  pub lengths : AxisLengths x y m
  pub room : length row₀ ≡ length x
  pub most : i < length x
  pub same_length : length row ≡ length row₀
  pub stored : row ≡ front (slopes x y m) i row₀
  pub flag : refused ≡ any (refused_at x y m) i

pub turn_first : (x y m row : List Float) → AxisLengths x y m → length row ≡ length x → Turn x y m row row false 0
turn_first x y m row axis room = record {
  lengths = axis;
  room = room;
  most = omega (arith, axis);
  same_length = refl;
  stored = front_none _ row;
  flag = sym (any_none _);
}

module _
    (x y m row₀ row : List Float) (refused : Bool) (i : ℕ) (t : Turn x y m row₀ row refused i)
    (slope : Float) (is : slope ≡ knot_slope x (length x - 1) y m i) (good : Bool) (looked : good ≡ finite slope)
  where
    as_many : length (slopes x y m) ≡ length x
    as_many = slopes_length x y m (omega (arith, t.most))

    slope_here : slope ≡ at (slopes x y m) i
    unfolding knot_slopes
    slope_here = is ∙ sym (at_table (length x - 1 + 1) _ i nan (omega (arith, t.most)))

    stored_next : set row i slope ≡ front (slopes x y m) (i + 1) row₀
    stored_next =
        front_more _ row₀ row i slope nan t.stored slope_here (omega (arith, t.most, as_many)) (omega (arith, t.most, t.room))

    flag_next : (refused || not good) ≡ any (refused_at x y m) (i + 1)
    flag_next = ap₂ ◌||◌ t.flag (ap not (looked ∙ ap finite slope_here)) ∙ sym (any_next _ i)

    pub turn_next : i + 1 < length x → Turn x y m row₀ (set row i slope) (refused || not good) (i + 1)
    turn_next more = record {
      lengths = t.lengths;
      room = t.room;
      most = more;
      same_length = simp length-set t.same_length;
      stored = stored_next;
      flag = flag_next;
    }

    worked : i + 1 ≡ length x → SlopesWorked x y m (refused || not good) (set row i slope)
    worked whole = record {
      answer = flag_next ∙ ap (any (refused_at x y m)) (omega (arith, as_many));
      output = stored_next ∙ front_all _ row₀ (i + 1) (omega (arith, as_many)) (omega (arith, t.room));
    }

-- the last knot
pub turn_last :
    (x y m row₀ row : List Float) (refused : Bool) (i last : ℕ) → Turn x y m row₀ row refused i → last ≡ length x - 1 → last ≤ i
    → (slope : Float) → slope ≡ knot_slope x (length x - 1) y m last → (good : Bool) → good ≡ finite slope
    → SlopesWorked x y m (refused || not good) (set row last slope)
turn_last x y m row₀ row refused i last t e ge slope is good looked =
    let same : i ≡ last = omega (arith, t.most) in
    worked x y m row₀ row refused last (rw same at t) slope is good looked (omega (arith, t.most))
