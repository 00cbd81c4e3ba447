-- The Rust's `cyclic_thomas` has a branch for one unknown, and no answer of a public call depends on it: whatever the branch would answer,
-- the moments, the tensor and the changed tensor are those of the rules. A periodic axis of one interval takes the zero moments first, so
-- the cyclic solve has two unknowns or more.
use mathlib.Core.Path.{◌≡◌, refl, ap, ◌∙◌, fun_ext}
use mathlib.Core.Bool.{Bool, true, false, cond}
use mathlib.Core.List.{List}
use Prim.Native.Nat.{ℕ, zero, suc, ◌+◌, ◌-◌, ◌^◌, ◌<◌}
use native.Mathlib.Omega.{arith}
use lib.Dec.{leb, ltb, eqb}
use borrow.Author.Tests.{leb-false}
use lib.Ieee.{Float}
use Rattle.rules.specs.Numbers.{◌⊖◌, ◌⊗◌, plus_zero, at, table}
use Rattle.rules.specs.Ends.{condition_at}
use Rattle.rules.specs.Sizes.{Grid, points, condition, knots, tensor_length, Place, moved, unflat, spot}
use Rattle.rules.specs.Steps.{h}
use Rattle.rules.specs.Solve.{y, z, factor, cyclic_thomas}
use Rattle.rules.specs.Moments.{periodic_diag, periodic_rhs, periodic_moment, moment, moments}
use Rattle.rules.specs.Curve.{knot_slope, lane_slope}
use Rattle.rules.specs.Tensor.{slope_along, entry, sample, tensor, place_at, mask_at}
use Rattle.rules.specs.Change.{with_sample, can_differ, changed_entry, changed_tensor}
use Rattle.rules.specs.declared.Condition.{Condition}
use Rattle.rules.specs.declared.Condition.TheVariants.{Endpoints, Periodic}
use Rattle.rules.proofs.Cases.{arms_ext}

-- ---- the moments, where the branch answers b

-- what the branch answers: any number, got in any way from the right side and the diagonal of its one row and from the corner; in the Rust
-- right ⊘ (diagonal ⊕ corner ⊕ corner)
abbrev pub Branch : Type 0
Branch = (right diagonal corner : Float) → Float

module _ (b : Branch) where
  -- the Rust's `cyclic_thomas`, its branch first: number k of the result, where the last row is row l
  unfoldable pub cyclic_thomas_with_branch : (sub diag sup rhs : ℕ → Float) → Float → ℕ → ℕ → Float
  unfolding y z factor
  cyclic_thomas_with_branch sub diag sup rhs corner zero k = b (rhs 0) (diag 0) corner
  cyclic_thomas_with_branch sub diag sup rhs corner (suc l) k =
      y sub diag sup rhs corner (suc l) k ⊖ factor sub diag sup rhs corner (suc l) ⊗ z sub diag sup rhs corner (suc l) k

  -- the moments over it; those of an axis with ends have no cyclic solve
  unfoldable pub periodic_moment_with_branch : List Float → List Float → ℕ → ℕ → Float
  unfolding h periodic_diag periodic_rhs cyclic_thomas_with_branch
  periodic_moment_with_branch x samples n k =
      cyclic_thomas_with_branch (h x) (periodic_diag x samples n) (h x) (periodic_rhs x samples n) (h x (n - 1)) (n - 1) k

  unfoldable pub moment_with_branch : List Float → List Float → ℕ → Condition → ℕ → Float
  unfolding moment periodic_moment_with_branch
  moment_with_branch x samples n (Endpoints lower upper) k = moment x samples n (Endpoints lower upper) k
  moment_with_branch x samples n Periodic k = cond (leb n 1) plus_zero (periodic_moment_with_branch x samples n (cond (eqb k n) 0 k))

  unfoldable pub moments_with_branch : List Float → ℕ → Condition → List Float → List Float
  unfolding moment_with_branch
  moments_with_branch x n condition samples = table (n + 1) (moment_with_branch x samples n condition)

  -- two unknowns or more do not reach the branch
  past_the_branch :
      (sub diag sup rhs : ℕ → Float) (corner : Float) (l k : ℕ) → 0 < l
      → cyclic_thomas_with_branch sub diag sup rhs corner l k ≡ cyclic_thomas sub diag sup rhs corner l k
  unfolding cyclic_thomas_with_branch cyclic_thomas
  past_the_branch sub diag sup rhs corner zero k more = absurd (omega arith)
  past_the_branch sub diag sup rhs corner (suc l) k more = refl

  -- more than one interval gives two unknowns or more
  past_one_interval :
      (x samples : List Float) (n k : ℕ) → leb n 1 ≡ false
      → periodic_moment_with_branch x samples n k ≡ periodic_moment x samples n k
  unfolding periodic_moment_with_branch periodic_moment
  past_one_interval x samples n k more =
      past_the_branch (h x) (periodic_diag x samples n) (h x) (periodic_rhs x samples n) (h x (n - 1)) (n - 1) k
      (omega (arith, leb-false n 1 more))

  moment_same :
      (x samples : List Float) (n : ℕ) (condition : Condition) (k : ℕ)
      → moment_with_branch x samples n condition k ≡ moment x samples n condition k
  unfolding moment_with_branch moment
  moment_same x samples n (Endpoints lower upper) k = refl
  moment_same x samples n Periodic k = go (leb n 1) refl
    where
      -- the last moment is the first
      row : ℕ
      row = cond (eqb k n) 0 k

      go :
          (one : Bool) → leb n 1 ≡ one
          → cond one plus_zero (periodic_moment_with_branch x samples n row) ≡ cond one plus_zero (periodic_moment x samples n row)
      go true e = refl
      go false e = past_one_interval x samples n row e

  moments_same : moments_with_branch ≡ moments
  unfolding moments_with_branch moments
  moments_same = fun_ext (λ x. fun_ext (λ n. fun_ext (λ condition. fun_ext (λ samples.
      ap (table (n + 1)) (fun_ext (λ k. moment_same x samples n condition k))))))

-- ---- the tensor and the changed tensor over any rule for the moments of a lane

-- from knots, points minus 1, a condition and samples to their moments
abbrev pub MomentsRule : Type 0
MomentsRule = List Float → ℕ → Condition → List Float → List Float

module _ (rule : MomentsRule) where
  unfoldable pub lane_slope_over : List Float → ℕ → Condition → List Float → ℕ → Float
  unfolding knot_slope
  lane_slope_over x n condition samples i = knot_slope x n samples (rule x n condition samples) i

  unfoldable pub slope_along_over : Grid → ℕ → ℕ → (Place → Float) → Place → Float
  unfolding lane_slope_over
  slope_along_over g i mask numbers p =
      lane_slope_over (knots g i) (points g i - 1) (condition_at mask (condition g i))
      (table (points g i) (λ k. numbers (moved p i k))) (p i)

  unfoldable pub entry_over : Grid → (Place → Float) → ℕ → ℕ → Place → Float
  unfolding slope_along_over
  entry_over g samples zero mask p = samples p
  entry_over g samples (suc i) mask p =
      elim (ltb mask (2 ^ i)) [
        | true ↦ entry_over g samples i mask p
        | false ↦ slope_along_over g i (mask - 2 ^ i) (entry_over g samples i (mask - 2 ^ i)) p
      ]

  unfoldable pub tensor_over : Grid → List Float → List Float
  unfolding entry_over sample unflat
  tensor_over g samples =
      table (tensor_length g) (λ e. entry_over g (sample g samples) g.axes (mask_at g e) (place_at g e))

  unfoldable pub changed_entry_over : Grid → Place → Float → (Place → ℕ → Float) → ℕ → ℕ → Place → Float
  unfolding with_sample can_differ slope_along_over
  changed_entry_over g changed v old zero mask p = with_sample g (λ q. old q 0) changed v p
  changed_entry_over g changed v old (suc i) mask p =
      elim (ltb mask (2 ^ i)) [
        | true ↦ changed_entry_over g changed v old i mask p
        | false ↦ elim (can_differ g changed i (mask - 2 ^ i) p) [
          | true ↦ slope_along_over g i (mask - 2 ^ i) (changed_entry_over g changed v old i (mask - 2 ^ i)) p
          | false ↦ old p mask
        ]
      ]

  unfoldable pub changed_tensor_over : Grid → Place → Float → List Float → List Float
  unfolding changed_entry_over unflat
  changed_tensor_over g changed v tensor =
      table (tensor_length g)
      (λ e. changed_entry_over g changed v (λ p mask. at tensor (spot g p mask)) g.axes (mask_at g e) (place_at g e))

-- over the rules' moments they are the rules' own: a slope along a lane whose numbers are the same, then entries, then the whole
slope_along_over_moments :
    (g : Grid) (i mask : ℕ) (numbers numbers' : Place → Float) (p : Place) → ((q : Place) → numbers q ≡ numbers' q)
    → slope_along_over moments g i mask numbers p ≡ slope_along g i mask numbers' p
unfolding slope_along_over lane_slope_over slope_along lane_slope
slope_along_over_moments g i mask numbers numbers' p same = ap (λ (f : Place → Float). slope_along g i mask f p) (fun_ext same)

entry_over_moments :
    (g : Grid) (samples : Place → Float) (i mask : ℕ) (p : Place)
    → entry_over moments g samples i mask p ≡ entry g samples i mask p
unfolding entry_over entry
entry_over_moments g samples zero mask p = refl
entry_over_moments g samples (suc i) mask p =
    arms_ext (ltb mask (2 ^ i))
    (λ low. entry_over_moments g samples i mask p)
    (λ high. slope_along_over_moments g i (mask - 2 ^ i) _ _ p (λ q. entry_over_moments g samples i (mask - 2 ^ i) q))

changed_entry_over_moments :
    (g : Grid) (changed : Place) (v : Float) (old : Place → ℕ → Float) (i mask : ℕ) (p : Place)
    → changed_entry_over moments g changed v old i mask p ≡ changed_entry g changed v old i mask p
unfolding changed_entry_over changed_entry
changed_entry_over_moments g changed v old zero mask p = refl
changed_entry_over_moments g changed v old (suc i) mask p =
    arms_ext (ltb mask (2 ^ i))
    (λ low. changed_entry_over_moments g changed v old i mask p)
    (λ high.
    arms_ext (can_differ g changed i (mask - 2 ^ i) p)
    (λ solved. slope_along_over_moments g i (mask - 2 ^ i) _ _ p (λ q. changed_entry_over_moments g changed v old i (mask - 2 ^ i) q))
    (λ left. refl))

tensor_over_moments : tensor_over moments ≡ tensor
unfolding tensor_over tensor
tensor_over_moments = fun_ext (λ g. fun_ext (λ samples.
    ap (table (tensor_length g)) (fun_ext (λ e. entry_over_moments g (sample g samples) g.axes (mask_at g e) (place_at g e)))))

changed_tensor_over_moments : changed_tensor_over moments ≡ changed_tensor
unfolding changed_tensor_over changed_tensor
changed_tensor_over_moments = fun_ext (λ g. fun_ext (λ changed. fun_ext (λ v. fun_ext (λ old.
    ap (table (tensor_length g)) (fun_ext (λ e.
    changed_entry_over_moments g changed v (λ p mask. at old (spot g p mask)) g.axes (mask_at g e) (place_at g e)))))))

-- ---- the theorem

-- Whatever the branch answers, these are the rules' own, as functions: for every condition, number of points, knots, samples, changed place
-- and tensor. No public call solves for moments but through them.
pub branch_never_reached :
    (b : Branch)
    → (moments_with_branch b ≡ moments)
    × (tensor_over (moments_with_branch b) ≡ tensor)
    × (changed_tensor_over (moments_with_branch b) ≡ changed_tensor)
branch_never_reached b = (
  moments_same b,
  ap tensor_over (moments_same b) ∙ tensor_over_moments,
  ap changed_tensor_over (moments_same b) ∙ changed_tensor_over_moments,
)
