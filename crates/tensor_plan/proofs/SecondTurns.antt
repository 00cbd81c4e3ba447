-- The turns of `second_forth` and of `second_back`, on the way forth and on the way back.
use native.Mathlib.Omega.{arith}
use mathlib.Core.Path.{◌≡◌, refl, sym, subst, ◌∙◌}
use mathlib.Core.Logic.{◌≢◌, ⊎_elim}
use mathlib.Core.List.{List}
use Prim.Native.Nat.{ℕ, ◌+◌, ◌-◌, ◌<◌, ◌≤◌}
use native.Mathlib.Nat.{eq-or-lt_of_le}
use lib.ListN.{length, set, length-set}
use lib.Seq.{get_or-set_same, get_or-set_other}
use lib.Ieee.{Float, nan}
use Rattle.rules.specs.Numbers.{at, ◌⊖◌, ◌⊗◌, ◌⊘◌, plus_zero}
use Rattle.tensor_plan.specs.Cycle.{SecondForth, SecondBack}
use Rattle.tensor_plan.specs.PlanOfEnds.{Room}

-- on the way forth: with the z in hand stored at k, the rows below k + 1 have theirs
pub record ForthTurn (w₀ w : List Float) (l : ℕ) (z₀ z : Float) (k : ℕ) : Type 0 where
  pub given : Room w₀ l
  pub most : k < l
  pub same_length : length w ≡ length w₀
  pub done : SecondForth w₀ (set w (384 + k) z) (k + 1) z₀

pub forth_first : (w : List Float) (l : ℕ) (z : Float) → Room w l → 0 < l → ForthTurn w w l z z 0
forth_first w l z given some = record {
  given = given;
  most = some;
  same_length = refl;
  done = record {
    same_length = simp length-set;
    first = get_or-set_same w 384 z nan (omega (arith, given));
    next = λ k lt. absurd (omega arith);
    kept = λ j out. get_or-set_other w 384 j z nan (out 0 (omega arith));
  };
}

module _ (w₀ w : List Float) (l : ℕ) (z₀ z : Float) (k : ℕ) (t : ForthTurn w₀ w l z₀ z k) (below : k + 1 < l) where
  given : Room w₀ l
  given = t.given

  abbrev w₁ : List Float
  w₁ = set w (384 + k) z

  abbrev next_z : Float
  next_z = (plus_zero ⊖ at w₁ k ⊗ z) ⊘ at w₁ (128 + (k + 1))

  abbrev w₂ : List Float
  w₂ = set w₁ (384 + (k + 1)) next_z

  long : length w₁ ≡ length w₀
  long = simp length-set t.same_length

  other : (j : ℕ) → j ≢ 384 + (k + 1) → at w₂ j ≡ at w₁ j
  other j off = get_or-set_other w₁ (384 + (k + 1)) j next_z nan off

  here : at w₂ (384 + (k + 1)) ≡ (plus_zero ⊖ at w₀ k ⊗ at w₂ (384 + k)) ⊘ at w₀ (128 + (k + 1))
  here =
      cc (
        get_or-set_same w₁ (384 + (k + 1)) next_z nan (omega (arith, long, given)),
        t.done.kept k (λ i b. omega (arith, given)),
        t.done.kept (128 + (k + 1)) (λ i b. omega (arith, given)),
        other (384 + k) (omega arith),
        get_or-set_same w (384 + k) z nan (omega (arith, t.same_length, given)),
      )

  pub forth_next : ForthTurn w₀ w₁ l z₀ next_z (k + 1)
  forth_next = record {
    given = given;
    most = below;
    same_length = long;
    done = record {
      same_length = simp length-set t.same_length;
      first = other 384 (omega arith) ∙ t.done.first;
      next = λ i lt. ⊎_elim
          (λ e. subst (λ (i : ℕ). at w₂ (384 + (i + 1)) ≡ (plus_zero ⊖ at w₀ i ⊗ at w₂ (384 + i)) ⊘ at w₀ (128 + (i + 1))) (sym e) here)
          (λ less. rw (other (384 + (i + 1)) (omega arith), other (384 + i) (omega arith)) (t.done.next i (omega arith)))
          (eq-or-lt_of_le (let le : i ≤ k = omega arith in le));
      kept = λ j out. other j (out (k + 1) (omega (arith, given))) ∙ t.done.kept j out;
    };
  }

pub forth_last :
    (w₀ w : List Float) (l : ℕ) (z₀ z : Float) (k : ℕ) → ForthTurn w₀ w l z₀ z k → l ≤ k + 1 → SecondForth w₀ (set w (384 + k) z) l z₀
forth_last w₀ w l z₀ z k t ge = let e : k + 1 ≡ l = omega (arith, t.most) in rw e at t.done

-- on the way back: z in hand is number k of the result
pub record BackTurn (w₀ w : List Float) (l : ℕ) (z : Float) (k : ℕ) : Type 0 where
  pub given : Room w₀ l
  pub most : k ≤ l
  pub z_is : z ≡ at w (384 + k)
  pub done : SecondBack w₀ w k l

pub back_first : (w : List Float) (l : ℕ) → Room w l → BackTurn w w l (at w (384 + l)) l
back_first w l given = record {
  given = given;
  most = omega arith;
  z_is = refl;
  done = record { same_length = refl; top = refl; next = λ k ge lt. absurd (omega arith); below = λ k lt. refl; kept = λ j out. refl };
}

module _ (w₀ w : List Float) (l : ℕ) (z : Float) (k : ℕ) (t : BackTurn w₀ w l z k) (more : 0 < k) where
  room : Room w₀ l
  room = t.given

  abbrev x : Float
  x = at w (384 + (k - 1)) ⊖ at w (256 + (k - 1)) ⊗ z

  abbrev v : List Float
  v = set w (384 + (k - 1)) x

  off : (j : ℕ) → j ≢ 384 + (k - 1) → at v j ≡ at w j
  off j apart = get_or-set_other w (384 + (k - 1)) j x nan apart

  there : at v (384 + (k - 1)) ≡ x
  there = get_or-set_same w (384 + (k - 1)) x nan (omega (arith, room, t.done.same_length, t.most))

  now_is : at v (384 + (k - 1)) ≡ at w₀ (384 + (k - 1)) ⊖ at w₀ (256 + (k - 1)) ⊗ at v (384 + (k - 1 + 1))
  now_is =
      let e : k - 1 + 1 ≡ k = omega arith in
      rw e
      (cc (
        there,
        t.done.below (k - 1) (omega arith),
        t.done.kept (256 + (k - 1)) (λ i b. omega (arith, room, t.most)),
        t.z_is,
        off (384 + k) (omega arith),
      ))

  pub back_next : BackTurn w₀ v l x (k - 1)
  back_next = record {
    given = room;
    most = omega (arith, t.most);
    z_is = sym there;
    done = record {
      same_length = simp length-set t.done.same_length;
      top = off (384 + l) (omega (arith, t.most)) ∙ t.done.top;
      next = λ j ge lt. ⊎_elim
          (λ e. subst (λ (i : ℕ). at v (384 + i) ≡ at w₀ (384 + i) ⊖ at w₀ (256 + i) ⊗ at v (384 + (i + 1))) e now_is)
          (λ above. rw (off (384 + j) (omega arith), off (384 + (j + 1)) (omega arith)) (t.done.next j (omega arith) lt))
          (eq-or-lt_of_le ge);
      below = λ j lt. off (384 + j) (omega arith) ∙ t.done.below j (omega arith);
      kept = λ j out. off j (out (k - 1) (omega (arith, room, t.most))) ∙ t.done.kept j out;
    };
  }

pub back_last : (w₀ w : List Float) (l : ℕ) (z : Float) (k : ℕ) → BackTurn w₀ w l z k → k ≤ 0 → SecondBack w₀ w 0 l
back_last w₀ w l z k t le = let e : k ≡ 0 = omega arith in rw e at t.done
