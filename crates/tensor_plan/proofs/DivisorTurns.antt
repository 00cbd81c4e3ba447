-- The turns of `divisors`: with the pair in hand stored at knot k, the knots from low to k have theirs.
use native.Mathlib.Omega.{arith}
use mathlib.Core.Path.{◌≡◌, refl, sym, subst, ◌∙◌}
use mathlib.Core.Logic.{◌≢◌, ⊎_elim}
use mathlib.Core.List.{List}
use Prim.Native.Nat.{ℕ, ◌+◌, ◌<◌, ◌≤◌}
use native.Mathlib.Nat.{eq-or-lt_of_le}
use lib.ListN.{length, set, length-set}
use lib.Seq.{get_or-set_same, get_or-set_other}
use lib.Ieee.{Float, nan}
use Rattle.rules.specs.Numbers.{at, ◌⊕◌, ◌⊖◌, ◌⊗◌, ◌⊘◌, two}
use Rattle.tensor_plan.specs.PlanOfEnds.{Room, Divided}

-- the list once the pair in hand is stored
module _ (w : List Float) (k : ℕ) (d c : Float) where
  abbrev pub pair : List Float
  pair = set (set w (128 + k) d) (256 + k) c

  other : (j : ℕ) → j ≢ 128 + k → j ≢ 256 + k → at pair j ≡ at w j
  other j a b = get_or-set_other (set w (128 + k) d) (256 + k) j c nan b ∙ get_or-set_other w (128 + k) j d nan a

  module _ (room : 2048 ≤ length w) (few : k < 128) where
    at_d : at pair (128 + k) ≡ d
    at_d = get_or-set_other (set w (128 + k) d) (256 + k) (128 + k) c nan (omega arith) ∙ get_or-set_same w (128 + k) d nan (omega arith)

    at_c : at pair (256 + k) ≡ c
    at_c = get_or-set_same (set w (128 + k) d) (256 + k) c nan (simp length-set (omega arith))

pub record Turn (w₀ w : List Float) (low last : ℕ) (d₀ c₀ d c : Float) (k : ℕ) : Type 0 where
  pub given : Room w₀ last
  pub least : low ≤ k
  pub most : k < last
  pub same_length : length w ≡ length w₀
  pub done : Divided w₀ (pair w k d c) low (k + 1) d₀ c₀

pub turn_first : (w : List Float) (low last : ℕ) (d c : Float) → Room w last → low < last → Turn w w low last d c d c low
turn_first w low last d c given some = record {
  given = given;
  least = omega arith;
  most = some;
  same_length = refl;
  done = record {
    same_length = simp length-set;
    first_divisor = at_d w low d c given.room (omega (arith, given));
    first_helper = at_c w low d c given.room (omega (arith, given));
    next_divisor = λ k lt ge. absurd (omega arith);
    next_helper = λ k lt ge. absurd (omega arith);
    kept = λ j o. other w low d c j (o low (omega (arith, given))) (omega (arith, o (128 + low) (omega (arith, given))));
  };
}

module _ (w₀ w : List Float) (low last : ℕ) (d₀ c₀ d c : Float) (k : ℕ) (t : Turn w₀ w low last d₀ c₀ d c k) (below : k + 1 < last) where
  given : Room w₀ last
  given = t.given

  abbrev w₁ : List Float
  w₁ = pair w k d c

  abbrev next_d : Float
  next_d = two ⊗ (at w₁ k ⊕ at w₁ (k + 1)) ⊖ at w₁ k ⊗ c

  abbrev next_c : Float
  next_c = at w₁ (k + 1) ⊘ next_d

  abbrev w₂ : List Float
  w₂ = pair w₁ (k + 1) next_d next_c

  long : length w₁ ≡ length w₀
  long = simp length-set t.same_length

  step_kept : (i : ℕ) → i < 128 → at w₁ i ≡ at w₀ i
  step_kept i lt = t.done.kept i (λ m h. omega arith)

  there_d : at w₂ (128 + (k + 1)) ≡ next_d
  there_d = at_d w₁ (k + 1) next_d next_c (omega (arith, long, given.room)) (omega (arith, given.few))

  there_c : at w₂ (256 + (k + 1)) ≡ next_c
  there_c = at_c w₁ (k + 1) next_d next_c (omega (arith, long, given.room)) (omega (arith, given.few))

  helper_kept : (i : ℕ) → i ≤ k → at w₂ (256 + i) ≡ at w₁ (256 + i)
  helper_kept i le = other w₁ (k + 1) next_d next_c (256 + i) (omega (arith, given.few)) (omega arith)

  divisor_kept : (i : ℕ) → i ≤ k → at w₂ (128 + i) ≡ at w₁ (128 + i)
  divisor_kept i le = other w₁ (k + 1) next_d next_c (128 + i) (omega arith) (omega (arith, given.few))

  here_d : at w₂ (128 + (k + 1)) ≡ two ⊗ (at w₀ k ⊕ at w₀ (k + 1)) ⊖ at w₀ k ⊗ at w₂ (256 + k)
  here_d =
      cc (
        there_d,
        step_kept k (omega (arith, given.few)),
        step_kept (k + 1) (omega (arith, given.few)),
        helper_kept k (omega arith),
        at_c w k d c (omega (arith, t.same_length, given.room)) (omega (arith, given.few)),
      )

  here_c : at w₂ (256 + (k + 1)) ≡ at w₀ (k + 1) ⊘ at w₂ (128 + (k + 1))
  here_c = cc (there_c, there_d, step_kept (k + 1) (omega (arith, given.few)))

  pub turn_next : Turn w₀ w₁ low last d₀ c₀ next_d next_c (k + 1)
  turn_next = record {
    given = given;
    least = omega (arith, t.least);
    most = below;
    same_length = long;
    done = record {
      same_length = simp length-set t.same_length;
      first_divisor = divisor_kept low t.least ∙ t.done.first_divisor;
      first_helper = helper_kept low t.least ∙ t.done.first_helper;
      next_divisor = λ i lt ge. ⊎_elim
          (λ e. subst (λ (i : ℕ). at w₂ (128 + (i + 1)) ≡ two ⊗ (at w₀ i ⊕ at w₀ (i + 1)) ⊖ at w₀ i ⊗ at w₂ (256 + i)) (sym e) here_d)
          (λ less. rw (divisor_kept (i + 1) (omega arith), helper_kept i (omega arith)) (t.done.next_divisor i (omega arith) ge))
          (eq-or-lt_of_le (let le : i ≤ k = omega arith in le));
      next_helper = λ i lt ge. ⊎_elim
          (λ e. subst (λ (i : ℕ). at w₂ (256 + (i + 1)) ≡ at w₀ (i + 1) ⊘ at w₂ (128 + (i + 1))) (sym e) here_c)
          (λ less. rw (helper_kept (i + 1) (omega arith), divisor_kept (i + 1) (omega arith)) (t.done.next_helper i (omega arith) ge))
          (eq-or-lt_of_le (let le : i ≤ k = omega arith in le));
      kept = λ j o.
          other w₁ (k + 1) next_d next_c j (o (k + 1) (omega (arith, given.few)))
          (omega (arith, o (128 + (k + 1)) (omega (arith, given.few))))
          ∙ t.done.kept j o;
    };
  }

pub turn_last :
    (w₀ w : List Float) (low last : ℕ) (d₀ c₀ d c : Float) (k : ℕ) → Turn w₀ w low last d₀ c₀ d c k → last ≤ k + 1
    → Divided w₀ (pair w k d c) low last d₀ c₀
turn_last w₀ w low last d₀ c₀ d c k t ge = let e : k + 1 ≡ last = omega (arith, t.most) in rw e at t.done
