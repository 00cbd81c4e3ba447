-- The turns of `interior_rows`, on plain lists: each leaves one more interior row of the definition.
use native.Mathlib.Omega.{arith}
use mathlib.Core.Path.{◌≡◌, refl, sym, ap, ap₂, ◌∙◌}
use mathlib.Core.Logic.{◌≢◌, ◌⊎◌, inl, inr, ⊎_elim}
use mathlib.Core.List.{List}
use Prim.Native.Nat.{ℕ, ◌+◌, ◌-◌, ◌<◌, ◌≤◌}
use native.Mathlib.Nat.{eq-or-lt_of_le}
use lib.ListN.{length, set, length-set}
use lib.Seq.{get_or-set_same, get_or-set_other, get_or-take}
use lib.Ieee.{Float, nan}
use borrow.Author.Count.{below_more}
use Rattle.rules.specs.Numbers.{at, ◌⊕◌, ◌⊖◌, ◌⊗◌, ◌⊘◌, two, six}
use Rattle.rules.specs.Steps.{h, s, u}
use Rattle.grid_scratch.specs.Layout.{row, Outside}
use Rattle.axis_rows.specs.Rows.{samples_in, RowsFit, InteriorRows}

-- y has the samples that w has
abbrev pub SamplesOf : List Float → List Float → List Float → Type 0
SamplesOf w x y = (i : ℕ) → i < length x → at y i ≡ at w i

-- the rows below j are done; h and s of the step before row j's knot are known
pub record Turn (w₀ w x y : List Float) (start stop : ℕ) (h_before s_before : Float) (j : ℕ) : Type 0 where
  pub given : RowsFit w₀ x
  pub fit : start + stop < length x
  pub samples : SamplesOf w₀ x y
  pub least : 0 < j
  pub most : j ≤ stop
  pub same_length : length w ≡ length w₀
  pub h_is : h_before ≡ h x (start + j - 1)
  pub s_is : s_before ≡ s x y (start + j - 1)
  pub sub : (k : ℕ) → k + 1 < j → row w 256 k ≡ h x (start + k)
  pub diag : (k : ℕ) → k < j → 0 < k → row w 512 k ≡ two ⊗ (h x (start + k - 1) ⊕ h x (start + k))
  pub sup : (k : ℕ) → k < j → 0 < k → row w 768 k ≡ h x (start + k)
  pub rhs : (k : ℕ) → k < j → 0 < k → row w 1024 k ≡ u x y (start + k - 1)
  pub kept : (k : ℕ) → Outside 256 1024 k → at w k ≡ at w₀ k

-- the step at i, from numbers that are read as the code reads them
h_at : (x : List Float) (i k : ℕ) → k ≡ i → at x (i + 1) ⊖ at x i ≡ h x k
unfolding h
h_at x i k e = ap (λ (m : ℕ). at x (m + 1) ⊖ at x m) (sym e)

s_at : (x y w : List Float) (i k : ℕ) → k ≡ i → at y (i + 1) ≡ at w (i + 1) → at y i ≡ at w i
    → (at w (i + 1) ⊖ at w i) ⊘ (at x (i + 1) ⊖ at x i) ≡ s x y k
unfolding s
s_at x y w i k e upper lower = rw (← upper, ← lower, e)

-- the front of the scratch has its samples
front_samples : (w x : List Float) → SamplesOf w x (samples_in w x)
front_samples w x i below = get_or-take (length x) w i nan below

pub turn_first :
    (w x : List Float) (start stop : ℕ) → RowsFit w x → start + stop < length x → 0 < stop
    → Turn w w x (samples_in w x) start stop
    (at x (start + 1) ⊖ at x start) ((at w (start + 1) ⊖ at w start) ⊘ (at x (start + 1) ⊖ at x start)) 1
turn_first w x start stop given fit more = record {
  given = given;
  fit = fit;
  samples = front_samples w x;
  least = omega arith;
  most = omega arith;
  same_length = refl;
  h_is = h_at x start (start + 1 - 1) (omega arith);
  s_is =
      s_at x (samples_in w x) w start (start + 1 - 1) (omega arith)
      (front_samples w x (start + 1) (omega arith)) (front_samples w x start (omega arith));
  sub = λ k below. absurd (omega arith);
  diag = λ k below more. absurd (omega arith);
  sup = λ k below more. absurd (omega arith);
  rhs = λ k below more. absurd (omega arith);
  kept = λ k outside. refl;
}

-- four stores, one in each row
module _ (w : List Float) (j : ℕ) (a b c d : Float) where
  abbrev w₁ : List Float
  w₁ = set w (255 + j) a

  abbrev w₂ : List Float
  w₂ = set w₁ (512 + j) b

  abbrev w₃ : List Float
  w₃ = set w₂ (768 + j) c

  abbrev w₄ : List Float
  w₄ = set w₃ (1024 + j) d

  at_other : (k : ℕ) → k ≢ 255 + j → k ≢ 512 + j → k ≢ 768 + j → k ≢ 1024 + j → at w₄ k ≡ at w k
  at_other k in_sub in_diag in_sup in_rhs =
      get_or-set_other w₃ (1024 + j) k d nan in_rhs
      ∙ get_or-set_other w₂ (768 + j) k c nan in_sup
      ∙ get_or-set_other w₁ (512 + j) k b nan in_diag
      ∙ get_or-set_other w (255 + j) k a nan in_sub

  module _ (room : 2048 ≤ length w) (most : j < 256) where
    at_sub : at w₄ (255 + j) ≡ a
    at_sub =
        get_or-set_other w₃ (1024 + j) (255 + j) d nan (omega arith)
        ∙ get_or-set_other w₂ (768 + j) (255 + j) c nan (omega arith)
        ∙ get_or-set_other w₁ (512 + j) (255 + j) b nan (omega arith)
        ∙ get_or-set_same w (255 + j) a nan (omega arith)

    at_diag : at w₄ (512 + j) ≡ b
    at_diag =
        get_or-set_other w₃ (1024 + j) (512 + j) d nan (omega arith)
        ∙ get_or-set_other w₂ (768 + j) (512 + j) c nan (omega arith)
        ∙ get_or-set_same w₁ (512 + j) b nan (simp length-set (omega arith))

    at_sup : at w₄ (768 + j) ≡ c
    at_sup =
        get_or-set_other w₃ (1024 + j) (768 + j) d nan (omega arith)
        ∙ get_or-set_same w₂ (768 + j) c nan (simp length-set (omega arith))

    at_rhs : at w₄ (1024 + j) ≡ d
    at_rhs = get_or-set_same w₃ (1024 + j) d nan (simp length-set (omega arith))

module _
    (w₀ w x y : List Float) (start stop : ℕ) (h_before s_before : Float) (j : ℕ)
    (t : Turn w₀ w x y start stop h_before s_before j) (lt : j < stop)
  where
    abbrev next_h : Float
    next_h = at x (start + j + 1) ⊖ at x (start + j)

    abbrev next_s : Float
    next_s = (at w (start + j + 1) ⊖ at w (start + j)) ⊘ next_h

    abbrev d : Float
    d = two ⊗ (h_before ⊕ next_h)

    abbrev r : Float
    r = six ⊗ (next_s ⊖ s_before)

    abbrev next_w : List Float
    next_w = w₄ w j h_before d next_h r

    room : 2048 ≤ length w
    room = omega (arith, t.given, t.same_length)

    small : j < 256
    small = omega (arith, t.given, t.fit)

    sample_at : (i : ℕ) → i < length x → at y i ≡ at w i
    sample_at i below = t.samples i below ∙ sym (t.kept i (λ k less. omega (arith, t.given)))

    h_next : next_h ≡ h x (start + j)
    h_next = h_at x (start + j) (start + j) refl

    s_next : next_s ≡ s x y (start + j)
    s_next =
        s_at x y w (start + j) (start + j) refl
        (sample_at (start + j + 1) (omega (arith, t.fit))) (sample_at (start + j) (omega (arith, t.fit)))

    u_here : r ≡ u x y (start + j - 1)
    unfolding u
    u_here =
        ap₂ (λ (p q : Float). six ⊗ (p ⊖ q))
        (s_next ∙ ap (s x y) (let e : start + j ≡ start + j - 1 + 1 = omega (arith, t.least) in e)) t.s_is

    -- the rows that stood before stand still
    old : (base k : ℕ) → (base ≡ 512) ⊎ (base ≡ 768) ⊎ (base ≡ 1024) → k < j → row next_w base k ≡ row w base k
    old base k is below =
        ⊎_elim (λ e. other (omega (arith, small)) (omega arith) (omega (arith, small)) (omega (arith, small)))
        (⊎_elim (λ e. other (omega (arith, small)) (omega (arith, small)) (omega arith) (omega (arith, small)))
        (λ e. other (omega (arith, small)) (omega (arith, small)) (omega (arith, small)) (omega arith))) is
      where
        other : base + k ≢ 255 + j → base + k ≢ 512 + j → base + k ≢ 768 + j → base + k ≢ 1024 + j → row next_w base k ≡ row w base k
        other = at_other w j h_before d next_h r (base + k)

    sub_next : (k : ℕ) → k < j → row next_w 256 k ≡ h x (start + k)
    sub_next k below =
        ⊎_elim
        (λ last.
        ap (at next_w) (let e : 256 + k ≡ 255 + j = omega arith in e)
        ∙ at_sub w j h_before d next_h r room small
        ∙ t.h_is
        ∙ ap (h x) (let e : start + j - 1 ≡ start + k = omega arith in e))
        (λ before.
        at_other w j h_before d next_h r (256 + k) (omega arith) (omega (arith, small)) (omega (arith, small)) (omega (arith, small))
        ∙ t.sub k before)
        (eq-or-lt_of_le (let le : k + 1 ≤ j = omega arith in le))

    pub turn_next : Turn w₀ next_w x y start stop next_h next_s (j + 1)
    turn_next = record {
      given = t.given;
      fit = t.fit;
      samples = t.samples;
      least = omega arith;
      most = omega arith;
      same_length = simp length-set t.same_length;
      h_is = h_next ∙ ap (h x) (let e : start + j ≡ start + (j + 1) - 1 = omega arith in e);
      s_is = s_next ∙ ap (s x y) (let e : start + j ≡ start + (j + 1) - 1 = omega arith in e);
      sub = λ k below. sub_next k (omega arith);
      diag =
          below_more _ j (λ k below more. old 512 k (inl refl) below ∙ t.diag k below more)
          (λ more. at_diag w j h_before d next_h r room small ∙ ap₂ (λ (p q : Float). two ⊗ (p ⊕ q)) t.h_is h_next);
      sup =
          below_more _ j (λ k below more. old 768 k (inr (inl refl)) below ∙ t.sup k below more)
          (λ more. at_sup w j h_before d next_h r room small ∙ h_next);
      rhs =
          below_more _ j (λ k below more. old 1024 k (inr (inr refl)) below ∙ t.rhs k below more)
          (λ more. at_rhs w j h_before d next_h r room small ∙ u_here);
      kept = λ k outside.
          at_other w j h_before d next_h r k
          (λ e. outside (j - 1) (omega (arith, small)) (omega (arith, t.least)))
          (λ e. outside (256 + j) (omega (arith, small)) (omega arith))
          (λ e. outside (512 + j) (omega (arith, small)) (omega arith))
          (λ e. outside (768 + j) (omega (arith, small)) (omega arith))
          ∙ t.kept k outside;
    }

pub turn_last :
    (w₀ w x y : List Float) (start stop : ℕ) (h_before s_before : Float) (j : ℕ)
    → Turn w₀ w x y start stop h_before s_before j → stop ≤ j → InteriorRows w₀ w x y start stop
turn_last w₀ w x y start stop h_before s_before j t ge = record {
  same_length = t.same_length;
  sub = λ k below. t.sub k (omega (arith, t.most));
  diag = λ k more below. t.diag k (omega (arith, t.most)) more;
  sup = λ k more below. t.sup k (omega (arith, t.most)) more;
  rhs = λ k more below. t.rhs k (omega (arith, t.most)) more;
  kept = t.kept;
}
