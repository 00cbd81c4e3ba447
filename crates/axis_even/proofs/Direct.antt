-- The quotient as a whole number: `truncating_f64_to_u64` is asked where it may be, and gives the index; and what the cell is then.
use Rattle.std.proofs.Common.{◌≡◌, ℕ, ◌+◌, ◌-◌, ◌*◌, ◌/◌, ◌^◌, ◌<◌, ◌≤◌, min, Bool, true, false, cond, T, pos, sym, refl, ap, ◌∙◌, subst, div-lt_iff_lt-mul, one-mul, mul-one, arith, ltb-false, ltb-true, lt-ltb}
use native.Mathlib.Nat.{zero-div}
use lib.Ieee as Ieee
use lib.Ieee.{Float, nan, inf, fin, up, down, lt, to_unsigned}
use lib.Ieee.Fits.{down_pos}
use Rattle.rules.specs.Numbers.{◌⊖◌, ◌⊘◌, plus_zero}
use Rattle.rules.specs.Even.{first_too_large, whole_part, as_index, direct_cell}
use Rattle.rules.proofs.Cases.{not_both}

-- what is not below zero, and below 2 to the 64, is above -1
pub above_minus_one : (t : Float) → lt t plus_zero ≡ false → lt t first_too_large ≡ true → T (lt (fin true 1 (pos 0)) t)
unfolding Ieee.of_bits lt
above_minus_one nan a b = not_both false b refl
above_minus_one (inf true) a b = not_both true refl a
above_minus_one (inf false) a b = not_both false b refl
above_minus_one (fin false m e) a b =
    let d : 0 < down e = down_pos e in
    let k : 1 * 1 * down e ≡ down e = one-mul (down e) in
    subst T (sym (lt-ltb 0 (1 * 1 * down e + m * up e * 1) (omega arith))) tt
above_minus_one (fin true m e) a b =
    let d : 0 < down e = down_pos e in
    let k : 1 * 1 * down e ≡ down e = one-mul (down e) in
    let z : m * up e * 1 + 0 * 1 * down e ≤ 0 = ltb-false 0 (m * up e * 1 + 0 * 1 * down e) a in
    subst T (sym (lt-ltb (m * up e * 1) (1 * 1 * down e) (omega arith))) tt

under_the_top : (a c : ℕ) → a < c → min a (c - 1) ≡ a
under_the_top a c h = omega arith

-- there the cast gives the whole part
cast_is : (t : Float) → lt t plus_zero ≡ false → lt t first_too_large ≡ true → to_unsigned 64 t ≡ whole_part t
unfolding Ieee.of_bits lt to_unsigned whole_part
cast_is nan a b = not_both false b refl
cast_is (inf true) a b = not_both true refl a
cast_is (inf false) a b = not_both false b refl
cast_is (fin false m e) a b =
    let l : m * up e * 1 < 1 * 18446744073709551616 * down e = ltb-true (m * up e * 1) (1 * 18446744073709551616 * down e) b in
    let k : m * up e * 1 ≡ m * up e = mul-one (m * up e) in
    under_the_top (m * up e / down e) (2 ^ 64) ((div-lt_iff_lt-mul (down_pos e)).1 (omega arith))
cast_is (fin true m e) a b =
    let z : m * up e * 1 + 0 * 1 * down e ≤ 0 = ltb-false 0 (m * up e * 1 + 0 * 1 * down e) a in
    let k : m * up e * 1 ≡ m * up e = mul-one (m * up e) in
    let n : m * up e ≡ 0 = omega arith in
    sym (ap (λ (j : ℕ). j / down e) n ∙ zero-div (down e))

module _ (first step : Float) (points : ℕ) (p : Float) where
  pub direct_below : lt ((p ⊖ first) ⊘ step) plus_zero ≡ true → 0 ≡ direct_cell first step points p
  unfolding direct_cell
  direct_below a = cc

  module _ (a : lt ((p ⊖ first) ⊘ step) plus_zero ≡ false) where
    pub direct_is : direct_cell first step points p ≡ min (as_index ((p ⊖ first) ⊘ step)) (points - 2)
    unfolding direct_cell
    direct_is = ap (λ (b : Bool). cond b 0 (min (as_index ((p ⊖ first) ⊘ step)) (points - 2))) a

    pub direct_too_large : lt ((p ⊖ first) ⊘ step) first_too_large ≡ false → 0 ≡ direct_cell first step points p
    unfolding as_index
    direct_too_large b =
        sym
        (direct_is ∙ ap (λ (u : Bool). min (cond u (whole_part ((p ⊖ first) ⊘ step)) 0) (points - 2)) b
        ∙ (let z : min 0 (points - 2) ≡ 0 = omega arith in z))

    -- the cast's number, and the last cell where that is less
    pub direct_held : lt ((p ⊖ first) ⊘ step) first_too_large ≡ true → (index r : ℕ) → index ≡ to_unsigned 64 ((p ⊖ first) ⊘ step)
        → r ≡ min index (points - 2) → r ≡ direct_cell first step points p
    unfolding as_index
    direct_held b index r cast held =
        held
        ∙ ap (λ (j : ℕ). min j (points - 2)) (cast ∙ cast_is ((p ⊖ first) ⊘ step) a b)
        ∙ sym (direct_is ∙ ap (λ (u : Bool). min (cond u (whole_part ((p ⊖ first) ⊘ step)) 0) (points - 2)) b)
