-- An end, a condition and a mode are told by their numbers: what is read back from them is what they were.
use mathlib.Core.Path.{◌≡◌, refl, ◌∙◌}
use mathlib.Core.Bool.{false}
use Prim.Native.Nat.{ℕ, zero, suc}
use native.Mathlib.Omega.{arith}
use borrow.Author.Tests.{ltb-false}
use Rattle.rules.specs.declared.End.{End}
use Rattle.rules.specs.declared.End.TheVariants.{NotAKnot, FirstDerivative, SecondDerivative}
use Rattle.rules.specs.declared.Condition.{Condition}
use Rattle.rules.specs.declared.Condition.TheVariants.{Endpoints, Periodic}
use Rattle.rules.specs.Outside.{mode_number}
use Rattle.rules.specs.declared.Mode.{Mode}
use Rattle.rules.specs.declared.Mode.TheVariants.{Extend, Hold, Refuse}
use Rattle.grid_codes.specs.Modes.{unknown_mode, mode_of_number}
use Rattle.grid_codes.specs.Kinds.{
  end_of_kind,
  condition_of_kind,
  kind_of_end,
  value_of_end,
  lower_kind_of,
  upper_kind_of,
  lower_value_of,
  upper_value_of,
}

end_again : (end : End) → end_of_kind (kind_of_end end) (value_of_end end) ≡ end
unfolding end_of_kind
end_again NotAKnot = refl
end_again (FirstDerivative value) = refl
end_again (SecondDerivative value) = refl

-- a condition of an end's own kind is not periodic
pub lower_not_periodic : (lower : End) (a b : End) → condition_of_kind (kind_of_end lower) a b ≡ Endpoints a b
unfolding condition_of_kind
lower_not_periodic NotAKnot a b = refl
lower_not_periodic (FirstDerivative value) a b = refl
lower_not_periodic (SecondDerivative value) a b = refl

-- the condition that the numbers of a condition give
abbrev pub told : Condition → Condition
told c =
    condition_of_kind (lower_kind_of c)
    (end_of_kind (lower_kind_of c) (lower_value_of c))
    (end_of_kind (upper_kind_of c) (upper_value_of c))

pub condition_again : (c : Condition) → told c ≡ c
unfolding condition_of_kind
condition_again (Endpoints lower upper) = lower_not_periodic lower _ _ ∙ rw (end_again lower, end_again upper)
condition_again Periodic = refl

pub mode_again : (mode : Mode) → mode_of_number (mode_number mode) ≡ mode
unfolding mode_of_number
mode_again Extend = refl
mode_again Hold = refl
mode_again Refuse = refl

-- the number of a mode is that of one
pub mode_known : (mode : Mode) → unknown_mode (mode_number mode) ≡ false
mode_known Extend = refl
mode_known Hold = refl
mode_known Refuse = refl

-- and a number that is that of a mode is read back too
pub number_again : (number : ℕ) → unknown_mode number ≡ false → mode_number (mode_of_number number) ≡ number
unfolding mode_of_number
number_again zero known = refl
number_again (suc zero) known = refl
number_again (suc (suc zero)) known = refl
number_again (suc (suc (suc number))) known = let few = ltb-false 2 (suc (suc (suc number))) known in absurd (omega (arith, few))
