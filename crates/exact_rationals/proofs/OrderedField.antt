-- The rational numbers are an ordered field.
use mathlib.Core.Path.{sym, subst}
use Rattle.exact_arithmetic.specs.Arithmetic.{IsField, IsOrdered}
use Rattle.exact_rationals.proofs.RationalLaws as Q
use Rattle.exact_rationals.specs.Rationals.{rationals, number, Positive}

positive_six : Positive (number 6)
positive_six =
    subst Positive (sym Q.six_is) (Q.positive_plus (number 3) (number 3) positive_three positive_three)
  where
    positive_two : Positive (number 2)
    positive_two = subst Positive (sym Q.two_is) (Q.positive_plus (number 1) (number 1) Q.positive_one Q.positive_one)

    positive_three : Positive (number 3)
    positive_three = subst Positive (sym Q.three_is) (Q.positive_plus (number 2) (number 1) positive_two Q.positive_one)

pub rationals_are_a_field : IsField rationals
rationals_are_a_field =
    record {
      plus_assoc = Q.plus_assoc;
      plus_comm = Q.plus_comm;
      plus_nought = Q.plus_nought;
      plus_negative = Q.plus_negative;
      times_assoc = Q.times_assoc;
      times_comm = Q.times_comm;
      times_one = Q.times_one;
      times_plus = Q.times_plus;
      minus_is = Q.minus_is;
      two_is = Q.two_is;
      three_is = Q.three_is;
      six_is = Q.six_is;
      over_times = Q.over_times;
      one_not_nought = Q.positive_not_nought (number 1) Q.positive_one;
      six_not_nought = Q.positive_not_nought (number 6) positive_six;
    }

abbrev pub rationals_are_ordered : IsOrdered rationals
rationals_are_ordered =
    record {
      Positive = Positive;
      positive_one = Q.positive_one;
      positive_plus = Q.positive_plus;
      positive_times = Q.positive_times;
      positive_over = Q.positive_over;
      positive_not_nought = Q.positive_not_nought;
    }
