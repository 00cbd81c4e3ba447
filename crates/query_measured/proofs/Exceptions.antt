-- What is not promised, computed.
use mathlib.Core.Path.{refl}
use lib.Ieee as Ieee
use Rattle.rules.specs.Numbers.{any}
use Rattle.rules.specs.Sizes.{sum_below, product_below}
use Rattle.rules.specs.Refusals.{step_refused}
use Rattle.rules.specs.Moments.{moments}
use Rattle.rules.specs.Calls.{curve_answer, query_answer}
use Rattle.rules.specs.EvenCalls.{even_query_answer}
use Rattle.query_measured.specs.Exceptions.{Exceptions}

pub exceptions : Exceptions
unfolding any sum_below product_below step_refused moments curve_answer query_answer even_query_answer Ieee.add Ieee.sub Ieee.mul Ieee.div
    Ieee.neg Ieee.lt Ieee.le Ieee.eq Ieee.of_bits
exceptions = record {
  curve = λ given promise. rw promise.answer (refl, refl);
  even_axis = λ given promise. rw promise.answer refl;
  infinite_slope = λ given promise. rw promise.answer refl;
  sign_of_a_zero = λ given promise. rw promise.answer refl;
}
