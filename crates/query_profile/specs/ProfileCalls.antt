-- The chapter ProfileCalls of docs/RULES.md: the refusal of the profile of even axes, and its answer.
use Rattle.std.specs.Prelude.{◌≡◌, cond, ℕ, ◌≤◌, eqb, length, Result, Ok, Err}
use Rattle.rules.specs.Sizes.{Grid, knots_length}
use Rattle.rules.specs.Refusals.{
  axes_refused,
  some_points_refused,
  tensor_refused,
  length_refused,
  some_number_refused,
  some_knots_refused,
}
use Rattle.rules.specs.Even.{some_uneven_refused}
use Rattle.query_even.specs.Qualities.{lacking_axis, lacking_place}
use Rattle.query_even.specs.declared.qualities.Quality.{Quality}
use Rattle.query_even.specs.declared.qualities.Quality.TheVariants.{Finite, Rising, Even}
use Rattle.rules.specs.Answers.{number_of}
use Rattle.query_profile.specs.declared.ProfileRefusal.{ProfileRefusal}
use Rattle.query_profile.specs.declared.ProfileRefusal.TheVariants.{Refused, NotFinite, NotRising, Uneven}

-- the answer, told in numbers as C is told it: the number of the refusal, 0 for none; after 7, 8 and 21 the lowest axis that is refused and
-- its first knot or interval that is, both 0 else
pub record EvenProfile : Type 0 where
  pub refusal : ℕ
  pub axis : ℕ
  pub place : ℕ

-- an answer of these numbers
abbrev pub profile_of : ℕ → ℕ → ℕ → EvenProfile
profile_of refusal axis place = record { refusal = refusal; axis = axis; place = place }

abbrev pub even_profile_told : {T : Type 0} → Result T ProfileRefusal → EvenProfile
even_profile_told (Ok given) = profile_of 0 0 0
even_profile_told (Err (Refused refusal)) = profile_of (number_of refusal) 0 0
even_profile_told (Err (NotFinite lack)) = profile_of 7 lack.axis lack.place
even_profile_told (Err (NotRising lack)) = profile_of 8 lack.axis lack.place
even_profile_told (Err (Uneven lack)) = profile_of 21 lack.axis lack.place

-- 7, 8 and 21 are given with what lacks the quality: a refusal that is given alone is 1, 2, 3 or 4
abbrev pub LackGiven : {T : Type 0} → Result T ProfileRefusal → Type 0
LackGiven (Ok given) = Unit {0}
LackGiven (Err (Refused refusal)) = number_of refusal ≤ 4
LackGiven (Err (NotFinite lack)) = Unit {0}
LackGiven (Err (NotRising lack)) = Unit {0}
LackGiven (Err (Uneven lack)) = Unit {0}

-- what is told of the quality that a refusal asks for, and 0 where it asks for none
abbrev pub told_of_lack : ℕ → (Quality → ℕ) → ℕ
told_of_lack refusal number =
    cond (eqb refusal 7) (number Finite) (cond (eqb refusal 8) (number Rising) (cond (eqb refusal 21) (number Even) 0))

module _ (g : Grid) where
  -- the refusal, the first of 1 2 3 4 7 8 21 that applies: those that the query of even axes has of its axes and knots
  unfoldable pub even_profile_refusal : ℕ
  even_profile_refusal =
      cond (axes_refused g) 1
      (cond (some_points_refused g) 2
      (cond (tensor_refused g) 3
      (cond (length_refused (length g.flat_knots) (knots_length g)) 4
      (cond (some_number_refused g.flat_knots) 7
      (cond (some_knots_refused g) 8
      (cond (some_uneven_refused g) 21 0))))))

  -- its answer: the refusal, and of what is refused the axis and the place
  unfoldable pub even_profile_answer : EvenProfile
  unfolding even_profile_refusal lacking_axis lacking_place
  even_profile_answer = record {
    refusal = even_profile_refusal;
    axis = told_of_lack even_profile_refusal (λ quality. lacking_axis quality g);
    place = told_of_lack even_profile_refusal (λ quality. lacking_place quality g);
  }

  -- what it promises: the answer
  pub record EvenProfilePromise (given : EvenProfile) : Type 0 where
    pub answer : given ≡ even_profile_answer
