-- Coordinates that are not finite are 7, and then the number that knots and samples met is the answer (`refusal_is`); where that is 0 the
-- axes are accepted, and the sample at the place of the steps, which lies among the samples, and its indices are.
use native.Mathlib.Omega.{arith}
use mathlib.Core.Path.{refl, sym, ap, ◌∙◌}
use Prim.Native.Nat.{◌<◌}
use lib.ListN.{length}
use Rattle.rules.specs.Answers.{refusal_of}
use Rattle.rules.proofs.Given.{err_given, number_some}
use Rattle.step_surface.proofs.Answers.{refused_by, refusal_is, axes_accepted, place_within, place_answers}
use Rattle.step_surface.proofs.answer.Goals as goal
use Rattle.step_surface.proofs.answer.Goals.{After-steps_on_axes-found}

-- the number of the place is that of a sample
within : (c : After-steps_on_axes-found) → c.steps_on_axes-found.result.number < length c.args.samples.now
within c =
    place_within _ _ _ c.args.samples.now _ c.requires.0 _ c.requires.1 _
    (sym c.any_not_finite.ensures ∙ c.if-any_not_finite.false) (ap refusal_of (c.in_ok-met.was)) _ _ c.steps_on_axes-found.ensures

pub returns-then-any_not_finite : goal.returns-then-any_not_finite
returns-then-any_not_finite c =
    λ all are.
    refused_by _ all _ _ _ _
    (refusal_is _ _ _ c.args.samples.now _ c.requires.0 _ c.requires.1 _ all are
    ∙ rw (sym c.any_not_finite.ensures ∙ c.if-any_not_finite.true) refl)
    (λ z. omega arith) _ refl

pub returns-in_err-met : goal.returns-in_err-met
returns-in_err-met c =
    λ all are.
    rw (err_given c.from_residual.result _ c.from_residual.ensures.1)
    (refused_by _ all _ _ _ _
    (refusal_is _ _ _ c.args.samples.now _ c.requires.0 _ c.requires.1 _ all are
    ∙ rw (sym c.any_not_finite.ensures ∙ c.if-any_not_finite.false, c.in_err-met.was) refl)
    (number_some _) _ refl)

pub steps_on_axes-found-requires : goal.steps_on_axes-found-requires
steps_on_axes-found-requires c = (
  c.requires.0.four_points,
  axes_accepted _ _ _ c.args.samples.now _ c.requires.0 _ c.requires.1 c.args.directions
      (sym c.any_not_finite.ensures ∙ c.if-any_not_finite.false) (ap refusal_of (c.in_ok-met.was)),
)

pub offset_bounds-samples-found : goal.offset_bounds-samples-found
offset_bounds-samples-found c = omega (arith, within (goal.at.offset_bounds-samples-found c).After-steps_on_axes-found)

pub bounds-samples-found : goal.bounds-samples-found
bounds-samples-found c = within (goal.at.bounds-samples-found c).After-steps_on_axes-found

pub returns : goal.returns
returns c =
    λ all are.
    place_answers _ _ _ c.args.samples.now _ c.requires.0 _ c.requires.1 _ all are
    (sym c.any_not_finite.ensures ∙ c.if-any_not_finite.false) (ap refusal_of (c.in_ok-met.was)) _ _ c.steps_on_axes-found.ensures
