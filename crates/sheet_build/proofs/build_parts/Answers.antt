-- The build of a sheet that was read: its refusal is the build's, and the tensor is there only where nothing is refused.
use mathlib.Core.Path.{refl, sym, ◌∙◌}
use Rattle.rules.proofs.Given.{number_some}
use Rattle.grid_codes.proofs.Classed.{built_none, unbuilt_met, err_met}
use Rattle.sheet_build.proofs.Builds.{parts_refused, parts_built}
use Rattle.sheet_build.proofs.build_parts.Goals as goal

pub returns-then-is_built : goal.returns-then-is_built
returns-then-is_built c =
    let args = c.args in
    let none = sym c.number_told.ensures ∙ built_none _ (sym c.if-is_built.ensures) in (
      parts_built _ _ _ args.knots.now args.samples.now _ _ _ _ _
          c.knots_length-knots_end.ensures.0 c.samples_length-samples_end.ensures.0
          c.tensor_length-length.ensures.0
          _ _ _ (rw none at c.build-built.ensures) refl,
      refl,
    )

pub unwrap_err-requires : goal.unwrap_err-requires
unwrap_err-requires c = err_met _ c.number_told.ensures (unbuilt_met _ (sym c.if-is_built.ensures))

pub returns : goal.returns
returns c =
    let args = c.args in (
      parts_refused _ _ _ args.knots.now args.samples.now _ _ _ _ _
          c.knots_length-knots_end.ensures.0 c.samples_length-samples_end.ensures.0
          c.tensor_length-length.ensures.0
          _ _ _ (rw c.unwrap_err.ensures at c.build-built.ensures) (number_some _),
      refl,
    )
