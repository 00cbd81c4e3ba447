-- After the rows of the axes one 4, of two tests: the slot is asked first, then the knots, by the number that the pass over the points
-- found.
use mathlib.Core.Path.{refl}
use Rattle.grid_checks.proofs.Rows.{stop, pass, first, second}
use Rattle.c_refusals.proofs.Rows.{axes_given, axes_pass}
use Rattle.c_profile.specs.ProfileExports.{even_profile_own_refusal}
use Rattle.c_profile.proofs.check_even_profile.Goals as goal

pub returns-in_err-found : goal.returns-in_err-found
unfolding even_profile_own_refusal
returns-in_err-found c =
    axes_given _ _ c.in_err-found.ensures.refusal c.from_residual.result _ refl c.from_residual.ensures.1 _

pub returns-then-length_refused : goal.returns-then-length_refused
unfolding even_profile_own_refusal
returns-then-length_refused c =
    axes_pass _ _ c.in_ok-found.ensures.refusal _ refl
    (stop _ (first _ c.length_refused.ensures c.if-length_refused.true) refl)

pub returns-then-length_refused-2 : goal.returns-then-length_refused-2
unfolding even_profile_own_refusal
returns-then-length_refused-2 c =
    axes_pass _ _ c.in_ok-found.ensures.refusal _ refl
    (stop _
    (second c.length_refused.ensures c.if-length_refused.false
    (rw (← c.in_ok-found.ensures.sizes.knots) c.length_refused-2.ensures))
    c.if-length_refused-2.true)

pub returns : goal.returns
unfolding even_profile_own_refusal
returns c =
    axes_pass _ _ c.in_ok-found.ensures.refusal _ refl
    (pass _
    (second c.length_refused.ensures c.if-length_refused.false
    (rw (← c.in_ok-found.ensures.sizes.knots) c.length_refused-2.ensures))
    c.if-length_refused-2.false refl)
