-- The moments that the rows gave and those that the ends dropped are, by `moments_solved`, all the moments of the rules
-- under two ends; samples and tensor in the scratch stand as they were.
use borrow.Author.Rules.{rules}
use Rattle.axis_moments.proofs.Endpoints.{moments_solved}
use Rattle.axis_moments.proofs.endpoint_moments.Goals as goal

pub inner_moments-requires : goal.inner_moments-requires
inner_moments-requires c = search rules

pub drop_lower-requires : goal.drop_lower-requires
drop_lower-requires c = search rules

pub drop_upper-requires : goal.drop_upper-requires
drop_upper-requires c = search rules

pub shape_of-w : goal.shape_of-w
shape_of-w c = search rules

pub returns : goal.returns
returns c =
    moments_solved _ _ _ _ _ _ _
    c.requires.1
    c.requires.0.most
    c.inner_moments.ensures
    c.drop_lower.ensures
    c.drop_upper.ensures
