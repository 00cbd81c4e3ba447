-- One number that is not finite makes it 10 with the tensor as it was, else what came out is copied; the scratch is zeros either way.
use native.Mathlib.Nat.{add-sub_cancel_left}
use Rattle.tensor.proofs.Finishing.{finished_10, finished_0}
use Rattle.tensor.proofs.working.finish.Goals as goal

pub returns-then-any_of_many_not_finite : goal.returns-then-any_of_many_not_finite
returns-then-any_of_many_not_finite c =
    finished_10 _ _ _ _ _ (add-sub_cancel_left _ _) c.any_of_many_not_finite.ensures c.clear.ensures
    c.if-any_of_many_not_finite.true

pub returns : goal.returns
returns c =
    finished_0 _ _ _ _ _ (add-sub_cancel_left _ _) c.any_of_many_not_finite.ensures c.clear-2.ensures _
    c.if-any_of_many_not_finite.false c.copy.ensures
