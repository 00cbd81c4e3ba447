-- With its labels cleared a refusal has nothing but zeros beside its number.
use mathlib.Core.Path.{refl}
use Rattle.query_answer.proofs.refuse.Goals as goal

pub returns : goal.returns
returns c = rw c.clear_labels.ensures refl
