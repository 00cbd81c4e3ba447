-- The value, the four labels and the refusal go to the places of one point.
use mathlib.Core.Path.{refl}
use native.Mathlib.Omega.{arith}
use native.Mathlib.Nat.{add-sub_cancel_left}
use borrow.Author.Rules.{rules}
use Rattle.rules.specs.Numbers.{table}
use Rattle.rules.specs.Sizes.{most_axes}
use Rattle.many_points.proofs.Copied.{labels_copied}
use Rattle.many_points.proofs.store_answer.Goals as goal
use Rattle.many_points.proofs.store_answer.Goals.{in-Ok, in-Err}

pub returns : goal.returns
returns c = elim c.match-given.branch [
  | in-Ok w ↦
      rw (w.in-Ok.is, c.copy_from_slice.ensures.after, w.value-is, add-sub_cancel_left)
      (record {
        value = refl;
        its_labels = labels_copied c.args.labels.now _ w.in-Ok.cell.labels (search rules) (omega arith);
        refusal = refl;
      })
  | in-Err w ↦
      rw (w.in-Err.is, c.copy_from_slice.ensures.after, w.value-is, w.number.ensures, add-sub_cancel_left)
      (record { value = refl; its_labels = labels_copied c.args.labels.now _ (table most_axes (λ i. 0)) refl (omega arith); refusal = refl })
]
