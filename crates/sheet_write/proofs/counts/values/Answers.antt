-- The kinds of a condition's two ends, each with one number or none: their sum is the one of the rules, and at most 2.
use native.Mathlib.Omega.{arith}
use Rattle.sheet_read.proofs.Extents.{value_most}
use Rattle.sheet_write.proofs.counts.values.Goals as goal

pub overflow_add-result : goal.overflow_add-result
overflow_add-result c =
    omega (
      arith,
      c.values_of_kind.ensures,
      c.values_of_kind-2.ensures,
      value_most c.wide.result,
      value_most c.wide-2.result,
    )

pub returns : goal.returns
returns c =
    let condition = c.args.condition in (
      rw (
        c.values_of_kind.ensures,
        c.wide.ensures,
        c.lower_kind.ensures,
        c.values_of_kind-2.ensures,
        c.wide-2.ensures,
        c.upper_kind.ensures,
      ),
      omega (
        arith,
        c.values_of_kind.ensures,
        c.values_of_kind-2.ensures,
        value_most c.wide.result,
        value_most c.wide-2.result,
      ),
    )
