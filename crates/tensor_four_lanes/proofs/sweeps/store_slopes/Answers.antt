-- The last knot's slopes, worked out before the first store, join those of the first `n` knots: by `settled` all `n + 1` are laid.
use native.Mathlib.Omega.{arith}
use Rattle.tensor_fours.proofs.Fours.{lane, each, number}
use Rattle.tensor_four_lanes.proofs.StoreTurns.{settled}
use Rattle.tensor_four_lanes.proofs.sweeps.store_slopes.Goals as goal

pub overflow_mul-n : goal.overflow_mul-n
overflow_mul-n c =
    omega (
      arith,
      c.store_inner_slopes.ensures.same_length,
      lane c.requires.0.within 0 (omega arith) c.args.n (omega arith),
    )

pub overflow_add-to : goal.overflow_add-to
overflow_add-to c =
    omega (
      arith,
      c.store_inner_slopes.ensures.same_length,
      lane c.requires.0.within 0 (omega arith) c.args.n (omega arith),
    )

pub store-requires : goal.store-requires
store-requires c =
    each
    (λ l lt.
    omega (
      arith,
      c.store_inner_slopes.ensures.same_length,
      lane c.requires.0.within l lt c.args.n (omega arith),
    ))

pub returns : goal.returns
returns c =
    let pre = c.requires in
    settled _ _ _ _ _ _ _ pre.0 _
    (λ l lt.
    cc (
      number c.get_row-s.ensures l lt,
      number c.get_row-before.ensures l lt,
      number c.get_row-m.ensures l lt,
      number c.last_slope-last.ensures l lt,
    ))
    c.store_inner_slopes.ensures c.store.ensures
