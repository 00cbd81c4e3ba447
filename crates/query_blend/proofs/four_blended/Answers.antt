-- Four neighbouring pairs lie inside the numbers, and the answer is the list of their four blends in order.
use mathlib.Core.Path.{refl}
use Rattle.query_blend.proofs.four_blended.Goals as goal

pub returns : goal.returns
returns c =
    rw (
      c.one_blended-4.ensures,
      c.one_blended-3.ensures,
      c.one_blended-2.ensures,
      c.one_blended.ensures,
    )
    refl
