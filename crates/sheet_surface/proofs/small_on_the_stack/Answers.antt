-- A tensor of at most 128 numbers has at most 64 samples and 64 knots: they and its build have room in the three buffers.
use lib.ListN.{length-replicate}
use Rattle.rules.specs.Numbers.{plus_zero, zeros}
use Rattle.sheet_surface.proofs.Small.{stack_room}
use Rattle.sheet_surface.proofs.small_on_the_stack.Goals as goal

pub build_and_query-requires : goal.build_and_query-requires
build_and_query-requires c =
    stack_room 64 _ _ _ _ c.requires _ _ (zeros 2176)
    (length-replicate 64 plus_zero) (length-replicate 64 plus_zero) (length-replicate 2176 plus_zero)
