-- A tensor of at most 512 numbers has at most 256 samples and 256 knots: they and its build have room in the three buffers.
use lib.ListN.{length-replicate}
use Rattle.rules.specs.Numbers.{plus_zero, zeros}
use Rattle.sheet_surface.proofs.Small.{stack_room}
use Rattle.sheet_surface.proofs.on_the_stack.Goals as goal

pub build_and_query-requires : goal.build_and_query-requires
build_and_query-requires c =
    stack_room 256 _ _ _ _ c.requires _ _ (zeros 2560)
    (length-replicate 256 plus_zero) (length-replicate 256 plus_zero) (length-replicate 2560 plus_zero)
