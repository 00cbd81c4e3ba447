-- Three arrays of zeros have the lengths that reading and building ask for: 1,024, 1,024 and 6,144. The walk does the rest.
use native.Mathlib.Omega.{arith}
use lib.ListN.{length-replicate}
use Rattle.rules.specs.Numbers.{plus_zero}
use Rattle.report.proofs.feed.Goals as goal

pub take_sheets-requires : goal.take_sheets-requires
take_sheets-requires c = (
  c.requires.0,
  c.requires.1,
  record {
    knots_long = length-replicate 1024 plus_zero;
    samples_long = length-replicate 1024 plus_zero;
    scratch_long = omega (arith, length-replicate 6144 plus_zero);
  },
)
