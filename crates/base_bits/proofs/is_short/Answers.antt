-- Told by whole bytes: by `by_bytes` there are fewer bytes than the bits take just where there are fewer bits.
use Prim.Native.Nat.{◌+◌}
use lib.ListN.{length}
use Rattle.base_bits.proofs.Runs.{by_bytes}
use Rattle.base_bits.proofs.is_short.Goals as goal

pub returns : goal.returns
returns c = by_bytes (length c.args.bytes.now) (c.args.at + c.args.width)
