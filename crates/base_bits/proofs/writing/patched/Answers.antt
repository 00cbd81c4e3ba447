-- No shift loses a bit and the sum stays below 256 (`small`, `patch_below`): it is the byte with the run of bits replaced.
use mathlib.Core.Path.{sym}
use Prim.Native.Nat.{◌+◌, ◌/◌, ◌^◌, ◌<◌}
use native.Mathlib.Omega.{arith}
use Rattle.base_bits.specs.Written.{patch}
use Rattle.base_bits.proofs.Shifts.{one_raised}
use Rattle.base_bits.proofs.Patches.{patch_is, patch_below, Small, small}
use Rattle.base_bits.proofs.writing.patched.Goals as goal
use Rattle.base_bits.proofs.writing.patched.Goals.{Start}

known : (c : Start) → Small (c.args.byte / 2 ^ (c.args.low + c.args.count)) c.args.count c.args.new c.args.low
known c = small c.args.byte c.args.low c.args.count c.args.new (omega arith) c.requires.0 c.requires.1

under : (c : Start) → patch c.args.byte c.args.low c.args.count c.args.new < 256
under c = patch_below c.args.byte c.args.low c.args.count c.args.new (omega arith) c.requires.0 c.requires.1

pub overflow_add-result-2 : goal.overflow_add-result-2
overflow_add-result-2 c = rw (known (goal.at.overflow_add-result-2 c).Start).first (let r = (known (goal.at.overflow_add-result-2 c).Start).room in omega arith)

pub overflow_add-result-3 : goal.overflow_add-result-3
overflow_add-result-3 c =
    rw (
      one_raised c.args.low (omega arith),
      (known (goal.at.overflow_add-result-3 c).Start).first,
      (known (goal.at.overflow_add-result-3 c).Start).second,
      ← patch_is c.args.byte c.args.low c.args.count c.args.new,
    )
    (let u = under (goal.at.overflow_add-result-3 c).Start in omega arith)

pub overflow_cast-result-2 : goal.overflow_cast-result-2
overflow_cast-result-2 c =
    rw (
      one_raised c.args.low (omega arith),
      (known (goal.at.overflow_cast-result-2 c).Start).first,
      (known (goal.at.overflow_cast-result-2 c).Start).second,
      ← patch_is c.args.byte c.args.low c.args.count c.args.new,
    )
    (record { fits = under (goal.at.overflow_cast-result-2 c).Start })

pub returns : goal.returns
returns c =
    rw (one_raised c.args.low (omega arith), (known (goal.at.returns c).Start).first, (known (goal.at.returns c).Start).second)
    (sym (patch_is c.args.byte c.args.low c.args.count c.args.new))
