-- Behind the last axis the refusals come as the rules order them: 3 for the tensor's length, 11 for samples cut short, 14 for more
-- bits than zeros up to a whole byte. `begin_small` and `samples_few` keep the places small.
use mathlib.Core.Path.{◌≡◌, sym, ◌∙◌}
use mathlib.Core.Bool.{true, false}
use Prim.Native.Nat.{◌≤◌}
use native.Mathlib.Omega.{arith}
use Rattle.rules.specs.Sizes.{tensor_length}
use Rattle.grid.specs.GridOfCall.{sizes_of}
use Rattle.base_bits.specs.Bits.{numbers_short}
use Rattle.sheet_read.proofs.Samples.{begin_small, samples_least, too_large, samples_few, no_samples, samples_room, after_samples}
use Rattle.sheet_read.proofs.look.check_samples.Goals as goal
use Rattle.sheet_read.proofs.look.check_samples.Goals.{Else-are_short, Else-tensor_length-gt4096}

-- what each test that was passed has shown
small : (c : Else-tensor_length-gt4096) → let args = c.args in tensor_length (sizes_of args.n args.all) ≤ 4096
small c = rw c.tensor_length.ensures.0 at c.if-tensor_length-gt4096.false

long : (c : Else-are_short) → numbers_short c.args.bytes.now c.args.at c.samples_length-count.result ≡ false
long c = sym c.are_short.ensures ∙ c.if-are_short.false

pub returns-then-tensor_length-gt4096 : goal.returns-then-tensor_length-gt4096
returns-then-tensor_length-gt4096 c = too_large _ _ _ _ c.requires (rw c.tensor_length.ensures.0 at c.if-tensor_length-gt4096.true)

pub samples_length-count-requires : goal.samples_length-count-requires
samples_length-count-requires c = c.requires.range

pub are_short-requires : goal.are_short-requires
are_short-requires c =
    let pre = c.requires in
    let few = samples_few _ _ _ _ pre _ c.samples_length-count.ensures.0 (small (goal.at.are_short-requires c).Else-tensor_length-gt4096) in
    let near = begin_small _ _ _ _ pre in
    let some = samples_least _ _ _ _ pre in (omega arith, omega arith)

pub returns-then-are_short : goal.returns-then-are_short
returns-then-are_short c =
    no_samples _ _ _ _ c.requires _ c.samples_length-count.ensures.0 (small (goal.at.returns-then-are_short c).Else-tensor_length-gt4096)
    (sym c.are_short.ensures ∙ c.if-are_short.true)

pub overflow_add-at : goal.overflow_add-at
overflow_add-at c =
    let few = samples_few _ _ _ _ c.requires _ c.samples_length-count.ensures.0 (small (goal.at.overflow_add-at c).Else-tensor_length-gt4096) in
    let near = begin_small _ _ _ _ c.requires in omega arith

pub has_more-requires : goal.has_more-requires
has_more-requires c =
    let few = samples_few _ _ _ _ c.requires _ c.samples_length-count.ensures.0 (small (goal.at.has_more-requires c).Else-tensor_length-gt4096) in
    let near = begin_small _ _ _ _ c.requires in
    let room = samples_room _ _ _ _ c.requires _ c.samples_length-count.ensures.0 (small (goal.at.has_more-requires c).Else-tensor_length-gt4096) (long (goal.at.has_more-requires c).Else-are_short) in
    record { room = omega arith; small = omega arith }

pub returns-then-has_more : goal.returns-then-has_more
returns-then-has_more c =
    after_samples _ _ _ _ c.requires _ c.samples_length-count.ensures.0 (small (goal.at.returns-then-has_more c).Else-tensor_length-gt4096) (long (goal.at.returns-then-has_more c).Else-are_short) true
    (sym c.has_more.ensures ∙ c.if-has_more.true)

pub returns : goal.returns
returns c =
    after_samples _ _ _ _ c.requires _ c.samples_length-count.ensures.0 (small (goal.at.returns c).Else-tensor_length-gt4096) (long (goal.at.returns c).Else-are_short) false
    (sym c.has_more.ensures ∙ c.if-has_more.false)
