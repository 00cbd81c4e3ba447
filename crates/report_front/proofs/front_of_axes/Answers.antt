-- The bytes of a sheet whose axes were passed are the bits up to its last sample, rounded up. Of these only the last bits are left to look
-- at.
use native.Mathlib.Omega.{arith}
use mathlib.Core.Path.{◌≡◌, sym, ap, ◌∙◌}
use Prim.Native.Nat.{ℕ, ◌+◌, ◌*◌, ◌/◌, ◌-◌}
use mathlib.Core.List.{List}
use Rattle.rules.specs.Sizes.{samples_length}
use Rattle.rules.specs.declared.Axis.{Axis}
use Rattle.grid.specs.GridOfCall.{sizes_of}
use Rattle.base_bits.specs.Bits.{field}
use Rattle.sheet_read.specs.Fields.{samples_end}
use Rattle.sheet_read.specs.FoundSoFar.{Ended}
use Rattle.sheet_read.proofs.Sheets.{in_range}
use Rattle.sheet_read.proofs.Samples.{count_is, begin_small}
use Rattle.report_front.specs.Front.{sheet_bytes}
use Rattle.report_front.proofs.Tails.{none_before}
use Rattle.report_front.proofs.Cuts.{sound, size_of_known, size_inside, end_most, tail_room, tail_set, tail_zero}
use Rattle.report_front.proofs.front_of_axes.Goals as goal
use Rattle.report_front.proofs.front_of_axes.Goals.{Start, After-samples_length}

-- all axes were passed
ended : (c : Start) → Ended c.args.bytes.now c.args.walk.at c.args.n c.args.walk.all
ended c =
    let s = sound _ (none_before _ c.requires.0) in
    let said = c.requires.2 in
    let faultless = rw (← said) at s.faultless in
    let found = c.requires.3 in
    record {
      range = in_range _ _ _ (omega (arith, s.few, said)) found.all (omega (arith, s.least, said)) faultless;
      said = said;
      end = found.end;
      found = found.all;
    }

end_of : (bytes : List ℕ) (at n : ℕ) (all : List Axis) → Ended bytes at n all → (count : ℕ) → count ≡ samples_length (sizes_of n all)
    → at + 64 * count ≡ samples_end bytes
end_of bytes at n all t count e = rw (e, count_is bytes at n all t, t.end, t.said)

-- the sheet's last bit, and its bytes
end_is : (l : After-samples_length) → Ended l.args.bytes.now l.args.walk.at l.args.n l.args.walk.all
    → l.args.walk.at + 64 * l.samples_length.result ≡ samples_end l.args.bytes.now
end_is l t = end_of _ _ _ _ t _ l.samples_length.ensures.0

size_of_end : (bytes : List ℕ) (end : ℕ) → end ≡ samples_end bytes → (end + 7) / 8 ≡ sheet_bytes bytes
unfolding sheet_bytes
size_of_end bytes end e = ap (λ (k : ℕ). (k + 7) / 8) e

-- the last bits, by the rules' numbers
left_is : (bytes : List ℕ) (end size : ℕ) → end ≡ samples_end bytes → size ≡ sheet_bytes bytes
    → field bytes end (8 * size - end) ≡ field bytes (samples_end bytes) (8 * sheet_bytes bytes - samples_end bytes)
left_is bytes end size e z = rw (e, z)

pub samples_length-requires : goal.samples_length-requires
samples_length-requires c = (ended (goal.at.samples_length-requires c).Start).range

pub overflow_add-end : goal.overflow_add-end
overflow_add-end c = let near = begin_small _ _ _ _ (ended (goal.at.overflow_add-end c).Start) in omega arith

pub overflow_add-size : goal.overflow_add-size
overflow_add-size c = let near = begin_small _ _ _ _ (ended (goal.at.overflow_add-size c).Start) in omega arith

pub overflow_mul-size : goal.overflow_mul-size
overflow_mul-size c = let near = begin_small _ _ _ _ (ended (goal.at.overflow_mul-size c).Start) in omega arith

pub overflow_sub-size : goal.overflow_sub-size
overflow_sub-size c = omega arith

pub field_at-requires : goal.field_at-requires
field_at-requires c =
    let known = c.requires.0 in
    let room = tail_room _ (none_before _ known) in
    let most = end_most _ (none_before _ known) in
    let end = end_is (goal.at.field_at-requires c).After-samples_length (ended (goal.at.field_at-requires c).Start) in
    let size = size_of_end _ _ end in (record { room = omega arith; small = omega arith }, omega arith)

pub returns-then-field_at-ne0 : goal.returns-then-field_at-ne0
returns-then-field_at-ne0 c =
    let known = c.requires.0 in
    let end_at = end_is (goal.at.returns-then-field_at-ne0 c).After-samples_length (ended (goal.at.returns-then-field_at-ne0 c).Start) in
    let size = size_of_end _ _ end_at ∙ sym (size_of_known _ known) in
    record {
      size_is = size;
      inside = rw size (size_inside _);
      looked = tail_set _ (none_before _ known) (λ z. c.if-field_at-ne0.true ((c.field_at.ensures ∙ left_is _ _ _ end_at (size_of_end _ _ end_at)) ∙ z));
    }

pub returns : goal.returns
returns c =
    let known = c.requires.0 in
    let t = ended (goal.at.returns c).Start in
    let end_at = end_is (goal.at.returns c).After-samples_length t in
    let size = size_of_end _ _ end_at ∙ sym (size_of_known _ known) in
    record {
      size_is = size;
      inside = rw size (size_inside _);
      looked =
          rw (c.requires.1, t.found, t.said)
          (tail_zero _ (none_before _ known) (sym ((c.field_at.ensures ∙ left_is _ _ _ end_at (size_of_end _ _ end_at))) ∙ c.if-field_at-ne0.false));
    }
