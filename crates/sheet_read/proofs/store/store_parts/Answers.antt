-- A sheet without a fault has bits for every number (`accepted`): the knots go to the first places of one buffer, the samples, which
-- begin where the knots' walk ended, to those of the other.
use mathlib.Core.Path.{◌≡◌, refl, ap, ◌∙◌}
use Prim.Native.Nat.{◌≤◌}
use native.Mathlib.Omega.{arith}
use lib.ListN.{length, length-take}
use Rattle.rules.specs.Sizes.{samples_length}
use Rattle.grid_codes.specs.Editions.{mode_width}
use Rattle.sheet_read.specs.Fields.{sheet_grid, samples_begin}
use Rattle.sheet_read.proofs.Samples.{count_is}
use Rattle.sheet_read.proofs.Sheets.{Accepted, accepted, no_fault, all_ended}
use Rattle.sheet_read.proofs.Promises.{samples_within, samples_stored}
use Rattle.sheet_read.proofs.store.store_parts.Goals as goal
use Rattle.sheet_read.proofs.store.store_parts.Goals.{After-samples_length-count, Start}

ok : (c : Start) → Accepted c.args.bytes.now
ok c = accepted _ c.requires.faultless

-- where the samples begin, how many there are, and that there is a place for each
begin : (c : After-samples_length-count) → c.store_knots-at.result ≡ samples_begin c.args.bytes.now
begin c = rw c.requires.axes_said at c.store_knots-at.ensures.0

count : (c : After-samples_length-count) → c.samples_length-count.result ≡ samples_length (sheet_grid c.args.bytes.now)
count c =
    c.samples_length-count.ensures.0 ∙ count_is _ _ _ _ (all_ended _ ((accepted _ c.requires.faultless)) _ _ _ c.requires.axes_said c.requires.found refl)

few : (c : After-samples_length-count) → c.samples_length-count.result ≤ length c.args.samples.now
few c = let room = c.requires.samples_room in omega (arith, count c)

pub store_knots-at-requires : goal.store_knots-at-requires
store_knots-at-requires c =
    let pre = c.requires in (
      c.mode_width.ensures
          ∙ ap mode_width pre.edition_said,
      rw pre.axes_said (no_fault _ (ok (goal.at.store_knots-at-requires c).Start)),
      rw pre.axes_said pre.knots_room,
    )

pub samples_length-count-requires : goal.samples_length-count-requires
samples_length-count-requires c = (all_ended _ (ok (goal.at.samples_length-count-requires c).Start) _ _ _ c.requires.axes_said c.requires.found refl).range

pub slice_bounds-fill-end : goal.slice_bounds-fill-end
slice_bounds-fill-end c = let most = few (goal.at.slice_bounds-fill-end c).After-samples_length-count in omega arith

pub fill-requires : goal.fill-requires
fill-requires c =
    let there = samples_within _ _ _ (begin (goal.at.fill-requires c).After-samples_length-count) (count (goal.at.fill-requires c).After-samples_length-count) (ok (goal.at.fill-requires c).Start) in
    rw length-take (record { room = omega arith; small = omega arith })

pub returns : goal.returns
returns c =
    let args = c.args in (
      rw c.requires.axes_said at c.store_knots-at.ensures.1,
      samples_stored _ _ _ (begin (goal.at.returns c).After-samples_length-count) (count (goal.at.returns c).After-samples_length-count) args.samples.now _ (few (goal.at.returns c).After-samples_length-count) c.fill.ensures,
    )
