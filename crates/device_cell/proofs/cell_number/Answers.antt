-- For a cell in range at a position up to 256, all on the way to the sum fits 64 bits (`room`) and the sum is `exact` (`exact_is`);
-- rounded it is the rule's number, which lies in -65,536..65,536 (`number_sized`), so the cast to 32 bits keeps it.
use mathlib.Core.Path.{◌≡◌, sym, ap, ◌∙◌}
use Prim.Native.Nat.{◌<◌}
use native.Mathlib.Omega.{arith}
use mir.Syntax.{w32, w64}
use mir.Val.{SFits, to_z, of_z}
use mir.ValLaws.{to_z-of_z}
use Rattle.base_integers.proofs.Sizes.{sized_fits}
use Rattle.device_cell.specs.DeviceCell.{nearest, cell_number}
use Rattle.device_cell.specs.CellWeights.{weights_at, weighted}
use Rattle.device_cell.proofs.Weighed.{exact_is}
use Rattle.device_cell.proofs.Reach.{room, sum_sized, number_sized}
use borrow.Author.Rules.{rules}
use Rattle.device_cell.proofs.cell_number.Goals as goal
use Rattle.device_cell.proofs.cell_number.Goals.{After-rounded, After-struct_told-4-1, After-weighted, Start}

-- each number of the cell reads back as itself
p0 : (c : After-struct_told-4-1) → to_z w64 (of_z w64 c.args.cell.p0) ≡ c.args.cell.p0
p0 c = let f : SFits w64 c.args.cell.p0 = search rules in to_z-of_z w64 _ f

p1 : (c : After-struct_told-4-1) → to_z w64 (of_z w64 c.args.cell.p1) ≡ c.args.cell.p1
p1 c = let f : SFits w64 c.args.cell.p1 = search rules in to_z-of_z w64 _ f

d0 : (c : After-struct_told-4-1) → to_z w64 (of_z w64 c.args.cell.d0) ≡ c.args.cell.d0
d0 c = let f : SFits w64 c.args.cell.d0 = search rules in to_z-of_z w64 _ f

d1 : (c : After-struct_told-4-1) → to_z w64 (of_z w64 c.args.cell.d1) ≡ c.args.cell.d1
d1 c = let f : SFits w64 c.args.cell.d1 = search rules in to_z-of_z w64 _ f

summed : (c : After-weighted) → to_z w64 (of_z w64 c.weighted.result) ≡ (weighted (weights_at c.args.k) c.args.cell.p0 c.args.cell.p1 c.args.cell.d0 c.args.cell.d1)
summed c =
    to_z-of_z w64 c.weighted.result (record { sfits = c.weighted.type_inv })
    ∙ (rw (c.weights_at.ensures, (let f : SFits w64 c.args.cell.p0 = search rules in to_z-of_z w64 _ f), (let f : SFits w64 c.args.cell.p1 = search rules in to_z-of_z w64 _ f), (let f : SFits w64 c.args.cell.d0 = search rules in to_z-of_z w64 _ f), (let f : SFits w64 c.args.cell.d1 = search rules in to_z-of_z w64 _ f))
    at c.weighted.ensures)

given : (c : After-rounded)
    → to_z w64 (of_z w64 c.rounded.result) ≡ cell_number c.args.cell c.args.k
given c =
    to_z-of_z w64 c.rounded.result (record { sfits = c.rounded.type_inv })
    ∙ c.rounded.ensures
    ∙ ap nearest ((to_z-of_z w64 c.weighted.result (record { sfits = c.weighted.type_inv })
    ∙ (rw (c.weights_at.ensures, (let f : SFits w64 c.args.cell.p0 = search rules in to_z-of_z w64 _ f), (let f : SFits w64 c.args.cell.p1 = search rules in to_z-of_z w64 _ f), (let f : SFits w64 c.args.cell.d0 = search rules in to_z-of_z w64 _ f), (let f : SFits w64 c.args.cell.d1 = search rules in to_z-of_z w64 _ f))
    at c.weighted.ensures)) ∙ sym (exact_is c.args.cell c.args.k c.requires.1))

small : (s : Start) → SFits w32 (cell_number s.args.cell s.args.k)
small s =
    let h : 65536 < 2147483648 = omega arith in
    sized_fits w32 (number_sized s.args.cell s.args.k s.requires.0 s.requires.1) h

pub weighted-requires : goal.weighted-requires
weighted-requires c =
    rw (c.weights_at.ensures, p0 (goal.at.weighted-requires c).After-struct_told-4-1, p1 (goal.at.weighted-requires c).After-struct_told-4-1, d0 (goal.at.weighted-requires c).After-struct_told-4-1, d1 (goal.at.weighted-requires c).After-struct_told-4-1)
    (room c.args.cell c.args.k c.requires.0 c.requires.1)

pub rounded-requires : goal.rounded-requires
rounded-requires c = rw (summed (goal.at.rounded-requires c).After-weighted) (sum_sized c.args.cell c.args.k c.requires.0 c.requires.1)

pub overflow_cast-result : goal.overflow_cast-result
overflow_cast-result c = rw (given (goal.at.overflow_cast-result c).After-rounded) (small (goal.at.overflow_cast-result c).Start)

pub returns : goal.returns
returns c = rw (given (goal.at.returns c).After-rounded) (to_z-of_z w32 _ (small (goal.at.returns c).Start))
