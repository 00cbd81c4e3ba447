-- One axis fills entry i of the points and entries 2i and 2i + 1 of kinds and values; all other entries stay as they were.
use mathlib.Core.Path.{refl}
use native.Mathlib.Omega.{arith}
use lib.ListN.{length-set}
use Rattle.c_axes.proofs.store_axis.Goals as goal

pub bounds-kinds-i-2 : goal.bounds-kinds-i-2
bounds-kinds-i-2 c = simp length-set (omega arith)

pub bounds-values-i-2 : goal.bounds-values-i-2
bounds-values-i-2 c = simp length-set (omega arith)

pub returns : goal.returns
returns c = record { point = refl; both_kinds = cc; both_values = cc }
