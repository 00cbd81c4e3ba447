-- The array has the length that is asked for, so the text is given (`given_for_room`), and what is written lies within the array, as no
-- text is longer (`length_most`).
use native.Mathlib.Omega.{arith}
use Rattle.program_device_text.proofs.Promises.{given_for_room, length_most}
use Rattle.program_device_print.proofs.print_text.Goals as goal

pub unwrap-length-requires : goal.unwrap-length-requires
unwrap-length-requires c = given_for_room _ _ _ _ c.device_text.ensures (omega arith)

pub slice_bounds-write_output-end : goal.slice_bounds-write_output-end
slice_bounds-write_output-end c =
    let most = length_most _ _ _ _ (rw c.unwrap-length.ensures at c.device_text.ensures) in omega arith
