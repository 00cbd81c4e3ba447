-- The look's refusal is the sheet's, so what is known of the one is known of the other; where the length is not known, all bytes are the
-- sheet's own.
use native.Mathlib.Omega.{arith}
use mathlib.Core.Path.{◌≡◌, ap, sym, ◌∙◌}
use Rattle.grid_codes.specs.Classes.{length_known}
use Rattle.sheet_read.specs.Faults.{sheet_refusal}
use Rattle.sheet_read.proofs.Promises.{given_refusal}
use Rattle.report_front.proofs.Tails.{met_before}
use Rattle.report_front.proofs.Cuts.{size_unknown, all_shown}
use Rattle.report_front.proofs.look_at_front.Goals as goal
use Rattle.report_front.proofs.look_at_front.Goals.{After-is_length_known}

told : (c : After-is_length_known) → length_known (sheet_refusal c.args.bytes.now) ≡ c.is_length_known.result
told c =
    let number_is = c.number.ensures ∙ given_refusal _ _ (rw c.in-Err.is at c.look.ensures) in
    sym (c.is_length_known.ensures ∙ ap length_known number_is)

pub returns-else-is_length_known : goal.returns-else-is_length_known
returns-else-is_length_known c =
    let looked = rw c.in-Err.is at c.look.ensures in
    let met = met_before _ (told (goal.at.returns-else-is_length_known c).After-is_length_known ∙ c.if-is_length_known.false) in
    let front = c.faulty_front.ensures in
    record {
      size_is = front.0 ∙ sym (size_unknown _ met);
      inside = omega (arith, front.0);
      looked = rw (front.1, all_shown _ met) looked;
    }
