-- A look at the axes and all behind them meets the faults of a sheet in reading order, by the class of each refusal.
use mathlib.Core.Path.{◌≡◌, sym, ap, ◌∙◌}
use Rattle.rules.specs.Answers.{refusal_of}
use Rattle.rules.proofs.Given.{number_some}
use Rattle.grid_codes.specs.Editions.{mode_width}
use Rattle.grid_codes.proofs.Classed.{unread_met, read_none, err_met}
use Rattle.sheet_read.specs.Faults.{axes_fault}
use Rattle.sheet_read.proofs.Numbers.{axes_of_reading, samples_of_reading}
use Rattle.sheet_read.proofs.Sheets.{in_range}
use Rattle.sheet_read.proofs.Promises.{first_refused, later_refused, both_passed}
use Rattle.sheet_read.proofs.look.look_at_axes.Goals as goal
use Rattle.sheet_read.proofs.look.look_at_axes.Goals.{In-Ok}

-- no axis has a fault
faultless : (c : In-Ok) → let args = c.args in axes_fault args.bytes.now args.n ≡ 0
faultless c = sym c.in-Ok.ensures.fault

pub walk_axes-requires : goal.walk_axes-requires
walk_axes-requires c = let pre = c.requires in (c.mode_width.ensures ∙ ap mode_width pre.0, pre.1.few)

pub returns-in-Err : goal.returns-in-Err
returns-in-Err c = first_refused _ _ _ _ _ _ c.in-Err.ensures.fault (number_some _)

pub unreachable-requires : goal.unreachable-requires
unreachable-requires c =
    number_some _
    (sym c.number.ensures
    ∙ read_none _ (c.number.ensures ∙ c.in-Err.ensures.fault) (axes_of_reading _ _) (sym c.if-is_unread.ensures))

pub check_samples-checked-requires : goal.check_samples-checked-requires
check_samples-checked-requires c =
    let pre = c.requires.1 in
    let found = c.in-Ok.ensures.found in
    record {
      range = in_range _ _ _ pre.few found.all pre.least (faultless (goal.at.check_samples-checked-requires c).In-Ok);
      said = pre.said;
      end = found.end;
      found = found.all;
    }

pub unwrap_err-requires : goal.unwrap_err-requires
unwrap_err-requires c = err_met _ c.number_told.ensures (unread_met _ (sym c.if-is_unread-2.ensures))

pub returns-then-is_unread-2 : goal.returns-then-is_unread-2
returns-then-is_unread-2 c =
    later_refused _ _ _ _ _ _ (faultless (goal.at.returns-then-is_unread-2 c).In-Ok)
    (sym (ap refusal_of c.unwrap_err.ensures) ∙ c.check_samples-checked.ensures) (number_some _)

pub returns : goal.returns
returns c =
    let is = c.check_samples-checked.ensures in
    both_passed _ _ _ _ _ _ (faultless (goal.at.returns c).In-Ok)
    (sym is ∙ sym c.number_told.ensures ∙ read_none _ (c.number_told.ensures ∙ is) (samples_of_reading _) (sym c.if-is_unread-2.ensures))
    c.in-Ok.ensures.found.all
