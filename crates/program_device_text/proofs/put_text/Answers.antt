-- A refused curve gives the one line `refused K`, for which there is room as K is at most 20 (`refused_line_fits`);
-- any other gives the lines of its numbers. Either is `device_text`.
use mathlib.Core.Path.{◌≡◌, sym, ◌∙◌}
use Rattle.device_cursor.specs.DeviceCurve.{curve_refusal}
use Rattle.device_cursor.proofs.Judged.{met_some}
use Rattle.program_device_text.proofs.Promises.{refused_line_fits, numbers_told, refused_told}
use Rattle.program_device_text.proofs.put_text.Goals as goal
use Rattle.program_device_text.proofs.put_text.Goals.{After-number}

refused : (c : After-number) → c.number.result ≡ curve_refusal c.args.curve.now
refused c = c.number.ensures ∙ c.in-Err.ensures

pub put_refused_line-requires : goal.put_refused_line-requires
put_refused_line-requires c =
    rw (refused (goal.at.put_refused_line-requires c).After-number) (refused_line_fits c.args.curve.now c.args.text.now c.requires)

pub returns-in-Err : goal.returns-in-Err
returns-in-Err c =
    let e = refused (goal.at.returns-in-Err c).After-number in
    rw (refused_told _ _ e (λ none. met_some _ _ c.in-Err.ensures (sym e ∙ none))) at c.put_refused_line.ensures

pub put_numbers-requires : goal.put_numbers-requires
put_numbers-requires c = (sym c.in_default.ensures, c.requires)

pub returns : goal.returns
returns c = rw (numbers_told _ (sym c.in_default.ensures)) at c.put_numbers.ensures
