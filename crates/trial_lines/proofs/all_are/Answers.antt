-- Where each number has the pattern of the given one, each is that number, and the slice is it repeated (`all_alike`).
use Rattle.std.proofs.Common.{◌≡◌, rules, tests}
use Rattle.std.proofs.lemmas.Iterator.{cases_from_all, YieldsList-from_slice}
use lib.Ieee.{binary64, to_bits}
use Rattle.trial_lines.proofs.Equal.{all_alike}
use Rattle.trial_lines.proofs.all_are.Goals as goal

pub returns : goal.returns
returns c =
    all_alike c.args.numbers.now c.args.number _ _ c.type_inv.numbers (search rules)
    (cases_from_all _ _ _ (λ x. to_bits binary64 x ≡ to_bits binary64 c.args.number) (λ x. Unit {0}) c.all.ensures.ran
    (YieldsList-from_slice c.args.numbers.now cc) (λ x q k. search (rules, tests)) (λ x q k. search (rules, tests)))
