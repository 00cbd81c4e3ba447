-- Slices of one length whose numbers have the same patterns, pair by pair, are the same (`all_same`).
use Rattle.std.proofs.Common.{◌≡◌, rules, tests}
use Rattle.std.proofs.lemmas.Iterator.{cases_from_all, YieldsList-from_slice, YieldsList-from_zip}
use lib.Ieee.{binary64, to_bits}
use Rattle.trial_lines.proofs.Equal.{all_same}
use Rattle.trial_lines.proofs.same.Goals as goal

pub returns-then-these-those : goal.returns-then-these-those
returns-then-these-those c =
    all_same c.args.these.now c.args.those.now _ _ c.type_inv.these c.type_inv.those (search rules)
    (cases_from_all c.all.new.self _ _ (λ p. to_bits binary64 p.0 ≡ to_bits binary64 p.1) (λ p. Unit {0}) c.all.ensures.ran
    (YieldsList-from_zip (YieldsList-from_slice c.args.these.now cc) (YieldsList-from_slice c.args.those.now cc))
    (λ x q k. search (rules, tests)) (λ x q k. search (rules, tests)))
