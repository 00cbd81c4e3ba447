-- Seven returns, one for each piece of the numbers: in each the tests of the rules come out for its class, and what no arm names,
-- 16 to 21 and from 24 on, is Unknown.
use mathlib.Core.Logic.{⊎_elim, inl, inr}
use native.Mathlib.Omega.{arith}
use borrow.Author.Tests.{ne_eqb}
use Rattle.grid_codes.specs.Classes.{class}
use Rattle.grid_codes.proofs.Among.{within, below, above}
use Rattle.grid_codes.proofs.classes.class_of.Goals as goal

pub returns-in-0 : goal.returns-in-0
unfolding class
returns-in-0 c = rw c.in-0.is

-- 15 and 23
pub returns-in-15 : goal.returns-in-15
unfolding class
returns-in-15 c = ⊎_elim (λ e. rw e) (λ e. rw e) c.in-15.is

-- 5 to 10
pub returns-in-5-to-10 : goal.returns-in-5-to-10
unfolding class
returns-in-5-to-10 c =
    let n = c.args.refusal in
    simp (
      ne_eqb n 0 (omega arith),
      above 1 4 n (omega arith) (omega arith),
      below 11 14 n (omega arith),
      ne_eqb n 22 (omega arith),
      within 5 10 n (omega arith) (omega arith),
    )

-- from 15 on, but for 15, 22 and 23
pub returns-in_default : goal.returns-in_default
unfolding class
returns-in_default c =
    let n = c.args.refusal in
    let other = c.in_default.in_default-own.rest in
    simp (
      ne_eqb n 0 (omega arith),
      above 1 4 n (omega arith) (omega arith),
      above 11 14 n (omega arith) (omega arith),
      ne_eqb n 22 other.0.1,
      above 5 10 n (omega arith) (omega arith),
      ne_eqb n 15 (λ e. other.1 (inl e)),
      ne_eqb n 23 (λ e. other.1 (inr e)),
    )

-- 22
pub returns-in-1-to-4 : goal.returns-in-1-to-4
unfolding class
returns-in-1-to-4 c = rw c.in-1-to-4.in-1-to-4-own.keys2

-- 1 to 4
pub returns-in-1-to-4-2 : goal.returns-in-1-to-4-2
unfolding class
returns-in-1-to-4-2 c =
    let n = c.args.refusal in
    simp (ne_eqb n 0 (omega arith), within 1 4 n (omega arith) (omega arith))

-- 11 to 14
pub returns-in-1-to-4-3 : goal.returns-in-1-to-4-3
unfolding class
returns-in-1-to-4-3 c =
    let n = c.args.refusal in
    simp (ne_eqb n 0 (omega arith), above 1 4 n (omega arith) (omega arith), within 11 14 n (omega arith) (omega arith))
