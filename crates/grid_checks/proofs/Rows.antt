-- The rows of a table of refusals: what code that asks them one after the other answers, what follows them, and what is known where none
-- applies.
use mathlib.Core.Path.{◌≡◌, refl, sym, ap, ◌∙◌}
use mathlib.Core.Bool.{Bool, true, false, not, cond, ◌||◌, ◌&&◌}
use mathlib.Core.List.{List, [], ◌∷◌}
use Prim.Native.Nat.{ℕ, ◌<◌, ◌≤◌}
use native.Mathlib.Omega.{arith}
use lib.ListN.{length, drop}
use lib.Dec.{T, ltb, ltb→lt}
use lib.Ieee.{Float}
use borrow.Author.Tests.{ltb-false, eqb-true, eq-eqb, not-false}
use Rattle.rules.specs.Numbers.{any}
use Rattle.rules.specs.Sizes.{most_axes}
use Rattle.rules.specs.Refusals.{points_refused, length_refused, knots_refused}
use Rattle.rules.specs.Calls.{or_else}
use Rattle.std.specs.Prelude.{Result}
use Rattle.std.specs.Result.{IsErrAnd}
use Rattle.rules.specs.Answers.{number_of, refusal_of}
use Rattle.rules.specs.declared.Refusal as rules
use Rattle.rules.proofs.Refused.{or_else_met}
use Rattle.rules.proofs.Given.{given_on, number_some}
use Rattle.rules.specs.declared.Axis.{Axis}
use Rattle.base_numbers.proofs.Scan.{neither, any_at}
use Rattle.grid.specs.GridOfCall.{sizes_of, points_of, InRange}
use Rattle.grid_checks.specs.Check.{sizes_rows, sizes_check}
use Rattle.grid_checks.specs.Tables.{Refusal, lowest}

-- ---- a row of two tests, asked one after the other

pub first : {r a : Bool} (b : Bool) → r ≡ a → r ≡ true → true ≡ (a || b)
first b e t = rw (sym e ∙ t)

pub second : {r s a b : Bool} → r ≡ a → r ≡ false → s ≡ b → s ≡ (a || b)
second e f g = rw (sym e ∙ f) g

-- ---- one row

-- it applies: its number is the answer
pub stop : {r b : Bool} {number : ℕ} (later : ℕ) → r ≡ b → r ≡ true → number ≡ cond b number later
stop later e t = rw (sym e ∙ t)

-- it does not: the rows below answer
pub pass : {r b : Bool} {answer later : ℕ} (number : ℕ) → r ≡ b → r ≡ false → answer ≡ later → answer ≡ cond b number later
pass number e f below = rw (sym e ∙ f) below

-- the first k rows have been asked and do not apply: the others answer
abbrev pub Past : List Refusal → ℕ → Type 0
Past rows k = (answer : ℕ) → answer ≡ lowest (drop k rows) 0 → answer ≡ lowest rows 0

-- ---- all rows

-- whether each row has a number other than 0
abbrev pub numbered : List Refusal → Bool
numbered [] = true
numbered (refusal ∷ rows) = ltb 0 refusal.number && numbered rows

-- whether none has the number of an outcome, or one above it
abbrev pub below_outcome : List Refusal → Bool
below_outcome [] = true
below_outcome (refusal ∷ rows) = ltb refusal.number 10 && below_outcome rows

both : (a b : Bool) → T (a && b) → T a × T b
both true b t = (tt, t)
both false b t = absurd t

module _ (refusal : Refusal) (rows : List Refusal) (n : T (numbered (refusal ∷ rows))) where
  above_0 : 0 < refusal.number
  above_0 = ltb→lt 0 refusal.number (both (ltb 0 refusal.number) (numbered rows) n).0

  rest : T (numbered rows)
  rest = (both (ltb 0 refusal.number) (numbered rows) n).1

-- what comes after the rows counts where they give no number
pub rows_then : (rows : List Refusal) (later : ℕ) → T (numbered rows) → lowest rows later ≡ or_else (lowest rows 0) later
rows_then [] later n = refl
rows_then (refusal ∷ rows) later n =
    in_front refusal.applies (above_0 refusal rows n) (rows_then rows later (rest refusal rows n))
  where
    in_front : (b : Bool) → 0 < refusal.number → lowest rows later ≡ or_else (lowest rows 0) later
        → cond b refusal.number (lowest rows later) ≡ or_else (cond b refusal.number (lowest rows 0)) later
    in_front true h e = sym (or_else_met refusal.number later (λ z. omega arith))
    in_front false h e = e

-- rows that a function of its own asks
module _ (rows : List Refusal) (n : T (numbered rows)) {number : ℕ} (e : number ≡ lowest rows 0) where
  -- a number that they give is the answer
  pub rows_stop : (later : ℕ) → (number ≡ 0 → ⊥) → number ≡ lowest rows later
  rows_stop later h = sym (or_else_met number later h) ∙ rw e (sym (rows_then rows later n))

  -- where they give none, the rows below answer
  pub rows_pass : {answer : ℕ} (later : ℕ) → number ≡ 0 → answer ≡ later → answer ≡ lowest rows later
  rows_pass later z below = below ∙ sym (rows_then rows later n ∙ rw (sym e ∙ z))

-- the exit of a `?` over a function that asks rows: the refusal that it has met is the answer
pub rows_given : (rows : List Refusal) → T (numbered rows) → {Given : Type 0} (given : Result Given rules.Refusal) (met : rules.Refusal)
    → number_of met ≡ lowest rows 0 → IsErrAnd given (λ refusal. refusal ≡ met) → (later : ℕ) → refusal_of given ≡ lowest rows later
rows_given rows n given met e h later = given_on given met h ∙ rows_stop rows n e later (number_some met)

-- no row has the number of an outcome
pub rows_below_10 : (rows : List Refusal) → T (below_outcome rows) → lowest rows 0 < 10
rows_below_10 [] b = omega arith
rows_below_10 (refusal ∷ rows) b =
    let low = both (ltb refusal.number 10) (below_outcome rows) b in
    in_front refusal.applies (ltb→lt refusal.number 10 low.0) (rows_below_10 rows low.1)
  where
    in_front : (b : Bool) → refusal.number < 10 → lowest rows 0 < 10 → cond b refusal.number (lowest rows 0) < 10
    in_front true h e = h
    in_front false h e = e

-- no row applies
abbrev pub NoneApplies : List Refusal → Type 0
NoneApplies [] = Unit {0}
NoneApplies (refusal ∷ rows) = (refusal.applies ≡ false) × NoneApplies rows

pub none_applies : (rows : List Refusal) → T (numbered rows) → lowest rows 0 ≡ 0 → NoneApplies rows
none_applies [] n e = tt
none_applies (refusal ∷ rows) n e =
    let passed = in_front refusal.applies (above_0 refusal rows n) e in
    (passed.0, none_applies rows (rest refusal rows n) passed.1)
  where
    in_front : (b : Bool) → 0 < refusal.number → cond b refusal.number (lowest rows 0) ≡ 0 → (b ≡ false) × (lowest rows 0 ≡ 0)
    in_front true h e = let z : ⊥ = omega arith in absurd z
    in_front false h e = (refl, e)

-- ---- the rows 1 to 3

pub axes_few : {axes : ℕ} → (ltb axes 1 || ltb most_axes axes) ≡ false → (1 ≤ axes) × (axes ≤ most_axes)
axes_few {axes} e = let n = neither (ltb axes 1) (ltb 4 axes) e in (ltb-false axes 1 n.0, ltb-false 4 axes n.1)

pub in_range : {axes : ℕ} {n : ℕ → ℕ} → 1 ≤ axes → axes ≤ most_axes → any (λ i. points_refused (n i)) axes ≡ false → InRange axes n
in_range {axes} {n} some few fine = record {
  some_axes = some;
  few_axes = few;
  some_points = λ i l. ltb-false (n i) 2 (neither (ltb (n i) 2) (ltb 256 (n i)) (any_at (λ j. points_refused (n j)) axes fine i l)).0;
  few_points = λ i l. ltb-false 256 (n i) (neither (ltb (n i) 2) (ltb 256 (n i)) (any_at (λ j. points_refused (n j)) axes fine i l)).1;
}

module _ (axes : ℕ) (entries : List Axis) {number : ℕ} (e : number ≡ sizes_check axes entries) where
  pub sizes_passed : number ≡ 0 → InRange axes (points_of entries)
  unfolding sizes_check
  sizes_passed z =
      let none = none_applies (sizes_rows (sizes_of axes entries)) tt (sym e ∙ z) in
      let few = axes_few {axes = axes} none.0 in
      in_range few.0 few.1 none.1.0

  pub sizes_stop : (later : ℕ) → (number ≡ 0 → ⊥) → number ≡ lowest (sizes_rows (sizes_of axes entries)) later
  unfolding sizes_check
  sizes_stop = rows_stop (sizes_rows (sizes_of axes entries)) tt e

  pub sizes_given : {Given : Type 0} (given : Result Given rules.Refusal) (met : rules.Refusal) → number ≡ number_of met
      → IsErrAnd given (λ refusal. refusal ≡ met) → (later : ℕ) → refusal_of given ≡ lowest (sizes_rows (sizes_of axes entries)) later
  unfolding sizes_check
  sizes_given given met is_number = rows_given (sizes_rows (sizes_of axes entries)) tt given met (sym is_number ∙ e)

  pub sizes_pass : {answer : ℕ} (later : ℕ) → number ≡ 0 → answer ≡ later → answer ≡ lowest (sizes_rows (sizes_of axes entries)) later
  unfolding sizes_check
  sizes_pass = rows_pass (sizes_rows (sizes_of axes entries)) tt e

-- ---- row 4

-- a length that is the size is not refused ..
pub length_fits : (given size : ℕ) → given ≡ size → length_refused given size ≡ false
length_fits given size e = ap not (eq-eqb given size e)

-- .. and one that is not refused is the size
pub exact : (given size : ℕ) → length_refused given size ≡ false → given ≡ size
exact given size e = eqb-true given size (not-false _ e)

pub exact_2 : (a m b n : ℕ) → (length_refused a m || length_refused b n) ≡ false → (a ≡ m) × (b ≡ n)
exact_2 a m b n e =
    let two = neither (length_refused a m) (length_refused b n) e in (exact a m two.0, exact b n two.1)

pub exact_3 : (a m b n c k : ℕ) → (length_refused a m || length_refused b n || length_refused c k) ≡ false → (a ≡ m) × (b ≡ n) × (c ≡ k)
exact_3 a m b n c k e =
    let three = neither (length_refused a m || length_refused b n) (length_refused c k) e in
    let two = exact_2 a m b n three.0 in (two.0, two.1, exact c k three.1)

pub exact_4 : (a m b n c k d l : ℕ) → (length_refused a m || length_refused b n || length_refused c k || length_refused d l) ≡ false
    → (a ≡ m) × (b ≡ n) × (c ≡ k) × (d ≡ l)
exact_4 a m b n c k d l e =
    let four = neither (length_refused a m || length_refused b n || length_refused c k) (length_refused d l) e in
    let three = exact_3 a m b n c k four.0 in (three.0, three.1, three.2, exact d l four.1)

-- ---- row 8 of one axis, whose knots are as many as its points

pub knots_row : (x : List Float) (n : ℕ) {r : Bool} → length x ≡ n → r ≡ knots_refused x (length x) → r ≡ knots_refused x n
knots_row x n exact e = e ∙ ap (knots_refused x) exact
