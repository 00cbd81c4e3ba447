-- The number of a refusal tells the refusal: two of one number are one. So what a call answers, told in numbers, tells the Result that the
-- call gives.
use mathlib.Core.Path.{◌≡◌, refl, sym, ap, ◌∙◌}
use mathlib.Core.Bool.{cond}
use Prim.Native.Nat.{ℕ}
use lib.Dec.{eqb}
use lib.Ieee.{Float}
use Rattle.std.specs.Prelude.{Option, Result, Ok, Err}
use Rattle.rules.specs.Answers.{
  number_of,
  refusal_of,
  CurveAnswer,
  curve_told,
  ChangeAnswer,
  change_told,
  QueryAnswer,
  query_told,
  ExactAnswer,
  exact_told,
  AxisAnswer,
  axis_told,
  StepAnswer,
  step_told,
  SteppedAnswer,
  stepped_told,
}
use Rattle.rules.specs.declared.ValueInCell.{ValueInCell}
use Rattle.rules.specs.declared.SteppedSample.{SteppedSample}
use Rattle.rules.specs.declared.AxisLocation.{AxisLocation}
use Rattle.rules.proofs.Given.{number_some}
use Rattle.rules.specs.declared.Refusal.{Refusal}
use Rattle.rules.specs.declared.Refusal.TheVariants.{
  Axes,
  Points,
  Tensor,
  Length,
  Scratch,
  Place,
  Number,
  Knots,
  Fewness,
  Outcome,
  Short,
  Edition,
  Kinds,
  Tail,
  Buffer,
  Stack,
  Unused,
  Outside,
  Range,
  Position,
  Uneven,
  Mode,
  Lost,
}

-- the refusal of a number
abbrev pub refusal_of_number : ℕ → Refusal
refusal_of_number number =
    cond (eqb number 1) Axes
    (cond (eqb number 2) Points
    (cond (eqb number 3) Tensor
    (cond (eqb number 4) Length
    (cond (eqb number 5) Scratch
    (cond (eqb number 6) Place
    (cond (eqb number 7) Number
    (cond (eqb number 8) Knots
    (cond (eqb number 9) Fewness
    (cond (eqb number 10) Outcome
    (cond (eqb number 11) Short
    (cond (eqb number 12) Edition
    (cond (eqb number 13) Kinds
    (cond (eqb number 14) Tail
    (cond (eqb number 15) Buffer
    (cond (eqb number 16) Stack
    (cond (eqb number 17) Unused
    (cond (eqb number 18) Outside
    (cond (eqb number 19) Range
    (cond (eqb number 20) Position (cond (eqb number 21) Uneven (cond (eqb number 22) Mode Lost)))))))))))))))))))))

pub number_back : (refusal : Refusal) → refusal_of_number (number_of refusal) ≡ refusal
number_back Axes = refl
number_back Points = refl
number_back Tensor = refl
number_back Length = refl
number_back Scratch = refl
number_back Place = refl
number_back Number = refl
number_back Knots = refl
number_back Fewness = refl
number_back Outcome = refl
number_back Short = refl
number_back Edition = refl
number_back Kinds = refl
number_back Tail = refl
number_back Buffer = refl
number_back Stack = refl
number_back Unused = refl
number_back Outside = refl
number_back Range = refl
number_back Position = refl
number_back Uneven = refl
number_back Mode = refl
number_back Lost = refl

pub number_tells : (refusal other : Refusal) → number_of refusal ≡ number_of other → refusal ≡ other
number_tells refusal other e = sym (number_back refusal) ∙ ap refusal_of_number e ∙ number_back other

-- ---- what is told in numbers

-- what is told has the number of the refusal, and of what is not refused all that is given
module _
    {A T : Type 0} (told : Result T Refusal → A) (number : A → ℕ) (value : A → T)
    (numbers : (given : Result T Refusal) → number (told given) ≡ refusal_of given) (back : (given : T) → value (told (Ok given)) ≡ given)
  where
    pub told_tells : (given other : Result T Refusal) → told given ≡ told other → given ≡ other
    told_tells (Ok one) (Ok two) e = ap Ok (sym (back one) ∙ ap value e ∙ back two)
    told_tells (Ok one) (Err two) e = absurd (number_some two (sym (sym (numbers (Ok one)) ∙ ap number e ∙ numbers (Err two))))
    told_tells (Err one) (Ok two) e = absurd (number_some one (sym (numbers (Err one)) ∙ ap number e ∙ numbers (Ok two)))
    told_tells (Err one) (Err two) e = ap Err (number_tells one two (sym (numbers (Err one)) ∙ ap number e ∙ numbers (Err two)))

-- a call that gives nothing but its refusal
pub refusal_tells : (given other : Result (Unit {0}) Refusal) → refusal_of given ≡ refusal_of other → given ≡ other
refusal_tells = told_tells refusal_of (λ (n : ℕ). n) (λ (n : ℕ). tt) (λ given. refl) (λ given. refl)

curve_number : (given : Result Float Refusal) → (curve_told given).refusal ≡ refusal_of given
curve_number (Ok given) = refl
curve_number (Err refusal) = refl

pub curve_tells : (given other : Result Float Refusal) → curve_told given ≡ curve_told other → given ≡ other
curve_tells = told_tells curve_told (λ (a : CurveAnswer). a.refusal) (λ (a : CurveAnswer). a.value) curve_number (λ given. refl)

change_number : (given : Result ℕ Refusal) → (change_told given).refusal ≡ refusal_of given
change_number (Ok given) = refl
change_number (Err refusal) = refl

pub change_tells : (given other : Result ℕ Refusal) → change_told given ≡ change_told other → given ≡ other
change_tells = told_tells change_told (λ (a : ChangeAnswer). a.refusal) (λ (a : ChangeAnswer). a.lanes) change_number (λ given. refl)

query_number : (given : Result ValueInCell Refusal) → (query_told given).refusal ≡ refusal_of given
query_number (Ok given) = refl
query_number (Err refusal) = refl

pub query_tells : (given other : Result ValueInCell Refusal) → query_told given ≡ query_told other → given ≡ other
query_tells =
    told_tells query_told (λ (a : QueryAnswer). a.refusal) (λ (a : QueryAnswer). record { value = a.value; labels = a.labels })
    query_number (λ given. refl)

exact_number : (given : Result (Option ℕ) Refusal) → (exact_told given).refusal ≡ refusal_of given
exact_number (Ok given) = refl
exact_number (Err refusal) = refl

pub exact_tells : (given other : Result (Option ℕ) Refusal) → exact_told given ≡ exact_told other → given ≡ other
exact_tells = told_tells exact_told (λ (a : ExactAnswer). a.refusal) (λ (a : ExactAnswer). a.index) exact_number (λ given. refl)

axis_number : (given : Result AxisLocation Refusal) → (axis_told given).refusal ≡ refusal_of given
axis_number (Ok given) = refl
axis_number (Err refusal) = refl

pub axis_tells : (given other : Result AxisLocation Refusal) → axis_told given ≡ axis_told other → given ≡ other
axis_tells = told_tells axis_told (λ (a : AxisAnswer). a.refusal) (λ (a : AxisAnswer). a.location) axis_number (λ given. refl)

step_number : (given : Result ℕ Refusal) → (step_told given).refusal ≡ refusal_of given
step_number (Ok given) = refl
step_number (Err refusal) = refl

pub step_tells : (given other : Result ℕ Refusal) → step_told given ≡ step_told other → given ≡ other
step_tells = told_tells step_told (λ (a : StepAnswer). a.refusal) (λ (a : StepAnswer). a.index) step_number (λ given. refl)

stepped_number : (given : Result SteppedSample Refusal) → (stepped_told given).refusal ≡ refusal_of given
stepped_number (Ok given) = refl
stepped_number (Err refusal) = refl

pub stepped_tells : (given other : Result SteppedSample Refusal) → stepped_told given ≡ stepped_told other → given ≡ other
stepped_tells =
    told_tells stepped_told (λ (a : SteppedAnswer). a.refusal) (λ (a : SteppedAnswer). record { value = a.value; indices = a.indices })
    stepped_number (λ given. refl)
