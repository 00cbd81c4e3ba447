-- The promise has one answer: whatever satisfies it, for the same sheet and the same lent slices, is equal in its answer and in all that
-- was lent. And what the call gives is one Result: the class of its refusal tells whether the sheet was read.
use mathlib.Core.Path.{◌≡◌, refl, sym, ap, ◌∙◌}
use mathlib.Core.Bool.{cond}
use mathlib.Core.List.{List}
use Prim.Native.Nat.{ℕ}
use lib.Dec.{eqb}
use lib.Ieee.{Float}
use borrow.Author.Tests.{ne_eqb}
use Rattle.std.specs.Prelude.{Result, Ok, Err}
use Rattle.rules.specs.Answers.{number_of}
use Rattle.rules.proofs.Given.{number_some}
use Rattle.grid_codes.specs.Classes.{class, unread}
use Rattle.sheet_read.specs.declared.Sheet.{Sheet}
use Rattle.sheet_build.specs.SheetTensor.{sheet_told, SheetGiven, SheetPromise, SheetAnswer}
use Rattle.sheet_build.specs.declared.BuiltSheet.{BuiltSheet}
use Rattle.sheet_build.specs.declared.SheetRefusal.{SheetRefusal}
use Rattle.sheet_build.specs.declared.SheetRefusal.TheVariants.{Unread, Unbuilt}
use Rattle.sheet_build.proofs.Results.{refusal_of_number, number_back}

pub sheet_unique :
    (bytes : List ℕ) (knots samples tensor scratch : List Float) (a a' : SheetAnswer) (k k' s s' t t' w w' : List Float)
    → SheetPromise bytes knots samples tensor scratch a k s t w
    → SheetPromise bytes knots samples tensor scratch a' k' s' t' w'
    → (a ≡ a') × (k ≡ k') × (s ≡ s') × (t ≡ t') × (w ≡ w')
sheet_unique bytes knots samples tensor scratch a a' k k' s s' t t' w w' p q = (
  p.answer ∙ sym q.answer,
  p.knots ∙ sym q.knots,
  p.samples ∙ sym q.samples,
  p.output ∙ sym q.output,
  p.scratch ∙ sym q.scratch,
)

-- ---- the Result

abbrev sheet_in : SheetAnswer → Sheet
sheet_in a = record { edition = a.edition; axes = a.axes; all = a.all }

-- the Result that is told in these numbers
abbrev told_of : SheetAnswer → Result BuiltSheet SheetRefusal
told_of a =
    cond (eqb a.refusal 0) (Ok (record { sheet = sheet_in a; length = a.length }))
    (cond (unread (class a.refusal)) (Err (Unread (refusal_of_number a.refusal)))
    (Err (Unbuilt (refusal_of_number a.refusal) (sheet_in a))))

told_back : (given : Result BuiltSheet SheetRefusal) → SheetGiven given → told_of (sheet_told given) ≡ given
told_back (Ok built) of = refl
told_back (Err (Unread refusal)) of = rw (ne_eqb (number_of refusal) 0 (number_some refusal), of, number_back refusal) refl
told_back (Err (Unbuilt refusal sheet)) of = rw (ne_eqb (number_of refusal) 0 (number_some refusal), of, number_back refusal) refl

pub sheet_one_result :
    (bytes : List ℕ) (knots samples tensor scratch : List Float) (r r' : Result BuiltSheet SheetRefusal)
    (k k' s s' t t' w w' : List Float)
    → SheetPromise bytes knots samples tensor scratch (sheet_told r) k s t w × SheetGiven r
    → SheetPromise bytes knots samples tensor scratch (sheet_told r') k' s' t' w' × SheetGiven r'
    → r ≡ r'
sheet_one_result bytes knots samples tensor scratch r r' k k' s s' t t' w w' p q =
    sym (told_back r p.1)
    ∙ ap told_of (sheet_unique bytes knots samples tensor scratch _ _ k k' s s' t t' w w' p.0 q.0).0
    ∙ told_back r' q.1
