-- The profile's promise has one answer: whatever satisfies it, for the same grid, is equal in refusal, axis and place. And what the call
-- gives is one Result: where 7, 8 and 21 are given with what lacks the quality, no two are told in the same numbers.
use mathlib.Core.Path.{◌≡◌, refl, sym, ap, ◌∙◌}
use mathlib.Core.Bool.{cond}
use Prim.Native.Nat.{ℕ}
use native.Mathlib.Omega.{arith}
use lib.Dec.{eqb}
use Rattle.std.specs.Prelude.{Result, Ok, Err}
use Rattle.rules.specs.Sizes.{Grid}
use Rattle.rules.specs.declared.Refusal.{Refusal}
use Rattle.rules.specs.declared.Refusal.TheVariants.{
  Axes,
  Points,
  Tensor,
  Length,
  Scratch,
  Place,
  Number,
  Knots,
  Fewness,
  Outcome,
  Short,
  Edition,
  Kinds,
  Tail,
  Buffer,
  Stack,
  Unused,
  Outside,
  Range,
  Position,
  Uneven as UnevenAlone,
  Mode,
  Lost,
}
use Rattle.rules.proofs.Unique.{same}
use Rattle.query_profile.specs.ProfileCalls.{EvenProfile, even_profile_told, LackGiven, EvenProfilePromise}
use Rattle.query_profile.specs.declared.ProfileRefusal.{ProfileRefusal}
use Rattle.query_profile.specs.declared.ProfileRefusal.TheVariants.{Refused, NotFinite, NotRising, Uneven}

pub even_profile_unique : (g : Grid) (a a' : EvenProfile) → EvenProfilePromise g a → EvenProfilePromise g a' → a ≡ a'
even_profile_unique g a a' p q = same p.answer q.answer

-- ---- the Result

-- the refusal of 1 to 4
abbrev of_sizes : ℕ → Refusal
of_sizes number = cond (eqb number 1) Axes (cond (eqb number 2) Points (cond (eqb number 3) Tensor Length))

-- the Result that is told in these numbers
abbrev told_of : EvenProfile → Result (Unit {0}) ProfileRefusal
told_of a =
    cond (eqb a.refusal 0) (Ok tt)
    (cond (eqb a.refusal 7) (Err (NotFinite (record { axis = a.axis; place = a.place })))
    (cond (eqb a.refusal 8) (Err (NotRising (record { axis = a.axis; place = a.place })))
    (cond (eqb a.refusal 21) (Err (Uneven (record { axis = a.axis; place = a.place }))) (Err (Refused (of_sizes a.refusal))))))

told_back : (given : Result (Unit {0}) ProfileRefusal) → LackGiven given → told_of (even_profile_told given) ≡ given
told_back (Ok given) lack = refl
told_back (Err (NotFinite lack)) given = refl
told_back (Err (NotRising lack)) given = refl
told_back (Err (Uneven lack)) given = refl
told_back (Err (Refused Axes)) low = refl
told_back (Err (Refused Points)) low = refl
told_back (Err (Refused Tensor)) low = refl
told_back (Err (Refused Length)) low = refl
told_back (Err (Refused Scratch)) low = absurd (omega (arith, low))
told_back (Err (Refused Place)) low = absurd (omega (arith, low))
told_back (Err (Refused Number)) low = absurd (omega (arith, low))
told_back (Err (Refused Knots)) low = absurd (omega (arith, low))
told_back (Err (Refused Fewness)) low = absurd (omega (arith, low))
told_back (Err (Refused Outcome)) low = absurd (omega (arith, low))
told_back (Err (Refused Short)) low = absurd (omega (arith, low))
told_back (Err (Refused Edition)) low = absurd (omega (arith, low))
told_back (Err (Refused Kinds)) low = absurd (omega (arith, low))
told_back (Err (Refused Tail)) low = absurd (omega (arith, low))
told_back (Err (Refused Buffer)) low = absurd (omega (arith, low))
told_back (Err (Refused Stack)) low = absurd (omega (arith, low))
told_back (Err (Refused Unused)) low = absurd (omega (arith, low))
told_back (Err (Refused Outside)) low = absurd (omega (arith, low))
told_back (Err (Refused Range)) low = absurd (omega (arith, low))
told_back (Err (Refused Position)) low = absurd (omega (arith, low))
told_back (Err (Refused UnevenAlone)) low = absurd (omega (arith, low))
told_back (Err (Refused Mode)) low = absurd (omega (arith, low))
told_back (Err (Refused Lost)) low = absurd (omega (arith, low))

pub even_profile_one_result :
    (g : Grid) (r r' : Result (Unit {0}) ProfileRefusal)
    → EvenProfilePromise g (even_profile_told r) × LackGiven r
    → EvenProfilePromise g (even_profile_told r') × LackGiven r'
    → r ≡ r'
even_profile_one_result g r r' p q =
    sym (told_back r p.1) ∙ ap told_of (even_profile_unique g _ _ p.0 q.0) ∙ told_back r' q.1
