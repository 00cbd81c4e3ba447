-- The tests of finite floats are those of their exact values: less, not less, and at most.
use mathlib.Core.Path.{◌≡◌, refl}
use mathlib.Core.Bool.{Bool, true, false, ◌&&◌, ◌||◌, true≢false, false≢true}
use Prim.Native.Nat.{◌+◌, ◌*◌}
use native.Mathlib.Omega.{arith}
use lib.Dec.{eqb}
use lib.Ieee.{Float, nan, inf, fin, lt, eq, le, up, down}
use lib.Ieee.Scale.{finite}
use borrow.Author.Tests.{ltb-true, ltb-false, eqb-true}
use Rattle.exact_rationals.specs.Rationals.{Positive, Least, minus}
use Rattle.exact_rationals.specs.Values.{value}
use Rattle.exact_rationals.proofs.RationalLaws.{positive_difference}
use Rattle.exact_rationals.proofs.Order.{least_difference, positive_least}

-- less
pub less_is_less : (a b : Float) → finite a ≡ true → finite b ≡ true → lt a b ≡ true → Positive (minus (value b) (value a))
unfolding lt
less_is_less nan b f g l = absurd (false≢true f)
less_is_less (inf s) b f g l = absurd (false≢true f)
less_is_less (fin s m e) nan f g l = absurd (false≢true g)
less_is_less (fin s m e) (inf t) f g l = absurd (false≢true g)
less_is_less (fin false m e) (fin false n d) f g l =
    positive_difference _ _ (omega (arith, ltb-true (m * up e * down d) (n * up d * down e) l))
less_is_less (fin false m e) (fin true n d) f g l = absurd (false≢true l)
less_is_less (fin true m e) (fin false n d) f g l =
    positive_difference _ _ (omega (arith, ltb-true 0 (m * up e * down d + n * up d * down e) l))
less_is_less (fin true m e) (fin true n d) f g l =
    positive_difference _ _ (omega (arith, ltb-true (n * up d * down e) (m * up e * down d) l))

-- not less
pub not_less : (a b : Float) → finite a ≡ true → finite b ≡ true → lt a b ≡ false → Least (minus (value a) (value b))
unfolding lt
not_less nan b f g l = absurd (false≢true f)
not_less (inf s) b f g l = absurd (false≢true f)
not_less (fin s m e) nan f g l = absurd (false≢true g)
not_less (fin s m e) (inf t) f g l = absurd (false≢true g)
not_less (fin false m e) (fin false n d) f g l =
    least_difference _ _ (omega (arith, ltb-false (m * up e * down d) (n * up d * down e) l))
not_less (fin false m e) (fin true n d) f g l = least_difference _ _ (omega arith)
not_less (fin true m e) (fin false n d) f g l =
    least_difference _ _ (omega (arith, ltb-false 0 (m * up e * down d + n * up d * down e) l))
not_less (fin true m e) (fin true n d) f g l =
    least_difference _ _ (omega (arith, ltb-false (n * up d * down e) (m * up e * down d) l))

both : (a b : Bool) → a && b ≡ true → (a ≡ true) × (b ≡ true)
both true b e = (refl, e)
both false b e = absurd (false≢true e)

-- equal
equal_least : (a b : Float) → finite a ≡ true → finite b ≡ true → eq a b ≡ true → Least (minus (value b) (value a))
unfolding eq
equal_least nan b f g l = absurd (false≢true f)
equal_least (inf s) b f g l = absurd (false≢true f)
equal_least (fin s m e) nan f g l = absurd (false≢true g)
equal_least (fin s m e) (inf t) f g l = absurd (false≢true g)
equal_least (fin false m e) (fin false n d) f g l =
    least_difference _ _ (omega (arith, eqb-true (m * up e * down d) (n * up d * down e) (both _ _ l).0))
equal_least (fin false m e) (fin true n d) f g l =
    let two = both (eqb (m * up e * down d) (n * up d * down e)) (eqb (m * up e * down d) 0) l in
    least_difference _ _ (omega (arith, eqb-true (m * up e * down d) (n * up d * down e) two.0, eqb-true (m * up e * down d) 0 two.1))
equal_least (fin true m e) (fin false n d) f g l = least_difference _ _ (omega arith)
equal_least (fin true m e) (fin true n d) f g l =
    least_difference _ _ (omega (arith, eqb-true (m * up e * down d) (n * up d * down e) (both _ _ l).0))

-- at most
pub at_most : (a b : Float) → finite a ≡ true → finite b ≡ true → le a b ≡ true → Least (minus (value b) (value a))
unfolding le
at_most a b f g l = go (lt a b) refl
  where
    go : (t : Bool) → lt a b ≡ t → Least (minus (value b) (value a))
    go true e = positive_least _ (less_is_less a b f g e)
    go false e = equal_least a b f g (other (lt a b) (eq a b) e l)
      where
        other : (t u : Bool) → t ≡ false → t || u ≡ true → u ≡ true
        other true u p q = absurd (true≢false p)
        other false u p q = q
