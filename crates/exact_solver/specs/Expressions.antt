-- Expressions of numbers, the fraction of two polynomials that each comes to, and the test whether two come to the same one.
use Rattle.std.specs.Prelude.{◌≡◌, Bool, true, false, ◌&&◌, List, [], ◌∷◌, eqb, ltb}
use Prim.Native.Nat.{ℕ, zero, suc, ◌+◌, ◌*◌, compare, Ordering}
use Rattle.exact_arithmetic.specs.Arithmetic.{Arithmetic}

-- expressions
pub data Term : Type 0 where
  var : ℕ → Term
  t0 t1 t2 t3 t6 : Term
  add sub mul div : Term → Term → Term
  neg : Term → Term

-- expressions are an arithmetic: a rule read in it is its own reification
abbrev pub terms : Arithmetic
terms =
    record {
      Number = Term;
      absent = t0;
      nought = t0;
      one = t1;
      two = t2;
      three = t3;
      six = t6;
      plus = add;
      minus = sub;
      times = mul;
      over = div;
      negative = neg;
    }

-- a polynomial: terms with the exponents of the variables, and a coefficient that is the difference of two numbers
pub data Poly : Type 0 where
  none : Poly
  term : List ℕ → ℕ → ℕ → Poly → Poly

abbrev pub then : Ordering → Ordering → Ordering
then Ordering.lt o = Ordering.lt
then Ordering.eq o = o
then Ordering.gt o = Ordering.gt

abbrev pub order : List ℕ → List ℕ → Ordering
order [] [] = Ordering.eq
order [] (k ∷ m) = Ordering.lt
order (j ∷ l) [] = Ordering.gt
order (j ∷ l) (k ∷ m) = then (compare j k) (order l m)

abbrev pub joined : List ℕ → List ℕ → List ℕ
joined [] m = m
joined (j ∷ l) [] = j ∷ l
joined (j ∷ l) (k ∷ m) = (j + k) ∷ joined l m

abbrev pub single : ℕ → List ℕ
single zero = 1 ∷ []
single (suc i) = 0 ∷ single i

abbrev pub put : List ℕ → ℕ → ℕ → Poly → Poly
put m p n none = term m p n none
put m p n (term l q r rest) =
    elim (order m l) [
      | Ordering.lt ↦ term m p n (term l q r rest)
      | Ordering.eq ↦ term l (p + q) (n + r) rest
      | Ordering.gt ↦ term l q r (put m p n rest)
    ]

abbrev pub sum : Poly → Poly → Poly
sum none b = b
sum (term m p n rest) b = put m p n (sum rest b)

abbrev pub scaled : List ℕ → ℕ → ℕ → Poly → Poly
scaled m p n none = none
scaled m p n (term l q r rest) = term (joined m l) (p * q + n * r) (p * r + n * q) (scaled m p n rest)

abbrev pub product : Poly → Poly → Poly
product none b = none
product (term m p n rest) b = sum (scaled m p n b) (product rest b)

abbrev pub opposite : Poly → Poly
opposite none = none
opposite (term m p n rest) = term m n p (opposite rest)

abbrev pub number : ℕ → Poly
number n = term [] n 0 none

abbrev pub vanishes : Poly → Bool
vanishes none = true
vanishes (term m p n rest) = eqb p n && vanishes rest

-- a fraction
pub record Fraction : Type 0 where
  pub above : Poly
  pub below : Poly

abbrev pub fraction : Term → Fraction
fraction (var i) = record { above = term (single i) 1 0 none; below = number 1 }
fraction t0 = record { above = none; below = number 1 }
fraction t1 = record { above = number 1; below = number 1 }
fraction t2 = record { above = number 2; below = number 1 }
fraction t3 = record { above = number 3; below = number 1 }
fraction t6 = record { above = number 6; below = number 1 }
fraction (add a b) =
    let f : Fraction = fraction a in
    let g : Fraction = fraction b in
    record { above = sum (product f.above g.below) (product g.above f.below); below = product f.below g.below }
fraction (sub a b) =
    let f : Fraction = fraction a in
    let g : Fraction = fraction b in
    record { above = sum (product f.above g.below) (opposite (product g.above f.below)); below = product f.below g.below }
fraction (mul a b) =
    let f : Fraction = fraction a in
    let g : Fraction = fraction b in
    record { above = product f.above g.above; below = product f.below g.below }
fraction (div a b) =
    let f : Fraction = fraction a in
    let g : Fraction = fraction b in
    record { above = product f.above g.below; below = product f.below g.above }
fraction (neg a) =
    let f : Fraction = fraction a in
    record { above = opposite f.above; below = f.below }

-- whether two expressions come to the same fraction
abbrev pub same : Term → Term → Bool
same a b =
    let f : Fraction = fraction a in
    let g : Fraction = fraction b in
    vanishes (sum (product f.above g.below) (opposite (product g.above f.below)))

module _ (A : Arithmetic) where
  abbrev pub look : List A.Number → ℕ → A.Number
  look [] i = A.nought
  look (a ∷ rest) zero = a
  look (a ∷ rest) (suc i) = look rest i

  -- none of the first u numbers is nought
  abbrev pub Units : ℕ → List A.Number → Type 0
  Units zero env = Unit {0}
  Units (suc u) [] = ⊥
  Units (suc u) (a ∷ rest) = (¬ (a ≡ A.nought)) × Units u rest

  -- what an expression means where its variables are these numbers
  abbrev pub meaning : List A.Number → Term → A.Number
  meaning env (var i) = look env i
  meaning env t0 = A.nought
  meaning env t1 = A.one
  meaning env t2 = A.two
  meaning env t3 = A.three
  meaning env t6 = A.six
  meaning env (add a b) = A.plus (meaning env a) (meaning env b)
  meaning env (sub a b) = A.minus (meaning env a) (meaning env b)
  meaning env (mul a b) = A.times (meaning env a) (meaning env b)
  meaning env (div a b) = A.over (meaning env a) (meaning env b)
  meaning env (neg a) = A.negative (meaning env a)

-- whether an expression is not nought by its form, where the first u variables are not
abbrev pub unit : ℕ → Term → Bool
unit u (var i) = ltb i u
unit u t0 = false
unit u t1 = true
unit u t2 = true
unit u t3 = true
unit u t6 = true
unit u (add a b) = false
unit u (sub a b) = false
unit u (mul a b) = unit u a && unit u b
unit u (div a b) = unit u a && unit u b
unit u (neg a) = unit u a

-- whether all that it divides by is so
abbrev pub divides : ℕ → Term → Bool
divides u (var i) = true
divides u t0 = true
divides u t1 = true
divides u t2 = true
divides u t3 = true
divides u t6 = true
divides u (add a b) = divides u a && divides u b
divides u (sub a b) = divides u a && divides u b
divides u (mul a b) = divides u a && divides u b
divides u (div a b) = divides u a && (divides u b && unit u b)
divides u (neg a) = divides u a
