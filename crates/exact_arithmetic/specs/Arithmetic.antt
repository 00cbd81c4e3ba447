-- The chapter Arithmetic of docs/RULES.md: what the rules compute with, and what makes it a field and an ordered field.
use Rattle.std.specs.Prelude.{◌≡◌}

-- numbers, five constants and five operations; `absent` is what a list gives past its end
pub record Arithmetic : Type 1 where
  pub Number : Type 0
  pub absent : Number
  pub nought : Number
  pub one : Number
  pub two : Number
  pub three : Number
  pub six : Number
  pub plus : Number → Number → Number
  pub minus : Number → Number → Number
  pub times : Number → Number → Number
  pub over : Number → Number → Number
  pub negative : Number → Number

-- the laws of a field in which 6 is not 0; of a quotient by 0 nothing is asked
pub record IsField (A : Arithmetic) : Type 0 where
  pub plus_assoc : (a b c : A.Number) → A.plus (A.plus a b) c ≡ A.plus a (A.plus b c)
  pub plus_comm : (a b : A.Number) → A.plus a b ≡ A.plus b a
  pub plus_nought : (a : A.Number) → A.plus a A.nought ≡ a
  pub plus_negative : (a : A.Number) → A.plus a (A.negative a) ≡ A.nought
  pub times_assoc : (a b c : A.Number) → A.times (A.times a b) c ≡ A.times a (A.times b c)
  pub times_comm : (a b : A.Number) → A.times a b ≡ A.times b a
  pub times_one : (a : A.Number) → A.times a A.one ≡ a
  pub times_plus : (a b c : A.Number) → A.times a (A.plus b c) ≡ A.plus (A.times a b) (A.times a c)
  pub minus_is : (a b : A.Number) → A.minus a b ≡ A.plus a (A.negative b)
  pub two_is : A.two ≡ A.plus A.one A.one
  pub three_is : A.three ≡ A.plus A.two A.one
  pub six_is : A.six ≡ A.plus A.three A.three
  pub over_times : (a b : A.Number) → ¬ (b ≡ A.nought) → A.times (A.over a b) b ≡ a
  pub one_not_nought : ¬ (A.one ≡ A.nought)
  pub six_not_nought : ¬ (A.six ≡ A.nought)

-- which numbers are positive: one is, sums, products and quotients of such are, and nought is not
pub record IsOrdered (A : Arithmetic) : Type 1 where
  pub Positive : A.Number → Type 0
  pub positive_one : Positive A.one
  pub positive_plus : (a b : A.Number) → Positive a → Positive b → Positive (A.plus a b)
  pub positive_times : (a b : A.Number) → Positive a → Positive b → Positive (A.times a b)
  pub positive_over : (a b : A.Number) → Positive a → Positive b → Positive (A.over a b)
  pub positive_not_nought : (a : A.Number) → Positive a → ¬ (a ≡ A.nought)
