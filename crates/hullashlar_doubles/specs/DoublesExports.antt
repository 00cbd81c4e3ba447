-- The chapter DoublesExports of docs/RULES.md: the calls of double arithmetic for C, patterns in and a pattern or a truth out. They refuse
-- nothing: each has an answer for every two patterns.
use Rattle.std.specs.Prelude.{◌≡◌, Bool, cond, ℕ}
use Rattle.doubles_patterns.specs.Doubles.{
  sum_pattern,
  difference_pattern,
  product_pattern,
  quotient_pattern,
  is_less,
  is_at_most,
  is_equal,
  is_unordered,
}

-- a truth as a number of 32 bits, since C's own bool has no width that all processors agree on
abbrev pub truth : Bool → ℕ
truth t = cond t 1 0

module _ (a b r : ℕ) where
  -- the four operations
  pub record AddExport : Type 0 where
    pub answer : r ≡ sum_pattern a b

  pub record SubExport : Type 0 where
    pub answer : r ≡ difference_pattern a b

  pub record MulExport : Type 0 where
    pub answer : r ≡ product_pattern a b

  pub record DivExport : Type 0 where
    pub answer : r ≡ quotient_pattern a b

  -- the comparisons; greater is less the other way round
  pub record LtExport : Type 0 where
    pub answer : r ≡ truth (is_less a b)

  pub record LeExport : Type 0 where
    pub answer : r ≡ truth (is_at_most a b)

  pub record EqExport : Type 0 where
    pub answer : r ≡ truth (is_equal a b)

  pub record GtExport : Type 0 where
    pub answer : r ≡ truth (is_less b a)

  pub record GeExport : Type 0 where
    pub answer : r ≡ truth (is_at_most b a)

  pub record UnExport : Type 0 where
    pub answer : r ≡ truth (is_unordered a b)
