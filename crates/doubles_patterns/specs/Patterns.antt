-- What functions say to each other of a double's bit pattern. Without its sign it stands for a whole number of units, the smallest double.
use Rattle.std.specs.Prelude.{Bool, cond, ℕ, ◌+◌, ◌-◌, ◌*◌, ◌/◌, ◌%◌, ◌^◌, leb, ltb}
use Rattle.std.specs.Float.{Format, binary64}
use Rattle.std.specs.Float.Ieee.{prec, low, hid, ones}
use Rattle.std.specs.Float.Ieee.Order.{drop, kept}

-- ---- numbers that patterns are made of

-- one more than the largest word, and the weights of a word's two top places; the top place is the sign
abbrev pub word : ℕ
word = 18446744073709551616

abbrev pub top_place : ℕ
top_place = 9223372036854775808

abbrev pub second_place : ℕ
second_place = 4611686018427387904

-- 2 ^ 52, the weight of a number's leading digit, which no pattern holds, and of the exponent's last place
abbrev pub leading : ℕ
leading = 4503599627370496

-- the patterns of infinity, above which lie those of NaN, and of the NaN that answers are
abbrev pub infinity : ℕ
infinity = 9218868437227405312

abbrev pub not_a_number : ℕ
not_a_number = 9221120237041090560

-- ---- the sign, and the rest

abbrev pub magnitude : ℕ → ℕ
magnitude a = a % top_place

abbrev pub negative : ℕ → Bool
negative a = leb top_place a

abbrev pub sign_weight : Bool → ℕ
sign_weight s = cond s top_place 0

-- ---- rounding

-- no pattern of a number lies above that of infinity
abbrev pub capped : Format → ℕ → ℕ
capped f x = cond (ltb x (ones f * hid f)) x (ones f * hid f)

-- the pattern of n / d units, rounded to the nearest, a tie to the even one: what is kept, and a step of the exponent for each place that
-- is dropped. The leading digit counts one step, so that subnormals, a carry into the exponent and overflow are no cases of their own.
unfoldable pub pattern : Format → ℕ → ℕ → ℕ
pattern f n d = capped f (drop (prec f) n d * hid f + kept (prec f) n d)

-- ---- the magnitude p is exponent * 2 ^ 52 + digits, and stands for digits * 2 ^ exponent units

unfoldable pub exponent_of : ℕ → ℕ
exponent_of p = p / leading - 1

unfoldable pub digits_of : ℕ → ℕ
unfolding exponent_of
digits_of p = p - exponent_of p * leading

unfoldable pub units_of : ℕ → ℕ
unfolding digits_of exponent_of
units_of p = digits_of p * 2 ^ exponent_of p

-- the patterns of the product and of the quotient of x units and y units
unfoldable pub product_of_units : ℕ → ℕ → ℕ
unfolding pattern
product_of_units x y = pattern binary64 (x * y) (2 ^ low binary64)

unfoldable pub quotient_of_units : ℕ → ℕ → ℕ
unfolding pattern
quotient_of_units x y = pattern binary64 (x * 2 ^ low binary64) y
