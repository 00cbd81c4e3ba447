-- Worked examples, by computation: the totals of the example's sheet, and of a refused sheet and one that holds -0.0.
use mathlib.Core.Path.{◌≡◌, refl}
use mathlib.Core.List.{[], ◌∷◌}
use lib.Count.{ones, ones_in}
use lib.Ieee.{Float, binary64, of_bits, to_bits}
use Rattle.rules.specs.Numbers.{filter}
use Rattle.report_totals.specs.Totals.{Sheet, tensor_entries, largest, all_entries, totals_of}
use Rattle.report_totals.specs.Counting.{no_entries}

abbrev zero : Float
zero = of_bits binary64 0x0000_0000_0000_0000

abbrev minus_zero : Float
minus_zero = of_bits binary64 0x8000_0000_0000_0000

abbrev one : Float
one = of_bits binary64 0x3FF0_0000_0000_0000

abbrev minus_two : Float
minus_two = of_bits binary64 0xC000_0000_0000_0000

-- the example's sheet: one axis, two points
abbrev example : Sheet
example = record { refusal = 0; tensor = tensor_entries 1 (zero ∷ one ∷ one ∷ one ∷ []) }

example_orders : (totals_of (example ∷ [])).orders
    ≡ record { entries = 2; nonzero = 1; largest = 0x3FF0_0000_0000_0000 }
    ∷ record { entries = 2; nonzero = 2; largest = 0x3FF0_0000_0000_0000 }
    ∷ no_entries ∷ no_entries ∷ no_entries ∷ []
unfolding totals_of filter largest all_entries ones ones_in of_bits to_bits
example_orders = refl

-- two axes: -0.0 is an entry and no non-zero one, and -2 has the largest magnitude
abbrev signed : Sheet
signed = record { refusal = 0; tensor = tensor_entries 2 (minus_zero ∷ one ∷ minus_two ∷ minus_zero ∷ []) }

abbrev refused : Sheet
refused = record { refusal = 8; tensor = [] }

signed_orders : (totals_of (signed ∷ refused ∷ [])).orders
    ≡ record { entries = 1; nonzero = 0; largest = 0 } ∷ record { entries = 2; nonzero = 2; largest = 0x4000_0000_0000_0000 }
    ∷ record { entries = 1; nonzero = 0; largest = 0 } ∷ no_entries ∷ no_entries ∷ []
unfolding totals_of filter largest all_entries ones ones_in of_bits to_bits
signed_orders = refl

signed_refusals : (totals_of (signed ∷ refused ∷ [])).refusals
    ≡ 1 ∷ 0 ∷ 0 ∷ 0 ∷ 0 ∷ 0 ∷ 0 ∷ 0 ∷ 1 ∷ 0 ∷ 0 ∷ 0 ∷ 0 ∷ 0 ∷ 0 ∷ 0 ∷ 0 ∷ 0 ∷ 0 ∷ 0 ∷ 0 ∷ 0 ∷ 0 ∷ 0 ∷ []
unfolding totals_of filter
signed_refusals = refl
