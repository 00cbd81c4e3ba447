-- The totals of one order: with an entry more they are the sum with those of the one, and none passes the number of all entries.
use mathlib.Core.Path.{◌≡◌, refl}
use mathlib.Core.Bool.{Bool, true, false}
use mathlib.Core.List.{List, [], ◌∷◌, ◌++◌}
use Prim.Native.Nat.{ℕ, ◌+◌, ◌<◌, ◌≤◌}
use native.Mathlib.Omega.{arith}
use lib.Dec.{eqb}
use lib.ListN.{length, get_or, length-append}
use Rattle.rules.specs.Numbers.{filter}
use Rattle.rules.proofs.Tables.{at_table}
use Rattle.report_totals.specs.Totals.{Entry, nonzero, of_order}
use Rattle.report_totals.specs.Counting.{one_if, no_entries, of_one, sum, order_totals, orders_of}
use Rattle.report_totals.specs.declared.OrderTotals.{OrderTotals}
use Rattle.report_totals.proofs.Lists.{filter_kept, filter_dropped, filter_most, largest_snoc}

pub totals_parts : (a b c d e f : ℕ) → a ≡ d → b ≡ e → c ≡ f
    → ◌≡◌ {A = OrderTotals} (record { entries = a; nonzero = b; largest = c }) (record { entries = d; nonzero = e; largest = f })
totals_parts a b c d e f p q r = cc

-- ---- the entries of one order, and one more

abbrev not_zero : Entry → Bool
not_zero entry = nonzero entry.number

nonzero_next : (entries : List Entry) (entry : Entry) (b : Bool) → not_zero entry ≡ b
    → length (filter not_zero (entries ++ (entry ∷ []))) ≡ length (filter not_zero entries) + one_if b
nonzero_next entries entry true e = rw (filter_kept not_zero entries entry e) (length-append (filter not_zero entries) (entry ∷ []))
nonzero_next entries entry false e = rw (filter_dropped not_zero entries entry e) (omega arith)

pub order_next : (entries : List Entry) (entry : Entry)
    → order_totals (entries ++ (entry ∷ [])) ≡ sum (order_totals entries) (of_one entry.number)
unfolding order_totals
order_next entries entry =
    totals_parts _ _ _ _ _ _
    (length-append entries (entry ∷ []))
    (nonzero_next entries entry (not_zero entry) refl)
    (largest_snoc entries entry)

-- no count of an order passes the number of all entries
pub order_most : (entries : List Entry) (k : ℕ) → k < 5
    → ((get_or (orders_of entries) k no_entries).entries ≤ length entries) × ((get_or (orders_of entries) k no_entries).nonzero ≤ length entries)
unfolding orders_of order_totals
order_most entries k h =
    let own = filter_most (λ entry. eqb entry.order k) entries in
    let some = filter_most not_zero (of_order k entries) in
    rw (at_table 5 (λ j. order_totals (of_order j entries)) k no_entries h) (own, omega arith)
