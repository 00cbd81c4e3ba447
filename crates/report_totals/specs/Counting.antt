-- Counting, for functions that are no public calls: which entries or sheets some counts are of, and that there is room for more.
use Rattle.std.specs.Prelude.{◌≡◌, Bool, false, cond, List, [], ◌∷◌, ◌++◌, ℕ, zero, suc, ◌+◌, ◌*◌, ◌/◌, ◌^◌, ◌≤◌, max, length, get_or, set, Float}
use Rattle.rules.specs.Numbers.{at, table, filter}
use Rattle.rules.specs.Sizes.{most_in_a_tensor}
use Rattle.rules.specs.Refusals.{some_number_refused}
use Rattle.report_totals.specs.Totals.{
  Entry,
  Sheet,
  magnitude,
  nonzero,
  largest,
  of_order,
  all_entries,
  derivative_orders,
  most_sheets,
  totals_of,
}
use Rattle.report_totals.specs.declared.OrderTotals.{OrderTotals}
use Rattle.report_totals.specs.declared.Totals.{Totals}

-- 1 where a test holds
abbrev pub one_if : Bool → ℕ
one_if test = cond test 1 0

-- the totals of the entries of one order
unfoldable pub order_totals : List Entry → OrderTotals
order_totals entries =
    record { entries = length entries; nonzero = length (filter (λ entry. nonzero entry.number) entries); largest = largest entries }

-- those of every order
unfoldable pub orders_of : List Entry → List OrderTotals
orders_of entries = table derivative_orders (λ k. order_totals (of_order k entries))

-- the totals of no entries, of one, and of the entries of both
abbrev pub no_entries : OrderTotals
no_entries = record { entries = 0; nonzero = 0; largest = 0 }

abbrev pub of_one : Float → OrderTotals
of_one number = record { entries = 1; nonzero = one_if (nonzero number); largest = magnitude number }

abbrev pub sum : OrderTotals → OrderTotals → OrderTotals
sum a b = record {
  entries = a.entries + b.entries;
  nonzero = a.nonzero + b.nonzero;
  largest = max a.largest b.largest;
}

-- the totals of the entries of one mask at the first so many places
unfoldable pub of_mask : ℕ → ℕ → List Float → ℕ → OrderTotals
of_mask masks mask numbers zero = no_entries
of_mask masks mask numbers (suc p) = sum (of_mask masks mask numbers p) (of_one (at numbers (p * masks + mask)))

-- the numbers of a tensor over one axis or more: as many for each mask, few enough, and all of them finite
pub record InPlaces (axes : ℕ) (numbers : List Float) : Type 0 where
  pub some : 1 ≤ axes
  pub few : axes ≤ 4
  pub whole : length numbers ≡ (length numbers / 2 ^ axes) * 2 ^ axes
  pub small : length numbers ≤ most_in_a_tensor
  pub finite : some_number_refused numbers ≡ false

-- the orders count entries, and there is room for n more
pub record Room (orders : List OrderTotals) (n : ℕ) : Type 0 where
  pub before : List Entry
  pub said : orders ≡ orders_of before
  pub few : length before + n ≤ 2 ^ 62

-- entries were added: of any that the orders were of, and of these behind them, they are now
abbrev pub Tallied : List OrderTotals → List Entry → List OrderTotals → Type 0
Tallied orders more later = (before : List Entry) → orders ≡ orders_of before → later ≡ orders_of (before ++ more)

-- the totals count sheets, no more than a report has, with no more entries than these can have
pub record Running (totals : Totals) : Type 0 where
  pub seen : List Sheet
  pub said : totals ≡ totals_of seen
  pub few : length seen ≤ most_sheets
  pub small : length (all_entries seen) ≤ most_in_a_tensor * length seen

-- totals with one sheet more, by its refusal, and with these orders
abbrev pub sheet_added : Totals → ℕ → List OrderTotals → Totals
sheet_added totals refusal orders = record {
  sheets = totals.sheets + 1;
  refusals = set totals.refusals refusal (get_or totals.refusals refusal 0 + 1);
  orders = orders;
}

-- a sheet with this refusal and these entries was added: of any sheets that the totals were of, and of the new one behind them, they are
-- now
pub record Adds (totals : Totals) (refusal : ℕ) (tensor : List Entry) (later : Totals) : Type 0 where
  pub counted : later.sheets ≡ totals.sheets + 1
  pub adds : (seen : List Sheet) → totals ≡ totals_of seen
      → later ≡ totals_of (seen ++ (record { refusal = refusal; tensor = tensor } ∷ []))
