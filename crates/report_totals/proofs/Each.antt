-- A theorem for each total: what the state holds is what the total's definition says of the sheets. And in a report none of them passes
-- what fits.
use mathlib.Core.Path.{◌≡◌, refl}
use mathlib.Core.List.{List}
use Prim.Native.Nat.{ℕ, ◌*◌, ◌<◌, ◌≤◌}
use native.Mathlib.Omega.{arith}
use lib.ListN.{get_or}
use Rattle.rules.specs.Sizes.{most_in_a_tensor}
use Rattle.rules.proofs.Tables.{at_table}
use Rattle.report_totals.specs.Totals.{
  Sheet,
  most_sheets,
  all_entries,
  sheets_total,
  accepted_total,
  refused_total,
  entries_total,
  nonzero_total,
  largest_total,
  totals_of,
}
use Rattle.report_totals.specs.Counting.{no_entries, Running}
use Rattle.report_totals.specs.declared.Totals.{Totals}
use Rattle.report_totals.proofs.Orders.{order_most}
use Rattle.report_totals.proofs.Sheets.{orders_are}

module _ (sheets : List Sheet) where
  pub sheets_said : (totals_of sheets).sheets ≡ sheets_total sheets
  unfolding totals_of
  sheets_said = refl

  pub accepted_said : get_or (totals_of sheets).refusals 0 0 ≡ accepted_total sheets
  unfolding totals_of
  accepted_said = refl

  pub refused_said : (number : ℕ) → number < 24 → get_or (totals_of sheets).refusals number 0 ≡ refused_total number sheets
  unfolding totals_of
  refused_said number h = at_table 24 (λ k. refused_total k sheets) number 0 h

  -- the totals of order k
  order_said : (k : ℕ) → k < 5
      → get_or (totals_of sheets).orders k no_entries
      ≡ record { entries = entries_total k sheets; nonzero = nonzero_total k sheets; largest = largest_total k sheets }
  unfolding totals_of
  order_said k h =
      at_table 5 (λ j. record { entries = entries_total j sheets; nonzero = nonzero_total j sheets; largest = largest_total j sheets }) k
      no_entries h

  pub entries_said : (k : ℕ) → k < 5 → (get_or (totals_of sheets).orders k no_entries).entries ≡ entries_total k sheets
  entries_said k h = rw (order_said k h)

  pub nonzero_said : (k : ℕ) → k < 5 → (get_or (totals_of sheets).orders k no_entries).nonzero ≡ nonzero_total k sheets
  nonzero_said k h = rw (order_said k h)

  pub largest_said : (k : ℕ) → k < 5 → (get_or (totals_of sheets).orders k no_entries).largest ≡ largest_total k sheets
  largest_said k h = rw (order_said k h)

-- the entries of an order are at most those of 1,000,000 tensors of 4,096 numbers
pub entries_most : (totals : Totals) (k : ℕ) → Running totals → k < 5
    → ((get_or totals.orders k no_entries).entries ≤ most_in_a_tensor * most_sheets)
    × ((get_or totals.orders k no_entries).nonzero ≤ most_in_a_tensor * most_sheets)
entries_most totals k run h =
    let few = run.few in
    let small = run.small in
    let most = order_most (all_entries run.seen) k h in
    rw (run.said, orders_are run.seen) (omega arith, omega arith)
