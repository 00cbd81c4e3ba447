-- How long the lines of a report are at most, and so its text.
use mathlib.Core.Path.{◌≡◌}
use mathlib.Core.Bool.{Bool, true, false, cond}
use mathlib.Core.List.{List, [], ◌++◌}
use Prim.Native.Nat.{ℕ, zero, suc, ◌+◌, ◌*◌, ◌<◌, ◌≤◌}
use native.Mathlib.Nat.{mul-suc}
use native.Mathlib.Omega.{arith}
use lib.Dec.{eqb}
use lib.ListN.{length, get_or, length-append}
use Rattle.base_text.specs.Lines.{decimal, word_line}
use Rattle.base_text.proofs.Decimals.{decimal_most, decimal_length, length_word_line}
use Rattle.base_text.proofs.HexDigits.{length_hex_digits}
use Rattle.report_totals.specs.declared.OrderTotals.{OrderTotals}
use Rattle.report_totals.specs.declared.Totals.{Totals}
use Rattle.report_totals.specs.declared.Report.{Report}
use Rattle.program_report_text.specs.ReportText.{
  word_number,
  space,
  refused_word,
  sheets_line,
  accepted_line,
  occurred_line,
  order_word,
  order_counts,
  order_line,
  last_line,
  lines_below,
  refusal_lines,
  order_lines,
  sheets_lines,
  report_text,
  report_length,
}

length_word_number : (word : List ℕ) (number : ℕ) → length (word_number word number) ≡ length word + length (decimal number)
length_word_number word number = length-append word (decimal number)

pub line_most : (word : List ℕ) (number : ℕ) → length (word_line word number) ≤ length word + 21
line_most word number = let digits = decimal_most number in omega (arith, length_word_line word number)

-- the fronts of two lines, and a number after a space
pub refused_front_most : (number : ℕ) → number < 24 → length (word_number refused_word number) ≤ 10
refused_front_most number h =
    let digits = decimal_length 1 number (omega arith) (omega arith) in
    omega (arith, length_word_number refused_word number)

pub order_front_most : (k : ℕ) → k < 5 → length (word_number order_word k) ≤ 7
order_front_most k h =
    let digit = decimal_length 0 k (omega arith) (omega arith) in
    omega (arith, length_word_number order_word k)

pub spaced_most : (number : ℕ) → length (word_number space number) ≤ 21
spaced_most number = let digits = decimal_most number in omega (arith, length_word_number space number)

pub occurred_most : (number count : ℕ) → number < 24 → length (occurred_line number count) ≤ 32
unfolding occurred_line
occurred_most number count h = go (eqb count 0)
  where
    go : (b : Bool) → length (cond b [] (word_number refused_word number ++ word_line space count)) ≤ 32
    go true = omega arith
    go false =
        let front = refused_front_most number h in
        let line = line_most space count in
        omega (arith, length-append (word_number refused_word number) (word_line space count))

pub counts_most : (k : ℕ) (order : OrderTotals) → k < 5 → length (order_counts k order) ≤ 49
unfolding order_counts
counts_most k order h =
    let front = order_front_most k h in
    let entries = spaced_most order.entries in
    let nonzero = spaced_most order.nonzero in
    rw (length-append (word_number order_word k) _, length-append (word_number space order.entries) (word_number space order.nonzero))
    (omega arith)

pub order_most : (k : ℕ) (order : OrderTotals) → k < 5 → length (order_line k order) ≤ 67
unfolding order_line
order_most k order h =
    let front = counts_most k order h in
    let digits = length_hex_digits 16 order.largest in
    simp (length-append) (omega arith)

pub last_most : (stopped : Bool) → length (last_line stopped) ≤ 8
unfolding last_line
last_most true = omega arith
last_most false = omega arith

-- lines that are no longer than a width
pub lines_most : (line : ℕ → List ℕ) (width n : ℕ) → ((k : ℕ) → k < n → length (line k) ≤ width) → length (lines_below line n) ≤ width * n
unfolding lines_below
lines_most line width zero most = omega arith
lines_most line width (suc n) most =
    let before = lines_most line width n (λ k l. most k (omega arith)) in
    let here = most n (omega arith) in
    rw (length-append, mul-suc) (omega arith)

refusals_most : (refusals : List ℕ) → length (refusal_lines refusals) ≤ 736
unfolding refusal_lines
refusals_most refusals =
    lines_most (λ i. occurred_line (suc i) (get_or refusals (suc i) 0)) 32 23 (λ i l. occurred_most (suc i) _ (omega arith))

pub order_lines_most : (orders : List OrderTotals) → length (order_lines orders) ≤ 335
unfolding order_lines
order_lines_most orders =
    lines_most (λ k. order_line k (get_or orders k (record { entries = 0; nonzero = 0; largest = 0 }))) 67 5 (λ k l. order_most k _ l)

sheets_most : (count : ℕ) → length (sheets_line count) ≤ 28
unfolding sheets_line
sheets_most count = line_most _ count

accepted_most : (count : ℕ) → length (accepted_line count) ≤ 30
unfolding accepted_line
accepted_most count = line_most _ count

pub sheets_lines_most : (totals : Totals) → length (sheets_lines totals) ≤ 794
unfolding sheets_lines
sheets_lines_most totals =
    let sheets = sheets_most totals.sheets in
    let accepted = accepted_most (get_or totals.refusals 0 0) in
    let refusals = refusals_most totals.refusals in
    simp (length-append) (omega arith)

-- no text is longer than the length that is asked for
pub text_fits : (report : Report) → length (report_text report) ≤ report_length
unfolding report_text
text_fits report =
    let sheets = sheets_lines_most report.totals in
    let orders = order_lines_most report.totals.orders in
    let last = last_most report.stopped in
    simp (length-append) (omega arith)
