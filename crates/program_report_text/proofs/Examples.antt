-- The text of the report on the example's sheet alone, which docs/RULES.md shows, byte by byte; and the last lines of a report that
-- stopped.
use mathlib.Core.Path.{◌≡◌, refl}
use mathlib.Core.Bool.{true, false}
use mathlib.Core.List.{List, [], ◌∷◌, ◌++◌}
use Prim.Native.Nat.{ℕ}
use Rattle.base_text.specs.Lines.{decimal_digits, decimal, hex_digits, word_line}
use Rattle.report_totals.specs.declared.OrderTotals.{OrderTotals}
use Rattle.report_totals.specs.declared.Totals.{Totals}
use Rattle.program_report_text.specs.ReportText.{
  sheets_line,
  accepted_line,
  occurred_line,
  order_counts,
  order_line,
  last_line,
  lines_below,
  refusal_lines,
  order_lines,
  sheets_lines,
  report_text,
}

abbrev no_entries : OrderTotals
no_entries = record { entries = 0; nonzero = 0; largest = 0 }

-- the totals of the example's sheet
abbrev totals : Totals
totals = record {
  sheets = 1;
  refusals = 1 ∷ 0 ∷ 0 ∷ 0 ∷ 0 ∷ 0 ∷ 0 ∷ 0 ∷ 0 ∷ 0 ∷ 0 ∷ 0 ∷ 0 ∷ 0 ∷ 0 ∷ 0 ∷ 0 ∷ 0 ∷ 0 ∷ 0 ∷ 0 ∷ 0 ∷ 0 ∷ 0 ∷ [];
  orders =
      record { entries = 2; nonzero = 1; largest = 0x3FF0_0000_0000_0000 }
      ∷ record { entries = 2; nonzero = 2; largest = 0x3FF0_0000_0000_0000 }
      ∷ no_entries ∷ no_entries ∷ no_entries ∷ [];
}

-- sheets 1, accepted 1
abbrev sheets_shown : List ℕ
sheets_shown = 115 ∷ 104 ∷ 101 ∷ 101 ∷ 116 ∷ 115 ∷ 32 ∷ 49 ∷ 10 ∷ []

abbrev accepted_shown : List ℕ
accepted_shown = 97 ∷ 99 ∷ 99 ∷ 101 ∷ 112 ∷ 116 ∷ 101 ∷ 100 ∷ 32 ∷ 49 ∷ 10 ∷ []

-- order K E N and the space before the pattern
abbrev order_shown : ℕ → ℕ → ℕ → List ℕ
order_shown k entries nonzero = 111 ∷ 114 ∷ 100 ∷ 101 ∷ 114 ∷ 32 ∷ k ∷ 32 ∷ entries ∷ 32 ∷ nonzero ∷ 32 ∷ []

-- 3FF0000000000000 and LF
abbrev one_shown : List ℕ
one_shown = 51 ∷ 70 ∷ 70 ∷ 48 ∷ 48 ∷ 48 ∷ 48 ∷ 48 ∷ 48 ∷ 48 ∷ 48 ∷ 48 ∷ 48 ∷ 48 ∷ 48 ∷ 48 ∷ 10 ∷ []

-- 0000000000000000 and LF
abbrev none_shown : List ℕ
none_shown = 48 ∷ 48 ∷ 48 ∷ 48 ∷ 48 ∷ 48 ∷ 48 ∷ 48 ∷ 48 ∷ 48 ∷ 48 ∷ 48 ∷ 48 ∷ 48 ∷ 48 ∷ 48 ∷ 10 ∷ []

-- end
abbrev end_shown : List ℕ
end_shown = 101 ∷ 110 ∷ 100 ∷ 10 ∷ []

shown : report_text (record { totals = totals; stopped = false })
    ≡ sheets_shown
    ++ (accepted_shown
    ++ (order_shown 48 50 49
    ++ (one_shown
    ++ (order_shown 49 50 50
    ++ (one_shown
    ++ (order_shown 50 48 48
    ++ (none_shown ++ (order_shown 51 48 48 ++ (none_shown ++ (order_shown 52 48 48 ++ (none_shown ++ end_shown)))))))))))
unfolding decimal_digits decimal hex_digits word_line sheets_line accepted_line occurred_line order_counts order_line last_line lines_below
    refusal_lines order_lines sheets_lines report_text
shown = refl

-- refused 8 1, after refusals of which no other occurred
refused_shown : refusal_lines (3 ∷ 0 ∷ 0 ∷ 0 ∷ 0 ∷ 0 ∷ 0 ∷ 0 ∷ 1 ∷ 0 ∷ 0 ∷ 0 ∷ 0 ∷ 0 ∷ 0 ∷ 0 ∷ 0 ∷ 0 ∷ 0 ∷ 0 ∷ 0 ∷ 0 ∷ 0 ∷ 0 ∷ [])
    ≡ 114 ∷ 101 ∷ 102 ∷ 117 ∷ 115 ∷ 101 ∷ 100 ∷ 32 ∷ 56 ∷ 32 ∷ 49 ∷ 10 ∷ []
unfolding decimal_digits decimal word_line occurred_line lines_below refusal_lines
refused_shown = refl

-- stopped
stopped_shown : last_line true ≡ 115 ∷ 116 ∷ 111 ∷ 112 ∷ 112 ∷ 101 ∷ 100 ∷ 10 ∷ []
unfolding last_line
stopped_shown = refl
