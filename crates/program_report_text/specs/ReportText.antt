-- The chapter ReportText of docs/RULES.md: all that the report program prints, as a text of the totals, and the public call `report_text`,
-- which writes it to a text that it is lent.
use Rattle.std.specs.Prelude.{◌≡◌, Bool, cond, List, [], ◌∷◌, ◌++◌, ℕ, zero, suc, ltb, eqb, length, get_or, Result, Ok, Err}
use Rattle.rules.specs.Answers.{number_of}
use Rattle.rules.specs.Calls.{stored, counted}
use Rattle.rules.specs.declared.Refusal.{Refusal}
use Rattle.base_text.specs.Lines.{line_end, hex_digits, decimal, word_line, written}
use Rattle.report_totals.specs.declared.OrderTotals.{OrderTotals}
use Rattle.report_totals.specs.declared.Totals.{Totals}
use Rattle.report_totals.specs.declared.Report.{Report}

-- ---- the lines

-- a word, which brings its space, and a number after it
abbrev pub word_number : List ℕ → ℕ → List ℕ
word_number word number = word ++ decimal number

-- the space between two numbers
abbrev pub space : List ℕ
space = 32 ∷ []

-- "sheets "
abbrev pub sheets_word : List ℕ
sheets_word = 115 ∷ 104 ∷ 101 ∷ 101 ∷ 116 ∷ 115 ∷ 32 ∷ []

-- that, and how many sheets there were
unfoldable pub sheets_line : ℕ → List ℕ
sheets_line count = word_line sheets_word count

-- "accepted "
abbrev pub accepted_word : List ℕ
accepted_word = 97 ∷ 99 ∷ 99 ∷ 101 ∷ 112 ∷ 116 ∷ 101 ∷ 100 ∷ 32 ∷ []

-- that, and how many of them were accepted
unfoldable pub accepted_line : ℕ → List ℕ
accepted_line count = word_line accepted_word count

-- "refused "
abbrev pub refused_word : List ℕ
refused_word = 114 ∷ 101 ∷ 102 ∷ 117 ∷ 115 ∷ 101 ∷ 100 ∷ 32 ∷ []

-- that, a refusal's number and how often it occurred; a number that did not occur has no line
unfoldable pub occurred_line : ℕ → ℕ → List ℕ
occurred_line number count = cond (eqb count 0) [] (word_number refused_word number ++ word_line space count)

-- "order "
abbrev pub order_word : List ℕ
order_word = 111 ∷ 114 ∷ 100 ∷ 101 ∷ 114 ∷ 32 ∷ []

-- that, the order, how many entries it has, and how many of these are not zero
unfoldable pub order_counts : ℕ → OrderTotals → List ℕ
order_counts k order = word_number order_word k ++ (word_number space order.entries ++ word_number space order.nonzero)

-- that, and the 16 hex digits of the largest magnitude
unfoldable pub order_line : ℕ → OrderTotals → List ℕ
order_line k order = order_counts k order ++ (space ++ (hex_digits 16 order.largest ++ line_end))

-- "stopped" and LF, "end" and LF
abbrev pub stopped_line : List ℕ
stopped_line = 115 ∷ 116 ∷ 111 ∷ 112 ∷ 112 ∷ 101 ∷ 100 ∷ 10 ∷ []

abbrev pub end_line : List ℕ
end_line = 101 ∷ 110 ∷ 100 ∷ 10 ∷ []

-- how the report ends
unfoldable pub last_line : Bool → List ℕ
last_line stopped = cond stopped stopped_line end_line

-- line 0, line 1, .., the first n of them
unfoldable pub lines_below : (ℕ → List ℕ) → ℕ → List ℕ
lines_below line zero = []
lines_below line (suc n) = lines_below line n ++ line n

-- the lines of the refusals that occurred, their numbers rising from 1 to 23
unfoldable pub refusal_lines : List ℕ → List ℕ
refusal_lines refusals = lines_below (λ i. occurred_line (suc i) (get_or refusals (suc i) 0)) 23

-- those of the five orders
unfoldable pub order_lines : List OrderTotals → List ℕ
order_lines orders = lines_below (λ k. order_line k (get_or orders k (record { entries = 0; nonzero = 0; largest = 0 }))) 5

-- ---- the text

-- the lines of what was counted of sheets
unfoldable pub sheets_lines : Totals → List ℕ
sheets_lines totals =
    sheets_line totals.sheets ++ (accepted_line (get_or totals.refusals 0 0) ++ refusal_lines totals.refusals)

-- all that is printed of a report
unfoldable pub report_text : Report → List ℕ
report_text report = sheets_lines report.totals ++ (order_lines report.totals.orders ++ last_line report.stopped)

-- ---- the call

-- how long a text must be at least: enough for the largest numbers that the totals can hold. The longest text has 9 bytes fewer, since a
-- refusal's number is counted with two digits throughout
abbrev pub report_length : ℕ
report_length = 1137

-- its refusal: 15 for a text that is shorter than that
abbrev pub report_text_refusal : ℕ → ℕ
report_text_refusal given = cond (ltb given report_length) 15 0

-- the answer in numbers: the refusal, and how many bytes of the text are the report's
pub record ReportTextAnswer : Type 0 where
  pub refusal : ℕ
  pub length : ℕ

-- the answer of what the call gives
abbrev pub report_text_told : Result ℕ Refusal → ReportTextAnswer
report_text_told (Ok length) = record { refusal = 0; length = length }
report_text_told (Err refusal) = record { refusal = number_of refusal; length = 0 }

module _ (report : Report) (text_lent : List ℕ) where
  -- its answer: the refusal, and how long the report's text is
  unfoldable pub report_text_answer : ReportTextAnswer
  report_text_answer = record {
    refusal = report_text_refusal (length text_lent);
    length = counted (report_text_refusal (length text_lent)) (length (report_text report));
  }

  -- what it promises: the answer, and the report's text at the front of the text that it is lent
  pub record ReportTextPromise (given : ReportTextAnswer) (text_later : List ℕ) : Type 0 where
    pub answer : given ≡ report_text_answer
    pub text : text_later ≡ stored (report_text_refusal (length text_lent)) text_lent (written (report_text report) text_lent)
