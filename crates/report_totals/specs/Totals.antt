-- The chapter Totals of docs/RULES.md: what a report counts of a list of sheets, each total by its own definition over the list.
use Rattle.std.specs.Prelude.{Bool, not, List, [], ◌∷◌, ◌++◌, ℕ, ◌%◌, ◌^◌, max, eqb, length, Float}
use Rattle.std.specs.Int.Count.{ones}
use Rattle.std.specs.Float.{binary64}
use Rattle.std.specs.Float.Ieee.{to_bits}
use Rattle.rules.specs.Numbers.{at, table, filter}
use Rattle.report_totals.specs.declared.Totals.{Totals}

-- the most sheets in a report
abbrev pub most_sheets : ℕ
most_sheets = 1000000

-- how many numbers a refusal may have: from 0, which is none, to 23
abbrev pub refusal_numbers : ℕ
refusal_numbers = 24

-- how many derivative orders there are: from 0 to the most axes
abbrev pub derivative_orders : ℕ
derivative_orders = 5

-- one number of a tensor, and of which derivative order it is
pub record Entry : Type 0 where
  pub order : ℕ
  pub number : Float

-- what is seen of a sheet: by which number it is refused, 0 where it is accepted, and its tensor's entries, of which a refused one has none
pub record Sheet : Type 0 where
  pub refusal : ℕ
  pub tensor : List Entry

-- the entries of a tensor over so many axes: the masks of a place lie side by side, and the ones of a mask are counted for the order
abbrev pub tensor_entries : ℕ → List Float → List Entry
tensor_entries axes numbers = table (length numbers) (λ e. record { order = ones (e % 2 ^ axes); number = at numbers e })

-- the magnitude of a number: its pattern with the sign cleared
abbrev pub magnitude : Float → ℕ
magnitude number = to_bits binary64 number % 2 ^ 63

-- whether a number is not zero: neither +0.0 nor -0.0
abbrev pub nonzero : Float → Bool
nonzero number = not (eqb (magnitude number) 0)

-- the largest magnitude among entries, 0 where there is none
unfoldable pub largest : List Entry → ℕ
largest [] = 0
largest (entry ∷ rest) = max (magnitude entry.number) (largest rest)

-- the entries of one order
abbrev pub of_order : ℕ → List Entry → List Entry
of_order k entries = filter (λ entry. eqb entry.order k) entries

-- the entries of all tensors, one after the other
unfoldable pub all_entries : List Sheet → List Entry
all_entries [] = []
all_entries (sheet ∷ rest) = sheet.tensor ++ all_entries rest

-- ---- the totals

-- how many sheets there are
abbrev pub sheets_total : List Sheet → ℕ
sheets_total sheets = length sheets

-- how many have a refusal's number
abbrev pub refused_total : ℕ → List Sheet → ℕ
refused_total number sheets = length (filter (λ sheet. eqb sheet.refusal number) sheets)

-- how many are accepted: those of number 0
abbrev pub accepted_total : List Sheet → ℕ
accepted_total sheets = refused_total 0 sheets

-- how many entries of order k there are
abbrev pub entries_total : ℕ → List Sheet → ℕ
entries_total k sheets = length (of_order k (all_entries sheets))

-- how many of these are not zero
abbrev pub nonzero_total : ℕ → List Sheet → ℕ
nonzero_total k sheets = length (filter (λ entry. nonzero entry.number) (of_order k (all_entries sheets)))

-- the largest magnitude among them
abbrev pub largest_total : ℕ → List Sheet → ℕ
largest_total k sheets = largest (of_order k (all_entries sheets))

-- all of them: by refusal number, of which 0 are the accepted ones, and by order
unfoldable pub totals_of : List Sheet → Totals
totals_of sheets = record {
  sheets = sheets_total sheets;
  refusals = table refusal_numbers (λ number. refused_total number sheets);
  orders =
      table derivative_orders
      (λ k. record { entries = entries_total k sheets; nonzero = nonzero_total k sheets; largest = largest_total k sheets });
}
