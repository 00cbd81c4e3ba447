-- The chapter Report of docs/RULES.md: the sheets of a stream, how it ends, its report, and the public call `report_of_bytes`, which
-- answers it.
use Rattle.std.specs.Prelude.{◌≡◌, Bool, true, false, List, [], ◌∷◌, ◌++◌, ℕ, zero, suc}
use Rattle.rules.specs.Tensor.{tensor}
use Rattle.grid_codes.specs.Classes.{class, unread}
use Rattle.sheet_read.specs.Fields.{axes, sheet_grid, sheet_samples}
use Rattle.sheet_build.specs.SheetTensor.{own_refusal}
use Rattle.report_front.specs.Front.{front_bytes, rest_bytes}
use Rattle.report_totals.specs.Totals.{Entry, Sheet, most_sheets, tensor_entries, totals_of}
use Rattle.report_totals.specs.declared.Report.{Report}

-- ---- one sheet

-- what an accepted sheet has, and a refused one has not
abbrev pub accepted_alone : ℕ → List Entry → List Entry
accepted_alone zero entries = entries
accepted_alone (suc refusal) entries = []

-- bytes taken for one sheet
unfoldable pub sheet_at : List ℕ → Sheet
sheet_at bytes = record {
  refusal = own_refusal bytes;
  tensor = accepted_alone (own_refusal bytes) (tensor_entries (axes bytes) (tensor (sheet_grid bytes) (sheet_samples bytes)));
}

-- the sheet at the front of a stream
unfoldable pub front_sheet : List ℕ → Sheet
front_sheet bytes = sheet_at (front_bytes bytes)

-- whether a report stops in a sheet of this refusal: where it was not read
unfoldable pub stops : ℕ → Bool
stops refusal = unread (class refusal)

-- ---- the stream

-- the sheets, the last of which may be one that stops it, and whether it is stopped
pub record Stream : Type 0 where
  pub sheets : List Sheet
  pub stopped : Bool

-- no sheet, at the end and before it
abbrev pub ends_here : Stream
ends_here = record { sheets = []; stopped = false }

abbrev pub stops_here : Stream
stops_here = record { sheets = []; stopped = true }

-- sheets, and then a stream
abbrev pub after : List Sheet → Stream → Stream
after seen stream = record { sheets = seen ++ stream.sheets; stopped = stream.stopped }

-- a stream of at most n sheets: it ends where no byte is left, and stops at bytes behind the last of them, and in a sheet that was not read
unfoldable pub stream_of : ℕ → List ℕ → Stream
stream_of zero [] = ends_here
stream_of zero (byte ∷ bytes) = stops_here
stream_of (suc n) [] = ends_here
stream_of (suc n) (byte ∷ bytes) =
    after (front_sheet (byte ∷ bytes) ∷ [])
    (elim (stops (front_sheet (byte ∷ bytes)).refusal) [ true ↦ stops_here | false ↦ stream_of n (rest_bytes (byte ∷ bytes)) ])

-- ---- the report

-- the report of a stream: the totals of its sheets, and whether it stops
unfoldable pub report_of : List ℕ → Report
report_of bytes = record {
  totals = totals_of (stream_of most_sheets bytes).sheets;
  stopped = (stream_of most_sheets bytes).stopped;
}

-- what the call promises: the report
pub record ReportPromise (bytes : List ℕ) (given : Report) : Type 0 where
  pub answer : given ≡ report_of bytes
