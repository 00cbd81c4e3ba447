-- Cuts are not seen: whatever pieces an input comes in, its report is that of all of it.
use mathlib.Core.Path.{◌≡◌}
use mathlib.Core.Bool.{true, false}
use mathlib.Core.List.{List, [], ◌∷◌, ◌++◌, append-nil, append_assoc}
use Prim.Native.Nat.{ℕ}
use native.Mathlib.Omega.{arith}
use lib.ListN.{drop}
use Rattle.report_front.specs.Front.{enough_bytes}
use Rattle.report_totals.specs.Totals.{totals_of}
use Rattle.report_totals.specs.declared.Totals.{Totals}
use Rattle.report_totals.specs.declared.Report.{Report}
use Rattle.report.specs.Report.{report_of}
use Rattle.report.specs.Feeding.{Stands, Fed}
use Rattle.report.specs.declared.Progress.{Progress}
use Rattle.report.proofs.Progressing.{stands_none, fed_last}

-- the pieces together
unfoldable pub joined : List (List ℕ) → List ℕ
joined [] = []
joined (piece ∷ pieces) = piece ++ joined pieces

joined_snoc : (pieces : List (List ℕ)) (piece : List ℕ) → joined (pieces ++ (piece ∷ [])) ≡ joined pieces ++ piece
unfolding joined
joined_snoc [] piece = append-nil piece
joined_snoc (first ∷ pieces) piece = rw (joined_snoc pieces piece, append_assoc)

-- what some pieces lead to: totals, and bytes that no sheet was taken from yet. The next piece comes behind those bytes, and of both
-- together a feeding takes its sheets; nothing is used of it but its promise
pub data Through : List (List ℕ) → Totals → List ℕ → Type 0 where
  start : {totals : Totals} → totals ≡ totals_of [] → Through [] totals []
  next : {pieces : List (List ℕ)} {totals : Totals} {held : List ℕ} (piece : List ℕ) (progress : Progress) → Through pieces totals held
      → Fed totals (held ++ piece) enough_bytes progress → progress.stopped ≡ false
      → Through (pieces ++ (piece ∷ [])) progress.totals (drop progress.taken (held ++ piece))

-- one piece more
stands_piece : (totals : Totals) (held piece before : List ℕ) (progress : Progress)
    → ((more : List ℕ) → Stands totals (held ++ more) (before ++ more))
    → Fed totals (held ++ piece) enough_bytes progress → progress.stopped ≡ false
    → (more : List ℕ) → Stands progress.totals (drop progress.taken (held ++ piece) ++ more) ((before ++ piece) ++ more)
stands_piece totals held piece before progress stands fed on more =
    rw (append_assoc before piece more)
    (fed.takes.goes_on on (before ++ (piece ++ more)) more (λ l. absurd (omega arith)) (rw append_assoc (stands (piece ++ more))))

-- whatever comes next
abbrev Stood : List (List ℕ) → Totals → List ℕ → Type 0
Stood pieces totals held = (more : List ℕ) → Stands totals (held ++ more) (joined pieces ++ more)

stood_start : (totals : Totals) → totals ≡ totals_of [] → Stood [] totals []
unfolding joined
stood_start totals said more = stands_none totals more said

stood_next : (pieces : List (List ℕ)) (totals : Totals) (held piece : List ℕ) (progress : Progress) → Stood pieces totals held
    → Fed totals (held ++ piece) enough_bytes progress → progress.stopped ≡ false
    → Stood (pieces ++ (piece ∷ [])) progress.totals (drop progress.taken (held ++ piece))
stood_next pieces totals held piece progress stood fed on more =
    rw (joined_snoc pieces piece) (stands_piece totals held piece (joined pieces) progress stood fed on more)

through : {pieces : List (List ℕ)} {totals : Totals} {held : List ℕ} → Through pieces totals held → Stood pieces totals held
through (start {totals} said) = stood_start totals said
through (next {pieces} {totals} {held} piece progress before fed on) = stood_next pieces totals held piece progress (through before) fed on

-- at the end of the last piece: the report of all pieces together
pub in_pieces : {pieces : List (List ℕ)} {totals : Totals} {held : List ℕ} → Through pieces totals held → (progress : Progress)
    → Fed totals held 1 progress
    → ◌≡◌ {A = Report} (record { totals = progress.totals; stopped = progress.stopped }) (report_of (joined pieces))
in_pieces {pieces} {totals} {held} before progress fed =
    fed_last totals held (joined pieces) progress fed (rw (append-nil, append-nil) at (through before []))

-- in a piece before: the report of these pieces with any others behind them
pub in_pieces_stopped : {pieces : List (List ℕ)} {totals : Totals} {held : List ℕ} → Through pieces totals held
    → (piece : List ℕ) (progress : Progress)
    → Fed totals (held ++ piece) enough_bytes progress → progress.stopped ≡ true
    → (more : List ℕ)
    → ◌≡◌ {A = Report} (record { totals = progress.totals; stopped = true }) (report_of (joined pieces ++ (piece ++ more)))
in_pieces_stopped {pieces} {totals} {held} before piece progress fed off more =
    fed.takes.stops off (joined pieces ++ (piece ++ more)) more (λ l. absurd (omega arith))
    (rw append_assoc (through before (piece ++ more)))
