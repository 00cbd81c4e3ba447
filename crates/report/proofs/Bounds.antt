-- The bounds of a report: at most 1,000,000 sheets, each with at most 4,096 entries. So no total of it passes what its 64 bits hold.
use mathlib.Core.Path.{◌≡◌, refl}
use mathlib.Core.Bool.{Bool, true, false}
use mathlib.Core.List.{List, [], ◌∷◌}
use Prim.Native.Nat.{ℕ, zero, suc, ◌*◌, ◌<◌, ◌≤◌}
use native.Mathlib.Omega.{arith}
use lib.ListN.{length, get_or, length-append}
use Rattle.rules.specs.Sizes.{most_in_a_tensor}
use Rattle.report_front.specs.Front.{rest_bytes}
use Rattle.report_totals.specs.Totals.{all_entries, most_sheets}
use Rattle.report_totals.specs.Counting.{no_entries, Running}
use Rattle.report_totals.proofs.Sheets.{sheets_most, refused_most}
use Rattle.report_totals.proofs.Each.{entries_most}
use Rattle.report.specs.Report.{front_sheet, stops, stream_of, report_of}
use Rattle.report.proofs.Fronts.{front_small}

-- a stream of at most n sheets has no more
stream_few : (n : ℕ) (bytes : List ℕ) → length (stream_of n bytes).sheets ≤ n
unfolding stream_of
stream_few zero [] = omega arith
stream_few zero (byte ∷ bytes) = omega arith
stream_few (suc n) [] = omega arith
stream_few (suc n) (byte ∷ bytes) = go (stops (front_sheet (byte ∷ bytes)).refusal) refl (stream_few n (rest_bytes (byte ∷ bytes)))
  where
    go : (b : Bool) → stops (front_sheet (byte ∷ bytes)).refusal ≡ b → length (stream_of n (rest_bytes (byte ∷ bytes))).sheets ≤ n
        → length (stream_of (suc n) (byte ∷ bytes)).sheets ≤ suc n
    go true e rest = rw e (omega arith)
    go false e rest = rw e (omega arith)

-- and no more entries than its sheets can have
stream_small : (n : ℕ) (bytes : List ℕ)
    → length (all_entries (stream_of n bytes).sheets) ≤ most_in_a_tensor * length (stream_of n bytes).sheets
unfolding stream_of all_entries
stream_small zero [] = omega arith
stream_small zero (byte ∷ bytes) = omega arith
stream_small (suc n) [] = omega arith
stream_small (suc n) (byte ∷ bytes) = go (stops (front_sheet (byte ∷ bytes)).refusal) refl (stream_small n (rest_bytes (byte ∷ bytes)))
  where
    go : (b : Bool) → stops (front_sheet (byte ∷ bytes)).refusal ≡ b
        → length (all_entries (stream_of n (rest_bytes (byte ∷ bytes))).sheets)
        ≤ most_in_a_tensor * length (stream_of n (rest_bytes (byte ∷ bytes))).sheets
        → length (all_entries (stream_of (suc n) (byte ∷ bytes)).sheets)
        ≤ most_in_a_tensor * length (stream_of (suc n) (byte ∷ bytes)).sheets
    go true e rest = rw (e, length-append) (let front = front_small (byte ∷ bytes) in omega arith)
    go false e rest = rw (e, length-append) (let front = front_small (byte ∷ bytes) in omega arith)

module _ (bytes : List ℕ) where
  counted : Running (report_of bytes).totals
  unfolding report_of
  counted = record {
    seen = (stream_of most_sheets bytes).sheets;
    said = refl;
    few = stream_few most_sheets bytes;
    small = stream_small most_sheets bytes;
  }

  pub sheets_bound : (report_of bytes).totals.sheets ≤ most_sheets
  sheets_bound = sheets_most (report_of bytes).totals counted

  pub refused_bound : (number : ℕ) → number < 24 → get_or (report_of bytes).totals.refusals number 0 ≤ most_sheets
  refused_bound number h = refused_most (report_of bytes).totals number counted h

  pub entries_bound : (k : ℕ) → k < 5
      → ((get_or (report_of bytes).totals.orders k no_entries).entries ≤ most_in_a_tensor * most_sheets)
      × ((get_or (report_of bytes).totals.orders k no_entries).nonzero ≤ most_in_a_tensor * most_sheets)
  entries_bound k h = entries_most (report_of bytes).totals k counted h
