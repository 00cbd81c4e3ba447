-- One sheet of a stream after the other.
use mathlib.Core.Path.{◌≡◌, refl}
use mathlib.Core.Bool.{true, false}
use mathlib.Core.List.{List, [], ◌∷◌, ◌++◌, append-nil, append_assoc}
use Prim.Native.Nat.{ℕ, zero, suc, ◌≤◌}
use native.Mathlib.Omega.{arith}
use lib.ListN.{length, length-append}
use Rattle.report_front.specs.Front.{rest_bytes}
use Rattle.report_totals.specs.Totals.{Sheet}
use Rattle.report.specs.Report.{front_sheet, stops, Stream, ends_here, stops_here, after, stream_of}
use Rattle.report.specs.Feeding.{Shown}
use Rattle.report.proofs.Fronts.{front_local, rest_local}

pub stream_end : (n : ℕ) → stream_of n [] ≡ ends_here
unfolding stream_of
stream_end zero = refl
stream_end (suc n) = refl

pub stream_full : (bytes : List ℕ) → 1 ≤ length bytes → stream_of 0 bytes ≡ stops_here
unfolding stream_of
stream_full [] h = absurd (omega arith)
stream_full (byte ∷ bytes) h = refl

stream_stops : (n : ℕ) (bytes : List ℕ) → 1 ≤ length bytes → stops (front_sheet bytes).refusal ≡ true
    → stream_of (suc n) bytes ≡ after (front_sheet bytes ∷ []) stops_here
unfolding stream_of
stream_stops n [] h e = absurd (omega arith)
stream_stops n (byte ∷ bytes) h e = rw e

stream_goes_on : (n : ℕ) (bytes : List ℕ) → 1 ≤ length bytes → stops (front_sheet bytes).refusal ≡ false
    → stream_of (suc n) bytes ≡ after (front_sheet bytes ∷ []) (stream_of n (rest_bytes bytes))
unfolding stream_of
stream_goes_on n [] h e = absurd (omega arith)
stream_goes_on n (byte ∷ bytes) h e = rw e

-- ---- the same of bytes and more

module _ (n : ℕ) (bytes more : List ℕ) (h : 1 ≤ length bytes) (shown : Shown (length bytes) more) where
  some : 1 ≤ length (bytes ++ more)
  some = let long = length-append bytes more in omega arith

  pub next_stops : stops (front_sheet bytes).refusal ≡ true → stream_of (suc n) (bytes ++ more) ≡ after (front_sheet bytes ∷ []) stops_here
  next_stops e =
      let front = front_local bytes more shown in
      rw front at (stream_stops n (bytes ++ more) some (rw front e))

  pub next_goes_on : stops (front_sheet bytes).refusal ≡ false
      → stream_of (suc n) (bytes ++ more) ≡ after (front_sheet bytes ∷ []) (stream_of n (rest_bytes bytes ++ more))
  next_goes_on e =
      let front = front_local bytes more shown in
      let rest = rest_local bytes more shown e in
      rw (front, rest) at (stream_goes_on n (bytes ++ more) some (rw front e))

pub after_after : (seen : List Sheet) (sheet : Sheet) (stream : Stream)
    → after seen (after (sheet ∷ []) stream) ≡ after (seen ++ (sheet ∷ [])) stream
after_after seen sheet stream = rw append_assoc

pub after_end : (seen : List Sheet) → after seen ends_here ≡ record { sheets = seen; stopped = false }
after_end seen = rw append-nil

pub after_stop : (seen : List Sheet) → after seen stops_here ≡ record { sheets = seen; stopped = true }
after_stop seen = rw append-nil
