-- The turns of a loop that puts one line after the other.
use mathlib.Core.Path.{◌≡◌}
use mathlib.Core.List.{List}
use Prim.Native.Nat.{ℕ, ◌+◌, ◌*◌, ◌<◌, ◌≤◌}
use native.Mathlib.Numerals.{add-one}
use native.Mathlib.Omega.{arith}
use lib.ListN.{length}
use Rattle.base_text.specs.PutBytes.{Put}
use Rattle.base_text.proofs.Puts.{put_none, put_more, put_length}
use Rattle.program_report_text.specs.ReportText.{lines_below}
use Rattle.program_report_text.proofs.Lengths.{lines_most}

module _ (line : ℕ → List ℕ) (before : List ℕ) (at : ℕ) where
  pub turn_first : Put (lines_below line 0) before at before at
  unfolding lines_below
  turn_first = put_none before at

  module _ (i : ℕ) (text : List ℕ) (behind : ℕ) (put : Put (lines_below line i) before at text behind) where
    -- the next line goes right behind those that stand
    pub turn_place : (width : ℕ) → ((k : ℕ) → k < i → length (line k) ≤ width) → (behind ≤ at + width * i) × (length text ≡ length before)
    turn_place width each =
        let long = lines_most line width i each in
        (omega (arith, put.end), put_length put)

    pub turn_next : (after : List ℕ) (end : ℕ) → Put (line i) text behind after end → Put (lines_below line (i + 1)) before at after end
    unfolding lines_below
    turn_next after end q = rw (add-one i) (put_more put q)
