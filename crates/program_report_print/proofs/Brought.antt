-- What the contract says of an input by the buffer alone: one that the first read brings whole, and one that the buffer held in two parts.
use mathlib.Core.Path.{◌≡◌, sym, ap, ◌∙◌}
use Rattle.std.specs.Prelude.{Result, Ok, Err, IsOk, IfOk, IsOkAnd}
use mathlib.Core.Bool.{false≢true}
use mathlib.Core.List.{List, ◌++◌}
use Prim.Native.Nat.{ℕ, ◌+◌, ◌-◌, ◌<◌, ◌≤◌}
use native.Mathlib.Omega.{arith}
use lib.ListN.{length, take, take-append-drop}
use lib.Seq.{take_all, take-take}
use Rattle.report.specs.Report.{report_of}
use Rattle.program_report_print.specs.AroundReads.{Whole, Told}
use Rattle.program_report_print.specs.declared.Outcome.{Outcome}

module _ (before : List ℕ) (first : ℕ) (after : List ℕ) where
  reported : (outcome : Outcome) → Whole before first after outcome → length after ≡ length before → first < length before
      → outcome.report ≡ report_of (take first before)
  reported outcome whole same short =
      let once = whole.at_once short in
      let long = whole.long in
      whole.ended (omega arith) ∙ ap report_of (sym (take_all first whole.input (omega arith)) ∙ whole.begins)

  -- the first read did not fill the buffer: the report is that of the bytes in its front, and no other answer will do
  pub read_at_once : {E : Type 0} (given : Result Outcome E) → Told before first after given → length after ≡ length before
      → first < length before → IsOkAnd given (λ outcome. outcome.report ≡ report_of (take first before))
  read_at_once given told same short =
      elim given as (λ g. IsOk g → IfOk g (Whole before first after) → IsOkAnd g (λ outcome. outcome.report ≡ report_of (take first before))) [
        | Ok outcome ↦ λ read whole. reported outcome whole same short
        | Err failure ↦ λ read whole. absurd (false≢true read)
      ] (told.read short) told.whole

module _ (before : List ℕ) (first : ℕ) (after : List ℕ) (outcome : Outcome) where
  -- no byte came between those of the first read and those that stand in the buffer in the end: all of the input is known
  pub in_two_parts : (whole : Whole before first after outcome) → outcome.brought ≤ first + outcome.filled
      → whole.input ≡ take (outcome.brought - outcome.filled) before ++ take outcome.filled after
  in_two_parts whole near =
      let seen = outcome.brought - outcome.filled in
      let near_input = take-take seen first whole.input (omega arith) in
      let IsNear-before = take-take seen first before (omega arith) in
      let front : take seen whole.input ≡ take seen before = sym near_input ∙ ap (take seen) whole.begins ∙ IsNear-before in
      sym (take-append-drop seen whole.input) ∙ rw (front, whole.ends)
