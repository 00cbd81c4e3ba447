-- The sheet at the front of a stream: what it is where its length is not known, that it does not depend on what follows enough bytes, and
-- how many entries it can have.
use mathlib.Core.Path.{◌≡◌, refl, sym, ap, ◌∙◌}
use mathlib.Core.Bool.{Bool, true, false}
use mathlib.Core.List.{List, [], ◌++◌, append-nil}
use Prim.Native.Nat.{ℕ, zero, suc, ◌%◌, ◌^◌, ◌≤◌}
use native.Mathlib.Omega.{arith}
use lib.Count.{ones}
use lib.Dec.{ltb}
use lib.Ieee.{Float, nan}
use lib.ListN.{length, get_or}
use borrow.Author.Tests.{ltb-true, ltb-false}
use Rattle.rules.specs.Tensor.{tensor}
use Rattle.rules.proofs.Refused.{or_else_met}
use Rattle.rules.proofs.Tables.{length_table}
use Rattle.sheet_read.specs.Fields.{axes, sheet_grid, sheet_samples}
use Rattle.sheet_read.specs.Faults.{sheet_refusal}
use Rattle.sheet_read.proofs.Numbers.{sheet_of_reading}
use Rattle.sheet_build.specs.SheetTensor.{own_refusal}
use Rattle.sheet_build.proofs.Builds.{length_tensor}
use Rattle.sheet_build.proofs.Alone.{read_alone, few_numbers}
use Rattle.report_front.specs.Front.{front_size, front_bytes, rest_bytes, enough_bytes}
use Rattle.report_front.proofs.Tails.{true_not_false, before_tail, either_case, refusal_early}
use Rattle.report_front.proofs.Cuts as cuts
use Rattle.report_totals.specs.Totals.{Entry, tensor_entries}
use Rattle.report.specs.Report.{accepted_alone, sheet_at, front_sheet, stops}
use Rattle.report.specs.Feeding.{Shown}

-- ---- a fault before the tail

-- stops the report
early_stops : (bytes : List ℕ) → (before_tail bytes ≡ 0 → ⊥) → stops (before_tail bytes) ≡ true
unfolding stops
early_stops bytes met = let is = refusal_early bytes met in rw (← is, sheet_of_reading bytes (λ z. met (sym is ∙ z)))

module _ (bytes : List ℕ) (met : before_tail bytes ≡ 0 → ⊥) where
  -- its number is that of the sheet, which has no tensor
  early_refusal : own_refusal bytes ≡ before_tail bytes
  unfolding own_refusal
  early_refusal =
      let is = refusal_early bytes met in
      or_else_met (sheet_refusal bytes) _ (λ z. met (sym is ∙ z)) ∙ is

  nothing_accepted : (refusal : ℕ) (entries : List Entry) → (refusal ≡ 0 → ⊥) → accepted_alone refusal entries ≡ []
  nothing_accepted zero entries other = absurd (other refl)
  nothing_accepted (suc refusal) entries other = refl

  early_sheet : sheet_at bytes ≡ record { refusal = before_tail bytes; tensor = [] }
  unfolding sheet_at
  early_sheet =
      let entries = tensor_entries (axes bytes) (tensor (sheet_grid bytes) (sheet_samples bytes)) in
      rw (early_refusal, nothing_accepted (before_tail bytes) entries met)

  early_front : front_sheet bytes ≡ record { refusal = before_tail bytes; tensor = [] }
  unfolding front_sheet
  early_front = rw (cuts.all_shown bytes met) early_sheet

-- so there is none where the report goes on
goes_on_none : (bytes : List ℕ) → stops (front_sheet bytes).refusal ≡ false → before_tail bytes ≡ 0
goes_on_none bytes on =
    either_case bytes (λ none. none)
    (λ met.
    let off : stops (front_sheet bytes).refusal ≡ true = rw (early_front bytes met) (early_stops bytes met) in
    absurd (true_not_false (sym off ∙ on)))

-- ---- what follows is not seen

module _ (bytes more : List ℕ) where
  front_of_enough : enough_bytes ≤ length bytes → front_sheet (bytes ++ more) ≡ front_sheet bytes
  unfolding front_sheet
  front_of_enough h =
      either_case bytes (λ none. ap sheet_at (cuts.front_local bytes more h none))
      (λ met.
      let same = cuts.before_tail_local bytes more h in
      early_front (bytes ++ more) (λ z. met (sym same ∙ z)) ∙ rw same (sym (early_front bytes met)))

  pub front_local : Shown (length bytes) more → front_sheet (bytes ++ more) ≡ front_sheet bytes
  front_local shown = go (ltb (length bytes) enough_bytes) refl
    where
      go : (b : Bool) → ltb (length bytes) enough_bytes ≡ b → front_sheet (bytes ++ more) ≡ front_sheet bytes
      go true q = rw (shown (ltb-true (length bytes) enough_bytes q), append-nil)
      go false q = front_of_enough (ltb-false (length bytes) enough_bytes q)

  pub rest_local : Shown (length bytes) more → stops (front_sheet bytes).refusal ≡ false
      → rest_bytes (bytes ++ more) ≡ rest_bytes bytes ++ more
  rest_local shown on = go (ltb (length bytes) enough_bytes) refl
    where
      go : (b : Bool) → ltb (length bytes) enough_bytes ≡ b → rest_bytes (bytes ++ more) ≡ rest_bytes bytes ++ more
      go true q = rw (shown (ltb-true (length bytes) enough_bytes q), append-nil, append-nil)
      go false q = cuts.rest_local bytes more (ltb-false (length bytes) enough_bytes q) (goes_on_none bytes on)

-- a sheet after which the report goes on has a byte
pub front_some : (bytes : List ℕ) → stops (front_sheet bytes).refusal ≡ false → 1 ≤ front_size bytes
front_some bytes on = cuts.size_some bytes (goes_on_none bytes on)

-- ---- what the call answers of a sheet's own bytes is that sheet

-- no sheet has more entries than a tensor may have numbers
sheet_small : (bytes : List ℕ) → length (sheet_at bytes).tensor ≤ 4096
unfolding sheet_at
sheet_small bytes = go (own_refusal bytes) refl
  where
    numbers : List Float
    numbers = tensor (sheet_grid bytes) (sheet_samples bytes)

    go : (refusal : ℕ) → own_refusal bytes ≡ refusal → length (accepted_alone refusal (tensor_entries (axes bytes) numbers)) ≤ 4096
    go zero e =
        let long =
        length_table {A = Entry} (length numbers) (λ k. record { order = ones (k % 2 ^ axes bytes); number = get_or numbers k nan }) in
        let numbers_long = length_tensor (sheet_grid bytes) (sheet_samples bytes) in
        let few = few_numbers bytes (read_alone bytes e) in omega arith
    go (suc refusal) e = omega arith

pub front_small : (bytes : List ℕ) → length (front_sheet bytes).tensor ≤ 4096
unfolding front_sheet
front_small bytes = sheet_small (front_bytes bytes)
