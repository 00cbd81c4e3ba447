-- What is promised around reads. No contract says which bytes a read brings; but they stand in the buffer then, and it says how many.
use Rattle.std.specs.Prelude.{◌≡◌, true, List, ◌++◌, ℕ, ◌+◌, ◌-◌, ◌<◌, ◌≤◌, length, take, drop, Result, IsOk, IfOk}
use Rattle.report.specs.Report.{report_of}
use Rattle.report.specs.declared.Progress.{Progress}
use Rattle.program_report_print.specs.declared.Outcome.{Outcome}

-- the program's buffer, with the bytes of the first piece in its front
pub record Lent (buffer : List ℕ) (first : ℕ) : Type 0 where
  pub long : length buffer ≡ 524288
  pub most : first ≤ length buffer

-- a read leaves the kept bytes where they are, and has its own behind them
pub record Refilled (before : List ℕ) (kept : ℕ) (later : List ℕ) (came : ℕ) : Type 0 where
  pub most : kept + came ≤ length later
  pub front : take kept later ≡ take kept before

-- what is said of where a report has come to at last, after so many bytes
abbrev pub said : Progress → ℕ → ℕ → Outcome
said last brought filled = record {
  report = record { totals = last.totals; stopped = last.stopped };
  brought = brought;
  filled = filled;
}

-- the report is that of the bytes that all reads brought, in their order. The first ones stand in the buffer where the report begins, and
-- where they do not fill it they are all; the last ones stand in it where the report ends
pub record Whole (before : List ℕ) (first : ℕ) (after : List ℕ) (outcome : Outcome) : Type 0 where
  pub input : List ℕ
  pub long : length input ≡ outcome.brought
  pub begins : take first input ≡ take first before
  pub at_once : first < length before → (outcome.brought ≡ first) × (outcome.filled ≡ first)
  pub ends : drop (outcome.brought - outcome.filled) input ≡ take outcome.filled after
  -- the last read did not fill the buffer: nothing follows
  pub ended : outcome.filled < length after → outcome.report ≡ report_of input
  -- it did: the report stopped there, whatever follows
  pub cut : length after ≤ outcome.filled
      → (more : List ℕ) → (outcome.report.stopped ≡ true) × (outcome.report ≡ report_of (input ++ more))

-- so it is where no read failed; and there was none to fail where the first did not fill the buffer
pub record Told {E : Type 0} (before : List ℕ) (first : ℕ) (after : List ℕ) (given : Result Outcome E) : Type 0 where
  pub read : first < length before → IsOk given
  pub whole : IfOk given (Whole before first after)
