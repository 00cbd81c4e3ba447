-- What looking at the sheet at the front of a stream has found.
use Rattle.std.specs.Prelude.{◌≡◌, List, ℕ, ◌≤◌, length}
use Rattle.sheet_read.specs.Fields.{edition, axes, entries}
use Rattle.sheet_read.specs.Faults.{sheet_refusal}
use Rattle.sheet_read.specs.Read.{ReadAnswer, answer_of, read_told}
use Rattle.report_front.specs.Front.{front_size, front_bytes}
use Rattle.report_front.specs.declared.Front.{Front as FoundFront}

-- what the reader's look at all of some bytes answers
abbrev pub look_answer : List ℕ → ReadAnswer
look_answer bytes = answer_of (sheet_refusal bytes) (edition bytes) (axes bytes) (entries bytes (axes bytes))

-- its size, which is not more than the bytes, and what is found of its own bytes
pub record FrontLooked (bytes : List ℕ) (front : FoundFront) : Type 0 where
  pub size_is : front.size ≡ front_size bytes
  pub inside : front.size ≤ length bytes
  pub looked : read_told front.sheet ≡ look_answer (front_bytes bytes)
