-- The chapter Front of docs/RULES.md: the sheet at the front of a stream of sheets, each of which ends on a byte.
use Rattle.std.specs.Prelude.{cond, List, ℕ, length, take, drop}
use Rattle.base_bits.specs.Written.{bytes_for}
use Rattle.grid_codes.specs.Classes.{length_known}
use Rattle.sheet_read.specs.Fields.{samples_end}
use Rattle.sheet_read.specs.Faults.{sheet_refusal}

-- how many bytes the fields of a sheet take
unfoldable pub sheet_bytes : List ℕ → ℕ
sheet_bytes bytes = bytes_for (samples_end bytes)

-- how many bytes of a stream the sheet at its front has: all of them where its length is not known
unfoldable pub front_size : List ℕ → ℕ
front_size bytes = cond (length_known (sheet_refusal bytes)) (sheet_bytes bytes) (length bytes)

-- its own bytes, which are all that the reader is shown: so the tail is judged to the byte only
abbrev pub front_bytes : List ℕ → List ℕ
front_bytes bytes = take (front_size bytes) bytes

-- the bytes that follow it
abbrev pub rest_bytes : List ℕ → List ℕ
rest_bytes bytes = drop (front_size bytes) bytes

-- so many bytes show the front sheet, whatever follows them: no sheet has as many
abbrev pub enough_bytes : ℕ
enough_bytes = 65536
