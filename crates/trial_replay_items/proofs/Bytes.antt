-- A word by its eight bytes: the library's number of them is the rule's.
use Rattle.std.proofs.Common.{◌≡◌, ℕ, ◌+◌, List, [], ◌∷◌, get_or, arith}
use Rattle.std.specs.Int.{from_be_bytes, w64}
use Rattle.trial_replay_items.specs.Words.{bytes_from}

pub eight_bytes : (bytes : List ℕ) (at : ℕ)
    → from_be_bytes w64 (get_or bytes at 0 ∷ get_or bytes (at + 1) 0 ∷ get_or bytes (at + 2) 0 ∷ get_or bytes (at + 3) 0
    ∷ get_or bytes (at + 4) 0 ∷ get_or bytes (at + 5) 0 ∷ get_or bytes (at + 6) 0 ∷ get_or bytes (at + 7) 0 ∷ [])
    ≡ bytes_from bytes at 8
unfolding bytes_from
eight_bytes bytes at = let first : at + 0 ≡ at = omega arith in rw first (omega arith)
