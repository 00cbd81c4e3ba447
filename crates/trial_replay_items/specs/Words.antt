-- The words of the fixed list, each of 64 bits, from its bytes, the most significant first.
use Rattle.std.specs.Prelude.{ℕ, zero, suc, ◌+◌, ◌*◌, ◌/◌, cond, List, length, nat_lt, slice_index}

-- the number of the first n of some bytes
unfoldable pub bytes_from : List ℕ → ℕ → ℕ → ℕ
bytes_from bytes at zero = 0
bytes_from bytes at (suc n) = bytes_from bytes at n * 256 + slice_index bytes (at + n)

-- word k of a list, and 0 past its last whole word
unfoldable pub word_at : List ℕ → ℕ → ℕ
unfolding bytes_from
word_at bytes k = cond (nat_lt k (length bytes / 8)) (bytes_from bytes (8 * k) 8) 0
