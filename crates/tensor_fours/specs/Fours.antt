-- Numbers of four lanes side by side: number l is that of lane l. In a block of the scratch such fours stand one behind the other, row k at
-- four times k.
use Rattle.std.specs.Prelude.{◌≡◌, ◌≢◌, List, ℕ, ◌+◌, ◌*◌, ◌<◌, length, get_or, Float}
use Rattle.rules.specs.Numbers.{at, table}
use Rattle.grid_scratch.specs.Layout.{Outside}

-- four numbers, that of lane l being f l
pub record Lanewise (r : List Float) (f : ℕ → Float) : Type 0 where
  pub is : r ≡ table 4 f

-- what holds of each of four lanes, written out; proofs/Fours.antt goes from it to every l < 4 and back
pub record Four (p : ℕ → Type 0) : Type 0 where
  pub of_0 : p 0
  pub of_1 : p 1
  pub of_2 : p 2
  pub of_3 : p 3

-- lane l's number in row k of a block
abbrev pub in_row : List Float → ℕ → ℕ → ℕ → Float
in_row w block k l = at w (block + 4 * k + l)

-- lane l's place
abbrev pub place : List ℕ → ℕ → ℕ
place p l = get_or p l 0

-- a row of a block holds v, and nothing else has changed
pub record RowSet (w w' : List Float) (block k : ℕ) (v : List Float) : Type 0 where
  pub same_length : length w' ≡ length w
  pub numbers : Four (λ l. in_row w' block k l ≡ at v l)
  pub kept : (j : ℕ) → Outside (block + 4 * k) 4 j → at w' j ≡ at w j

-- v stored o behind the places p. Two lanes may have one place, so it is said by a G, what belongs at each place: where v is what belongs
-- there, it stands there, and no place loses what belongs to it
pub record Stored (w w' : List Float) (p : List ℕ) (o : ℕ) (v : List Float) : Type 0 where
  pub same_length : length w' ≡ length w
  pub there : (G : ℕ → Float) → Four (λ l. at v l ≡ G (place p l + o)) → Four (λ l. at w' (place p l + o) ≡ G (place p l + o))
  pub still : (G : ℕ → Float) → Four (λ l. at v l ≡ G (place p l + o)) → (j : ℕ) → at w j ≡ G j → at w' j ≡ G j
  pub kept : (j : ℕ) → ((l : ℕ) → l < 4 → j ≢ place p l + o) → at w' j ≡ at w j
