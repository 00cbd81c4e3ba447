-- A loop that stores from the front: a list with its first i elements replaced by those of another.
use mathlib.Core.Path.{◌≡◌, refl, ap}
use mathlib.Core.List.{List, [], ◌∷◌, ◌++◌, append-nil}
use Prim.Native.Nat.{ℕ, zero, suc, ◌+◌, ◌<◌, ◌≤◌}
use native.Mathlib.Nat.{not-suc-le-zero, le_of_suc-le-suc}
use native.Mathlib.Numerals.{add-one}
use native.Mathlib.Omega.{arith}
use lib.ListN.{length, get_or, take, drop, set, drop_of_length-le}
use lib.Seq.{take_all}

module _ {A : Type 0} where
  -- `old` with its first i elements replaced by those of `new`
  unfoldable pub front : List A → ℕ → List A → List A
  front new i old = take i new ++ drop i old

  -- nothing is stored yet
  pub front_none : (new old : List A) → old ≡ front new 0 old
  unfolding front
  front_none new old = refl

  front_suc : (new old : List A) (i : ℕ) (d : A) → i < length new → i < length old
      → set (front new i old) i (get_or new i d) ≡ front new (suc i) old
  unfolding front
  front_suc [] old i d h k = absurd (not-suc-le-zero h)
  front_suc (x ∷ new) [] i d h k = absurd (not-suc-le-zero k)
  front_suc (x ∷ new) (y ∷ old) zero d h k = refl
  front_suc (x ∷ new) (y ∷ old) (suc i) d h k =
      ap (λ (l : List A). x ∷ l) (front_suc new old i d (le_of_suc-le-suc h) (le_of_suc-le-suc k))

  -- one store: what was stored so far, and the next
  pub front_more : (new old l : List A) (i : ℕ) (v d : A) → l ≡ front new i old → v ≡ get_or new i d → i < length new → i < length old
      → set l i v ≡ front new (i + 1) old
  front_more new old l i v d e f h k = rw (e, f, add-one) (front_suc new old i d h k)

  -- all is stored
  pub front_all : (new old : List A) (i : ℕ) → length new ≡ i → length old ≡ i → front new i old ≡ new
  unfolding front
  front_all new old i h k = rw (take_all i new (omega arith), drop_of_length-le old {i = i} (omega arith), append-nil)

  -- past what was stored, the old elements stand
  pub front_rest : (new old : List A) (i k : ℕ) (d : A) → i ≤ length new → i ≤ k → k < length old
      → get_or (front new i old) k d ≡ get_or old k d
  unfolding front
  front_rest new old zero k d h l b = refl
  front_rest [] old (suc i) k d h l b = absurd (not-suc-le-zero h)
  front_rest (x ∷ new) [] (suc i) k d h l b = absurd (not-suc-le-zero b)
  front_rest (x ∷ new) (y ∷ old) (suc i) zero d h l b = absurd (not-suc-le-zero l)
  front_rest (x ∷ new) (y ∷ old) (suc i) (suc k) d h l b =
      front_rest new old i k d (le_of_suc-le-suc h) (le_of_suc-le-suc l) (le_of_suc-le-suc b)
