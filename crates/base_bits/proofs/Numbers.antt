-- Floats as fields: how many bits they have, that each pattern fits its field, what is read where they stand, and that they are stored and
-- written one after the other.
use mathlib.Core.Path.{◌≡◌, refl, sym, ap, subst, ◌∙◌}
use mathlib.Core.Bool.{not, true, false}
use mathlib.Core.List.{List, [], ◌∷◌, map-append}
use Prim.Native.Nat.{ℕ, zero, suc, ◌+◌, ◌*◌, ◌<◌, ◌≤◌}
use native.Mathlib.Numerals.{add-one}
use native.Mathlib.Omega.{arith}
use borrow.Author.Tests.{not-false}
use lib.Dec.{T}
use lib.ListN.{length, get_or, take, drop, set}
use lib.Seq.{take_all, take-suc, length-take-le}
use lib.Ieee.{Float, nan, binary64, fits, is_nan, of_bits, to_bits}
use lib.Ieee.Scale.{finite}
use lib.Ieee.Bits.{of_bits-to_bits, to_bits-lt, to_bits-of_bits}
use Rattle.rules.specs.Numbers.{table_from}
use Rattle.rules.specs.Refusals.{number_refused, some_number_refused}
use Rattle.rules.proofs.Tables.{length_table, at_table}
use Rattle.base_numbers.proofs.Scan.{any_at}
use Rattle.base_numbers.proofs.Front.{front, front_none, front_more, front_all}
use Rattle.base_bits.specs.Bits.{field, number, numbers}
use Rattle.base_bits.specs.Written.{with_field, Field, number_field, number_fields, bits_in, with_fields}
use Rattle.base_bits.proofs.Runs.{field_below}
use Rattle.base_bits.proofs.Rows.{Stand, Sized, with_fields_append}

pub numbers_bits : (xs : List Float) → bits_in (number_fields xs) ≡ 64 * length xs
unfolding bits_in
numbers_bits [] = refl
numbers_bits (x ∷ xs) = let e = numbers_bits xs in omega arith

-- something holds of each number of a list, and so of a part of it
unfoldable pub Each : (Float → Type 0) → List Float → Type 0
Each holds [] = Unit {0}
Each holds (x ∷ xs) = holds x × Each holds xs

module _ (holds : Float → Type 0) where
  pub each_take : (n : ℕ) (xs : List Float) → Each holds xs → Each holds (take n xs)
  unfolding Each
  each_take zero xs all = tt
  each_take (suc n) [] all = tt
  each_take (suc n) (x ∷ xs) all = (all.0, each_take n xs all.1)

  pub each_drop : (n : ℕ) (xs : List Float) → Each holds xs → Each holds (drop n xs)
  unfolding Each
  each_drop zero xs all = all
  each_drop (suc n) [] all = tt
  each_drop (suc n) (x ∷ xs) all = each_drop n xs all.1

  pub each_at : (xs : List Float) → ((k : ℕ) → k < length xs → holds (get_or xs k nan)) → Each holds xs
  unfolding Each
  each_at [] all = tt
  each_at (x ∷ xs) all = (all 0 (omega arith), each_at xs (λ k l. all (suc k) (omega arith)))

-- where none is refused, each is finite
pub each_finite : (xs : List Float) → some_number_refused xs ≡ false → (k : ℕ) → k < length xs → finite (get_or xs k nan) ≡ true
each_finite xs none k h = not-false _ (any_at (λ i. number_refused (get_or xs i nan)) (length xs) none k h)

-- binary64 holds each number, as it does every number of a slice
abbrev pub Held : List Float → Type 0
Held = Each (λ x. T (fits binary64 x))

pub numbers_sized : (xs : List Float) → Held xs → Sized (number_fields xs)
unfolding Sized Each
numbers_sized [] held = tt
numbers_sized (x ∷ xs) held = (to_bits-lt binary64 x held.0, numbers_sized xs held.1)

-- where they stand they are read
read_from : (bytes : List ℕ) (at a : ℕ) (xs : List Float) → Held xs → Stand bytes (at + 64 * a) (number_fields xs)
    → table_from (length xs) a (λ k. number bytes (at + 64 * k)) ≡ xs
unfolding Each Stand
read_from bytes at a [] held s = refl
read_from bytes at a (x ∷ xs) held s =
    let next : at + 64 * a + 64 ≡ at + 64 * suc a = omega arith in
    let here : number bytes (at + 64 * a) ≡ x = ap (of_bits binary64) s.0 ∙ of_bits-to_bits binary64 x held.0 in
    cc (here, read_from bytes at (suc a) xs held.1 (rw next at s.1))

pub numbers_read : (bytes : List ℕ) (at : ℕ) (xs : List Float) → Held xs → Stand bytes at (number_fields xs)
    → numbers bytes at (length xs) ≡ xs
numbers_read bytes at xs held s = let e : at ≡ at + 64 * 0 = omega arith in read_from bytes at 0 xs held (rw e at s)

-- numbers that are read stand where they were, unless one is the nan
abbrev pub NoNan : List Float → Type 0
NoNan = Each (λ x. T (not (is_nan x)))

pub number_stands : (bytes : List ℕ) (at : ℕ) → T (not (is_nan (number bytes at))) → field bytes at 64 ≡ to_bits binary64 (number bytes at)
number_stands bytes at fine = sym (to_bits-of_bits binary64 (field bytes at 64) (field_below bytes at 64) fine)

stand_from : (bytes : List ℕ) (at a n : ℕ) → NoNan (table_from n a (λ k. number bytes (at + 64 * k)))
    → Stand bytes (at + 64 * a) (number_fields (table_from n a (λ k. number bytes (at + 64 * k))))
unfolding Each Stand
stand_from bytes at a zero fine = tt
stand_from bytes at a (suc n) fine =
    let next : at + 64 * a + 64 ≡ at + 64 * suc a = omega arith in
    (number_stands bytes (at + 64 * a) fine.0, rw next (stand_from bytes at (suc a) n fine.1))

pub numbers_stand : (bytes : List ℕ) (at n : ℕ) → NoNan (numbers bytes at n) → Stand bytes at (number_fields (numbers bytes at n))
numbers_stand bytes at n fine =
    let e : at + 64 * 0 ≡ at = omega arith in
    subst (λ (p : ℕ). Stand bytes p (number_fields (numbers bytes at n))) e (stand_from bytes at 0 n fine)

-- ---- stored one after the other

module _ (bytes : List ℕ) (at : ℕ) (old : List Float) where
  -- what a list holds once the first k of the numbers that it has places for are stored
  abbrev pub stored : ℕ → List Float
  stored k = front (numbers bytes at (length old)) k old

  pub stored_none : old ≡ stored 0
  stored_none = front_none (numbers bytes at (length old)) old

  sizes : length (numbers bytes at (length old)) ≡ length old
  sizes = length_table (length old) (λ k. number bytes (at + 64 * k))

  -- the next, whose pattern is read from bit p on
  pub stored_more : (now : List Float) (k p : ℕ) (v : Float) → now ≡ stored k → v ≡ number bytes p → p ≡ at + 64 * k → k < length old
      → set now k v ≡ stored (k + 1)
  stored_more now k p v e f place h =
      let size = sizes in
      front_more (numbers bytes at (length old)) old now k v nan e
      (f ∙ ap (number bytes) place ∙ sym (at_table (length old) (λ k. number bytes (at + 64 * k)) k nan h)) (omega arith) h

  pub stored_all : (now : List Float) (k : ℕ) → now ≡ stored k → k ≡ length old → now ≡ numbers bytes at (length old)
  stored_all now k e f = let size = sizes in e ∙ front_all (numbers bytes at (length old)) old k (omega arith) (omega arith)

-- ---- written one after the other

-- one field is put as a field
pub with_last : (bytes : List ℕ) (at : ℕ) (f : Field) → with_fields bytes at (f ∷ []) ≡ with_field bytes at f.width f.value
unfolding with_fields
with_last bytes at f = refl

pub none_written : (bytes : List ℕ) (at : ℕ) (xs : List Float) → bytes ≡ with_fields bytes at (number_fields (take 0 xs))
unfolding with_fields
none_written bytes at xs = refl

pub more_written : (z s : List ℕ) (at : ℕ) (xs : List Float) (k : ℕ) → k < length xs → s ≡ with_fields z at (number_fields (take k xs))
    → with_field s (at + 64 * k) 64 (to_bits binary64 (get_or xs k nan)) ≡ with_fields z at (number_fields (take (k + 1) xs))
more_written z s at xs k l e =
    let x = get_or xs k nan in
    let place : at + bits_in (number_fields (take k xs)) ≡ at + 64 * k = rw (numbers_bits (take k xs), length-take-le k xs (omega arith)) in
    rw (
      add-one k,
      take-suc xs k nan l,
      map-append number_field (take k xs) (x ∷ []),
      with_fields_append z at (number_fields (take k xs)) (number_field x ∷ []),
      place,
      ← e,
      with_last s (at + 64 * k) (number_field x),
    )

pub all_written : (z s : List ℕ) (at : ℕ) (xs : List Float) (k : ℕ) → length xs ≤ k → s ≡ with_fields z at (number_fields (take k xs))
    → s ≡ with_fields z at (number_fields xs)
all_written z s at xs k l e = e ∙ rw (take_all k xs l)
