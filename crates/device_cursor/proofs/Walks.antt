-- The cursor walks the program's numbers: from the start its answers are all of them in their order, and then 20 for ever.
use mathlib.Core.Path.{◌≡◌, refl, sym, ap, ◌∙◌}
use mathlib.Core.List.{List, [], ◌∷◌, ◌++◌}
use mathlib.Core.Logic.{◌⊎◌, ⊎_elim, inl, inr}
use Prim.Native.Nat.{ℕ, zero, suc, ◌+◌, ◌-◌, ◌*◌, ◌/◌, ◌%◌, ◌<◌, ◌≤◌}
use native.Mathlib.Nat.{add-zero, zero-add, lt_of_not-le}
use native.Mathlib.Decide.{dec_le}
use native.Mathlib.Omega.{arith}
use lib.IntN.{ℤ, pos}
use lib.ListN.{length, get_or, length-append, get_or-append}
use lib.Seq.{get_or-append-add, ext_get_or}
use Rattle.base_integers.specs.Sized.{Sized}
use Rattle.device_cell.specs.DeviceCell.{cell_number}
use Rattle.device_cell.specs.declared.Cell.{Cell}
use Rattle.device_cell.proofs.Reach.{number_sized}
use Rattle.device_cursor.specs.DeviceCurve.{
  cell_at,
  cells,
  curve_refusal,
  numbers_below,
  numbers_of_cells,
  last_number,
  curve_numbers,
  last_cursor,
  cursor_number,
  start_cursor,
  NextAnswer,
  next_answer,
}
use Rattle.device_cursor.specs.declared.Cursor.{Cursor}
use Rattle.device_cursor.proofs.Judged.{Whole, length_known, cell_known}
use Rattle.device_cursor.proofs.Steps.{
  number_before,
  number_last,
  curve_refused,
  past_the_end,
  not_refused,
  step_refused,
  step_given,
}

-- ---- a number of a list that stands before another, and one of the list behind

in_first : (xs ys : List ℤ) (i : ℕ) → i < length xs → get_or (xs ++ ys) i (pos 0) ≡ get_or xs i (pos 0)
in_first xs ys i h = get_or-append xs ys (pos 0) i h

in_second : (xs ys : List ℤ) (i : ℕ) → length xs ≤ i → get_or (xs ++ ys) i (pos 0) ≡ get_or ys (i - length xs) (pos 0)
in_second xs ys i h =
    let e : i ≡ length xs + (i - length xs) = omega arith in
    ap (λ (k : ℕ). get_or (xs ++ ys) k (pos 0)) e ∙ get_or-append-add xs ys (i - length xs) (pos 0)

below_or_not : (i n : ℕ) → (i < n) ⊎ (n ≤ i)
below_or_not i n = elim (dec_le n i) [ yes h ↦ inr h | no f ↦ inl (lt_of_not-le f) ]

-- ---- the program's numbers by their places

length_below : (c : Cell) (k : ℕ) → length (numbers_below c k) ≡ k
unfolding numbers_below
length_below c zero = refl
length_below c (suc k) = length-append (numbers_below c k) (cell_number c k ∷ []) ∙ rw (length_below c k) (omega arith)

below_at : (c : Cell) (k j : ℕ) → j < k → get_or (numbers_below c k) j (pos 0) ≡ cell_number c j
unfolding numbers_below
below_at c zero j h = let z : ⊥ = omega arith in absurd z
below_at c (suc k) j h =
    let n = length_below c k in
    ⊎_elim
    (λ l. in_first (numbers_below c k) (cell_number c k ∷ []) j (omega (arith, n, l)) ∙ below_at c k j l)
    (λ m. let e : j - length (numbers_below c k) ≡ 0 = omega (arith, n, m) in let f : k ≡ j = omega (arith, m) in
    in_second (numbers_below c k) (cell_number c k ∷ []) j (omega (arith, n, m)) ∙ rw e (ap (cell_number c) f))
    (below_or_not j k)

module _ (curve : List ℕ) where
  length_of_cells : (n : ℕ) → length (numbers_of_cells curve n) ≡ 256 * n
  unfolding numbers_of_cells
  length_of_cells zero = refl
  length_of_cells (suc n) =
      length-append (numbers_of_cells curve n) (numbers_below (cell_at curve n) 256)
      ∙ rw (length_of_cells n, length_below (cell_at curve n) 256) (omega arith)

  of_cells_at : (n j : ℕ) → j < 256 * n → get_or (numbers_of_cells curve n) j (pos 0) ≡ cell_number (cell_at curve (j / 256)) (j % 256)
  unfolding numbers_of_cells
  of_cells_at zero j h = let z : ⊥ = omega arith in absurd z
  of_cells_at (suc n) j h =
      let l = length_of_cells n in
      ⊎_elim
      (λ b. in_first (numbers_of_cells curve n) (numbers_below (cell_at curve n) 256) j (omega (arith, l, b)) ∙ of_cells_at n j b)
      (λ m. let e : j - length (numbers_of_cells curve n) ≡ j % 256 = omega (arith, l, m) in let f : j / 256 ≡ n = omega (arith, m) in
      in_second (numbers_of_cells curve n) (numbers_below (cell_at curve n) 256) j (omega (arith, l, m))
      ∙ rw e (below_at (cell_at curve n) 256 (j % 256) (omega arith) ∙ ap (λ (i : ℕ). cell_number (cell_at curve i) (j % 256)) (sym f)))
      (below_or_not j (256 * n))

  -- 256 for each cell, and one
  pub how_many : length (curve_numbers curve) ≡ last_cursor curve + 1
  unfolding curve_numbers
  how_many =
      length-append (numbers_of_cells curve (cells curve)) (last_number curve ∷ []) ∙ rw (length_of_cells (cells curve))

  -- each is that of the cursor of its place
  pub number_of_place : (j : ℕ) → j ≤ last_cursor curve → get_or (curve_numbers curve) j (pos 0) ≡ cursor_number curve j
  unfolding curve_numbers
  number_of_place j h =
      let l = length_of_cells (cells curve) in
      ⊎_elim
      (λ b.
      in_first (numbers_of_cells curve (cells curve)) (last_number curve ∷ []) j (omega (arith, l, b)) ∙ of_cells_at (cells curve) j b
      ∙ number_before curve j b)
      (λ m. let e : j - length (numbers_of_cells curve (cells curve)) ≡ 0 = omega (arith, l, m) in
      in_second (numbers_of_cells curve (cells curve)) (last_number curve ∷ []) j (omega (arith, l, m)) ∙ rw e (number_last curve j m))
      (below_or_not j (last_cursor curve))

  -- ---- the walk

  -- the cursor after so many calls of `next`, one after the other
  abbrev pub after : ℕ → Cursor → Cursor
  after zero cursor = cursor
  after (suc j) cursor = after j (next_answer curve cursor).cursor

  -- the values that they answer
  abbrev pub values : ℕ → Cursor → List ℤ
  values zero cursor = []
  values (suc j) cursor = (next_answer curve cursor).value ∷ values j (next_answer curve cursor).cursor

  length_values : (j : ℕ) (cursor : Cursor) → length (values j cursor) ≡ j
  length_values zero cursor = refl
  length_values (suc j) cursor = ap suc (length_values j (next_answer curve cursor).cursor)

  module _ (accepted : curve_refusal curve ≡ 0) where
    -- one step on, and one past the end
    on : (n : ℕ) → n ≤ last_cursor curve
        → next_answer curve (record { n = n }) ≡ record { refusal = 0; value = cursor_number curve n; cursor = record { n = n + 1 } }
    on n h = sym (step_given curve (record { n = n }) (cursor_number curve n) (sym (not_refused curve n accepted h)) refl)

    past : (n : ℕ) → last_cursor curve < n
        → next_answer curve (record { n = n }) ≡ record { refusal = 20; value = pos 0; cursor = record { n = n } }
    past n h = sym (step_refused curve (record { n = n }) 20 (past_the_end curve n accepted h) (λ e. omega (arith, e)))

    after_on : (j n : ℕ) → n + j ≤ last_cursor curve + 1 → after j (record { n = n }) ≡ record { n = n + j }
    after_on zero n h = rw (add-zero n)
    after_on (suc j) n h =
        let e : n + 1 + j ≡ n + suc j = omega arith in
        rw (on n (omega arith)) (after_on j (n + 1) (omega arith) ∙ ap (λ (m : ℕ). record { n = m }) e)

    values_on : (j n i : ℕ) → n + j ≤ last_cursor curve + 1 → i < j
        → get_or (values j (record { n = n })) i (pos 0) ≡ cursor_number curve (n + i)
    values_on zero n i h l = let z : ⊥ = omega arith in absurd z
    values_on (suc j) n zero h l = rw (on n (omega arith), add-zero n)
    values_on (suc j) n (suc i) h l =
        let e : n + 1 + i ≡ n + suc i = omega arith in
        rw (on n (omega arith)) (values_on j (n + 1) i (omega arith) (omega arith) ∙ ap (cursor_number curve) e)

    after_end : (j n : ℕ) → n ≤ last_cursor curve + 1 → last_cursor curve + 1 ≤ n + j
        → after j (record { n = n }) ≡ record { n = last_cursor curve + 1 }
    after_end zero n low high = let e : n ≡ last_cursor curve + 1 = omega arith in rw e
    after_end (suc j) n low high =
        ⊎_elim
        (λ l. rw (on n (omega (arith, l))) (after_end j (n + 1) (omega (arith, l)) (omega arith)))
        (λ m. rw (past n (omega (arith, m))) (after_end j n low (omega (arith, m))))
        (below_or_not n (last_cursor curve + 1))

-- the walk of a curve that is not refused
pub record Walks (curve : List ℕ) : Type 0 where
  pub numbers : values curve (last_cursor curve + 1) start_cursor ≡ curve_numbers curve
  pub none_refused : (j : ℕ) → j ≤ last_cursor curve → (next_answer curve (after curve j start_cursor)).refusal ≡ 0
  pub then_20 : (j : ℕ) → last_cursor curve < j
      → next_answer curve (after curve j start_cursor) ≡ record { refusal = 20; value = pos 0; cursor = after curve j start_cursor }

pub cursor_walks : (curve : List ℕ) → curve_refusal curve ≡ 0 → Walks curve
cursor_walks curve accepted = record {
  numbers =
      ext_get_or (pos 0) (values curve (last_cursor curve + 1) start_cursor) (curve_numbers curve)
      (length_values curve (last_cursor curve + 1) start_cursor ∙ sym (how_many curve))
      (λ i h.
      let n = length_values curve (last_cursor curve + 1) start_cursor in
      values_on curve accepted (last_cursor curve + 1) 0 i (omega arith) (omega (arith, n, h)) ∙ ap (cursor_number curve) (zero-add i)
      ∙ sym (number_of_place curve i (omega (arith, n, h))));
  none_refused =
      λ j h. rw (after_on curve accepted j 0 (omega (arith, h)), zero-add j) (ap (λ (a : NextAnswer). a.refusal) (on curve accepted j h));
  then_20 =
      λ j h. rw (after_end curve accepted j 0 (omega arith) (omega (arith, h))) (past curve accepted (last_cursor curve + 1) (omega arith));
}

-- a curve that is refused gives its number at every cursor, which stays
pub refused_stays : (curve : List ℕ) (cursor : Cursor) → (curve_refusal curve ≡ 0 → ⊥)
    → next_answer curve cursor ≡ record { refusal = curve_refusal curve; value = pos 0; cursor = cursor }
refused_stays curve cursor refused =
    sym (step_refused curve cursor (curve_refusal curve) (curve_refused curve cursor.n (curve_refusal curve) refl refused) refused)

-- ---- how far the numbers reach

-- each lies in -65,536 .. 65,536
pub cursor_sized : (curve : List ℕ) → curve_refusal curve ≡ 0 → (n : ℕ) → n ≤ last_cursor curve → Sized 65536 (cursor_number curve n)
cursor_sized curve accepted n h =
    let w : Whole (length curve) = length_known curve accepted in
    ⊎_elim
    (λ b.
    rw (← number_before curve n b)
    (number_sized (cell_at curve (n / 256)) (n % 256) (cell_known curve accepted (n / 256) (omega (arith, b))) (omega arith)))
    (λ m.
    rw (← number_last curve n m)
    (number_sized (cell_at curve (cells curve - 1)) 256 (cell_known curve accepted (cells curve - 1) (omega arith)) (omega arith)))
    (below_or_not n (last_cursor curve))
