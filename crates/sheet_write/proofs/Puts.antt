-- Fields put one after the other, on plain lists: what stands afterwards, where the next begins, and that there is room for each.
use mathlib.Core.Path.{◌≡◌, refl, sym, ap, ap₂, ◌∙◌}
use mathlib.Core.Bool.{false}
use mathlib.Core.List.{List, [], ◌∷◌, ◌++◌}
use Prim.Native.Nat.{ℕ, suc, ◌+◌, ◌-◌, ◌*◌, ◌%◌, min, ◌<◌, ◌≤◌}
use native.Mathlib.Numerals.{add-one}
use native.Mathlib.Omega.{arith}
use lib.ListN.{length, take, drop, length-take, length-drop}
use lib.Seq.{get_or-take, get_or-drop}
use lib.Ieee.{Float, nan, binary64, to_bits}
use Rattle.base_numbers.proofs.Scan.{any_at, any_never}
use Rattle.rules.specs.Numbers.{at}
use Rattle.rules.specs.Sizes.{Grid, points, sum_below, knots}
use Rattle.rules.specs.Outside.{mode_number}
use Rattle.rules.specs.Refusals.{number_refused, some_number_refused}
use Rattle.rules.specs.declared.Axis.{Axis}
use Rattle.grid.proofs.Products.{sum_within, sum_more}
use Rattle.grid_codes.specs.Kinds.{lower_kind_of, upper_kind_of}
use Rattle.grid_codes.specs.Editions.{mode_width}
use Rattle.base_bits.specs.BitsThere.{Within}
use Rattle.base_bits.specs.Written.{with_field, Field, number_field, number_fields, bits_in, with_fields, filler}
use Rattle.base_bits.proofs.Rows.{bits_in_append, with_fields_append, fields_length}
use Rattle.sheet_read.proofs.Extents.{width_most}
use Rattle.base_bits.proofs.Numbers.{with_last}
use Rattle.sheet_write.specs.SheetOf.{ends_fields, axis_fields, axes_fields, part_fields, sheet_fields}
use Rattle.sheet_write.specs.PartsWithRoom.{HeadGiven, with_head, AxisGiven, AxesGiven, SheetGiven}
use Rattle.sheet_write.specs.RoundTrip.{entry}
use Rattle.sheet_write.proofs.Ends.{ends_bits}
use Rattle.sheet_write.proofs.Lengths.{axis_bits, axes_next, part_bits, last_bits}
use Rattle.sheet_write.proofs.Axes.{axes_append, first_bits}

-- ---- room

-- a part of the bits, in a list as long
pub part_within : (b d : List ℕ) (p n q k : ℕ) → Within b p n → length d ≡ length b → q + k ≤ p + n → Within d q k
part_within b d p n q k w same h =
    let room = w.room in
    let small = w.small in
    record { room = omega arith; small = omega arith }

-- ---- no field, one number, two rows

module _ (b : List ℕ) (p : ℕ) where
  pub none_put : (fields : List Field) → fields ≡ [] → (p ≡ p + bits_in fields) × (b ≡ with_fields b p fields)
  unfolding bits_in with_fields
  none_put fields e = rw e (omega arith, refl)

  pub one_put : (later : List ℕ) (fields : List Field) (v : Float) → fields ≡ number_field v ∷ []
      → later ≡ with_field b p 64 (to_bits binary64 v) → (p + 64 ≡ p + bits_in fields) × (later ≡ with_fields b p fields)
  unfolding bits_in with_fields
  one_put later fields v e put = rw e (omega arith, put)

  one_bits : (fields : List Field) (v : Float) → fields ≡ number_field v ∷ [] → bits_in fields ≡ 64
  unfolding bits_in
  one_bits fields v e = rw e (omega arith)

  pub one_within : (fields : List Field) (v : Float) → fields ≡ number_field v ∷ [] → Within b p (bits_in fields) → Within b p 64
  one_within fields v e w = rw (one_bits fields v e) at w

  pub both_put :
      (x y : List Field) (middle later : List ℕ) (next end : ℕ) → next ≡ p + bits_in x → middle ≡ with_fields b p x → end ≡ next + bits_in y
      → later ≡ with_fields middle next y
      → (end ≡ p + bits_in (x ++ y)) × (later ≡ with_fields b p (x ++ y))
  both_put x y middle later next end n m e l =
      let two = bits_in_append x y in
      (omega arith, rw (with_fields_append b p x y, ← n, ← m) l)

  pub first_within : (x y : List Field) → Within b p (bits_in (x ++ y)) → Within b p (bits_in x)
  first_within x y w = let two = bits_in_append x y in part_within b b p (bits_in (x ++ y)) p (bits_in x) w refl (omega arith)

  pub second_within : (x y : List Field) (middle : List ℕ) (next : ℕ) → next ≡ p + bits_in x → middle ≡ with_fields b p x
      → Within b p (bits_in (x ++ y)) → Within middle next (bits_in y)
  second_within x y middle next n m w =
      let two = bits_in_append x y in
      part_within b middle p (bits_in (x ++ y)) next (bits_in y) w (ap length m ∙ fields_length b p x) (omega arith)

-- ---- an axis

module _ (b : List ℕ) (p width : ℕ) (axis : Axis) (x : List Float) where
  pub axis_put :
      (b4 b5 later : List ℕ) (next : ℕ)
      → b4 ≡ with_head b p width axis
      → next ≡ p + 12 + width + bits_in (ends_fields axis.condition)
      → b5 ≡ with_fields b4 (p + 12 + width) (ends_fields axis.condition)
      → later ≡ with_fields b5 next (number_fields x)
      → (next + 64 * length x ≡ p + bits_in (axis_fields width axis x)) × (later ≡ with_fields b p (axis_fields width axis x))
  unfolding axis_fields with_fields
  axis_put b4 b5 later next e4 n e5 e6 =
      let ten : p + 8 + 2 ≡ p + 10 = omega arith in
      let last : p + 10 + 2 ≡ p + 12 = omega arith in
      let twelve : p + 8 + 2 + 2 ≡ p + 12 = omega arith in
      let bits = axis_bits width axis x in
      let ends = ends_bits axis.condition in
      let row : List Field = ends_fields axis.condition ++ number_fields x in
      let rest : with_fields b4 (p + 12 + width) row ≡ later =
      with_fields_append b4 (p + 12 + width) (ends_fields axis.condition) (number_fields x) ∙ rw (← n, ← e5) (sym e6) in
      let head : with_field
      (with_field (with_field (with_field b p 8 (axis.points - 1)) (p + 8) 2 (lower_kind_of axis.condition)) (p + 8 + 2) 2
      (upper_kind_of axis.condition))
      (p + 8 + 2 + 2) width (mode_number axis.mode)
      ≡ b4 =
      rw (ten, last) (sym e4) in
      (omega arith, sym rest ∙ ap₂ (λ (d : List ℕ) (q : ℕ). with_fields d (q + width) row) (sym head) (sym twelve))

  -- there is room for what comes before the numbers
  pub head_given : AxisGiven b p width axis x → HeadGiven b p width axis
  head_given given =
      let bits = axis_bits width axis x in
      record {
        narrow = given.narrow;
        some_points = given.some_points;
        within = part_within b b p (bits_in (axis_fields width axis x)) p (12 + width) given.within refl (omega arith);
      }

-- ---- the axes

-- a part of finite numbers
part_finite : (xs : List Float) (a p : ℕ) → some_number_refused xs ≡ false → some_number_refused (take p (drop a xs)) ≡ false
part_finite xs a p fine =
    any_never (λ k. number_refused (at (take p (drop a xs)) k)) (length (take p (drop a xs))) (λ k l.
    let size : length (take p (drop a xs)) ≡ min p (length xs - a) = length-take p (drop a xs) ∙ rw (length-drop a xs) in
    rw (get_or-take p (drop a xs) k nan (omega arith), get_or-drop a xs k nan)
    (any_at (λ j. number_refused (at xs j)) (length xs) fine (a + k) (omega arith)))

pub record Turn (b : List ℕ) (width : ℕ) (g : Grid) (bytes : List ℕ) (p from i : ℕ) : Type 0 where
  pub most : i ≤ g.axes
  pub place : p ≡ 7 + bits_in (axes_fields width g i)
  pub filled : from ≡ sum_below (points g) i
  pub small : from ≤ 256 * i
  pub same_length : length bytes ≡ length b
  pub done : bytes ≡ with_fields b 7 (axes_fields width g i)

pub turn_first : (b : List ℕ) (width : ℕ) (g : Grid) → Turn b width g b 7 0 0
unfolding axes_fields with_fields bits_in sum_below
turn_first b width g = record { most = omega arith; place = refl; filled = refl; small = omega arith; same_length = refl; done = refl }

module _ (b : List ℕ) (width : ℕ) (g : Grid) (bytes : List ℕ) (p from i : ℕ) (t : Turn b width g bytes p from i) (l : i < g.axes) where
  -- its part of the knots
  abbrev part : List Float
  part = take (from + points g i - from) (drop from g.flat_knots)

  part_is : part ≡ knots g i
  part_is = let e : from + points g i - from ≡ points g i = omega arith in rw (e, t.filled)

  module _ (given : AxesGiven b width g) where
    pub turn_room : from + points g i ≤ length g.flat_knots
    turn_room =
        let within = sum_within (points g) i g.axes l in
        omega (arith, given.fields.knots_exact, t.filled)

    pub turn_given : AxisGiven bytes p width (entry g i) part
    turn_given =
        let next = axes_next width g i in
        let most = first_bits width g (suc i) g.axes l in
        let two = given.fields.some_points i l in
        let small = given.within in
        rw part_is
        (record {
          narrow = given.narrow;
          some_points = omega arith;
          finite_ends = given.fields.finite_ends i l;
          finite_knots = part_finite g.flat_knots (sum_below (points g) i) (points g i) given.fields.finite_knots;
          within =
              part_within b bytes 7 (bits_in (axes_fields width g g.axes)) p (bits_in (axis_fields width (entry g i) (knots g i)))
              given.within t.same_length (omega (arith, t.place));
        })

  pub turn_next : points g i ≤ 256 → (later : List ℕ) (end : ℕ) → end ≡ p + bits_in (axis_fields width (entry g i) part)
      → later ≡ with_fields bytes p (axis_fields width (entry g i) part) → Turn b width g later end (from + points g i) (i + 1)
  turn_next most later end e put =
      let here : end ≡ p + bits_in (axis_fields width (entry g i) (knots g i)) = rw part_is at e in
      let put_here : later ≡ with_fields bytes p (axis_fields width (entry g i) (knots g i)) = rw part_is at put in
      let next = axes_next width g i in
      record {
        most = omega arith;
        place = rw (add-one i) (omega (arith, t.place));
        small = omega (arith, t.small);
        filled = rw (sum_more (points g) i, t.filled);
        same_length = ap length put_here ∙ fields_length bytes p (axis_fields width (entry g i) (knots g i)) ∙ t.same_length;
        done =
            put_here
            ∙ rw (
              add-one i,
              axes_append width g i,
              with_fields_append b 7 (axes_fields width g i) (axis_fields width (entry g i) (knots g i)),
              ← t.place,
              ← t.done,
            );
      }

pub turn_last : (b : List ℕ) (width : ℕ) (g : Grid) (bytes : List ℕ) (p from i : ℕ) → Turn b width g bytes p from i → g.axes ≤ i
    → (p ≡ 7 + bits_in (axes_fields width g g.axes)) × (bytes ≡ with_fields b 7 (axes_fields width g g.axes))
turn_last b width g bytes p from i t ge = let e : i ≡ g.axes = omega (arith, t.most) in (rw e at t.place, rw e at t.done)

-- ---- all of a sheet

module _ (b : List ℕ) (edition : ℕ) (g : Grid) (samples : List Float) where
  -- where the axes end, where the samples end, and the last byte
  pub record Ends : Type 0 where
    pub axes_end : 7 + bits_in (axes_fields (mode_width edition) g g.axes) + 64 * length samples
        ≡ bits_in (part_fields edition g samples)
    pub last : bits_in (part_fields edition g samples) + (8 - bits_in (part_fields edition g samples) % 8) % 8
        ≡ bits_in (sheet_fields edition g samples)

  pub ends : Ends
  unfolding sheet_fields
  ends = record {
    axes_end = sym (part_bits edition g samples);
    last =
        let two = bits_in_append (part_fields edition g samples) (filler (bits_in (part_fields edition g samples)) ∷ []) in
        let one = last_bits (bits_in (part_fields edition g samples)) in omega arith;
  }

  -- there is room for the axes, after edition and number of axes
  pub axes_given : (d : List ℕ) (width : ℕ) → width ≡ mode_width edition → length d ≡ length b → SheetGiven b edition g samples
      → AxesGiven d width g
  axes_given d width is same given =
      let all = ends in
      rw is
      (record {
        narrow = width_most edition;
        fields = given.fields;
        within =
            part_within b d 0 (bits_in (sheet_fields edition g samples)) 7 (bits_in (axes_fields (mode_width edition) g g.axes))
            given.within same (omega arith);
      })

  -- what was put with that many bits for a mode
  pub axes_end_is : (width next : ℕ) → width ≡ mode_width edition → next ≡ 7 + bits_in (axes_fields width g g.axes)
      → next ≡ 7 + bits_in (axes_fields (mode_width edition) g g.axes)
  axes_end_is width next is n = rw is at n

  pub axes_put_is : (width : ℕ) (d later : List ℕ) → width ≡ mode_width edition → later ≡ with_fields d 7 (axes_fields width g g.axes)
      → later ≡ with_fields d 7 (axes_fields (mode_width edition) g g.axes)
  axes_put_is width d later is put = rw is at put

  -- there is room for what fills the last byte
  pub last_within : (d : List ℕ) (next : ℕ) → length d ≡ length b → next ≡ 7 + bits_in (axes_fields (mode_width edition) g g.axes)
      → Within b 0 (bits_in (sheet_fields edition g samples))
      → Within d (next + 64 * length samples) ((8 - (next + 64 * length samples) % 8) % 8)
  last_within d next same n w =
      let here : next + 64 * length samples ≡ bits_in (part_fields edition g samples) = rw n ends.axes_end in
      rw here
      (part_within b d 0 (bits_in (sheet_fields edition g samples)) (bits_in (part_fields edition g samples)) _ w same
      (let e = ends.last in omega arith))

  parts_put :
      (b1 b2 b3 b4 : List ℕ) (next : ℕ)
      → b1 ≡ with_field b 0 4 edition
      → b2 ≡ with_field b1 4 3 g.axes
      → next ≡ 7 + bits_in (axes_fields (mode_width edition) g g.axes)
      → b3 ≡ with_fields b2 7 (axes_fields (mode_width edition) g g.axes)
      → b4 ≡ with_fields b3 next (number_fields samples)
      → b4 ≡ with_fields b 0 (part_fields edition g samples)
  unfolding part_fields with_fields
  parts_put b1 b2 b3 b4 next e1 e2 n e3 e4 =
      let start : b2 ≡ with_field (with_field b 0 4 edition) 4 3 g.axes = rw (← e1) e2 in
      let row : List Field = axes_fields (mode_width edition) g g.axes ++ number_fields samples in
      let rest : b4 ≡ with_fields b2 7 row =
      e4 ∙ rw (with_fields_append b2 7 (axes_fields (mode_width edition) g g.axes) (number_fields samples), ← e3, ← n) in
      rest ∙ ap (λ (d : List ℕ). with_fields d 7 row) start

  pub sheet_put :
      (b1 b2 b3 b4 later : List ℕ) (next end : ℕ)
      → b1 ≡ with_field b 0 4 edition
      → b2 ≡ with_field b1 4 3 g.axes
      → next ≡ 7 + bits_in (axes_fields (mode_width edition) g g.axes)
      → b3 ≡ with_fields b2 7 (axes_fields (mode_width edition) g g.axes)
      → b4 ≡ with_fields b3 next (number_fields samples)
      → end ≡ next + 64 * length samples
      → later ≡ with_field b4 end ((8 - end % 8) % 8) 0
      → later ≡ with_fields b 0 (sheet_fields edition g samples)
  unfolding sheet_fields
  sheet_put b1 b2 b3 b4 later next end e1 e2 n e3 e4 e e5 =
      let parts = part_fields edition g samples in
      let here : end ≡ bits_in parts = e ∙ rw n ends.axes_end in
      let place : 0 + bits_in parts ≡ bits_in parts = omega arith in
      rw here at e5
      ∙ sym (with_last b4 (bits_in parts) (filler (bits_in parts)))
      ∙ rw (with_fields_append b 0 parts (filler (bits_in parts) ∷ []), place, ← parts_put b1 b2 b3 b4 next e1 e2 n e3 e4)
