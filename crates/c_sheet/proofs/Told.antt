-- What a read hands over of axes that were given as numbers: of those in use the same points, kinds, values and modes, and 0 past them.
-- And binary64 holds the numbers of their ends.
use mathlib.Core.Path.{◌≡◌, refl, sym, ap, ◌∙◌}
use mathlib.Core.Bool.{Bool, true, false, cond, ◌||◌}
use mathlib.Core.List.{List}
use mathlib.Core.Logic.{⊎_elim}
use Prim.Native.Nat.{ℕ, zero, suc, ◌+◌, ◌*◌, ◌/◌, ◌<◌, ◌≤◌}
use native.Mathlib.Omega.{arith}
use borrow.Author.Tests.{ltb-true, ltb-false, lt-ltb}
use lib.Dec.{T, ltb, eqb}
use lib.ListN.{get_or}
use lib.Ieee.{Float, binary64, fits}
use Rattle.base_numbers.proofs.Scan.{neither, any_at}
use Rattle.rules.specs.Numbers.{plus_zero, at, table}
use Rattle.rules.specs.Sizes.{most_axes, unused_axis, condition}
use Rattle.rules.specs.Outside.{mode_number}
use Rattle.rules.specs.declared.End.{End}
use Rattle.rules.specs.declared.End.TheVariants.{NotAKnot, FirstDerivative, SecondDerivative}
use Rattle.rules.specs.declared.Condition.{Condition}
use Rattle.rules.specs.declared.Condition.TheVariants.{Endpoints, Periodic}
use Rattle.rules.specs.declared.Mode.{Mode}
use Rattle.rules.specs.declared.Mode.TheVariants.{Extend}
use Rattle.rules.specs.declared.Axis.{Axis}
use Rattle.rules.proofs.Tables.{at_table}
use Rattle.grid_codes.specs.Kinds.{
  unknown_kind,
  end_of_kind,
  condition_of_kind,
  periodic_at_one_end,
  kinds_refused,
  value_of_end,
  lower_kind_of,
  upper_kind_of,
  lower_value_of,
  upper_value_of,
}
use Rattle.grid_codes.specs.Modes.{unknown_mode, mode_of_number}
use Rattle.grid_codes.proofs.Told.{number_again}
use Rattle.sheet_write.specs.RoundTrip.{EndHeld, EndsHeld, in_use}
use Rattle.sheet_write.proofs.Ends.{kind_back, both_or_none, below_3}
use Rattle.c_axes.specs.Axes.{
  eight_ends,
  lower_kind,
  upper_kind,
  condition_given,
  axis_given,
  axes_given,
  axis_in_mode,
  axes_in_modes,
  some_kinds_refused,
  some_modes_refused,
  points_found,
  kinds_found,
  values_found,
  modes_found,
}
use Rattle.c_axes.proofs.InModes.{modes_put_in}
use Rattle.c_sheet.specs.RoundTrip.{Parts, grid_of, value_told}

-- ---- an end by its kind

value_again : (kind : ℕ) (value : Float) → kind < 4 → value_of_end (end_of_kind kind value) ≡ value_told kind value
unfolding end_of_kind
value_again zero value few = refl
value_again (suc zero) value few = refl
value_again (suc (suc zero)) value few = refl
value_again (suc (suc (suc zero))) value few = refl
value_again (suc (suc (suc (suc kind)))) value few = absurd (omega arith)

-- what kinds that stand, with these values, tell
record Told (lower upper : ℕ) (x y : Float) (c : Condition) : Type 0 where
  lower_kind_same : lower_kind_of c ≡ lower
  upper_kind_same : upper_kind_of c ≡ upper
  lower_value_same : lower_value_of c ≡ value_told lower x
  upper_value_same : upper_value_of c ≡ value_told upper y

periodic_told : (x y : Float) → Told 3 3 x y (condition_of_kind 3 (end_of_kind 3 x) (end_of_kind 3 y))
unfolding condition_of_kind
periodic_told x y = record { lower_kind_same = refl; upper_kind_same = refl; lower_value_same = refl; upper_value_same = refl }

told :
    (lower upper : ℕ) (x y : Float) → kinds_refused lower upper ≡ false
    → Told lower upper x y (condition_of_kind lower (end_of_kind lower x) (end_of_kind upper y))
unfolding kinds_refused
told lower upper x y stand =
    let two = neither (unknown_kind lower || unknown_kind upper) (periodic_at_one_end lower upper) stand in
    let known = neither (unknown_kind lower) (unknown_kind upper) two.0 in
    let l = ltb-false 3 lower known.0 in
    let u = ltb-false 3 upper known.1 in
    ⊎_elim
    (λ (below : (lower < 3) × (upper < 3)). rw (below_3 lower (end_of_kind lower x) (end_of_kind upper y) below.0) (record {
      lower_kind_same = kind_back lower x below.0;
      upper_kind_same = kind_back upper y below.1;
      lower_value_same = value_again lower x (omega arith);
      upper_value_same = value_again upper y (omega arith);
    }))
    (λ (three : (lower ≡ 3) × (upper ≡ 3)). rw (three.0, three.1) (periodic_told x y))
    (both_or_none lower upper (omega arith) (omega arith) two.1)

-- ---- numbers of ends that binary64 holds

end_held : (kind : ℕ) (x : Float) → T (fits binary64 x) → EndHeld (end_of_kind kind x)
unfolding end_of_kind
end_held kind x held = of_kind (eqb kind 1) (eqb kind 2)
  where
    of_kind : (first second : Bool) → EndHeld (cond first (FirstDerivative x) (cond second (SecondDerivative x) NotAKnot))
    of_kind true second = held
    of_kind false true = held
    of_kind false false = tt

both_held : (kind : ℕ) (lower upper : End) → EndHeld lower → EndHeld upper → EndsHeld (condition_of_kind kind lower upper)
unfolding condition_of_kind
both_held kind lower upper l u = of_kind (eqb kind 3)
  where
    of_kind : (third : Bool) → EndsHeld (cond third Periodic (Endpoints lower upper))
    of_kind true = tt
    of_kind false = (l, u)

-- ---- four axes

-- an axis with its mode, where it is in use
in_use_once :
    (used : Bool) (n : ℕ) (c : Condition) (mode : Mode)
    → let given : Axis = cond used (record { points = n; condition = c; mode = Extend }) unused_axis in
    cond used (cond used (record { points = given.points; condition = given.condition; mode = mode }) given) unused_axis
    ≡ cond used (record { points = n; condition = c; mode = mode }) unused_axis
in_use_once true n c mode = refl
in_use_once false n c mode = refl

-- what is told of an axis in use, and of one that is not
of_axis :
    {A : Type 0} (f : Axis → A) (used : Bool) (axis : Axis) (x : A)
    → (used ≡ true → f axis ≡ x)
    → f (cond used axis unused_axis) ≡ cond used x (f unused_axis)
of_axis f true axis x e = e refl
of_axis f false axis x e = refl

module _ (parts : Parts) where
  abbrev axes : ℕ
  axes = parts.axes

  abbrev points : List ℕ
  points = parts.points

  abbrev kinds : List ℕ
  kinds = parts.kinds

  abbrev values : List Float
  values = parts.values

  abbrev modes : List ℕ
  modes = parts.modes

  abbrev axis : ℕ → Axis
  axis i = record { points = get_or points i 0; condition = condition_given kinds values i; mode = mode_of_number (get_or modes i 0) }

  abbrev used : List Axis
  used = table most_axes (λ i. cond (ltb i axes) (axis i) unused_axis)

  pub in_use_given : in_use (grid_of parts) ≡ used
  unfolding axes_given axis_given axes_in_modes axis_in_mode
  in_use_given =
      cc (
        in_use_once (ltb 0 axes) (get_or points 0 0) (condition_given kinds values 0) (mode_of_number (get_or modes 0 0)),
        in_use_once (ltb 1 axes) (get_or points 1 0) (condition_given kinds values 1) (mode_of_number (get_or modes 1 0)),
        in_use_once (ltb 2 axes) (get_or points 2 0) (condition_given kinds values 2) (mode_of_number (get_or modes 2 0)),
        in_use_once (ltb 3 axes) (get_or points 3 0) (condition_given kinds values 3) (mode_of_number (get_or modes 3 0)),
      )

  pub points_told : points_found used ≡ table most_axes (λ i. cond (ltb i axes) (get_or points i 0) 0)
  points_told = cc (here 0, here 1, here 2, here 3)
    where
      here : (i : ℕ) → (cond (ltb i axes) (axis i) unused_axis).points ≡ cond (ltb i axes) (get_or points i 0) 0
      here i = of_axis (λ (a : Axis). a.points) (ltb i axes) (axis i) (get_or points i 0) (λ e. refl)

  -- where the numbers stand for modes and ends
  module _ (modes_stand : some_modes_refused axes modes ≡ false) where
    pub modes_told : modes_found used ≡ table most_axes (λ i. cond (ltb i axes) (get_or modes i 0) 0)
    unfolding some_modes_refused
    modes_told = cc (here 0, here 1, here 2, here 3)
      where
        here : (i : ℕ) → mode_number (cond (ltb i axes) (axis i) unused_axis).mode ≡ cond (ltb i axes) (get_or modes i 0) 0
        here i =
            of_axis (λ (a : Axis). mode_number a.mode) (ltb i axes) (axis i) (get_or modes i 0)
            (λ e. number_again (get_or modes i 0) (any_at (λ j. unknown_mode (get_or modes j 0)) axes modes_stand i (ltb-true i axes e)))

  module _ (kinds_stand : some_kinds_refused axes kinds ≡ false) where
    ends_told :
        (i : ℕ) → ltb i axes ≡ true
        → Told (lower_kind kinds i) (upper_kind kinds i) (at values (2 * i)) (at values (2 * i + 1)) (condition_given kinds values i)
    unfolding condition_given some_kinds_refused
    ends_told i e =
        told (lower_kind kinds i) (upper_kind kinds i) (at values (2 * i)) (at values (2 * i + 1))
        (any_at (λ j. kinds_refused (lower_kind kinds j) (upper_kind kinds j)) axes kinds_stand i (ltb-true i axes e))

    abbrev ends : ℕ → Condition
    ends i = (cond (ltb i axes) (axis i) unused_axis).condition

    lower_kinds : (i : ℕ) → lower_kind_of (ends i) ≡ cond (ltb i axes) (lower_kind kinds i) 0
    lower_kinds i = of_axis (λ (a : Axis). lower_kind_of a.condition) (ltb i axes) (axis i) _ (λ e. (ends_told i e).lower_kind_same)

    upper_kinds : (i : ℕ) → upper_kind_of (ends i) ≡ cond (ltb i axes) (upper_kind kinds i) 0
    upper_kinds i = of_axis (λ (a : Axis). upper_kind_of a.condition) (ltb i axes) (axis i) _ (λ e. (ends_told i e).upper_kind_same)

    pub kinds_told : kinds_found used ≡ table eight_ends (λ j. cond (ltb (j / 2) axes) (get_or kinds j 0) 0)
    kinds_told =
        cc (
          lower_kinds 0,
          upper_kinds 0,
          lower_kinds 1,
          upper_kinds 1,
          lower_kinds 2,
          upper_kinds 2,
          lower_kinds 3,
          upper_kinds 3,
        )

    lower_values : (i : ℕ) → lower_value_of (ends i) ≡ cond (ltb i axes) (value_told (lower_kind kinds i) (at values (2 * i))) plus_zero
    lower_values i = of_axis (λ (a : Axis). lower_value_of a.condition) (ltb i axes) (axis i) _ (λ e. (ends_told i e).lower_value_same)

    upper_values : (i : ℕ) → upper_value_of (ends i) ≡ cond (ltb i axes) (value_told (upper_kind kinds i) (at values (2 * i + 1))) plus_zero
    upper_values i = of_axis (λ (a : Axis). upper_value_of a.condition) (ltb i axes) (axis i) _ (λ e. (ends_told i e).upper_value_same)

    pub values_told :
        values_found used ≡ table eight_ends (λ j. cond (ltb (j / 2) axes) (value_told (get_or kinds j 0) (at values j)) plus_zero)
    values_told =
        cc (
          lower_values 0,
          upper_values 0,
          lower_values 1,
          upper_values 1,
          lower_values 2,
          upper_values 2,
          lower_values 3,
          upper_values 3,
        )

  -- what the ends have is what was given
  condition_is : axes ≤ 4 → (i : ℕ) → i < axes → condition (grid_of parts) i ≡ condition_given kinds values i
  unfolding axes_given axis_given
  condition_is few i l =
      sym ((modes_put_in (axis_given axes points kinds values) axes modes parts.knots).same_condition i)
      ∙ ap (λ (a : Axis). a.condition) (at_table 4 (axis_given axes points kinds values) i unused_axis (omega arith))
      ∙ rw (lt-ltb i axes l)

  ends_of_values : ((k : ℕ) → T (fits binary64 (at values k))) → (i : ℕ) → EndsHeld (condition_given kinds values i)
  unfolding condition_given
  ends_of_values held i =
      both_held (lower_kind kinds i) _ _ (end_held (lower_kind kinds i) (at values (2 * i)) (held (2 * i)))
      (end_held (upper_kind kinds i) (at values (2 * i + 1)) (held (2 * i + 1)))

  pub ends_held : axes ≤ 4 → ((k : ℕ) → T (fits binary64 (at values k))) → (i : ℕ) → i < axes → EndsHeld (condition (grid_of parts) i)
  ends_held few held i l = rw (condition_is few i l) (ends_of_values held i)
