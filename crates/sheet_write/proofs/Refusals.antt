-- Every refusal of the writer has its class in the table of refusals: none is Unknown.
use mathlib.Core.Path.{◌≡◌, ap}
use mathlib.Core.Bool.{Bool, true, false, cond, ◌||◌}
use mathlib.Core.List.{List}
use Prim.Native.Nat.{ℕ, zero, suc, ◌<◌}
use native.Mathlib.Omega.{arith}
use lib.Dec.{ltb, lit<}
use lib.ListN.{length}
use lib.Ieee.{Float}
use Rattle.rules.specs.Sizes.{Grid, knots_length, samples_length}
use Rattle.rules.specs.Refusals.{
  axes_refused,
  some_points_refused,
  tensor_refused,
  length_refused,
  some_number_refused,
  some_ends_refused,
  some_knots_refused,
  some_fewness_refused,
}
use Rattle.rules.specs.Calls.{or_else}
use Rattle.grid_codes.specs.Classes.{class}
use Rattle.grid_codes.specs.Editions.{unknown_edition}
use Rattle.grid_codes.specs.declared.classes.Class.TheVariants.{Unknown}
use Rattle.grid_codes.proofs.Apart.{place}
use Rattle.sheet_write.specs.SheetOf.{sheet_of}
use Rattle.sheet_write.specs.Write.{no_sheet_refusal, some_mode_refused, edition_refusal, write_refusal}

-- a number whose class is one of those before Unknown
record Told (number : ℕ) : Type 0 where
  few : place (class number) < 4

none : Told 0
unfolding class
none = record { few = lit< tt }

tested : (test : Bool) {number later : ℕ} → Told number → Told later → Told (cond test number later)
tested true n l = n
tested false n l = l

one_or_other : (first : ℕ) {later : ℕ} → Told first → Told later → Told (or_else first later)
one_or_other zero f l = l
one_or_other (suc first) f l = f

of_parts : (g : Grid) (samples : List Float) → Told (no_sheet_refusal g samples)
unfolding no_sheet_refusal class
of_parts g samples =
    tested (axes_refused g) (record { few = lit< tt })
    (tested (some_points_refused g) (record { few = lit< tt })
    (tested (tensor_refused g) (record { few = lit< tt })
    (tested (length_refused (length g.flat_knots) (knots_length g) || length_refused (length samples) (samples_length g))
    (record { few = lit< tt })
    (tested (some_number_refused g.flat_knots || some_ends_refused g || some_number_refused samples) (record { few = lit< tt })
    (tested (some_knots_refused g) (record { few = lit< tt })
    (tested (some_fewness_refused g) (record { few = lit< tt }) none))))))

of_edition : (edition : ℕ) (g : Grid) → Told (edition_refusal edition g)
unfolding edition_refusal class
of_edition edition g =
    tested (unknown_edition edition) (record { few = lit< tt }) (tested (some_mode_refused edition g) (record { few = lit< tt }) none)

of_buffer : (edition : ℕ) (g : Grid) (samples : List Float) (buffer : List ℕ)
    → Told (cond (ltb (length buffer) (length (sheet_of edition g samples))) 15 0)
unfolding class
of_buffer edition g samples buffer = tested (ltb (length buffer) (length (sheet_of edition g samples))) (record { few = lit< tt }) none

told : (edition : ℕ) (g : Grid) (samples : List Float) (buffer : List ℕ) → Told (write_refusal edition g samples buffer)
unfolding write_refusal
told edition g samples buffer =
    one_or_other (no_sheet_refusal g samples) (of_parts g samples)
    (one_or_other (edition_refusal edition g) (of_edition edition g) (of_buffer edition g samples buffer))

pub write_refusal_known : (edition : ℕ) (g : Grid) (samples : List Float) (buffer : List ℕ)
    → class (write_refusal edition g samples buffer) ≡ Unknown → ⊥
write_refusal_known edition g samples buffer e = let places = ap place e in let few = (told edition g samples buffer).few in omega arith
