-- Every refusal before the build is of the class Reading. So none has the number 10, which the build gives for an outcome alone.
use mathlib.Core.Path.{◌≡◌, refl, sym, ap, ◌∙◌}
use mathlib.Core.List.{List}
use Prim.Native.Nat.{ℕ}
use lib.ListN.{length}
use lib.Ieee.{Float}
use Rattle.rules.specs.Refusals.{length_refused}
use Rattle.grid_codes.specs.Classes.{class}
use Rattle.grid_codes.specs.declared.classes.Class.TheVariants.{Reading}
use Rattle.grid_codes.proofs.Apart.{reading_not_building}
use Rattle.grid_codes.proofs.Tested.{tested}
use Rattle.grid_codes.proofs.Classed.{Of}
use Rattle.sheet_read.specs.Read.{buffers_refused, read_refusal}
use Rattle.sheet_read.proofs.Numbers.{sheet_of_reading}
use Rattle.sheet_build.specs.SheetTensor.{reading_refusal}

read_of_reading : (bytes : List ℕ) (knots samples : List Float) → Of Reading (read_refusal bytes knots samples)
unfolding read_refusal class
read_of_reading bytes knots samples =
    tested (Of Reading) (buffers_refused knots samples) (λ met. refl) (sheet_of_reading bytes)

pub reading_of_reading : (bytes : List ℕ) (knots samples lent scratch : List Float)
    → Of Reading (reading_refusal bytes knots samples lent scratch)
unfolding reading_refusal class
reading_of_reading bytes knots samples lent scratch =
    tested (Of Reading) (length_refused (length lent) 4096) (λ met. refl) (read_of_reading bytes knots samples)

pub not_ten : (fault : ℕ) → Of Reading fault → (fault ≡ 0 → ⊥) → fault ≡ 10 → ⊥
unfolding class
not_ten fault of_reading met e = reading_not_building (sym (of_reading met) ∙ ap class e)
