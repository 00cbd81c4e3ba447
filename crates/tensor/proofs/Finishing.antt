-- What came out is refused, or stored; in both cases the scratch is cleared.
use mathlib.Core.Path.{◌≡◌, refl, sym, ap, ◌∙◌}
use mathlib.Core.Bool.{Bool, true, false}
use mathlib.Core.List.{List}
use Prim.Native.Nat.{ℕ}
use lib.ListN.{length, take, drop}
use lib.Ieee.{Float}
use Rattle.rules.specs.Numbers.{zeros}
use Rattle.rules.specs.Refusals.{outcome_refused}
use Rattle.tensor.specs.Working.{outcome_in, Finished}

module _ (tensor w w' : List Float) (n : ℕ) (bad : Bool) (n_is : n ≡ length tensor) (looked : bad ≡ outcome_refused (take n (drop 2048 w)))
    (cleared : w' ≡ zeros (length w)) where
  looked_at : bad ≡ outcome_refused (outcome_in w tensor)
  looked_at = looked ∙ ap (λ (k : ℕ). outcome_refused (take k (drop 2048 w))) n_is

  pub finished_10 : bad ≡ true → Finished tensor w 10 tensor w'
  finished_10 e = record { answer = rw (sym looked_at ∙ e); output = refl; cleared = cleared }

  pub finished_0 : (tensor' : List Float) → bad ≡ false → tensor' ≡ take n (drop 2048 w) → Finished tensor w 0 tensor' w'
  finished_0 tensor' e stored = record {
    answer = rw (sym looked_at ∙ e);
    output = stored ∙ ap (λ (k : ℕ). take k (drop 2048 w)) n_is;
    cleared = cleared;
  }
