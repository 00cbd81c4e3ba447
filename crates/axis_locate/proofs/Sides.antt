-- What two tests say of the side of a point, and what a mode makes of it.
use mathlib.Core.Path.{◌≡◌, refl, ap, ◌∙◌}
use mathlib.Core.Bool.{Bool, true, false}
use mathlib.Core.List.{List}
use Prim.Native.Nat.{◌-◌}
use lib.ListN.{length}
use lib.Ieee.{Float, lt}
use Rattle.rules.specs.Numbers.{at}
use Rattle.rules.specs.Outside.{side, nearest, outside}
use Rattle.rules.specs.declared.Mode.{Mode}
use Rattle.rules.specs.declared.Mode.TheVariants.{Extend, Hold, Refuse}
use Rattle.rules.specs.declared.Side.{Side}
use Rattle.rules.specs.declared.Side.TheVariants.{Below, Inside, Above}
use Rattle.axis_locate.specs.CellFound.{Placed}

module _ (x : List Float) (p : Float) where
  pub side_below : lt p (at x 0) ≡ true → Below ≡ side x p
  unfolding side
  side_below e = rw e refl

  module _ (not_below : lt p (at x 0) ≡ false) where
    pub side_above : lt (at x (length x - 1)) p ≡ true → Above ≡ side x p
    unfolding side
    side_above e = rw (not_below, e) refl

    pub side_inside : lt (at x (length x - 1)) p ≡ false → Inside ≡ side x p
    unfolding side
    side_inside e = rw (not_below, e) refl

  pub nearest_below : {s : Side} → s ≡ Below → at x 0 ≡ nearest s x p
  nearest_below e = rw e refl

  pub nearest_above : {s : Side} → s ≡ Above → at x (length x - 1) ≡ nearest s x p
  nearest_above e = rw e refl

  module _ (mode : Mode) where
    pub placed_extend : mode ≡ Extend → Placed mode x p (record { coordinate = p; refused = false })
    placed_extend e = rw e (record { coordinate = refl; refused = refl })

    module _ (s : Side) (is : s ≡ side x p) where
      pub placed_hold : mode ≡ Hold → (v : Float) → v ≡ nearest s x p → Placed mode x p (record { coordinate = v; refused = false })
      placed_hold e v n = rw e (record { coordinate = n ∙ ap (λ (t : Side). nearest t x p) is; refused = refl })

      pub placed_refuse : mode ≡ Refuse → (b : Bool) → b ≡ outside s → Placed mode x p (record { coordinate = p; refused = b })
      placed_refuse e b o = rw e (record { coordinate = refl; refused = o ∙ ap outside is })
