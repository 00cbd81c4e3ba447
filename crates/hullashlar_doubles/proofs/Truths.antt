-- A truth as a number: 1 where the test that was made holds, 0 where it fails.
use mathlib.Core.Path.{◌≡◌, sym, ap, ◌∙◌}
use mathlib.Core.Bool.{Bool, true, false}
use Prim.Native.Nat.{ℕ}
use Rattle.hullashlar_doubles.specs.DoublesExports.{truth}

pub as_one : (x y : Bool) → x ≡ y → x ≡ true → ◌≡◌ {A = ℕ} 1 (truth y)
as_one x y e h = sym (ap (λ (b : Bool). truth b) (sym e ∙ h))

pub as_none : (x y : Bool) → x ≡ y → x ≡ false → ◌≡◌ {A = ℕ} 0 (truth y)
as_none x y e h = sym (ap (λ (b : Bool). truth b) (sym e ∙ h))
