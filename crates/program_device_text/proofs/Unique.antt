-- The promise has one answer: whatever satisfies it, for the same curve and the same lent text, is equal in its answer and in the text.
use mathlib.Core.Path.{◌≡◌, sym, ◌∙◌}
use mathlib.Core.List.{List}
use Prim.Native.Nat.{ℕ}
use Rattle.program_device_text.specs.DeviceText.{CurveTextAnswer, DeviceTextPromise}

pub text_unique : (curve text : List ℕ) (a a' : CurveTextAnswer) (x x' : List ℕ) → DeviceTextPromise curve text a x
    → DeviceTextPromise curve text a' x'
    → (a ≡ a') × (x ≡ x')
text_unique curve text a a' x x' p q = (p.answer ∙ sym q.answer, p.text ∙ sym q.text)
