-- The promise has one answer: whatever satisfies it, for the same sheet and the same lent slices, is equal in its answer and in all that
-- was lent.
use mathlib.Core.Path.{◌≡◌, sym, ◌∙◌}
use mathlib.Core.List.{List}
use Prim.Native.Nat.{ℕ}
use lib.Ieee.{Float}
use Rattle.program_sheet_text.specs.SheetText.{TextPromise, TextAnswer}

pub text_unique :
    (bytes : List ℕ) (knots samples tensor scratch : List Float) (text : List ℕ) (a a' : TextAnswer) (k k' s s' t t' w w' : List Float)
    (x x' : List ℕ)
    → TextPromise bytes knots samples tensor scratch text a k s t w x
    → TextPromise bytes knots samples tensor scratch text a' k' s' t' w' x'
    → (a ≡ a') × (k ≡ k') × (s ≡ s') × (t ≡ t') × (w ≡ w') × (x ≡ x')
text_unique bytes knots samples tensor scratch text a a' k k' s s' t t' w w' x x' p q = (
  p.answer ∙ sym q.answer,
  p.knots ∙ sym q.knots,
  p.samples ∙ sym q.samples,
  p.output ∙ sym q.output,
  p.scratch ∙ sym q.scratch,
  p.text ∙ sym q.text,
)
