-- The reader's promise has one answer, what it accepts has exactly the parts of the definition, and it refuses no sheet that the definition
-- accepts.
use mathlib.Core.Path.{◌≡◌, sym, ap, ◌∙◌}
use mathlib.Core.List.{List}
use Prim.Native.Nat.{ℕ}
use lib.ListN.{length}
use lib.Ieee.{Float}
use Rattle.sheet_read.specs.Fields.{edition, axes, entries, knots_below, sheet_samples}
use Rattle.sheet_read.specs.Faults.{sheet_refusal}
use Rattle.sheet_read.specs.Read.{over, read_refusal, ReadPromise, ReadAnswer}
use Rattle.sheet_read.proofs.Promises.{answer_refusal, refusal_is, lengths_passed}

pub read_unique :
    (bytes : List ℕ) (knots samples : List Float) (a a' : ReadAnswer) (k k' s s' : List Float)
    → ReadPromise bytes knots samples a k s
    → ReadPromise bytes knots samples a' k' s'
    → (a ≡ a') × (k ≡ k') × (s ≡ s')
read_unique bytes knots samples a a' k k' s s' p q =
    (p.answer ∙ sym q.answer, p.knots ∙ sym q.knots, p.samples ∙ sym q.samples)

-- what it accepts: the definition accepts it, and the answer and both buffers have its parts
pub read_accepts :
    (bytes : List ℕ) (knots samples : List Float) (a : ReadAnswer) (k s : List Float)
    → ReadPromise bytes knots samples a k s
    → a.refusal ≡ 0
    → (sheet_refusal bytes ≡ 0)
    × (a ≡ record { refusal = 0; edition = edition bytes; axes = axes bytes; all = entries bytes (axes bytes) })
    × (k ≡ over (knots_below bytes (axes bytes)) knots)
    × (s ≡ over (sheet_samples bytes) samples)
read_accepts bytes knots samples a k s p none =
    let z : read_refusal bytes knots samples ≡ 0 =
    sym (sym none ∙ ap (λ (r : ReadAnswer). r.refusal) p.answer ∙ answer_refusal _ _ _ _) in
    (lengths_passed bytes knots samples z, rw z at p.answer, rw z at p.knots, rw z at p.samples)

-- what the definition accepts is not refused, where both buffers have their length
pub read_refuses_no_sheet :
    (bytes : List ℕ) (knots samples : List Float) (a : ReadAnswer) (k s : List Float)
    → ReadPromise bytes knots samples a k s
    → length knots ≡ 1024
    → length samples ≡ 1024
    → sheet_refusal bytes ≡ 0
    → a.refusal ≡ 0
read_refuses_no_sheet bytes knots samples a k s p e f z =
    ap (λ (r : ReadAnswer). r.refusal) p.answer ∙ answer_refusal _ _ _ _ ∙ refusal_is bytes knots samples e f ∙ z
