-- The writer's promise has one answer, and it takes what has a sheet and room for it.
use mathlib.Core.Path.{◌≡◌, sym, ap, ◌∙◌}
use mathlib.Core.List.{List}
use Prim.Native.Nat.{ℕ, ◌≤◌}
use borrow.Author.Tests.{le-ltb}
use lib.ListN.{length}
use lib.Ieee.{Float}
use Rattle.rules.specs.Sizes.{Grid}
use Rattle.rules.proofs.Refused.{or_else_passed}
use Rattle.sheet_read.specs.Read.{over}
use Rattle.sheet_write.specs.SheetOf.{sheet_of}
use Rattle.sheet_write.specs.Write.{no_sheet_refusal, edition_refusal, write_refusal, write_answer, WritePromise, WriteAnswer}

pub write_unique :
    (edition : ℕ) (g : Grid) (samples : List Float) (buffer : List ℕ) (a a' : WriteAnswer) (b b' : List ℕ)
    → WritePromise edition g samples buffer a b
    → WritePromise edition g samples buffer a' b'
    → (a ≡ a') × (b ≡ b')
write_unique edition g samples buffer a a' b b' p q = (p.answer ∙ sym q.answer, p.output ∙ sym q.output)

parts_passed : (edition : ℕ) (g : Grid) (samples : List Float) (buffer : List ℕ) → write_refusal edition g samples buffer ≡ 0
    → (no_sheet_refusal g samples ≡ 0) × (edition_refusal edition g ≡ 0)
unfolding write_refusal
parts_passed edition g samples buffer z =
    let parts = or_else_passed (no_sheet_refusal g samples) _ z in
    (parts.0, (or_else_passed (edition_refusal edition g) _ parts.1).0)

-- what it takes: the parts have a sheet in that edition, which stands at the front of the buffer, and the answer says how long it is
pub write_accepts :
    (edition : ℕ) (g : Grid) (samples : List Float) (buffer : List ℕ) (a : WriteAnswer) (b : List ℕ)
    → WritePromise edition g samples buffer a b
    → a.refusal ≡ 0
    → ((no_sheet_refusal g samples ≡ 0) × (edition_refusal edition g ≡ 0))
    × (a.length ≡ length (sheet_of edition g samples))
    × (b ≡ over (sheet_of edition g samples) buffer)
unfolding write_answer
write_accepts edition g samples buffer a b p none =
    let z : write_refusal edition g samples buffer ≡ 0 = sym (ap (λ (r : WriteAnswer). r.refusal) p.answer) ∙ none in
    (parts_passed edition g samples buffer z, ap (λ (r : WriteAnswer). r.length) p.answer ∙ rw z, rw z at p.output)

-- what has a sheet in that edition is not refused, where the buffer is long enough
pub write_refuses_no_sheet :
    (edition : ℕ) (g : Grid) (samples : List Float) (buffer : List ℕ) (a : WriteAnswer) (b : List ℕ)
    → WritePromise edition g samples buffer a b
    → no_sheet_refusal g samples ≡ 0
    → edition_refusal edition g ≡ 0
    → length (sheet_of edition g samples) ≤ length buffer
    → a.refusal ≡ 0
unfolding write_answer write_refusal
write_refuses_no_sheet edition g samples buffer a b p none told room =
    ap (λ (r : WriteAnswer). r.refusal) p.answer ∙ rw (none, told, le-ltb (length buffer) (length (sheet_of edition g samples)) room)
