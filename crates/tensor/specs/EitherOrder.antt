-- Changes in another order: four statements, each about an accepted build and what changes make of its tensor.
--
-- 1. The samples that stand in the end decide every bit of the tensor, whatever changes led to them, refused ones among them.
-- 2. Which of two changes at different places comes first is no matter, if both are accepted in both orders.
-- 3. Of two changes at one place the earlier leaves no trace, if both are accepted and so is the later without it.
-- 4. The order of any number of changes, no two at one place, is no matter, if all are accepted in both orders.
--
-- Each change has a scratch of its own, and it may be any.
-- In 2, 3 and 4 the answers are the same too: an accepted change answers no refusal, and a count of lanes that the grid alone decides.
-- A tensor after any list of changes is that of an accepted build (demand 3), so all four hold from there on as well.
use Rattle.std.specs.Prelude.{◌≡◌, ◌≢◌, List, [], ◌∷◌, ◌++◌, map, ℕ, ◌<◌, Float}
use Rattle.rules.specs.Sizes.{Grid, Place}
use Rattle.rules.specs.Calls.{BuildPromise}
use Rattle.rules.specs.Answers.{ChangeAnswer}
use Rattle.tensor.specs.Changes.{OneChange, Kept, tensor_after, samples_after}

-- ---- what the statements speak of

-- one place: the same index on each axis in use, whatever stands past them
abbrev pub SamePlace : Grid → Place → Place → Type 0
SamePlace g p q = (j : ℕ) → j < g.axes → p j ≡ q j

-- two places: another index on some axis in use
pub record DifferentPlaces (g : Grid) (p q : Place) : Type 0 where
  pub axis : ℕ
  pub in_use : axis < g.axes
  pub apart : p axis ≢ q axis

-- one change asked for twice: at one place, the same sample
pub record SameChange (g : Grid) (a b : OneChange) : Type 0 where
  pub place : SamePlace g a.place b.place
  pub sample : a.sample ≡ b.sample

-- what holds of each change of a list
abbrev pub Every : (OneChange → Type 0) → List OneChange → Type 0
Every Holds [] = Unit {0}
Every Holds (change ∷ changes) = Holds change × Every Holds changes

abbrev pub AllAccepted : List OneChange → Type 0
AllAccepted changes = Every (λ change. change.answer.refusal ≡ 0) changes

-- no two changes are at one place
abbrev pub AllDifferent : Grid → List OneChange → Type 0
AllDifferent g [] = Unit {0}
AllDifferent g (change ∷ changes) = Every (λ other. DifferentPlaces g change.place other.place) changes × AllDifferent g changes

-- the same changes in some order: the first of one list is somewhere in the other, and without it the lists have again the same changes
pub data SameChanges (g : Grid) : List OneChange → List OneChange → Type 0 where
  none : SameChanges g [] []
  one_more :
      {a a' : OneChange} {changes : List OneChange} (before behind : List OneChange)
      → SameChange g a a' → SameChanges g changes (before ++ behind) → SameChanges g (a ∷ changes) (before ++ a' ∷ behind)

-- what each change answered
abbrev pub answers : List OneChange → List ChangeAnswer
answers changes = map (λ (change : OneChange). change.answer) changes

-- ---- the statements

abbrev pub SameSamplesSameTensor : Type 0
SameSamplesSameTensor =
    (g : Grid) (samples out scratch t cleared : List Float) → BuildPromise g samples out scratch 0 t cleared
    → (changes others : List OneChange) → Kept g t changes → Kept g t others
    → samples_after g samples changes ≡ samples_after g samples others
    → tensor_after t changes ≡ tensor_after t others

-- a then b, and b' then a'
abbrev pub EitherOrder : Type 0
EitherOrder =
    (g : Grid) (samples out scratch t cleared : List Float) → BuildPromise g samples out scratch 0 t cleared
    → (a b b' a' : OneChange) → Kept g t (a ∷ b ∷ []) → Kept g t (b' ∷ a' ∷ [])
    → SameChange g a a' → SameChange g b b'
    → DifferentPlaces g a.place b.place
    → AllAccepted (a ∷ b ∷ []) → AllAccepted (b' ∷ a' ∷ [])
    → (tensor_after t (a ∷ b ∷ []) ≡ tensor_after t (b' ∷ a' ∷ [])) × (answers (a ∷ b ∷ []) ≡ answers (b' ∷ a' ∷ []))

abbrev pub LaterAlone : Type 0
LaterAlone =
    (g : Grid) (samples out scratch t cleared : List Float) → BuildPromise g samples out scratch 0 t cleared
    → (earlier later alone : OneChange) → Kept g t (earlier ∷ later ∷ []) → Kept g t (alone ∷ [])
    → SamePlace g earlier.place later.place
    → SameChange g later alone
    → AllAccepted (earlier ∷ later ∷ []) → AllAccepted (alone ∷ [])
    → (tensor_after t (earlier ∷ later ∷ []) ≡ tensor_after t (alone ∷ [])) × (later.answer ≡ alone.answer)

abbrev pub AnyOrder : Type 0
AnyOrder =
    (g : Grid) (samples out scratch t cleared : List Float) → BuildPromise g samples out scratch 0 t cleared
    → (changes others : List OneChange) → Kept g t changes → Kept g t others
    → SameChanges g changes others
    → AllDifferent g changes
    → AllAccepted changes → AllAccepted others
    → (tensor_after t changes ≡ tensor_after t others) × (answers changes ≡ answers others)
