-- Changes in another order, from the promises of `build` and `change` and demand 3's laws alone. The statements stand in specs.
use mathlib.Core.Path.{◌≡◌, refl, sym, ap, ap₂, ◌∙◌}
use mathlib.Core.Logic.{◌≢◌}
use mathlib.Core.List.{List, [], ◌∷◌, ◌++◌}
use Prim.Native.Nat.{ℕ}
use native.Mathlib.Omega.{arith}
use lib.ListN.{length, set, replicate, length-append}
use lib.Seq.{set-set, set_comm}
use lib.Ieee.{Float}
use Rattle.rules.specs.Sizes.{Grid, points, flat}
use Rattle.rules.specs.Tensor.{tensor}
use Rattle.rules.specs.Change.{lane_sum}
use Rattle.rules.specs.Answers.{ChangeAnswer}
use Rattle.rules.proofs.Places.{OnGrid, flat_ext, flat_one}
use Rattle.tensor.specs.Changes.{OneChange, Kept, standing, samples_after}
use Rattle.tensor.specs.EitherOrder.{
  SamePlace,
  DifferentPlaces,
  SameChange,
  Every,
  AllAccepted,
  AllDifferent,
  SameChanges,
  none,
  one_more,
  answers,
  SameSamplesSameTensor,
  EitherOrder,
  LaterAlone,
  AnyOrder,
}
use Rattle.tensor.proofs.Demand3.{change_accepted, refusal_is, built_stands, changes_stand, counts_its_lanes}

-- ---- the same samples

pub same_samples_same_tensor : SameSamplesSameTensor
same_samples_same_tensor g samples out scratch t cleared built changes others promised promised' same =
    let stands = built_stands g samples out scratch t cleared built in
    (changes_stand g samples t stands changes promised).is
    ∙ ap (tensor g) same
    ∙ sym (changes_stand g samples t stands others promised').is

-- ---- what an accepted change answers, and where it is

-- at a place of the grid, as every accepted change is
abbrev OnTheGrid : Grid → OneChange → Type 0
OnTheGrid g change = OnGrid (points g) g.axes change.place

all_on_the_grid : (g : Grid) (t : List Float) (changes : List OneChange) → Kept g t changes → AllAccepted changes
    → Every (OnTheGrid g) changes
all_on_the_grid g t [] promised accepted = tt
all_on_the_grid g t (change ∷ changes) promised accepted = (
  (change_accepted g t change.scratch change.place change.sample
      (sym (refusal_is g t change (promised.0, tt)) ∙ accepted.0)).on_the_grid,
  all_on_the_grid g change.tensor_later changes promised.1 accepted.1,
)

-- no refusal, and the lanes of the grid
abbrev accepted_answer : Grid → ChangeAnswer
accepted_answer g = record { refusal = 0; lanes = lane_sum (points g) g.axes }

answer_is : (g : Grid) (t : List Float) (change : OneChange) → Kept g t (change ∷ []) → change.answer.refusal ≡ 0
    → change.answer ≡ accepted_answer g
answer_is g t change promised accepted = λ i. record { refusal = accepted i; lanes = (counts_its_lanes g t change promised accepted).1 i }

answers_are : (g : Grid) (t : List Float) (changes : List OneChange) → Kept g t changes → AllAccepted changes
    → answers changes ≡ replicate (length changes) (accepted_answer g)
answers_are g t [] promised accepted = refl
answers_are g t (change ∷ changes) promised accepted =
    ap₂ (λ (a : ChangeAnswer) (rest : List ChangeAnswer). a ∷ rest)
    (answer_is g t change (promised.0, tt) accepted.0) (answers_are g change.tensor_later changes promised.1 accepted.1)

-- ---- the samples that accepted changes leave

-- the number of a change's place
number : Grid → OneChange → ℕ
number g change = flat (points g) g.axes change.place

-- the samples of a list of changes, stored one after the other
abbrev all_stored : Grid → List Float → List OneChange → List Float
all_stored g samples [] = samples
all_stored g samples (change ∷ changes) = all_stored g (set samples (number g change) change.sample) changes

accepted_are_stored : (g : Grid) (samples : List Float) (changes : List OneChange) → AllAccepted changes
    → samples_after g samples changes ≡ all_stored g samples changes
unfolding number
accepted_are_stored g samples [] accepted = refl
accepted_are_stored g samples (change ∷ changes) accepted =
    ap (λ (r : ℕ). samples_after g (standing g r samples change.place change.sample) changes) accepted.0
    ∙ accepted_are_stored g (set samples (number g change) change.sample) changes accepted.1

same_number : (g : Grid) (a b : OneChange) → SamePlace g a.place b.place → number g a ≡ number g b
unfolding number
same_number g a b same = flat_ext (points g) g.axes a.place b.place same

different_numbers : (g : Grid) (a b : OneChange) → OnTheGrid g a → OnTheGrid g b → DifferentPlaces g a.place b.place
    → number g a ≢ number g b
unfolding number
different_numbers g a b on_a on_b different e =
    different.apart (flat_one (points g) g.axes a.place b.place on_a on_b e different.axis different.in_use)

-- ---- what holds of every change of a list

module _ (Holds : OneChange → Type 0) where
  every_before : (before behind : List OneChange) → Every Holds (before ++ behind) → Every Holds before
  every_before [] behind every = tt
  every_before (b ∷ before) behind every = (every.0, every_before before behind every.1)

  every_with : (before behind : List OneChange) (a : OneChange) → Holds a → Every Holds (before ++ behind)
      → Every Holds (before ++ a ∷ behind)
  every_with [] behind a holds every = (holds, every)
  every_with (b ∷ before) behind a holds every = (every.0, every_with before behind a holds every.1)

  -- what does not tell the same change apart holds of the same changes in every order
  every_same : (g : Grid) → ((a b : OneChange) → SameChange g a b → Holds a → Holds b) → (changes others : List OneChange)
      → SameChanges g changes others
      → Every Holds changes → Every Holds others
  every_same g carries [] [] none every = tt
  every_same g carries [] (_ ∷ _) same every = elim same [ ]
  every_same g carries (a ∷ changes) others (one_more {a'} before behind same rest) every =
      every_with before behind a' (carries a a' same every.0) (every_same g carries changes (before ++ behind) rest every.1)

-- ---- the same changes in another order store the same samples

-- a sample stored after others, none of them at its place, may be stored first
stored_first :
    (g : Grid) (samples : List Float) (before behind : List OneChange) (a : OneChange) → Every (λ b. number g a ≢ number g b) before
    → all_stored g samples (before ++ a ∷ behind) ≡ all_stored g samples (a ∷ before ++ behind)
stored_first g samples [] behind a apart = refl
stored_first g samples (b ∷ before) behind a apart =
    stored_first g (set samples (number g b) b.sample) before behind a apart.1
    ∙ ap (λ (l : List Float). all_stored g l (before ++ behind))
    (set_comm samples (number g b) (number g a) b.sample a.sample (λ e. apart.0 (sym e)))

-- no two changes have one number
abbrev DifferentNumbers : Grid → List OneChange → Type 0
DifferentNumbers g [] = Unit {0}
DifferentNumbers g (a ∷ changes) = Every (λ b. number g a ≢ number g b) changes × DifferentNumbers g changes

different_places_numbers : (g : Grid) (changes : List OneChange) → Every (OnTheGrid g) changes → AllDifferent g changes
    → DifferentNumbers g changes
different_places_numbers g [] on different = tt
different_places_numbers g (a ∷ changes) on different =
    (go changes on.1 different.0, different_places_numbers g changes on.1 different.1)
  where
    go : (rest : List OneChange) → Every (OnTheGrid g) rest → Every (λ b. DifferentPlaces g a.place b.place) rest
        → Every (λ b. number g a ≢ number g b) rest
    go [] on_rest apart = tt
    go (b ∷ rest) on_rest apart = (different_numbers g a b on.0 on_rest.0 apart.0, go rest on_rest.1 apart.1)

same_samples_stored :
    (g : Grid) (samples : List Float) (changes others : List OneChange) → SameChanges g changes others → DifferentNumbers g changes
    → all_stored g samples changes ≡ all_stored g samples others
same_samples_stored g samples [] [] none different = refl
same_samples_stored g samples [] (_ ∷ _) same different = elim same [ ]
same_samples_stored g samples (a ∷ changes) others (one_more {a'} before behind same rest) different =
    same_samples_stored g (set samples (number g a) a.sample) changes (before ++ behind) rest different.1
    ∙ ap₂ (λ (k : ℕ) (v : Float). all_stored g (set samples k v) (before ++ behind)) here same.sample
    ∙ sym (stored_first g samples before behind a' (every_before (λ b. number g a' ≢ number g b) before behind apart))
  where
    here : number g a ≡ number g a'
    here = same_number g a a' same.place

    apart : Every (λ b. number g a' ≢ number g b) (before ++ behind)
    apart =
        rw (← here)
        (every_same (λ b. number g a ≢ number g b) g (λ b b' again ne e. ne (e ∙ sym (same_number g b b' again.place))) changes
        (before ++ behind) rest different.0)

same_length : (g : Grid) (changes others : List OneChange) → SameChanges g changes others → length changes ≡ length others
same_length g [] [] none = refl
same_length g [] (_ ∷ _) same = elim same [ ]
same_length g (a ∷ changes) others (one_more {a'} before behind same rest) =
    let e = same_length g changes (before ++ behind) rest in
    omega (arith, simp length-append at e, length-append before (a' ∷ behind))

-- ---- the proofs

pub any_order : AnyOrder
any_order g samples out scratch t cleared built changes others promised promised' same different accepted accepted' = (
  same_samples_same_tensor g samples out scratch t cleared built changes others promised promised'
      (accepted_are_stored g samples changes accepted
      ∙ same_samples_stored g samples changes others same
      (different_places_numbers g changes (all_on_the_grid g t changes promised accepted) different)
      ∙ sym (accepted_are_stored g samples others accepted')),
  answers_are g t changes promised accepted
      ∙ ap (λ (n : ℕ). replicate n (accepted_answer g)) (same_length g changes others same)
      ∙ sym (answers_are g t others promised' accepted'),
)

pub either_order : EitherOrder
either_order g samples out scratch t cleared built a b b' a' promised promised' same_a same_b different accepted accepted' =
    any_order g samples out scratch t cleared built (a ∷ b ∷ []) (b' ∷ a' ∷ []) promised promised'
    (one_more (b' ∷ []) [] same_a (one_more [] [] same_b none)) ((different, tt), (tt, tt)) accepted accepted'

pub later_alone : LaterAlone
later_alone g samples out scratch t cleared built earlier later alone promised promised' one_place same accepted accepted' =
    let sample_is : later.sample ≡ alone.sample = same.sample in
    let number_is : number g later ≡ number g alone = same_number g later alone same.place in (
      same_samples_same_tensor g samples out scratch t cleared built (earlier ∷ later ∷ []) (alone ∷ []) promised promised'
          (accepted_are_stored g samples (earlier ∷ later ∷ []) accepted
          ∙ ap (λ (k : ℕ). set (set samples k earlier.sample) (number g later) later.sample) (same_number g earlier later one_place)
          ∙ set-set samples (number g later) earlier.sample later.sample
          ∙ ap₂ (set samples) number_is sample_is
          ∙ sym (accepted_are_stored g samples (alone ∷ []) accepted')),
      answer_is g earlier.tensor_later later (promised.1.0, tt) accepted.1.0
          ∙ sym (answer_is g t alone (promised'.0, tt) accepted'.0),
    )
