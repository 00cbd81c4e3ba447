-- Demand 3, README's third promise, from the promises of `build` and `change` and the theorems of rules alone: first the four statements,
-- then their proofs.
use native.Mathlib.Omega.{arith}
use mathlib.Core.Path.{◌≡◌, refl, sym, ap, ap₂, ◌∙◌, subst}
use mathlib.Core.Logic.{◌≢◌}
use mathlib.Core.Bool.{Bool, true, false, not, cond, ◌||◌}
use mathlib.Core.List.{List, [], ◌∷◌}
use Prim.Native.Nat.{ℕ, zero, suc, ◌<◌, ◌≤◌}
use native.Mathlib.Nat.{le_refl}
use lib.Dec.{ltb, leb, eqb}
use lib.ListN.{length, set, length-set}
use lib.Seq.{get_or-set_same, get_or-set_other}
use lib.Ieee.{Float, nan}
use borrow.Author.Tests.{eq-eqb, eqb-true, eqb-false, leb-false, le-ltb}
use Rattle.rules.specs.Numbers.{at, any}
use Rattle.rules.specs.Sizes.{Grid, points, knots_length, samples_length, masks, tensor_length, scratch_length, Place, flat, spot, in_mask}
use Rattle.rules.specs.Refusals.{
  axes_refused,
  some_points_refused,
  tensor_refused,
  length_refused,
  place_refused,
  number_refused,
  some_number_refused,
  some_ends_refused,
  some_knots_refused,
  some_fewness_refused,
  outcome_refused,
}
use Rattle.rules.specs.Tensor.{sample, tensor}
use Rattle.rules.specs.Change.{agree, changed_tensor, change_lanes, lane_sum}
use Rattle.rules.specs.Calls.{stored, counted, build_refusal, BuildPromise, change_refusal, change_answer}
use Rattle.rules.specs.Answers.{ChangeAnswer}
use Rattle.rules.proofs.Cases.{not_both, passed, neither_of}
use Rattle.rules.proofs.Places.{OnGrid, flat_below}
use Rattle.rules.proofs.Tables.{length_table}
use Rattle.rules.proofs.ChangeIsBuild.{kept, built_entry, set_is_with_sample, change_is_build}
use Rattle.rules.proofs.LaneCount.{lane_count}
use Rattle.rules.proofs.Refused.{any_ext}
use Rattle.base_numbers.proofs.Scan.{neither, any_found, any_at}
use Rattle.tensor_starts.proofs.Agreement.{agree_at}
use Rattle.grid_checks.proofs.Rows.{exact, length_fits}
use Rattle.tensor.specs.Changes.{OneChange, Kept, tensor_after, standing, samples_after}

-- ---- what the statements speak of

-- the right length, and the stated room
abbrev pub Fitting : Grid → List Float → List Float → Type 0
Fitting g t scratch = (length t ≡ tensor_length g) × (scratch_length g ≤ length scratch)

-- ---- the statements, each of a tensor t that was made of samples, and any list of changes, refused ones among them

-- 1: a fresh build from the samples that then stand is not refused, and gives the bits that the tensor has
abbrev pub BitsOfFreshBuild : Grid → List Float → List Float → Type 0
BitsOfFreshBuild g samples t =
    (changes : List OneChange) → Kept g t changes
    → (out' scratch' fresh cleared' : List Float) (refusal : ℕ) → Fitting g out' scratch'
    → BuildPromise g (samples_after g samples changes) out' scratch' refusal fresh cleared'
    → (refusal ≡ 0) × (fresh ≡ tensor_after t changes)

-- 2: one more change, with the stated room, is refused by 6 where its place is off the grid, and else just as a fresh build from the
-- samples with the new one is
abbrev pub RefusalOfFreshBuild : Grid → List Float → List Float → Type 0
RefusalOfFreshBuild g samples t =
    (changes : List OneChange) → Kept g t changes
    → (change : OneChange) → scratch_length g ≤ length change.scratch → Kept g (tensor_after t changes) (change ∷ [])
    → (out' scratch' fresh cleared' : List Float) (refusal : ℕ) → Fitting g out' scratch'
    → BuildPromise g (set (samples_after g samples changes) (flat (points g) g.axes change.place) change.sample) out' scratch'
    refusal
    fresh cleared'
    → change.answer.refusal ≡ cond (place_refused g change.place) 6 refusal

-- 3: one more change leaves the number at a place and a mask where, on some axis outside the mask, the place has another index than the
-- changed one
abbrev pub BitsKeptElsewhere : Grid → List Float → Type 0
BitsKeptElsewhere g t =
    (changes : List OneChange) → Kept g t changes
    → (change : OneChange) → Kept g (tensor_after t changes) (change ∷ [])
    → (p : Place) (mask j : ℕ) → OnGrid (points g) g.axes p → mask < masks g
    → j < g.axes → in_mask mask j ≡ false → p j ≢ change.place j
    → at change.tensor_later (spot g p mask) ≡ at (tensor_after t changes) (spot g p mask)

-- 4: on any tensor the count that an accepted change answers is the length of its list of lanes, and the closed sum
abbrev pub CountsItsLanes : Type 0
CountsItsLanes =
    (g : Grid) (t : List Float) (change : OneChange) → Kept g t (change ∷ []) → change.answer.refusal ≡ 0
    → (change.answer.lanes ≡ length (change_lanes g change.place)) × (change.answer.lanes ≡ lane_sum (points g) g.axes)

-- each of a tensor that an accepted build made
abbrev pub HasBitsOfFreshBuild : Type 0
HasBitsOfFreshBuild =
    (g : Grid) (samples out scratch t cleared : List Float) → BuildPromise g samples out scratch 0 t cleared → BitsOfFreshBuild g samples t

abbrev pub RefusedAsFreshBuild : Type 0
RefusedAsFreshBuild =
    (g : Grid) (samples out scratch t cleared : List Float) → BuildPromise g samples out scratch 0 t cleared
    → RefusalOfFreshBuild g samples t

abbrev pub KeepsBitsElsewhere : Type 0
KeepsBitsElsewhere =
    (g : Grid) (samples out scratch t cleared : List Float) → BuildPromise g samples out scratch 0 t cleared → BitsKeptElsewhere g t

-- ---- rows of refusals

past : (b : Bool) (number : ℕ) {later answer : ℕ} → b ≡ false → later ≡ answer → cond b number later ≡ answer
past true number e below = not_both true refl e
past false number e below = below

none_of_three : (a b c : Bool) → a ≡ false → b ≡ false → c ≡ false → (a || b || c) ≡ false
none_of_three a b c e f h = rw (e, f, h)

third_alone : (a b c : Bool) → a ≡ false → b ≡ false → (a || b || c) ≡ c
third_alone a b c e f = rw (e, f)

-- ---- samples that a build accepts, given the right lengths and the stated room: said by the rules' refusals, the outcome's among them,
-- and not by a check, which knows no outcome

pub record Sound (g : Grid) (samples : List Float) : Type 0 where
  pub axes_fine : axes_refused g ≡ false
  pub points_fine : some_points_refused g ≡ false
  pub tensor_fine : tensor_refused g ≡ false
  pub knots_exact : length g.flat_knots ≡ knots_length g
  pub samples_exact : length samples ≡ samples_length g
  pub knots_finite : some_number_refused g.flat_knots ≡ false
  pub ends_finite : some_ends_refused g ≡ false
  pub samples_finite : some_number_refused samples ≡ false
  pub knots_rise : some_knots_refused g ≡ false
  pub enough_points : some_fewness_refused g ≡ false
  pub outcome_finite : outcome_refused (tensor g samples) ≡ false

accepted_is_sound : (g : Grid) (samples out scratch : List Float) → build_refusal g samples out scratch ≡ 0 → Sound g samples
unfolding build_refusal
accepted_is_sound g samples out scratch e =
    let r1 = passed (axes_refused g) 0 _ e in
    let r2 = passed (some_points_refused g) 1 _ r1.1 in
    let r3 = passed (tensor_refused g) 2 _ r2.1 in
    let r4 =
    passed
    (length_refused (length g.flat_knots) (knots_length g) || length_refused (length samples) (samples_length g)
    || length_refused (length out) (tensor_length g))
    3 _ r3.1 in
    let r5 = passed (ltb (length scratch) (scratch_length g)) 4 _ r4.1 in
    let r7 = passed (some_number_refused g.flat_knots || some_ends_refused g || some_number_refused samples) 6 _ r5.1 in
    let r8 = passed (some_knots_refused g) 7 _ r7.1 in
    let r9 = passed (some_fewness_refused g) 8 _ r8.1 in
    let r10 = passed (outcome_refused (tensor g samples)) 9 0 r9.1 in
    let lengths =
    neither (length_refused (length g.flat_knots) (knots_length g) || length_refused (length samples) (samples_length g))
    (length_refused (length out) (tensor_length g)) r4.0 in
    let two =
    neither (length_refused (length g.flat_knots) (knots_length g)) (length_refused (length samples) (samples_length g))
    lengths.0 in
    let numbers = neither (some_number_refused g.flat_knots || some_ends_refused g) (some_number_refused samples) r7.0 in
    let both = neither (some_number_refused g.flat_knots) (some_ends_refused g) numbers.0 in
    record {
      axes_fine = r1.0;
      points_fine = r2.0;
      tensor_fine = r3.0;
      knots_exact = exact (length g.flat_knots) (knots_length g) two.0;
      samples_exact = exact (length samples) (samples_length g) two.1;
      knots_finite = both.0;
      ends_finite = both.1;
      samples_finite = numbers.1;
      knots_rise = r8.0;
      enough_points = r9.0;
      outcome_finite = r10.0;
    }

module _ (g : Grid) (samples : List Float) (sound : Sound g samples) where
  -- another build on this grid is refused by 7 or 10 or not at all
  build_number :
      (others out scratch : List Float) → length others ≡ samples_length g → Fitting g out scratch
      → build_refusal g others out scratch ≡ cond (some_number_refused others) 7 (cond (outcome_refused (tensor g others)) 10 0)
  unfolding build_refusal
  build_number others out scratch long fitting =
      past (axes_refused g) 1 sound.axes_fine
      (past (some_points_refused g) 2 sound.points_fine
      (past (tensor_refused g) 3 sound.tensor_fine
      (past
      (length_refused (length g.flat_knots) (knots_length g) || length_refused (length others) (samples_length g)
      || length_refused (length out) (tensor_length g))
      4
      (none_of_three _ _ _ (length_fits _ _ sound.knots_exact) (length_fits _ _ long) (length_fits _ _ fitting.0))
      (past (ltb (length scratch) (scratch_length g)) 5 (le-ltb (length scratch) (scratch_length g) fitting.1)
      (ap₂ (λ (b : Bool) (n : ℕ). cond b 7 n)
      (third_alone (some_number_refused g.flat_knots) (some_ends_refused g) (some_number_refused others) sound.knots_finite
      sound.ends_finite)
      (past (some_knots_refused g) 8 sound.knots_rise (past (some_fewness_refused g) 9 sound.enough_points refl)))))))

  -- a change of the built tensor by 6, 7 or 10 or not at all
  change_number :
      (scratch : List Float) (place : Place) (v : Float) → length (tensor g samples) ≡ tensor_length g → scratch_length g ≤ length scratch
      → change_refusal g (tensor g samples) scratch place v
      ≡ cond (place_refused g place) 6
      (cond (number_refused v) 7 (cond (outcome_refused (changed_tensor g place v (tensor g samples))) 10 0))
  unfolding change_refusal
  change_number scratch place v long room =
      past (axes_refused g) 1 sound.axes_fine
      (past (some_points_refused g) 2 sound.points_fine
      (past (tensor_refused g) 3 sound.tensor_fine
      (past (length_refused (length g.flat_knots) (knots_length g) || length_refused (length (tensor g samples)) (tensor_length g)) 4
      (neither_of (length_fits _ _ sound.knots_exact) (length_fits _ _ long))
      (past (ltb (length scratch) (scratch_length g)) 5 (le-ltb (length scratch) (scratch_length g) room)
      (ap (λ (n : ℕ). cond (place_refused g place) 6 n)
      (ap₂ (λ (b : Bool) (n : ℕ). cond b 7 n) numbers
      (past (some_knots_refused g) 8 sound.knots_rise (past (some_fewness_refused g) 9 sound.enough_points refl))))))))
    where
      last_fine : (a b : Bool) → b ≡ false → (a || b) ≡ a
      last_fine true b e = refl
      last_fine false b e = e

      numbers : (some_number_refused g.flat_knots || some_ends_refused g || number_refused v || some_number_refused (tensor g samples))
          ≡ number_refused v
      numbers =
          last_fine (some_number_refused g.flat_knots || some_ends_refused g || number_refused v)
          (some_number_refused (tensor g samples)) sound.outcome_finite
          ∙ third_alone (some_number_refused g.flat_knots) (some_ends_refused g) (number_refused v) sound.knots_finite
          sound.ends_finite

  pub tensor_long : length (tensor g samples) ≡ tensor_length g
  unfolding tensor
  tensor_long = length_table (tensor_length g) _

  -- a new sample at a place of the grid
  module _ (place : Place) (v : Float) (on : OnGrid (points g) g.axes place) where
    abbrev number : ℕ
    number = flat (points g) g.axes place

    abbrev changed : List Float
    changed = set samples number v

    inside : number < length samples
    inside = rw sound.samples_exact (flat_below (points g) g.axes place on)

    changed_long : length changed ≡ samples_length g
    changed_long = simp length-set sound.samples_exact

    -- it alone decides whether the samples are finite
    new_finite : some_number_refused changed ≡ number_refused v
    new_finite = rw (length-set samples number v) (go (number_refused v) refl)
      where
        go : (b : Bool) → number_refused v ≡ b → any (λ k. number_refused (at changed k)) (length samples) ≡ b
        go true e =
            any_found (λ k. number_refused (at changed k)) number (length samples) inside
            (ap number_refused (get_or-set_same samples number v nan inside) ∙ e)
        go false e =
            any_ext (λ k. number_refused (at changed k)) (λ k. number_refused (at samples k)) (length samples)
            (λ k below. at_k k below (eqb k number) refl)
            ∙ sound.samples_finite
          where
            at_k : (k : ℕ) → k < length samples → (b : Bool) → eqb k number ≡ b
                → number_refused (at changed k) ≡ number_refused (at samples k)
            at_k k below true same =
                let here = eqb-true k number same in
                ap (λ (i : ℕ). number_refused (at changed i)) here
                ∙ ap number_refused (get_or-set_same samples number v nan inside) ∙ e
                ∙ sym (any_at (λ i. number_refused (at samples i)) (length samples) sound.samples_finite k below)
            at_k k below false other = ap number_refused (get_or-set_other samples number k v nan (eqb-false k number other))

    changed_is_built : changed_tensor g place v (tensor g samples) ≡ tensor g changed
    changed_is_built = change_is_build g samples place v on sound.samples_exact

    still_sound : number_refused v ≡ false → outcome_refused (tensor g changed) ≡ false → Sound g changed
    still_sound finite fine = record {
      axes_fine = sound.axes_fine;
      points_fine = sound.points_fine;
      tensor_fine = sound.tensor_fine;
      knots_exact = sound.knots_exact;
      samples_exact = changed_long;
      knots_finite = sound.knots_finite;
      ends_finite = sound.ends_finite;
      samples_finite = new_finite ∙ finite;
      knots_rise = sound.knots_rise;
      enough_points = sound.enough_points;
      outcome_finite = fine;
    }

-- ---- the answer of a change, and what an accepted one had to be

pub record Accepted (g : Grid) (t : List Float) (place : Place) (v : Float) : Type 0 where
  pub on_the_grid : OnGrid (points g) g.axes place
  pub sample_finite : number_refused v ≡ false
  pub outcome_finite : outcome_refused (changed_tensor g place v t) ≡ false

on_grid : (g : Grid) (place : Place) → place_refused g place ≡ false → OnGrid (points g) g.axes place
on_grid g place fine i below = leb-false (points g i) (place i) (any_at (λ j. leb (points g j) (place j)) g.axes fine i below)

pub change_accepted : (g : Grid) (t scratch : List Float) (place : Place) (v : Float) → change_refusal g t scratch place v ≡ 0
    → Accepted g t place v
unfolding change_refusal
change_accepted g t scratch place v e =
    let r1 = passed (axes_refused g) 0 _ e in
    let r2 = passed (some_points_refused g) 1 _ r1.1 in
    let r3 = passed (tensor_refused g) 2 _ r2.1 in
    let r4 = passed (length_refused (length g.flat_knots) (knots_length g) || length_refused (length t) (tensor_length g)) 3 _ r3.1 in
    let r5 = passed (ltb (length scratch) (scratch_length g)) 4 _ r4.1 in
    let r6 = passed (place_refused g place) 5 _ r5.1 in
    let r7 = passed (some_number_refused g.flat_knots || some_ends_refused g || number_refused v || some_number_refused t) 6 _ r6.1 in
    let r8 = passed (some_knots_refused g) 7 _ r7.1 in
    let r9 = passed (some_fewness_refused g) 8 _ r8.1 in
    let r10 = passed (outcome_refused (changed_tensor g place v t)) 9 0 r9.1 in
    let numbers =
    neither (some_number_refused g.flat_knots || some_ends_refused g || number_refused v) (some_number_refused t) r7.0 in
    record {
      on_the_grid = on_grid g place r6.0;
      sample_finite = (neither (some_number_refused g.flat_knots || some_ends_refused g) (number_refused v) numbers.0).1;
      outcome_finite = r10.0;
    }

pub refusal_is :
    (g : Grid) (t : List Float) (change : OneChange) → Kept g t (change ∷ [])
    → change.answer.refusal ≡ change_refusal g t change.scratch change.place change.sample
unfolding change_answer
refusal_is g t change promised = ap (λ (a : ChangeAnswer). a.refusal) promised.0.answer

-- ---- a tensor that stands as built

pub record Stands (g : Grid) (samples t : List Float) : Type 0 where
  pub sound : Sound g samples
  pub is : t ≡ tensor g samples

-- after the build
pub built_stands : (g : Grid) (samples out scratch t cleared : List Float) → BuildPromise g samples out scratch 0 t cleared
    → Stands g samples t
built_stands g samples out scratch t cleared p = record {
  sound = accepted_is_sound g samples out scratch (sym p.answer);
  is = p.output ∙ ap (λ (r : ℕ). stored r out (tensor g samples)) (sym p.answer);
}

module _ (g : Grid) (samples t : List Float) (change : OneChange) (stands : Stands g samples t) (promised : Kept g t (change ∷ [])) where
  abbrev place : Place
  place = change.place

  abbrev v : Float
  v = change.sample

  abbrev refusal : ℕ
  refusal = change_refusal g t change.scratch place v

  -- after one more change
  change_stands : Stands g (standing g change.answer.refusal samples place v) change.tensor_later
  change_stands =
      subst (λ (r : ℕ). Stands g (standing g r samples place v) change.tensor_later) (sym (refusal_is g t change promised))
      (subst (λ (l : List Float). Stands g (standing g refusal samples place v) l) (sym promised.0.output) (go refusal refl))
    where
      go : (r : ℕ) → refusal ≡ r → Stands g (standing g r samples place v) (stored r t (changed_tensor g place v t))
      go zero e =
          let accepted = change_accepted g t change.scratch place v e in
          let same : changed_tensor g place v t ≡ tensor g (set samples (flat (points g) g.axes place) v) =
          ap (changed_tensor g place v) stands.is ∙ changed_is_built g samples stands.sound place v accepted.on_the_grid in
          record {
            sound =
                still_sound g samples stands.sound place v accepted.on_the_grid accepted.sample_finite
                (sym (ap outcome_refused same) ∙ accepted.outcome_finite);
            is = same;
          }
      go (suc r) e = stands

-- after a list of changes
pub changes_stand : (g : Grid) (samples t : List Float) → Stands g samples t → (changes : List OneChange) → Kept g t changes
    → Stands g (samples_after g samples changes) (tensor_after t changes)
changes_stand g samples t stands [] promised = stands
changes_stand g samples t stands (change ∷ changes) promised =
    changes_stand g (standing g change.answer.refusal samples change.place change.sample) change.tensor_later
    (change_stands g samples t change stands (promised.0, tt)) changes promised.1

-- ---- the proofs, of any tensor that stands as built

pub bits_of_fresh_build : (g : Grid) (samples t : List Float) → Stands g samples t → BitsOfFreshBuild g samples t
bits_of_fresh_build g samples t first changes promised out' scratch' fresh cleared' refusal fitting again =
    let now = samples_after g samples changes in
    let stands = changes_stand g samples t first changes promised in
    let sound = stands.sound in
    let none : build_refusal g now out' scratch' ≡ 0 =
    build_number g now sound now out' scratch' sound.samples_exact fitting
    ∙ past (some_number_refused now) 7 sound.samples_finite (past (outcome_refused (tensor g now)) 10 sound.outcome_finite refl) in
    (again.answer ∙ none, again.output ∙ ap (λ (r : ℕ). stored r out' (tensor g now)) none ∙ sym stands.is)

pub refusal_of_fresh_build : (g : Grid) (samples t : List Float) → Stands g samples t → RefusalOfFreshBuild g samples t
refusal_of_fresh_build g samples t first changes promised change room next out' scratch' fresh cleared' refusal fitting again =
    refusal_is g (tensor_after t changes) change next
    ∙ ap (λ (l : List Float). change_refusal g l change.scratch p v) stands.is
    ∙ change_number g now sound change.scratch p v (tensor_long g now sound) room
    ∙ go (place_refused g p) refl
  where
    now : List Float
    now = samples_after g samples changes

    stands : Stands g now (tensor_after t changes)
    stands = changes_stand g samples t first changes promised

    sound : Sound g now
    sound = stands.sound

    p : Place
    p = change.place

    v : Float
    v = change.sample

    go : (b : Bool) → place_refused g p ≡ b
        → cond b 6 (cond (number_refused v) 7 (cond (outcome_refused (changed_tensor g p v (tensor g now))) 10 0)) ≡ cond b 6 refusal
    go true e = refl
    go false e =
        let on = on_grid g p e in
        let after : List Float = set now (flat (points g) g.axes p) v in
        ap₂ (λ (a b : Bool). cond a 7 (cond b 10 0)) (sym (new_finite g now sound p v on))
        (ap outcome_refused (changed_is_built g now sound p v on))
        ∙ sym (build_number g now sound after out' scratch' (changed_long g now sound p v on) fitting) ∙ sym again.answer

pub bits_kept_elsewhere : (g : Grid) (samples t : List Float) → Stands g samples t → BitsKeptElsewhere g t
bits_kept_elsewhere g samples t first changes promised change next q mask j on small below off other =
    ap (λ (l : List Float). at l (spot g q mask)) next.0.output ∙ go refused refl
  where
    now : List Float
    now = samples_after g samples changes

    before : List Float
    before = tensor_after t changes

    stands : Stands g now before
    stands = changes_stand g samples t first changes promised

    p : Place
    p = change.place

    v : Float
    v = change.sample

    refused : ℕ
    refused = change_refusal g before change.scratch p v

    differs : (b : Bool) → agree (in_mask mask) g.axes q p ≡ b → agree (in_mask mask) g.axes q p ≡ false
    differs true e = absurd (other (agree_at (in_mask mask) q p g.axes e j below off))
    differs false e = e

    go : (r : ℕ) → refused ≡ r → at (stored r before (changed_tensor g p v before)) (spot g q mask) ≡ at before (spot g q mask)
    go zero e =
        let accepted = change_accepted g before change.scratch p v e in
        let sound = stands.sound in
        let after : List Float = set now (flat (points g) g.axes p) v in
        ap (λ (l : List Float). at l (spot g q mask))
        (ap (changed_tensor g p v) stands.is ∙ changed_is_built g now sound p v accepted.on_the_grid)
        ∙ built_entry g after g.axes mask q (le_refl g.axes) small on
        ∙ sym (kept g (sample g now) p v (sample g after) (set_is_with_sample g now p v accepted.on_the_grid sound.samples_exact)
        g.axes mask q (le_refl g.axes) small on (differs (agree (in_mask mask) g.axes q p) refl))
        ∙ sym (built_entry g now g.axes mask q (le_refl g.axes) small on)
        ∙ ap (λ (l : List Float). at l (spot g q mask)) (sym stands.is)
    go (suc r) e = refl

pub counts_its_lanes : CountsItsLanes
unfolding change_answer
counts_its_lanes g t change promised none =
    let p : Place = change.place in
    let refused : change_refusal g t change.scratch p change.sample ≡ 0 = sym (refusal_is g t change promised) ∙ none in
    let listed : change.answer.lanes ≡ length (change_lanes g p) =
    ap (λ (a : ChangeAnswer). a.lanes) promised.0.answer ∙ ap (λ (r : ℕ). counted r (length (change_lanes g p))) refused in
    (listed, listed ∙ lane_count g p (change_accepted g t change.scratch p change.sample refused).on_the_grid)

-- ---- and of one that an accepted build made

pub has_bits_of_fresh_build : HasBitsOfFreshBuild
has_bits_of_fresh_build g samples out scratch t cleared built =
    bits_of_fresh_build g samples t (built_stands g samples out scratch t cleared built)

pub refused_as_fresh_build : RefusedAsFreshBuild
refused_as_fresh_build g samples out scratch t cleared built =
    refusal_of_fresh_build g samples t (built_stands g samples out scratch t cleared built)

pub keeps_bits_elsewhere : KeepsBitsElsewhere
keeps_bits_elsewhere g samples out scratch t cleared built =
    bits_kept_elsewhere g samples t (built_stands g samples out scratch t cleared built)
