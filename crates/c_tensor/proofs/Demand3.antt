-- Demand 3 of the exports, from their records and the statements of `tensor` alone: first the four statements, of a tensor that stands as
-- built and any list of calls of `hullashlar_change`; then their proofs, and that `hullashlar_build` leaves such a tensor.
use mathlib.Core.Path.{◌≡◌, refl, sym, ap, ◌∙◌}
use mathlib.Core.Logic.{◌≢◌}
use mathlib.Core.Bool.{false, cond}
use mathlib.Core.List.{List, [], ◌∷◌}
use Prim.Native.Nat.{ℕ, zero, suc, ◌<◌, ◌≤◌}
use lib.ListN.{length, set, length-set}
use lib.Ieee.{Float}
use borrow.Author.Tests.{eq-eqb}
use Rattle.rules.specs.Numbers.{at}
use Rattle.rules.specs.Sizes.{Grid, points, masks, tensor_length, scratch_length, Place, place_of, flat, spot, in_mask}
use Rattle.rules.specs.Refusals.{place_refused}
use Rattle.rules.specs.Tensor.{tensor}
use Rattle.rules.specs.Change.{change_lanes, lane_sum}
use Rattle.rules.specs.Calls.{change_refusal, change_answer, BuildPromise, ChangePromise}
use Rattle.rules.proofs.Places.{OnGrid}
use Rattle.rules.proofs.Tables.{length_table}
use Rattle.rules.proofs.Refused.{or_else_passed}
use Rattle.tensor.specs.Changes.{OneChange, standing}
use Rattle.tensor.proofs.Demand3.{
  Fitting,
  Stands,
  built_stands,
  changes_stand,
  bits_of_fresh_build,
  refusal_of_fresh_build,
  bits_kept_elsewhere,
  counts_its_lanes,
}
use Rattle.c_axes.specs.Axes.{grid_given}
use Rattle.c_refusals.specs.OwnRefusals.{build_own_refusal, change_own_refusal}
use Rattle.c_tensor.specs.TensorExports.{BuildExport, ChangeExport}
use Rattle.c_refusals.proofs.Lengths.{change_lengths}
use Rattle.c_tensor.proofs.Accepted.{Fine, build_fine, build_accepted, change_accepted}

-- ---- what the statements speak of

-- one call of `hullashlar_change`: what was asked and lent, what it returned, and what stood afterwards in all that it writes
pub record HostChange : Type 0 where
  pub place : List ℕ
  pub sample : Float
  pub scratch : List Float
  pub lanes : List ℕ
  pub refusal : ℕ
  pub tensor_later : List Float
  pub scratch_later : List Float
  pub lanes_later : List ℕ

-- the tensor after a list of them
abbrev pub tensor_after_calls : List Float → List HostChange → List Float
tensor_after_calls t [] = t
tensor_after_calls t (change ∷ changes) = tensor_after_calls change.tensor_later changes

module _ (axes : ℕ) (points_in kinds : List ℕ) (values knots : List Float) where
  abbrev g : Grid
  g = grid_given axes points_in kinds values knots

  -- each call kept its record, on the tensor that the one before it left
  abbrev pub Called : List Float → List HostChange → Type 0
  Called t [] = Unit {0}
  Called t (change ∷ changes) =
      ChangeExport axes points_in kinds values knots t change.scratch change.place change.sample change.lanes
      change.refusal change.tensor_later change.scratch_later change.lanes_later
      × Called change.tensor_later changes

  -- the samples now standing: a call that returned 0 put its own in place
  abbrev pub samples_after_calls : List Float → List HostChange → List Float
  samples_after_calls samples [] = samples
  samples_after_calls samples (change ∷ changes) =
      samples_after_calls (standing g change.refusal samples (place_of change.place) change.sample) changes

  -- a tensor on these axes that stands as built of samples
  pub record Made (samples t : List Float) : Type 0 where
    pub fine : Fine axes points_in kinds values
    pub stands : Stands g samples t

  -- ---- the statements, each of such a tensor and any list of calls, refused ones among them

  -- 1: a fresh build from the samples now standing is not refused, and has the same bits
  abbrev pub HostBitsOfFreshBuild : List Float → List Float → Type 0
  HostBitsOfFreshBuild samples t =
      (changes : List HostChange) → Called t changes
      → (out' scratch' fresh cleared' : List Float) (refusal : ℕ) → Fitting g out' scratch'
      → BuildExport axes points_in kinds values knots (samples_after_calls samples changes) out' scratch' refusal fresh cleared'
      → (refusal ≡ 0) × (fresh ≡ tensor_after_calls t changes)

  -- 2: a call with the stated room and slots is refused exactly when its place is off the grid, by 6, or a fresh build with its new sample
  -- in place would be, by that build's number
  abbrev pub HostRefusalOfFreshBuild : List Float → List Float → Type 0
  HostRefusalOfFreshBuild samples t =
      (changes : List HostChange) → Called t changes
      → (change : HostChange) → scratch_length g ≤ length change.scratch → length change.place ≡ 4 → length change.lanes ≡ 1
      → Called (tensor_after_calls t changes) (change ∷ [])
      → (out' scratch' fresh cleared' : List Float) (refusal : ℕ) → Fitting g out' scratch'
      → BuildExport axes points_in kinds values knots
      (set (samples_after_calls samples changes) (flat (points g) g.axes (place_of change.place)) change.sample) out' scratch'
      refusal
      fresh cleared'
      → change.refusal ≡ cond (place_refused g (place_of change.place)) 6 refusal

  -- 3: a derivative over axes S keeps its bits at every point that differs from the changed one on an axis outside S
  abbrev pub HostBitsKeptElsewhere : List Float → Type 0
  HostBitsKeptElsewhere t =
      (changes : List HostChange) → Called t changes
      → (change : HostChange) → Called (tensor_after_calls t changes) (change ∷ [])
      → (p : Place) (mask j : ℕ) → OnGrid (points g) g.axes p → mask < masks g
      → j < g.axes → in_mask mask j ≡ false → p j ≢ place_of change.place j
      → at change.tensor_later (spot g p mask) ≡ at (tensor_after_calls t changes) (spot g p mask)

  -- 4: the slot of an accepted call has the number of the lanes in its list, which is the closed sum, on any tensor
  abbrev pub HostCountsItsLanes : Type 0
  HostCountsItsLanes =
      (t : List Float) (change : HostChange) → Called t (change ∷ []) → change.refusal ≡ 0
      → (change.lanes_later ≡ length (change_lanes g (place_of change.place)) ∷ [])
      × (change.lanes_later ≡ lane_sum (points g) g.axes ∷ [])

  -- ---- a call where the host itself refuses nothing is a change

  abbrev one_change : List Float → HostChange → OneChange
  one_change t change = record {
    place = place_of change.place;
    sample = change.sample;
    scratch = change.scratch;
    answer = change_answer g t change.scratch (place_of change.place) change.sample;
    tensor_later = change.tensor_later;
    scratch_later = change.scratch_later;
  }

  module _ (t : List Float) (change : HostChange) (called : Called t (change ∷ [])) where
    abbrev own : ℕ
    own = change_own_refusal axes points_in kinds values knots t change.place change.lanes

    abbrev given : ℕ
    given = change_refusal g t change.scratch (place_of change.place) change.sample

    as_change : own ≡ 0
        → ChangePromise g t change.scratch (place_of change.place) change.sample (one_change t change).answer
        change.tensor_later
        change.scratch_later
    as_change none = record {
      answer = refl;
      output = rw none at called.0.output;
      scratch = rw none at called.0.scratch;
    }

    its_refusal : own ≡ 0 → change.refusal ≡ given
    its_refusal none = rw none at called.0.answer

    change_made : (samples : List Float) → Stands g samples t
        → Stands g (standing g change.refusal samples (place_of change.place) change.sample) change.tensor_later
    unfolding change_answer
    change_made samples stands = go own refl
      where
        go : (r : ℕ) → own ≡ r → Stands g (standing g change.refusal samples (place_of change.place) change.sample)
            change.tensor_later
        go zero e = rw (its_refusal e) (changes_stand g samples t stands (one_change t change ∷ []) (as_change e, tt))
        go (suc r) e = rw (called.0.answer, called.0.output, e) stands

  pub changes_made : (samples t : List Float) → Made samples t → (changes : List HostChange) → Called t changes
      → Made (samples_after_calls samples changes) (tensor_after_calls t changes)
  changes_made samples t made [] called = made
  changes_made samples t made (change ∷ changes) called =
      changes_made (standing g change.refusal samples (place_of change.place) change.sample) change.tensor_later
      (record { fine = made.fine; stands = change_made t change (called.0, tt) samples made.stands }) changes called.1

  -- ---- a fresh build where the host itself refuses nothing

  as_build :
      (samples out scratch t cleared : List Float) (refusal : ℕ) → build_own_refusal axes points_in kinds values knots samples out ≡ 0
      → BuildExport axes points_in kinds values knots samples out scratch refusal t cleared
      → BuildPromise g samples out scratch refusal t cleared
  as_build samples out scratch t cleared refusal none built = record {
    answer = rw none at built.answer;
    output = rw none at built.output;
    scratch = rw none at built.scratch;
  }

  -- ---- the proofs

  module _ (samples t : List Float) (made : Made samples t) where
    pub host_bits_of_fresh_build : HostBitsOfFreshBuild samples t
    host_bits_of_fresh_build changes called out' scratch' fresh cleared' refusal fitting again =
        let now = samples_after_calls samples changes in
        let later = changes_made samples t made changes called in
        let own =
        build_accepted axes points_in kinds values knots made.fine now later.stands.sound now out'
        later.stands.sound.samples_exact fitting.0 in
        bits_of_fresh_build g now (tensor_after_calls t changes) later.stands [] tt out' scratch' fresh cleared' refusal fitting
        (as_build now out' scratch' fresh cleared' refusal own again)

    pub host_refusal_of_fresh_build : HostRefusalOfFreshBuild samples t
    unfolding tensor change_answer
    host_refusal_of_fresh_build changes called change room four one next out' scratch' fresh cleared' refusal fitting again =
        let now = samples_after_calls samples changes in
        let before = tensor_after_calls t changes in
        let later = changes_made samples t made changes called in
        let sound = later.stands.sound in
        let after : List Float = set now (flat (points g) g.axes (place_of change.place)) change.sample in
        let long : length before ≡ tensor_length g = ap length later.stands.is ∙ length_table (tensor_length g) _ in
        let own =
        change_accepted axes points_in kinds values knots made.fine now sound before change.place change.lanes long four one in
        let own' =
        build_accepted axes points_in kinds values knots made.fine now sound after out'
        (length-set now (flat (points g) g.axes (place_of change.place)) change.sample ∙ sound.samples_exact) fitting.0 in
        its_refusal before change next own
        ∙ refusal_of_fresh_build g now before later.stands [] tt (one_change before change) room
        (as_change before change next own, tt) out'
        scratch' fresh cleared' refusal fitting
        (as_build after out' scratch' fresh cleared' refusal own' again)

    pub host_bits_kept_elsewhere : HostBitsKeptElsewhere t
    host_bits_kept_elsewhere changes called change next p mask j on small below off other = go (own before change next) refl
      where
        before : List Float
        before = tensor_after_calls t changes

        go : (r : ℕ) → own before change next ≡ r → at change.tensor_later (spot g p mask) ≡ at before (spot g p mask)
        go zero e =
            bits_kept_elsewhere g (samples_after_calls samples changes) before (changes_made samples t made changes called).stands [] tt
            (one_change before change) (as_change before change next e, tt) p mask j on small below off other
        go (suc r) e = rw (next.0.output, e)

  pub host_counts_its_lanes : HostCountsItsLanes
  unfolding change_answer
  host_counts_its_lanes t change called none =
      let both = or_else_passed (own t change called) (given t change called) (sym called.0.answer ∙ none) in
      let lanes = counts_its_lanes g t (one_change t change) (as_change t change called both.0, tt) both.1 in
      let one = (change_lengths axes points_in kinds values knots t change.place change.lanes both.0).4 in
      let stored : change.lanes_later ≡ (one_change t change).answer.lanes ∷ [] = rw (both.0, eq-eqb _ _ one) at called.0.slot in
      (stored ∙ ap (λ (n : ℕ). n ∷ []) lanes.0, stored ∙ ap (λ (n : ℕ). n ∷ []) lanes.1)

  -- ---- a tensor of `hullashlar_build`

  pub build_made :
      (samples out scratch t cleared : List Float) → BuildExport axes points_in kinds values knots samples out scratch 0 t cleared
      → Made samples t
  build_made samples out scratch t cleared built =
      let own = (or_else_passed (build_own_refusal axes points_in kinds values knots samples out) _ (sym built.answer)).0 in
      record {
        fine = build_fine axes points_in kinds values knots samples out own;
        stands = built_stands g samples out scratch t cleared (as_build samples out scratch t cleared 0 own built);
      }
