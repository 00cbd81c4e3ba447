-- A tensor is whole exactly where it is that of a build: one that was built is whole after any list of changes, one that is found whole
-- keeps the third promise from there on, and an overwritten sample leaves it whole only where every number of the change stands already.
use mathlib.Core.Path.{◌≡◌, refl, sym, ap, ◌∙◌, subst}
use mathlib.Core.Bool.{Bool, true, false, cond, ◌||◌}
use mathlib.Core.List.{List}
use Prim.Native.Nat.{ℕ, ◌+◌, ◌*◌, ◌<◌, ◌≤◌, zero-le}
use native.Mathlib.Nat.{add-zero, zero-lt-suc}
use native.Mathlib.Omega.{arith}
use lib.Arith.{digits_lt}
use lib.Dec.{T, ltb, eqb}
use lib.ListN.{length, set, length-set}
use lib.Pow.{pow_pos}
use lib.Seq.{ext_get_or, get_or-set_same, get_or-set_other}
use lib.Ieee.{Float, binary64, fits, nan, of_bits, to_bits}
use lib.Ieee.Bits.{of_bits-to_bits}
use borrow.Author.Tests.{ltb-false, le-ltb, eqb-true, eqb-false, eq-eqb, not-false}
use Rattle.rules.specs.Numbers.{at}
use Rattle.rules.specs.Sizes.{
  Grid,
  points,
  masks,
  knots_length,
  samples_length,
  tensor_length,
  scratch_length,
  Place,
  flat,
  unflat,
  spot,
}
use Rattle.rules.specs.Refusals.{
  axes_refused,
  points_refused,
  some_points_refused,
  tensor_refused,
  length_refused,
  number_refused,
  some_number_refused,
  some_ends_refused,
  some_knots_refused,
  some_fewness_refused,
  outcome_refused,
}
use Rattle.rules.specs.Tensor.{entry, sample, tensor}
use Rattle.rules.specs.Change.{changed_tensor}
use Rattle.rules.specs.Calls.{BuildPromise}
use Rattle.rules.proofs.Cases.{passed, neither_of}
use Rattle.rules.proofs.Places.{OnGrid, flat_below, flat_unflat, unflat_on_grid}
use Rattle.rules.proofs.ChangeIsBuild.{built_entry, change_is_build}
use Rattle.base_numbers.proofs.Scan.{neither, any_at, any_never}
use Rattle.base_floats.specs.Place.{AllFit}
use Rattle.grid_checks.proofs.Rows.{pass, exact, length_fits}
use Rattle.tensor_passes.proofs.Pass.{digits_one}
use Rattle.tensor.specs.Changes.{OneChange, Kept, tensor_after, samples_after}
use Rattle.tensor.proofs.Demand3.{
  Sound,
  Stands,
  built_stands,
  changes_stand,
  tensor_long,
  BitsOfFreshBuild,
  RefusalOfFreshBuild,
  BitsKeptElsewhere,
  bits_of_fresh_build,
  refusal_of_fresh_build,
  bits_kept_elsewhere,
}
use Rattle.tensor_verify.specs.Verify.{samples_in, fresh, other_bits, stale, stale_numbers, found, verify_refusal, verify_answer}
use Rattle.tensor_verify.proofs.Numbers.{none_counted, counted_none}
use Rattle.tensor_verify.proofs.Verifying.{samples_long, sample_at}
use Rattle.tensor_verify.proofs.Fits.{all_fit, tensor_fits}

-- two numbers of an f64 that do not have other bits are one
same_number : (x y : Float) → T (fits binary64 x) → T (fits binary64 y) → other_bits x y ≡ false → x ≡ y
same_number x y p q e =
    sym (of_bits-to_bits binary64 x p)
    ∙ ap (of_bits binary64) (eqb-true (to_bits binary64 x) (to_bits binary64 y) (not-false _ e))
    ∙ of_bits-to_bits binary64 y q

own_bits : (x : Float) → other_bits x x ≡ false
own_bits x = rw (eq-eqb (to_bits binary64 x) (to_bits binary64 x) refl)

-- ---- a tensor that was built has its samples at mask 0

module _ (g : Grid) (samples : List Float) (sound : Sound g samples) where
  some : (j : ℕ) → j < g.axes → 0 < points g j
  some j l =
      let fine = any_at (λ i. points_refused (points g i)) g.axes sound.points_fine j l in
      omega (arith, ltb-false (points g j) 2 (neither _ _ fine).0)

  at_mask_0 : (f : ℕ) → f < samples_length g → at (tensor g samples) (f * masks g) ≡ at samples f
  unfolding entry sample
  at_mask_0 f l =
      let p : Place = unflat (points g) g.axes f in
      let back : flat (points g) g.axes p ≡ f = flat_unflat (points g) g.axes f some l in
      ap (at (tensor g samples)) (sym (add-zero (f * masks g)) ∙ ap (λ (k : ℕ). k * masks g + 0) (sym back))
      ∙ built_entry g samples 0 0 p zero-le (zero-lt-suc 0) (unflat_on_grid (points g) g.axes f some)
      ∙ ap (at samples) back

  pub samples_are : samples_in g (tensor g samples) ≡ samples
  samples_are =
      ext_get_or nan (samples_in g (tensor g samples)) samples (samples_long g (tensor g samples) ∙ sym sound.samples_exact) (λ f l.
      let below : f < samples_length g = omega (arith, samples_long g (tensor g samples)) in
      sample_at g (tensor g samples) f below ∙ at_mask_0 f below)

  pub fresh_is : fresh g (tensor g samples) ≡ tensor g samples
  unfolding fresh
  fresh_is = ap (tensor g) samples_are

-- ---- so it is whole

module _ (g : Grid) (samples t scratch : List Float) (stands : Stands g samples t) (room : scratch_length g ≤ length scratch) where
  fresh_stands : fresh g t ≡ t
  fresh_stands = ap (fresh g) stands.is ∙ fresh_is g samples stands.sound ∙ sym stands.is

  none_stale : stale_numbers g t ≡ 0
  unfolding stale_numbers
  none_stale =
      none_counted (stale g t) (tensor_length g) (λ e l.
      ap (λ (numbers : List Float). other_bits (at t e) (at numbers e)) fresh_stands ∙ own_bits (at t e))

  not_refused : verify_refusal g t scratch ≡ 0
  unfolding verify_refusal
  not_refused =
      let sound = stands.sound in
      let lengths =
      neither_of (length_fits _ _ sound.knots_exact) (length_fits _ _ (ap length stands.is ∙ tensor_long g samples sound)) in
      let numbers =
      neither_of (neither_of sound.knots_finite sound.ends_finite) (ap outcome_refused stands.is ∙ sound.outcome_finite) in
      let outcome = ap outcome_refused (fresh_stands ∙ stands.is) ∙ sound.outcome_finite in
      sym
      (pass 1 (sym sound.axes_fine) refl
      (pass 2 (sym sound.points_fine) refl
      (pass 3 (sym sound.tensor_fine) refl
      (pass 4 (sym lengths) refl
      (pass 5 (sym (le-ltb (length scratch) (scratch_length g) room)) refl
      (pass 7 (sym numbers) refl
      (pass 8 (sym sound.knots_rise) refl (pass 9 (sym sound.enough_points) refl (pass 10 (sym outcome) refl refl)))))))))

  pub built_is_whole : ((verify_answer g t scratch).refusal ≡ 0) × ((verify_answer g t scratch).whole ≡ true)
  unfolding verify_answer found
  built_is_whole = rw (not_refused, none_stale) (refl, refl)

-- after an accepted build and any list of changes
pub whole_after_changes :
    (g : Grid) (samples out scratch t cleared : List Float) → BuildPromise g samples out scratch 0 t cleared
    → (changes : List OneChange) → Kept g t changes → (lent : List Float) → scratch_length g ≤ length lent
    → ((verify_answer g (tensor_after t changes) lent).refusal ≡ 0) × ((verify_answer g (tensor_after t changes) lent).whole ≡ true)
whole_after_changes g samples out scratch t cleared built changes kept lent room =
    built_is_whole g (samples_after g samples changes) (tensor_after t changes) lent
    (changes_stand g samples t (built_stands g samples out scratch t cleared built) changes kept) room

-- ---- and what is whole stands as built

module _ (g : Grid) (t scratch : List Float) (fit : AllFit t) where
  -- what no refusal leaves
  accepted : verify_refusal g t scratch ≡ 0 → (length t ≡ tensor_length g) × Sound g (samples_in g t)
  unfolding verify_refusal fresh
  accepted e =
      let r1 = passed (axes_refused g) 0 _ e in
      let r2 = passed (some_points_refused g) 1 _ r1.1 in
      let r3 = passed (tensor_refused g) 2 _ r2.1 in
      let r4 =
      passed (length_refused (length g.flat_knots) (knots_length g) || length_refused (length t) (tensor_length g)) 3 _ r3.1 in
      let r5 = passed (ltb (length scratch) (scratch_length g)) 4 _ r4.1 in
      let r7 = passed (some_number_refused g.flat_knots || some_ends_refused g || some_number_refused t) 6 _ r5.1 in
      let r8 = passed (some_knots_refused g) 7 _ r7.1 in
      let r9 = passed (some_fewness_refused g) 8 _ r8.1 in
      let r10 = passed (outcome_refused (fresh g t)) 9 0 r9.1 in
      let lengths = neither _ _ r4.0 in
      let numbers = neither (some_number_refused g.flat_knots || some_ends_refused g) (some_number_refused t) r7.0 in
      let both = neither (some_number_refused g.flat_knots) (some_ends_refused g) numbers.0 in
      let long = exact (length t) (tensor_length g) lengths.1 in (
        long,
        record {
          axes_fine = r1.0;
          points_fine = r2.0;
          tensor_fine = r3.0;
          knots_exact = exact (length g.flat_knots) (knots_length g) lengths.0;
          samples_exact = samples_long g t;
          knots_finite = both.0;
          ends_finite = both.1;
          samples_finite = samples_finite long numbers.1;
          knots_rise = r8.0;
          enough_points = r9.0;
          outcome_finite = r10.0;
        },
      )
    where
      samples_finite : length t ≡ tensor_length g → some_number_refused t ≡ false → some_number_refused (samples_in g t) ≡ false
      samples_finite long fine =
          any_never (λ k. number_refused (at (samples_in g t) k)) (length (samples_in g t)) (λ f l.
          let below : f < samples_length g = omega (arith, samples_long g t) in
          let inside : f * masks g + 0 < samples_length g * masks g = digits_lt below (pow_pos g.axes) in
          ap number_refused (sample_at g t f below)
          ∙ any_at (λ k. number_refused (at t k)) (length t) fine (f * masks g) (omega (arith, long)))

  pub whole_is_built : (verify_answer g t scratch).refusal ≡ 0 → (verify_answer g t scratch).whole ≡ true → Stands g (samples_in g t) t
  unfolding verify_answer found stale_numbers fresh samples_in
  whole_is_built none whole = go (eqb (verify_refusal g t scratch) 0) refl
    where
      go : (b : Bool) → eqb (verify_refusal g t scratch) 0 ≡ b → Stands g (samples_in g t) t
      go false refused = absurd (eqb-false (verify_refusal g t scratch) 0 refused (rw refused at none))
      go true e =
          let left = accepted (eqb-true (verify_refusal g t scratch) 0 e) in
          let counted : stale_numbers g t ≡ 0 = eqb-true (stale_numbers g t) 0 (rw e at whole) in
          record {
            sound = left.1;
            is =
                ext_get_or nan t (tensor g (samples_in g t)) (left.0 ∙ sym (tensor_long g (samples_in g t) left.1)) (λ k l.
                same_number (at t k) (at (tensor g (samples_in g t)) k) (fit k) (tensor_fits g (samples_in g t) samples_fit k)
                (counted_none (stale g t) (tensor_length g) counted k (omega (arith, left.0))));
          }
        where
          samples_fit : AllFit (samples_in g t)
          samples_fit =
              all_fit (samples_in g t) (samples_length g) (samples_long g t) (λ f l.
              subst (λ (x : Float). T (fits binary64 x)) (sym (sample_at g t f l)) (fit (f * masks g)))

  -- so the third promise holds of it from there on, with its own samples as those that stand
  module _ (none : (verify_answer g t scratch).refusal ≡ 0) (whole : (verify_answer g t scratch).whole ≡ true) where
    pub verified_bits_of_fresh_build : BitsOfFreshBuild g (samples_in g t) t
    verified_bits_of_fresh_build = bits_of_fresh_build g (samples_in g t) t (whole_is_built none whole)

    pub verified_refusal_of_fresh_build : RefusalOfFreshBuild g (samples_in g t) t
    verified_refusal_of_fresh_build = refusal_of_fresh_build g (samples_in g t) t (whole_is_built none whole)

    pub verified_bits_kept_elsewhere : BitsKeptElsewhere g t
    verified_bits_kept_elsewhere = bits_kept_elsewhere g (samples_in g t) t (whole_is_built none whole)

-- ---- one sample overwritten, and nothing else

module _
    (g : Grid) (samples t scratch : List Float) (stands : Stands g samples t) (p : Place) (on : OnGrid (points g) g.axes p) (v : Float)
    (fit : AllFit (set t (spot g p 0) v)) where
  abbrev overwritten : List Float
  overwritten = set t (spot g p 0) v

  long : length t ≡ tensor_length g
  long = ap length stands.is ∙ tensor_long g samples stands.sound

  samples_then : samples_in g overwritten ≡ set samples (flat (points g) g.axes p) v
  samples_then =
      ext_get_or nan (samples_in g overwritten) (set samples number v)
      (samples_long g overwritten ∙ sym (length-set samples number v ∙ stands.sound.samples_exact)) (λ f l.
      let below : f < samples_length g = omega (arith, samples_long g overwritten) in
      sample_at g overwritten f below ∙ go f below (eqb f number) refl)
    where
      number : ℕ
      number = flat (points g) g.axes p

      inside : number < samples_length g
      inside = flat_below (points g) g.axes p on

      go : (f : ℕ) → f < samples_length g → (b : Bool) → eqb f number ≡ b → at overwritten (f * masks g) ≡ at (set samples number v) f
      go f below true e =
          let same = eqb-true f number e in
          let spot_inside : number * masks g + 0 < samples_length g * masks g = digits_lt inside (pow_pos g.axes) in
          ap (at overwritten) (sym (add-zero (f * masks g)) ∙ ap (λ (k : ℕ). k * masks g + 0) same)
          ∙ get_or-set_same t (spot g p 0) v nan (omega (arith, long))
          ∙ sym (ap (at (set samples number v)) same ∙ get_or-set_same samples number v nan (rw stands.sound.samples_exact inside))
      go f below false e =
          get_or-set_other t (spot g p 0) (f * masks g) v nan (λ same. eqb-false f number e (digits same))
          ∙ ap (λ (l : List Float). at l (f * masks g)) stands.is
          ∙ at_mask_0 g samples stands.sound f below
          ∙ sym (get_or-set_other samples number f v nan (eqb-false f number e))
        where
          digits : f * masks g ≡ spot g p 0 → f ≡ number
          digits same = (digits_one (masks g) f number 0 0 (pow_pos g.axes) (pow_pos g.axes) (add-zero (f * masks g) ∙ same)).0

  -- it is whole only where it is what the change gives
  pub whole_if_changed : (verify_answer g overwritten scratch).refusal ≡ 0 → (verify_answer g overwritten scratch).whole ≡ true
      → overwritten ≡ changed_tensor g p v t
  whole_if_changed none whole =
      (whole_is_built g overwritten scratch fit none whole).is
      ∙ ap (tensor g) samples_then
      ∙ sym (ap (changed_tensor g p v) stands.is ∙ change_is_build g samples p v on stands.sound.samples_exact)
