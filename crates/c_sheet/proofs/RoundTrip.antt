-- Reading and writing undo each other over plain slices: the statements of specs/RoundTrip.antt.
-- They follow from the records of both exports and the laws of `sheet_write`.
use mathlib.Core.Path.{◌≡◌, refl, sym, ap, subst, ◌∙◌}
use mathlib.Core.List.{List, [], ◌∷◌}
use Prim.Native.Nat.{ℕ, ◌≤◌}
use lib.ListN.{length, take}
use lib.Ieee.{Float}
use Rattle.rules.specs.Sizes.{Grid, knots_length, samples_length, sum_below, product_below}
use Rattle.rules.specs.declared.Axis.{Axis}
use Rattle.rules.proofs.Refused.{or_else_passed}
use Rattle.grid.specs.GridOfCall.{grid}
use Rattle.base_bits.proofs.Numbers.{each_at}
use Rattle.sheet_read.specs.Fields.{edition as edition_said, axes as axes_said, entries, knots_below, sheet_grid, sheet_samples}
use Rattle.sheet_read.specs.Faults.{sheet_refusal}
use Rattle.sheet_read.specs.Read.{over, read_refusal, answer_of, ReadPromise}
use Rattle.sheet_read.specs.Read.{ReadAnswer}
use Rattle.sheet_read.proofs.Promises.{answer_refusal}
use Rattle.sheet_read.proofs.Sheets.{accepted}
use Rattle.sheet_read.proofs.Parts.{take_over, parts as sizes_of_parts}
use Rattle.sheet_read.proofs.Unique.{read_accepts}
use Rattle.sheet_write.specs.SheetOf.{sheet_of}
use Rattle.sheet_write.specs.Write.{no_sheet_refusal, edition_refusal, write_answer, WritePromise}
use Rattle.sheet_write.specs.RoundTrip.{PartsHeld, in_use}
use Rattle.sheet_write.specs.Write.{WriteAnswer}
use Rattle.sheet_write.proofs.Unique.{write_refuses_no_sheet}
use Rattle.sheet_write.proofs.RoundTrip.{one_sheet, read_of_written, written_own}
use Rattle.c_axes.specs.Axes.{points_found, kinds_found, values_found, modes_found}
use Rattle.c_refusals.specs.OwnRefusals.{sizes_given}
use Rattle.c_refusals.specs.Slots.{in_slot}
use Rattle.grid_checks.proofs.Rows.{length_fits}
use Rattle.c_sheet.specs.RoundTrip.{
  Slices,
  ReadTo,
  Parts,
  WriteFrom,
  grid_of,
  parts_refusal,
  NumbersHeld,
  in_place,
  parts_of,
  filled,
  OneSheet,
  ReadBack,
  WrittenBack,
}
use Rattle.c_sheet.proofs.SheetAxes.{sheet_axes_in_modes_again, sheet_axes_fine, sheet_modes_fine}
use Rattle.c_sheet.proofs.Accepted.{read_own, read_accepted, write_own, same_sizes, Standing, write_accepted, Passed, write_passed}
use Rattle.c_sheet.proofs.Told.{in_use_given, points_told, kinds_told, values_told, modes_told, ends_held}

-- ---- a read that the host itself does not refuse is one of `read`

-- what stands in the slices after an answer, with knots and samples in their buffers
abbrev told : ReadAnswer → List Float → List Float → Slices
told answer knots samples = record {
  knots = knots;
  samples = samples;
  axes = answer.axes ∷ [];
  points = points_found answer.all;
  kinds = kinds_found answer.all;
  values = values_found answer.all;
  modes = modes_found answer.all;
  edition = answer.edition ∷ [];
}

same_told : {a a' : ReadAnswer} {k k' s s' : List Float} → a ≡ a' → k ≡ k' → s ≡ s' → told a k s ≡ told a' k' s'
same_told e f h = rw (e, f, h)

-- the answer that a read without the host gives
abbrev answered : List ℕ → Slices → ReadAnswer
answered bytes lent =
    answer_of (read_refusal bytes lent.knots lent.samples) (edition_said bytes) (axes_said bytes) (entries bytes (axes_said bytes))

pub record AsRead (bytes : List ℕ) (lent : Slices) (refusal : ℕ) (later : Slices) : Type 0 where
  pub promised : ReadPromise bytes lent.knots lent.samples (answered bytes lent) later.knots later.samples
  pub refusal_is : refusal ≡ (answered bytes lent).refusal
  pub slices_are : later ≡ told (answered bytes lent) later.knots later.samples

as_read : (bytes : List ℕ) (lent : Slices) (refusal : ℕ) (later : Slices) → ReadTo bytes lent refusal later → read_own lent ≡ 0
    → AsRead bytes lent refusal later
as_read bytes lent refusal later called none =
    let answer = answered bytes lent in
    let number : refusal ≡ read_refusal bytes lent.knots lent.samples = rw none at called.answer in
    let slot : later.axes ≡ answer.axes ∷ [] = rw none at called.found.slot in
    let points : later.points ≡ points_found answer.all = rw none at called.found.points in
    let kinds : later.kinds ≡ kinds_found answer.all = rw none at called.found.kinds in
    let values : later.values ≡ values_found answer.all = rw none at called.found.values in
    let modes : later.modes ≡ modes_found answer.all = rw none at called.told.modes in
    let edition : later.edition ≡ answer.edition ∷ [] = rw none at called.told.slot in
    record {
      promised = record { answer = refl; knots = rw none at called.knots; samples = rw none at called.samples };
      refusal_is = number ∙ sym (answer_refusal _ _ _ _);
      slices_are = rw (← slot, ← points, ← kinds, ← values, ← modes, ← edition) refl;
    }

-- ---- a write that the host itself does not refuse is one of `write`

-- the answer that a write without the host gives
abbrev written : Parts → List ℕ → WriteAnswer
written parts buffer = write_answer parts.edition (grid_of parts) parts.samples buffer

pub record AsWrite (parts : Parts) (buffer slot : List ℕ) (refusal : ℕ) (b l : List ℕ) : Type 0 where
  pub promised : WritePromise parts.edition (grid_of parts) parts.samples buffer (written parts buffer) b
  pub refusal_is : refusal ≡ (written parts buffer).refusal
  pub slot_is : length slot ≡ 1 → l ≡ (written parts buffer).length ∷ []

as_write :
    (parts : Parts) (buffer slot : List ℕ) (refusal : ℕ) (b l : List ℕ)
    → WriteFrom parts buffer slot refusal b l
    → write_own parts slot ≡ 0
    → AsWrite parts buffer slot refusal b l
unfolding write_answer
as_write parts buffer slot refusal b l called none =
    let place : l ≡ in_slot slot (written parts buffer).length = rw none at called.slot in
    record {
      promised = record { answer = refl; output = rw none at called.output };
      refusal_is = rw none at called.answer;
      slot_is = λ one. place ∙ rw (length_fits (length slot) 1 one);
    }

-- ---- what a read that was not refused handed over

-- the parts of a sheet as they are handed over
abbrev sheet_parts : List ℕ → Parts
sheet_parts bytes = record {
  axes = axes_said bytes;
  points = points_found (entries bytes (axes_said bytes));
  kinds = kinds_found (entries bytes (axes_said bytes));
  values = values_found (entries bytes (axes_said bytes));
  modes = modes_found (entries bytes (axes_said bytes));
  knots = knots_below bytes (axes_said bytes);
  samples = sheet_samples bytes;
  edition = edition_said bytes;
}

sheet_grid_again : (bytes : List ℕ) → grid_of (sheet_parts bytes) ≡ sheet_grid bytes
unfolding sheet_grid
sheet_grid_again bytes =
    ap (λ (all : List Axis). grid (axes_said bytes) all (knots_below bytes (axes_said bytes)))
    (sheet_axes_in_modes_again bytes (axes_said bytes))

-- parts that pass the checks, and are a sheet's
checks_of :
    (bytes : List ℕ) (given : Parts) → given ≡ sheet_parts bytes → parts_refusal given ≡ 0
    → no_sheet_refusal (sheet_grid bytes) (sheet_samples bytes) ≡ 0
checks_of bytes given same none =
    ap (λ (g : Grid). no_sheet_refusal g (sheet_samples bytes)) (sym (sheet_grid_again bytes)) ∙ sym (ap parts_refusal same) ∙ none

module _ (bytes : List ℕ) (taken : sheet_refusal bytes ≡ 0) where
  sheet_standing : Standing (sheet_parts bytes)
  sheet_standing =
      let few = (accepted bytes taken).said.few in
      let fine = sheet_axes_fine bytes (axes_said bytes) few in
      let modes_fine = sheet_modes_fine bytes (axes_said bytes) few in
      record {
        four_points = fine.points_four;
        eight_kinds = fine.kinds_eight;
        eight_values = fine.values_eight;
        four_modes = modes_fine.0;
        kinds_stand = fine.kinds_stand;
        modes_stand = modes_fine.1;
      }

  -- so many are its knots and its samples, by the points that are handed over
  abbrev sizes : Grid
  sizes = sizes_given (axes_said bytes) (sheet_parts bytes).points

  knots_many : length (knots_below bytes (axes_said bytes)) ≡ knots_length sizes
  unfolding sheet_grid
  knots_many =
      (sizes_of_parts bytes taken).knots
      ∙ sym (ap knots_length (sheet_grid_again bytes))
      ∙ sym (same_sizes (sheet_parts bytes) (λ n. sum_below n (axes_said bytes)))

  samples_many : length (sheet_samples bytes) ≡ samples_length sizes
  samples_many =
      (sizes_of_parts bytes taken).samples
      ∙ sym (ap samples_length (sheet_grid_again bytes))
      ∙ sym (same_sizes (sheet_parts bytes) (λ n. product_below n (axes_said bytes)))

-- the sheet is accepted, and its parts are those that were handed over
module _ (bytes : List ℕ) (lent read : Slices) (called : ReadTo bytes lent 0 read) where
  abbrev found : ReadAnswer
  found = record { refusal = 0; edition = edition_said bytes; axes = axes_said bytes; all = entries bytes (axes_said bytes) }

  as_called : AsRead bytes lent 0 read
  as_called =
      as_read bytes lent 0 read called
      (or_else_passed (read_own lent) (read_refusal bytes lent.knots lent.samples) (sym called.answer)).0

  given :
      (sheet_refusal bytes ≡ 0)
      × (answered bytes lent ≡ found)
      × (read.knots ≡ over (knots_below bytes (axes_said bytes)) lent.knots)
      × (read.samples ≡ over (sheet_samples bytes) lent.samples)
  given =
      read_accepts bytes lent.knots lent.samples (answered bytes lent) read.knots read.samples
      as_called.promised (sym as_called.refusal_is)

  taken : sheet_refusal bytes ≡ 0
  taken = given.0

  read_is : read ≡ told found (over (knots_below bytes (axes_said bytes)) lent.knots) (over (sheet_samples bytes) lent.samples)
  read_is = as_called.slices_are ∙ same_told given.1 given.2 given.3

  parts_are : parts_of read ≡ sheet_parts bytes
  parts_are =
      ap parts_of read_is
      ∙ rw (
        take_over (knots_below bytes (axes_said bytes)) lent.knots _ (knots_many bytes taken),
        take_over (sheet_samples bytes) lent.samples _ (samples_many bytes taken),
      )

-- ---- 1

pub one_sheet_handed : OneSheet
one_sheet_handed bytes other all all' lent read called lent' read' called' same none =
    let first = parts_are bytes lent read called in
    let second = parts_are other lent' read' called' in
    let same_parts : sheet_parts bytes ≡ sheet_parts other = sym first ∙ same ∙ second in
    one_sheet bytes other all all' (taken bytes lent read called) (taken other lent' read' called')
    (ap (λ (p : Parts). p.edition) same_parts)
    (sym (sheet_grid_again bytes) ∙ ap grid_of same_parts ∙ sheet_grid_again other)
    (ap (λ (p : Parts). p.samples) same_parts)
    (checks_of bytes (parts_of read) first none)

-- ---- 2

-- parts that pass the checks are written, in an edition that is not refused and where their sheet has room
pub written_handed :
    (parts : Parts) → Standing parts → parts_refusal parts ≡ 0 → edition_refusal parts.edition (grid_of parts) ≡ 0
    → (buffer slot : List ℕ) → length (sheet_of parts.edition (grid_of parts) parts.samples) ≤ length buffer → length slot ≡ 1
    → (refusal : ℕ) (b l : List ℕ) → WriteFrom parts buffer slot refusal b l
    → refusal ≡ 0
written_handed parts fine none told_edition buffer slot room one refusal b l call =
    let wrote = as_write parts buffer slot refusal b l call (write_accepted parts slot fine one none) in
    wrote.refusal_is ∙ write_refuses_no_sheet _ _ _ buffer _ b wrote.promised none told_edition room

module _ (parts : Parts) (slot : List ℕ) (own : Passed parts slot) where
  parts_held : NumbersHeld parts → PartsHeld (grid_of parts) parts.samples
  parts_held held = record {
    knots_held = each_at _ parts.knots (λ k l. held.knots_held k);
    samples_held = each_at _ parts.samples (λ k l. held.samples_held k);
    ends_held = ends_held parts own.few_axes held.values_held;
  }

  -- the answer with these parts
  abbrev parts_answer : ReadAnswer
  parts_answer = record { refusal = 0; edition = parts.edition; axes = parts.axes; all = in_use (grid_of parts) }

  -- fills the slices with them
  filled_is : (lent : Slices)
      → told parts_answer (over parts.knots lent.knots) (over parts.samples lent.samples) ≡ filled parts lent
  filled_is lent =
      let used = in_use_given parts in
      cc (
        ap points_found used ∙ points_told parts,
        ap kinds_found used ∙ kinds_told parts own.kinds_stand,
        ap values_found used ∙ values_told parts own.kinds_stand,
        ap modes_found used ∙ modes_told parts own.modes_stand,
      )

pub read_back_handed : ReadBack
read_back_handed parts held buffer slot b l call lent long refusal read called =
    let none : write_own parts slot ≡ 0 = (or_else_passed (write_own parts slot) _ (sym call.answer)).0 in
    let own = write_passed parts slot none in
    let wrote = as_write parts buffer slot 0 b l call none in
    let answer = written parts buffer in
    let front = take answer.length b in
    let place : in_place l ≡ answer.length = ap in_place (wrote.slot_is own.one_slot) in
    let called_front : ReadTo front lent refusal read = subst (λ (n : ℕ). ReadTo (take n b) lent refusal read) place called in
    let reads = as_read front lent refusal read called_front (read_accepted lent long) in
    let back =
    read_of_written parts.edition (grid_of parts) parts.samples buffer answer b (parts_held parts slot own held)
    wrote.promised (sym wrote.refusal_is)
    lent.knots lent.samples (answered front lent) read.knots read.samples long.knots_long long.samples_long
    reads.promised in (
      reads.refusal_is ∙ ap (λ (r : ReadAnswer). r.refusal) back.0,
      reads.slices_are ∙ same_told back.0 back.1 back.2 ∙ filled_is parts slot own lent,
    )

-- ---- 3

pub written_back_handed : WrittenBack
written_back_handed bytes all lent read called none buffer slot room one refusal b l call =
    let first = parts_are bytes lent read called in
    let sound = taken bytes lent read called in
    let parts = sheet_parts bytes in
    let passed : parts_refusal parts ≡ 0 = subst (λ (p : Parts). parts_refusal p ≡ 0) first none in
    let own = write_accepted parts slot (sheet_standing bytes sound) one passed in
    let wrote = as_write parts buffer slot refusal b l (subst (λ (p : Parts). WriteFrom p buffer slot refusal b l) first call) own in
    let checks = checks_of bytes (parts_of read) first none in
    let back = written_own bytes all sound checks buffer room refl (sheet_grid_again bytes) refl wrote.promised in
    (wrote.refusal_is ∙ back.0, back.2, wrote.slot_is one ∙ ap (λ (n : ℕ). n ∷ []) back.1)
