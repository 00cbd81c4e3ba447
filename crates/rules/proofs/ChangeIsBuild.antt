-- A change of a built tensor is the build of the changed samples, for every place of the grid; and a change keeps each number that no lane
-- of it holds.
use mathlib.Core.Path.{◌≡◌, refl, sym, ap, ap₂, ◌∙◌, subst}
use mathlib.Core.List.{List}
use mathlib.Core.Bool.{Bool, true, false, cond, ◌&&◌, ◌||◌}
use Prim.Native.Nat.{ℕ, zero, suc, ◌+◌, ◌-◌, ◌/◌, ◌^◌, ◌<◌, ◌≤◌}
use native.Mathlib.Omega.{arith}
use native.Mathlib.Nat.{mod-lt, lt_of_lt_of_le, le-add_right}
use lib.Arith.{digits_lt, digits_div, digits_mod}
use lib.Dec.{ltb, eqb}
use lib.ListN.{length, set}
use lib.Pow.{pow_pos, pow_mono}
use lib.Seq.{get_or-set_same, get_or-set_other}
use borrow.Author.Tests.{eqb-true, eq-eqb, ltb-true, lt-ltb}
use lib.Ieee.{Float, nan}
use Rattle.rules.specs.Numbers.{at}
use Rattle.rules.specs.Sizes.{Grid, points, samples_length, tensor_length, masks, Place, moved, flat, unflat, spot, in_mask}
use Rattle.rules.specs.Tensor.{entry, sample, tensor, place_at, mask_at}
use Rattle.rules.specs.Change.{agree, can_differ, with_sample, changed_entry, changed_tensor}
use Rattle.rules.proofs.Cases.{arms_ext, arms_one, not_both, both_left}
use Rattle.rules.proofs.Tables.{at_table, table_ext}
use Rattle.rules.proofs.Places.{
  OnGrid,
  One,
  below_or_last,
  moved_on_grid,
  flat_below,
  flat_ext,
  unflat_flat,
  unflat_on_grid,
  flat_one,
}
use Rattle.rules.proofs.Locality.{rest_below, rest_and_top, slope_along_ext, entry_low, entry_high, locality}

-- ---- two places that agree

both_right : (a b : Bool) → a && b ≡ true → b ≡ true
both_right true b e = e
both_right false b e = not_both false e refl

both : (a b : Bool) → a ≡ true → b ≡ true → a && b ≡ true
both true b e f = f
both false b e f = e

free_or_equal : (free : Bool) (a b : ℕ) → (free ≡ false → a ≡ b) → free || eqb a b ≡ true
free_or_equal true a b same = refl
free_or_equal false a b same = eq-eqb a b (same refl)

-- q is c, and p is q wherever it is not free: then p agrees with c
agree_of_same :
    (free : ℕ → Bool) (d : ℕ) (p q c : Place) → ((j : ℕ) → free j ≡ false → q j ≡ p j)
    → agree (λ j. false) d q c ≡ true → agree free d p c ≡ true
unfolding agree
agree_of_same free zero p q c same e = refl
agree_of_same free (suc d) p q c same e =
    both _ _
    (free_or_equal (free d) (p d) (c d) (λ fixed.
    sym (same d fixed) ∙ eqb-true (q d) (c d) (both_left (eqb (q d) (c d)) (agree (λ j. false) d q c) e)))
    (agree_of_same free d p q c same (both_right (eqb (q d) (c d)) (agree (λ j. false) d q c) e))

-- agreeing with no axis free is being one place
same_is_one : (d : ℕ) (q c : Place) → agree (λ j. false) d q c ≡ true → One d q c
unfolding agree
same_is_one zero q c e j below = absurd (omega arith)
same_is_one (suc d) q c e j below =
    below_or_last (λ (j : ℕ). q j ≡ c j) d j
    (eqb-true (q d) (c d) (both_left (eqb (q d) (c d)) (agree (λ j. false) d q c) e))
    (λ before. same_is_one d q c (both_right (eqb (q d) (c d)) (agree (λ j. false) d q c) e) j before)
    below

one_is_same : (d : ℕ) (q c : Place) → One d q c → agree (λ j. false) d q c ≡ true
unfolding agree
one_is_same zero q c one = refl
one_is_same (suc d) q c one = both _ _ (eq-eqb (q d) (c d) (one d (omega arith))) (one_is_same d q c (λ j below. one j (omega arith)))

-- ---- what a change keeps

-- samples' is samples with v at c
abbrev pub WithSample : Grid → (Place → Float) → Place → Float → (Place → Float) → Type 0
WithSample g samples c v samples' =
    (q q' : Place) → OnGrid (points g) g.axes q → One g.axes q q' → with_sample g samples c v q ≡ samples' q'

unchanged_sample :
    (g : Grid) (samples : Place → Float) (c : Place) (v : Float) (q : Place) (b : Bool)
    → agree (λ j. false) g.axes q c ≡ b → (b ≡ true → ⊥) → samples q ≡ with_sample g samples c v q
unfolding with_sample
unchanged_sample g samples c v q true e other = absurd (other refl)
unchanged_sample g samples c v q false e other = sym (ap (λ (t : Bool). cond t v (samples q)) e)

-- a number over the axes of a mask keeps its bits wherever the place differs from the changed one on an axis outside the mask
pub kept :
    (g : Grid) (samples : Place → Float) (c : Place) (v : Float) (samples' : Place → Float) → WithSample g samples c v samples'
    → (i mask : ℕ) (p : Place) → i ≤ g.axes → mask < 2 ^ i → OnGrid (points g) g.axes p
    → agree (in_mask mask) g.axes p c ≡ false
    → entry g samples i mask p ≡ entry g samples' i mask p
kept g samples c v samples' is i mask p le lt on differs =
    locality g samples samples' i mask p p le lt on (λ j below. refl)
    (λ q q' on_q one agrees.
    unchanged_sample g samples c v q (agree (λ j. false) g.axes q c) refl
    (λ same. not_both (agree (in_mask mask) g.axes p c) (agree_of_same (in_mask mask) g.axes p q c agrees same) differs)
    ∙ is q q' on_q one)

-- ---- by place and mask

differs_outside :
    (g : Grid) (c : Place) (i mask : ℕ) (p : Place) → ltb mask (2 ^ i) ≡ false
    → can_differ g c i (mask - 2 ^ i) p ≡ false → agree (in_mask mask) g.axes p c ≡ false
unfolding can_differ
differs_outside g c i mask p high e = subst (λ (m : ℕ). agree (in_mask m) g.axes p c ≡ false) (rest_and_top i mask high) e

changed_entry_is_entry :
    (g : Grid) (samples : Place → Float) (c : Place) (v : Float) (samples' : Place → Float) → WithSample g samples c v samples'
    → (old : Place → ℕ → Float)
    → ((i mask : ℕ) (p : Place) → i ≤ g.axes → mask < 2 ^ i → OnGrid (points g) g.axes p → old p mask ≡ entry g samples i mask p)
    → (i mask : ℕ) (p : Place) → i ≤ g.axes → mask < 2 ^ i → OnGrid (points g) g.axes p
    → changed_entry g c v old i mask p ≡ entry g samples' i mask p
unfolding changed_entry entry with_sample
changed_entry_is_entry g samples c v samples' is old built zero mask p le lt on =
    ap (λ (w : Float). cond (agree (λ j. false) g.axes p c) v w) (built 0 0 p (omega arith) (omega arith) on)
    ∙ is p p on (λ j below. refl)
changed_entry_is_entry g samples c v samples' is old built (suc i) mask p le lt on =
    arms_ext (ltb mask (2 ^ i))
    (λ low. changed_entry_is_entry g samples c v samples' is old built i mask p (omega arith) (ltb-true mask (2 ^ i) low) on)
    (λ high.
    arms_one (can_differ g c i (mask - 2 ^ i) p)
    (λ solved.
    slope_along_ext g i (mask - 2 ^ i) (changed_entry g c v old i (mask - 2 ^ i)) (entry g samples' i (mask - 2 ^ i)) p p refl
    (λ k below.
    changed_entry_is_entry g samples c v samples' is old built i (mask - 2 ^ i) (moved p i k) (omega arith) (rest_below i mask lt high)
    (moved_on_grid (points g) g.axes i k p on below)))
    (λ left.
    built (suc i) mask p le lt on
    ∙ kept g samples c v samples' is (suc i) mask p le lt on (differs_outside g c i mask p high left)
    ∙ entry_high g samples' i mask p high))

-- ---- on the lists

-- a mask below 2^i: the axes from i on add nothing
entry_of_more : (g : Grid) (samples : Place → Float) (more i mask : ℕ) (p : Place) → mask < 2 ^ i
    → entry g samples (i + more) mask p ≡ entry g samples i mask p
entry_of_more g samples zero i mask p lt = ap (λ (k : ℕ). entry g samples k mask p) (let e : i + 0 ≡ i = omega arith in e)
entry_of_more g samples (suc more) i mask p lt =
    ap (λ (k : ℕ). entry g samples k mask p) (let e : i + suc more ≡ suc (i + more) = omega arith in e)
    ∙ entry_low g samples (i + more) mask p (lt-ltb mask (2 ^ (i + more)) (lt_of_lt_of_le lt (pow_mono (le-add_right i more))))
    ∙ entry_of_more g samples more i mask p lt

-- what stands in a built tensor
pub built_entry :
    (g : Grid) (samples : List Float) (i mask : ℕ) (p : Place) → i ≤ g.axes → mask < 2 ^ i → OnGrid (points g) g.axes p
    → at (tensor g samples) (spot g p mask) ≡ entry g (sample g samples) i mask p
unfolding tensor sample
built_entry g samples i mask p le lt on =
    let small : mask < masks g = lt_of_lt_of_le lt (pow_mono le) in
    let f : ℕ = flat (points g) g.axes p in
    let split : g.axes ≡ i + (g.axes - i) = omega arith in
    at_table (tensor_length g) _ (spot g p mask) nan (digits_lt (flat_below (points g) g.axes p on) small)
    ∙ ap₂ (λ (m q : ℕ). entry g (sample g samples) g.axes m (unflat (points g) g.axes q)) (digits_mod f small) (digits_div f small)
    ∙ sym (locality g (sample g samples) (sample g samples) g.axes mask p (unflat (points g) g.axes f) (omega arith) small on
    (λ j below. sym (unflat_flat (points g) g.axes p on j below))
    (λ q q' on_q one agrees. ap (at samples) (flat_ext (points g) g.axes q q' one)))
    ∙ ap (λ (k : ℕ). entry g (sample g samples) k mask p) split
    ∙ entry_of_more g (sample g samples) (g.axes - i) i mask p lt

-- storing a sample in the list stores it at its place
pub set_is_with_sample :
    (g : Grid) (samples : List Float) (c : Place) (v : Float) → OnGrid (points g) g.axes c → length samples ≡ samples_length g
    → WithSample g (sample g samples) c v (sample g (set samples (flat (points g) g.axes c) v))
unfolding with_sample sample
set_is_with_sample g samples c v on_c exact q q' on_q one = go (agree (λ j. false) g.axes q c) refl
  where
    n : ℕ → ℕ
    n = points g

    d : ℕ
    d = g.axes

    go : (b : Bool) → agree (λ j. false) d q c ≡ b → cond b v (at samples (flat n d q)) ≡ at (set samples (flat n d c) v) (flat n d q')
    go true e =
        sym (ap (at (set samples (flat n d c) v)) (sym (flat_ext n d q q' one) ∙ flat_ext n d q c (same_is_one d q c e))
        ∙ get_or-set_same samples (flat n d c) v nan (subst (λ (k : ℕ). flat n d c < k) (sym exact) (flat_below n d c on_c)))
    go false e =
        ap (at samples) (flat_ext n d q q' one)
        ∙ sym (get_or-set_other samples (flat n d c) (flat n d q') v nan
        (λ t. not_both (agree (λ j. false) d q c) (one_is_same d q c (flat_one n d q c on_q on_c (flat_ext n d q q' one ∙ t))) e))

-- A change of a built tensor is the build of the changed samples.
pub change_is_build :
    (g : Grid) (samples : List Float) (c : Place) (v : Float)
    → OnGrid (points g) g.axes c → length samples ≡ samples_length g
    → changed_tensor g c v (tensor g samples) ≡ tensor g (set samples (flat (points g) g.axes c) v)
unfolding changed_tensor tensor
change_is_build g samples c v on_c exact =
    table_ext (tensor_length g) _ _ (λ e below.
    changed_entry_is_entry g (sample g samples) c v (sample g (set samples (flat (points g) g.axes c) v))
    (set_is_with_sample g samples c v on_c exact) _
    (λ i mask p le lt on. built_entry g samples i mask p le lt on)
    g.axes (mask_at g e) (place_at g e) (omega arith) (mod-lt e (pow_pos g.axes))
    (unflat_on_grid (points g) g.axes (e / masks g) (λ j below. omega (arith, on_c j below))))
