-- The turns of the walks over the axes, on plain lists: the first fault, and what holds where there is none.
use mathlib.Core.Path.{◌≡◌, refl, sym, subst, ◌∙◌}
use mathlib.Core.Bool.{false}
use mathlib.Core.Logic.{⊎_elim}
use mathlib.Core.List.{List}
use Prim.Native.Nat.{ℕ, zero, suc, ◌+◌, ◌*◌, ◌<◌, ◌≤◌}
use native.Mathlib.Nat.{not-suc-le-zero, le_of_suc-le-suc, eq-or-lt_of_le}
use native.Mathlib.Numerals.{add-one}
use native.Mathlib.Omega.{arith}
use borrow.Author.Tests.{ltb-false}
use lib.ListN.{length, set, replicate}
use Rattle.std.specs.Prelude.{Ok, Err}
use Rattle.rules.specs.Answers.{number_of}
use Rattle.rules.specs.Sizes.{unused_axis}
use Rattle.rules.specs.Refusals.{points_refused}
use Rattle.rules.specs.Calls.{or_else}
use Rattle.rules.specs.declared.Axis.{Axis}
use Rattle.rules.specs.declared.Refusal.{Refusal}
use Rattle.rules.proofs.Given.{number_some}
use Rattle.rules.proofs.Refused.{or_else_met, or_else_passed}
use Rattle.base_bits.specs.Bits.{short, numbers_short}
use Rattle.grid_codes.specs.Kinds.{periodic_at_one_end}
use Rattle.grid_codes.specs.Modes.{unknown_mode}
use Rattle.rules.proofs.Cases.{passed}
use Rattle.sheet_read.specs.Fields.{
  mode_bits,
  points_at,
  lower_kind,
  upper_kind,
  mode_said,
  values_at,
  values_begin,
  axis_at,
  axis_end,
  axis_begin,
  entries,
}
use Rattle.sheet_read.specs.Faults.{axis_fault, axes_fault}
use Rattle.sheet_read.specs.FoundSoFar.{Whole, Walked}
use Rattle.base_bits.proofs.Runs.{short_together}
use Rattle.sheet_read.proofs.Extents.{extent, begin_most}

-- ---- faults one after the other

-- one axis more
axes_fault_next : (bytes : List ℕ) (i : ℕ) → axes_fault bytes (suc i) ≡ or_else (axes_fault bytes i) (axis_fault bytes (axis_begin bytes i))
unfolding axes_fault
axes_fault_next bytes i = refl

pub begin_next : (bytes : List ℕ) (i : ℕ) → axis_begin bytes (suc i) ≡ axis_end bytes (axis_begin bytes i)
unfolding axis_begin
begin_next bytes i = refl

-- the first fault is that of all axes
first_fault : (bytes : List ℕ) (i fault n : ℕ) → axes_fault bytes (suc i) ≡ fault → (fault ≡ 0 → ⊥) → i < n → axes_fault bytes n ≡ fault
unfolding axes_fault
first_fault bytes i fault zero e met l = absurd (not-suc-le-zero l)
first_fault bytes i fault (suc n) e met l =
    ⊎_elim (λ q. subst (λ (k : ℕ). axes_fault bytes (suc k) ≡ fault) q e)
    (λ m.
    let before = first_fault bytes i fault n e met m in
    or_else_met (axes_fault bytes n) _ (λ z. met (sym before ∙ z)) ∙ before)
    (eq-or-lt_of_le (le_of_suc-le-suc l))

-- where all axes have no fault, each has none
pub each_faultless : (bytes : List ℕ) (n i : ℕ) → axes_fault bytes n ≡ 0 → i < n → axis_fault bytes (axis_begin bytes i) ≡ 0
unfolding axes_fault
each_faultless bytes zero i e l = absurd (not-suc-le-zero l)
each_faultless bytes (suc n) i e l =
    let both = or_else_passed (axes_fault bytes n) (axis_fault bytes (axis_begin bytes n)) e in
    ⊎_elim (λ q. subst (λ (k : ℕ). axis_fault bytes (axis_begin bytes k) ≡ 0) (sym q) both.1)
    (λ m. each_faultless bytes n i both.0 m)
    (eq-or-lt_of_le (le_of_suc-le-suc l))

-- an axis without a fault has enough points, all of it is there, Periodic stands at both ends or at none, and there is such a mode
pub faultless_axis :
    (bytes : List ℕ) (at : ℕ)
    → axis_fault bytes at ≡ 0
    → (points_refused (points_at bytes at) ≡ false)
    × (axis_end bytes at ≤ 8 * length bytes)
    × (periodic_at_one_end (lower_kind bytes at) (upper_kind bytes at) ≡ false)
    × (unknown_mode (mode_said bytes at) ≡ false)
unfolding axis_fault
faultless_axis bytes at e =
    let n = values_at bytes at + points_at bytes at in
    let a = passed (short bytes at 8) 10 _ e in
    let b = passed (points_refused (points_at bytes at)) 1 _ a.1 in
    let c = passed (short bytes (at + 8) 2) 10 _ b.1 in
    let d = passed (short bytes (at + 10) 2) 10 _ c.1 in
    let f = passed (periodic_at_one_end (lower_kind bytes at) (upper_kind bytes at)) 12 _ d.1 in
    let m = passed (short bytes (at + 12) (mode_bits bytes)) 10 _ f.1 in
    let k = passed (unknown_mode (mode_said bytes at)) 21 _ m.1 in
    let g = passed (numbers_short bytes (values_begin bytes at) n) 10 0 k.1 in
    let reach = extent bytes at in
    let room : values_begin bytes at + 64 * n ≤ 8 * length bytes =
    ltb-false _ _ (short_together bytes (values_begin bytes at) n (omega arith) ∙ g.0) in
    (b.0, omega arith, f.0, k.0)

-- one of the four axes that has no fault is there, at a small place
pub whole : (bytes : List ℕ) (i : ℕ) → i < 4 → axis_fault bytes (axis_begin bytes i) ≡ 0 → Whole bytes (axis_begin bytes i)
whole bytes i few e = record {
  room = (faultless_axis bytes (axis_begin bytes i) e).1;
  small = let most = begin_most bytes i in omega arith;
}

-- ---- looking

pub record Turn (bytes : List ℕ) (n : ℕ) (all : List Axis) (at i : ℕ) : Type 0 where
  pub few : n ≤ 4
  pub most : i ≤ n
  pub faultless : axes_fault bytes i ≡ 0
  pub place : at ≡ axis_begin bytes i
  pub small : at ≤ 131072
  pub done : all ≡ entries bytes i

pub turn_first : (bytes : List ℕ) (n : ℕ) → n ≤ 4 → Turn bytes n (replicate 4 unused_axis) 7 0
unfolding axes_fault axis_begin entries
turn_first bytes n few = record {
  few = few;
  most = omega arith;
  faultless = refl;
  place = refl;
  small = omega arith;
  done = refl;
}

-- one axis more is stored
entries_next : (bytes : List ℕ) (i : ℕ) → i < 4 → set (entries bytes i) i (axis_at bytes (axis_begin bytes i)) ≡ entries bytes (suc i)
unfolding entries
entries_next bytes zero h = refl
entries_next bytes (suc zero) h = refl
entries_next bytes (suc (suc zero)) h = refl
entries_next bytes (suc (suc (suc zero))) h = refl
entries_next bytes (suc (suc (suc (suc i)))) h = absurd (omega arith)

module _ (bytes : List ℕ) (n : ℕ) (all : List Axis) (at i : ℕ) (t : Turn bytes n all at i) (l : i < n) where
  here : (fault : ℕ) → fault ≡ axis_fault bytes at → axes_fault bytes (suc i) ≡ fault
  here fault e = rw (axes_fault_next bytes i, t.faultless, ← t.place) (sym e)

  pub turn_fault : (refusal : Refusal) → number_of refusal ≡ axis_fault bytes at → Walked bytes n (Err refusal)
  turn_fault refusal e = record {
    fault = sym (first_fault bytes i (number_of refusal) n (here (number_of refusal) e) (number_some refusal) l);
    found = tt;
  }

  -- the axis at hand is there
  pub turn_whole : axis_fault bytes at ≡ 0 → Whole bytes at
  turn_whole e = rw t.place (whole bytes i (omega (arith, t.few)) (rw t.place at e))

  pub turn_next : (a : Axis) (end : ℕ) → axis_fault bytes at ≡ 0 → a ≡ axis_at bytes at → end ≡ axis_end bytes at
      → Turn bytes n (set all i a) end (i + 1)
  turn_next a end e f g = record {
    few = t.few;
    most = omega arith;
    faultless = rw (add-one i, axes_fault_next bytes i, t.faultless, ← t.place) e;
    place = g ∙ rw (add-one i, begin_next bytes i, t.place);
    small = let most = begin_most bytes i in let reach = extent bytes at in omega (arith, t.few, t.place);
    done = rw (t.done, f, t.place, add-one i) (entries_next bytes i (omega (arith, t.few)));
  }

pub turn_last : (bytes : List ℕ) (n : ℕ) (all : List Axis) (at i : ℕ) → Turn bytes n all at i → n ≤ i
    → Walked bytes n (Ok (record { all = all; at = at }))
turn_last bytes n all at i t ge =
    let e : i ≡ n = omega (arith, t.most) in
    record {
      fault = sym (rw e at t.faultless);
      found = record { all = rw e at t.done; end = rw e at t.place };
    }
