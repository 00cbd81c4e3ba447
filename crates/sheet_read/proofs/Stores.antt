-- The turns of the walk that stores the knots, on plain lists: those of the axes that were passed stand in the first places.
use mathlib.Core.Path.{◌≡◌, refl, sym, ap, ◌∙◌}
use mathlib.Core.List.{List, ◌++◌, append_assoc}
use mathlib.Core.Logic.{⊎_elim}
use Prim.Native.Nat.{ℕ, zero, suc, ◌+◌, ◌-◌, ◌*◌, ◌<◌, ◌≤◌}
use native.Mathlib.Nat.{le_refl, le_of_suc-le-suc, eq-or-lt_of_le}
use native.Mathlib.Numerals.{add-one}
use native.Mathlib.Omega.{arith}
use lib.ListN.{length, take, drop, length-append, length-take, length-drop}
use lib.Seq.{take_at, drop_at, drop-drop}
use lib.Ieee.{Float}
use Rattle.rules.proofs.Tables.{length_table}
use Rattle.base_bits.specs.Bits.{numbers}
use Rattle.sheet_read.specs.Fields.{points_at, knots_at, knots_begin, axis_end, axis_begin, knots_below}
use Rattle.sheet_read.specs.Read.{over}
use Rattle.sheet_read.specs.FoundSoFar.{Whole, NoFault}
use Rattle.sheet_read.proofs.Extents.{extent}
use Rattle.sheet_read.proofs.Walks.{each_faultless, whole, begin_next}

-- numbers behind those that stand in the first places
over_more : (first more old : List Float) (a k : ℕ) → length first ≡ a → length more ≡ k
    → take a (over first old) ++ (more ++ drop k (drop a (over first old))) ≡ over (first ++ more) old
over_more first more old a k e f =
    rw (
      take_at first (drop (length first) old) a e,
      drop_at first (drop (length first) old) a e,
      drop-drop k (length first) old,
      length-append first more,
      ← f,
      append_assoc first more,
    )

pub knots_below_next : (bytes : List ℕ) (i : ℕ) → knots_below bytes (suc i) ≡ knots_below bytes i ++ knots_at bytes (axis_begin bytes i)
unfolding knots_below
knots_below_next bytes i = refl

knots_at_is : (bytes : List ℕ) (at : ℕ) → knots_at bytes at ≡ numbers bytes (knots_begin bytes at) (points_at bytes at)
unfolding knots_at
knots_at_is bytes at = refl

pub length_knots_at : (bytes : List ℕ) (at : ℕ) → length (knots_at bytes at) ≡ points_at bytes at
length_knots_at bytes at = rw (knots_at_is bytes at) (length_table (points_at bytes at) _)

knots_sum_next : (bytes : List ℕ) (i : ℕ)
    → length (knots_below bytes (suc i)) ≡ length (knots_below bytes i) + points_at bytes (axis_begin bytes i)
knots_sum_next bytes i = rw (knots_below_next bytes i, length-append, length_knots_at bytes (axis_begin bytes i))

-- more axes have no fewer knots
knots_grow : (bytes : List ℕ) (i n : ℕ) → i ≤ n → length (knots_below bytes i) ≤ length (knots_below bytes n)
knots_grow bytes i zero l = let e : i ≡ 0 = omega arith in rw e (le_refl _)
knots_grow bytes i (suc n) l =
    ⊎_elim (λ (e : i ≡ suc n). rw e (le_refl _))
    (λ (m : i < suc n). let before = knots_grow bytes i n (le_of_suc-le-suc m) in let next = knots_sum_next bytes n in omega arith)
    (eq-or-lt_of_le l)

pub record Turn (bytes : List ℕ) (n : ℕ) (knots₀ knots : List Float) (at from i : ℕ) : Type 0 where
  pub no_fault : NoFault bytes n
  pub lent : length (knots_below bytes n) ≤ length knots₀
  pub most : i ≤ n
  pub place : at ≡ axis_begin bytes i
  pub filled : from ≡ length (knots_below bytes i)
  pub reach : from ≤ 256 * i
  pub same_length : length knots ≡ length knots₀
  pub done : knots ≡ over (knots_below bytes i) knots₀

pub turn_first : (bytes : List ℕ) (n : ℕ) (knots : List Float) → NoFault bytes n → length (knots_below bytes n) ≤ length knots
    → Turn bytes n knots knots 7 0 0
unfolding axis_begin knots_below
turn_first bytes n knots s e = record {
  no_fault = s;
  lent = e;
  most = omega arith;
  place = refl;
  filled = refl;
  reach = omega arith;
  same_length = refl;
  done = refl;
}

module _ (bytes : List ℕ) (n : ℕ) (knots₀ knots : List Float) (at from i p : ℕ)
    (t : Turn bytes n knots₀ knots at from i) (l : i < n) (e : p ≡ points_at bytes at) where
  -- the axis at hand is there, and so are the places of its knots
  pub turn_whole : Whole bytes at
  turn_whole = rw t.place (whole bytes i (omega (arith, t.no_fault.few)) (each_faultless bytes n i t.no_fault.faultless l))

  pub turn_room : from + p ≤ length knots₀
  turn_room =
      let grown = knots_grow bytes (suc i) n l in
      let next = knots_sum_next bytes i in
      let here : points_at bytes (axis_begin bytes i) ≡ p = rw (← t.place) (sym e) in
      omega (arith, t.filled, t.lent)

  pub turn_small : from + p ≤ 1024
  turn_small = let here = extent bytes at in omega (arith, t.reach, t.no_fault.few)

  pub part_length : length (take (from + p - from) (drop from knots)) ≡ p
  part_length = rw (length-take, length-drop) (omega (arith, turn_room, t.same_length))

  module _ (new : List Float) (begin : ℕ) (b : begin ≡ knots_begin bytes at)
      (f : new ≡ numbers bytes begin (length (take (from + p - from) (drop from knots)))) where
    new_is : new ≡ knots_at bytes at
    new_is = f ∙ rw (part_length, b, e, knots_at_is bytes at)

    new_length : length new ≡ p
    new_length = ap length new_is ∙ length_knots_at bytes at ∙ sym e

    pub turn_next : (end : ℕ) → end ≡ axis_end bytes at
        → Turn bytes n knots₀ (take from knots ++ (new ++ drop (from + p - from) (drop from knots))) end (from + p) (i + 1)
    turn_next end g =
        let q : from + p - from ≡ p = omega arith in
        record {
          no_fault = t.no_fault;
          lent = t.lent;
          most = omega arith;
          place = g ∙ rw (add-one i, begin_next bytes i, t.place);
          filled = rw (add-one i, knots_below_next bytes i, length-append, ← t.filled, ← t.place, length_knots_at bytes at, e);
          reach = let here = extent bytes at in omega (arith, t.reach);
          same_length =
              rw (length-append, length-append, length-take, length-drop, length-drop, new_length)
              (omega (arith, turn_room, t.same_length));
          done =
              rw (q, t.done, new_is, add-one i, knots_below_next bytes i, ← t.place)
              (over_more (knots_below bytes i) (knots_at bytes at) knots₀ from p (sym t.filled) (length_knots_at bytes at ∙ sym e));
        }

pub turn_last : (bytes : List ℕ) (n : ℕ) (knots₀ knots : List Float) (at from i : ℕ) → Turn bytes n knots₀ knots at from i → n ≤ i
    → (at ≡ axis_begin bytes n) × (knots ≡ over (knots_below bytes n) knots₀)
turn_last bytes n knots₀ knots at from i t ge = let e : i ≡ n = omega (arith, t.most) in (rw e at t.place, rw e at t.done)
