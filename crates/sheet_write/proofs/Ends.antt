-- The ends of an axis as fields: how many bits they have, what is read where they stand, and that what is read stands.
use mathlib.Core.Path.{◌≡◌, refl, ap, ◌∙◌}
use mathlib.Core.Bool.{false, not}
use mathlib.Core.List.{List, []}
use mathlib.Core.Logic.{⊎_elim, ◌⊎◌, inl, inr}
use Prim.Native.Nat.{ℕ, zero, suc, ◌+◌, ◌*◌, ◌<◌}
use native.Mathlib.Nat.{eq-or-lt_of_le, le_of_suc-le-suc}
use native.Mathlib.Decide.{dec_lt}
use native.Mathlib.Omega.{arith}
use borrow.Author.Tests.{eq-eqb, ne_eqb, eqb-true, not-false}
use lib.Dec.{T, eqb, lit<}
use lib.Ieee.{Float, binary64, is_nan, of_bits}
use lib.Ieee.Bits.{of_bits-to_bits, to_bits-lt}
use Rattle.rules.specs.declared.End.{End}
use Rattle.rules.specs.declared.End.TheVariants.{NotAKnot, FirstDerivative, SecondDerivative}
use Rattle.rules.specs.declared.Condition.{Condition}
use Rattle.rules.specs.declared.Condition.TheVariants.{Endpoints, Periodic}
use Rattle.rules.proofs.Cases.{not_both}
use Rattle.grid_codes.specs.Kinds.{
  values_of_kind,
  end_of_kind,
  condition_of_kind,
  periodic_at_one_end,
  kind_of_end,
  lower_kind_of,
  upper_kind_of,
}
use Rattle.base_bits.specs.Bits.{number}
use Rattle.base_bits.specs.Written.{bits_in}
use Rattle.base_bits.proofs.Rows.{Stand, Sized, stand_first, stand_second, stand_append, bits_in_append, sized_append}
use Rattle.base_bits.proofs.Numbers.{number_stands}
use Rattle.grid_codes.proofs.Told.{lower_not_periodic}
use Rattle.sheet_write.specs.SheetOf.{end_fields, ends_fields}
use Rattle.sheet_write.specs.RoundTrip.{EndHeld, EndsHeld}

-- ---- how many bits

pub end_bits : (e : End) → bits_in (end_fields e) ≡ 64 * values_of_kind (kind_of_end e)
unfolding bits_in values_of_kind
end_bits NotAKnot = refl
end_bits (FirstDerivative value) = refl
end_bits (SecondDerivative value) = refl

-- ---- where they stand they are read

pub end_read : (bytes : List ℕ) (at : ℕ) (e : End) → EndHeld e → Stand bytes at (end_fields e)
    → end_of_kind (kind_of_end e) (number bytes at) ≡ e
unfolding Stand end_of_kind
end_read bytes at NotAKnot held s = refl
end_read bytes at (FirstDerivative value) held s = ap FirstDerivative (ap (of_bits binary64) s.0 ∙ of_bits-to_bits binary64 value held)
end_read bytes at (SecondDerivative value) held s = ap SecondDerivative (ap (of_bits binary64) s.0 ∙ of_bits-to_bits binary64 value held)

-- the condition of kinds lower and upper, whose numbers stand from bit `at` on
abbrev pub found : List ℕ → ℕ → ℕ → ℕ → Condition
found bytes at lower upper =
    condition_of_kind lower (end_of_kind lower (number bytes at)) (end_of_kind upper (number bytes (at + 64 * values_of_kind lower)))

periodic_read : (bytes : List ℕ) (at : ℕ) → found bytes at 3 3 ≡ Periodic
unfolding condition_of_kind
periodic_read bytes at = refl

pub condition_read : (bytes : List ℕ) (at : ℕ) (c : Condition) → EndsHeld c → Stand bytes at (ends_fields c)
    → found bytes at (lower_kind_of c) (upper_kind_of c) ≡ c
condition_read bytes at (Endpoints lower upper) held s =
    let second : Stand bytes (at + 64 * values_of_kind (kind_of_end lower)) (end_fields upper) =
    rw (end_bits lower) at (stand_second bytes at (end_fields lower) (end_fields upper) s) in
    rw (
      end_read bytes at lower held.0 (stand_first bytes at (end_fields lower) (end_fields upper) s),
      end_read bytes _ upper held.1 second,
    )
    (lower_not_periodic lower lower upper)
condition_read bytes at Periodic held s = periodic_read bytes at

-- ---- both ends together

no_bits : bits_in [] ≡ 64 * (values_of_kind 3 + values_of_kind 3)
unfolding bits_in values_of_kind
no_bits = refl

pub ends_bits : (c : Condition) → bits_in (ends_fields c) ≡ 64 * (values_of_kind (lower_kind_of c) + values_of_kind (upper_kind_of c))
ends_bits (Endpoints lower upper) =
    let a = end_bits lower in let b = end_bits upper in bits_in_append (end_fields lower) (end_fields upper) ∙ omega arith
ends_bits Periodic = no_bits

kind_most : (e : End) → kind_of_end e < 3
kind_most NotAKnot = lit< tt
kind_most (FirstDerivative value) = lit< tt
kind_most (SecondDerivative value) = lit< tt

pub lower_kind_most : (c : Condition) → lower_kind_of c < 4
lower_kind_most (Endpoints lower upper) = let h = kind_most lower in omega arith
lower_kind_most Periodic = lit< tt

pub upper_kind_most : (c : Condition) → upper_kind_of c < 4
upper_kind_most (Endpoints lower upper) = let h = kind_most upper in omega arith
upper_kind_most Periodic = lit< tt

end_sized : (e : End) → EndHeld e → Sized (end_fields e)
unfolding Sized
end_sized NotAKnot held = tt
end_sized (FirstDerivative value) held = (to_bits-lt binary64 value held, tt)
end_sized (SecondDerivative value) held = (to_bits-lt binary64 value held, tt)

pub ends_sized : (c : Condition) → EndsHeld c → Sized (ends_fields c)
unfolding Sized
ends_sized (Endpoints lower upper) held =
    sized_append (end_fields lower) (end_fields upper) (end_sized lower held.0) (end_sized upper held.1)
ends_sized Periodic held = tt

-- kind 3 stands at both ends or at none
pub kinds_agree : (c : Condition) → periodic_at_one_end (lower_kind_of c) (upper_kind_of c) ≡ false
unfolding periodic_at_one_end
kinds_agree (Endpoints NotAKnot NotAKnot) = refl
kinds_agree (Endpoints NotAKnot (FirstDerivative w)) = refl
kinds_agree (Endpoints NotAKnot (SecondDerivative w)) = refl
kinds_agree (Endpoints (FirstDerivative v) NotAKnot) = refl
kinds_agree (Endpoints (FirstDerivative v) (FirstDerivative w)) = refl
kinds_agree (Endpoints (FirstDerivative v) (SecondDerivative w)) = refl
kinds_agree (Endpoints (SecondDerivative v) NotAKnot) = refl
kinds_agree (Endpoints (SecondDerivative v) (FirstDerivative w)) = refl
kinds_agree (Endpoints (SecondDerivative v) (SecondDerivative w)) = refl
kinds_agree Periodic = refl

-- ---- what is read stands, unless a number is the nan

abbrev pub EndNoNan : End → Type 0
EndNoNan NotAKnot = Unit {0}
EndNoNan (FirstDerivative value) = T (not (is_nan value))
EndNoNan (SecondDerivative value) = T (not (is_nan value))

abbrev pub EndsNoNan : Condition → Type 0
EndsNoNan (Endpoints lower upper) = EndNoNan lower × EndNoNan upper
EndsNoNan Periodic = Unit {0}

pub kind_back : (kind : ℕ) (value : Float) → kind < 3 → kind_of_end (end_of_kind kind value) ≡ kind
unfolding end_of_kind
kind_back zero value h = refl
kind_back (suc zero) value h = refl
kind_back (suc (suc zero)) value h = refl
kind_back (suc (suc (suc kind))) value h = absurd (omega (arith, h))

end_stands : (bytes : List ℕ) (at kind : ℕ) → kind < 3 → EndNoNan (end_of_kind kind (number bytes at))
    → Stand bytes at (end_fields (end_of_kind kind (number bytes at)))
unfolding end_of_kind Stand
end_stands bytes at zero h fine = tt
end_stands bytes at (suc zero) h fine = (number_stands bytes at fine, tt)
end_stands bytes at (suc (suc zero)) h fine = (number_stands bytes at fine, tt)
end_stands bytes at (suc (suc (suc kind))) h fine = absurd (omega (arith, h))

-- two kinds of a sheet that is not refused by 13: both below 3, or both 3
pub both_or_none : (lower upper : ℕ) → lower < 4 → upper < 4 → periodic_at_one_end lower upper ≡ false
    → ((lower < 3) × (upper < 3)) ⊎ ((lower ≡ 3) × (upper ≡ 3))
unfolding periodic_at_one_end
both_or_none lower upper l u e =
    elim (dec_lt lower 3) [
      | yes below ↦ inl (below, lesser upper u (rw (ne_eqb lower 3 (λ q. omega (arith, q, below))) at e))
      | no above ↦
          let three : lower ≡ 3 = omega (arith, above, l) in
          inr (three, eqb-true upper 3 (not-false _ (rw (eq-eqb lower 3 three) at e)))
    ]
  where
    lesser : (n : ℕ) → n < 4 → eqb n 3 ≡ false → n < 3
    lesser n h other =
        ⊎_elim (λ (q : n ≡ 3). not_both (eqb n 3) (eq-eqb n 3 q) other) (λ below. below) (eq-or-lt_of_le (le_of_suc-le-suc h))

pub record KindsBack (bytes : List ℕ) (at lower upper : ℕ) : Type 0 where
  pub lower_same : lower_kind_of (found bytes at lower upper) ≡ lower
  pub upper_same : upper_kind_of (found bytes at lower upper) ≡ upper
  pub stands : EndsNoNan (found bytes at lower upper) → Stand bytes at (ends_fields (found bytes at lower upper))

pub below_3 : (lower : ℕ) (a b : End) → lower < 3 → condition_of_kind lower a b ≡ Endpoints a b
unfolding condition_of_kind
below_3 lower a b h = rw (ne_eqb lower 3 (λ q. omega (arith, q, h)))

endpoints_back : (bytes : List ℕ) (at lower upper : ℕ) → lower < 3 → upper < 3 → KindsBack bytes at lower upper
endpoints_back bytes at lower upper l u =
    let first = end_of_kind lower (number bytes at) in
    let second = end_of_kind upper (number bytes (at + 64 * values_of_kind lower)) in
    let is = below_3 lower first second l in
    record {
      lower_same = rw is (kind_back lower (number bytes at) l);
      upper_same = rw is (kind_back upper (number bytes (at + 64 * values_of_kind lower)) u);
      stands = rw is (λ fine.
          stand_append bytes at (end_fields first) (end_fields second) (end_stands bytes at lower l fine.0)
          (rw (end_bits first, kind_back lower (number bytes at) l) (end_stands bytes (at + 64 * values_of_kind lower) upper u fine.1)));
    }

periodic_back : (bytes : List ℕ) (at : ℕ) → KindsBack bytes at 3 3
unfolding Stand
periodic_back bytes at = record {
  lower_same = ap lower_kind_of (periodic_read bytes at);
  upper_same = ap upper_kind_of (periodic_read bytes at);
  stands = rw (periodic_read bytes at) (λ fine. tt);
}

pub kinds_back : (bytes : List ℕ) (at lower upper : ℕ) → lower < 4 → upper < 4 → periodic_at_one_end lower upper ≡ false
    → KindsBack bytes at lower upper
kinds_back bytes at lower upper l u e =
    ⊎_elim
    (λ (below : (lower < 3) × (upper < 3)). endpoints_back bytes at lower upper below.0 below.1)
    (λ (three : (lower ≡ 3) × (upper ≡ 3)). rw (three.0, three.1) (periodic_back bytes at))
    (both_or_none lower upper l u e)
