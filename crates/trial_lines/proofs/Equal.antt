-- Numbers whose patterns are the same are the same, and so are slices of them.
use mathlib.Core.Path.{◌≡◌, sym, ap, ◌∙◌}
use mathlib.Core.Bool.{Bool, true, false}
use Rattle.std.proofs.lemmas.Bool.{false≢true}
use mathlib.Core.List.{List}
use Prim.Native.Nat.{ℕ, ◌<◌}
use native.Mathlib.Omega.{arith}
use lib.Dec.{T}
use Rattle.std.specs.Bool.{MatchBool}
use Rattle.std.specs.List.{AllWithin, zip}
use Rattle.std.proofs.lemmas.Slice.Zip.{length-zip, get_or-zip}
use lib.ListN.{length, get_or, replicate, length-replicate, get_or-replicate}
use lib.Seq.{ext_get_or}
use lib.Ieee.{Float, nan, binary64, fits, of_bits, to_bits}
use lib.Ieee.Bits.{of_bits-to_bits}

pub same_number : (x y : Float) → T (fits binary64 x) → T (fits binary64 y) → to_bits binary64 x ≡ to_bits binary64 y → x ≡ y
same_number x y p q e = sym (of_bits-to_bits binary64 x p) ∙ ap (of_bits binary64) e ∙ of_bits-to_bits binary64 y q

-- two slices of one length: `all` answered true of the pairs' patterns
pub all_same : (xs ys : List Float) (No : Type 0) (r : Bool) → ((i : ℕ) → T (fits binary64 (get_or xs i nan)))
    → ((i : ℕ) → T (fits binary64 (get_or ys i nan)))
    → length xs ≡ length ys
    → MatchBool r (AllWithin (λ p. to_bits binary64 p.0 ≡ to_bits binary64 p.1) (zip xs ys) 0 (length (zip xs ys))) No
    → r ≡ true
    → xs ≡ ys
all_same xs ys _ true p q e h _ =
    ext_get_or nan xs ys e (λ k b.
    let pair : get_or (zip xs ys) k (nan, nan) ≡ (get_or xs k nan, get_or ys k nan) = get_or-zip xs ys k (nan, nan) b (omega arith) in
    let long : k < length (zip xs ys) = rw (length-zip xs ys) (omega arith) in
    let alike : to_bits binary64 (get_or (zip xs ys) k (nan, nan)).0 ≡ to_bits binary64 (get_or (zip xs ys) k (nan, nan)).1
    = h k (nan, nan) (omega arith) long in
    same_number _ _ (p k) (q k) (rw pair at alike))
all_same xs ys _ false p q e h o = absurd (false≢true o)

-- a slice of one number: `all` answered true of the patterns
pub all_alike : (xs : List Float) (y : Float) (No : Type 0) (r : Bool) → ((i : ℕ) → T (fits binary64 (get_or xs i nan))) → T (fits binary64 y)
    → MatchBool r (AllWithin (λ x. to_bits binary64 x ≡ to_bits binary64 y) xs 0 (length xs)) No
    → r ≡ true
    → xs ≡ replicate (length xs) y
all_alike xs y _ true p q h _ =
    ext_get_or nan xs (replicate (length xs) y) (sym (length-replicate (length xs) y))
    (λ k b. same_number _ _ (p k) q (h k nan (omega arith) b) ∙ sym (get_or-replicate (length xs) k y nan b))
all_alike xs y _ false p q h e = absurd (false≢true e)
