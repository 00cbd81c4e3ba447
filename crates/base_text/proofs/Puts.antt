-- What is put piece after piece is put as one; a text that is put at the front of a buffer is written there.
use mathlib.Core.Path.{◌≡◌, refl, sym, ap, ◌∙◌}
use mathlib.Core.List.{List, [], ◌∷◌, ◌++◌}
use Prim.Native.Nat.{ℕ, suc, ◌+◌, ◌<◌, ◌≤◌}
use native.Mathlib.Nat.{add-zero, add-suc, suc-add, zero-add}
use native.Mathlib.Numerals.{add-one}
use native.Mathlib.Omega.{arith}
use lib.ListN.{length, take, get_or, set, length-append}
use lib.Seq.{sets, sets-eq, length-sets, take-suc}
use Rattle.base_text.specs.Lines.{written}
use Rattle.base_text.specs.PutBytes.{Put}

sets_more : (xs ys l : List ℕ) (i : ℕ) → sets (sets l i xs) (i + length xs) ys ≡ sets l i (xs ++ ys)
sets_more [] ys l i = ap (λ (k : ℕ). sets l k ys) (add-zero i)
sets_more (x ∷ xs) ys l i =
    let e : i + suc (length xs) ≡ suc i + length xs = add-suc i (length xs) ∙ sym (suc-add i (length xs)) in
    ap (λ (k : ℕ). sets (sets (set l i x) (suc i) xs) k ys) e ∙ sets_more xs ys (set l i x) (suc i)

-- nothing
pub put_none : (text : List ℕ) (at : ℕ) → Put [] text at text at
put_none text at = record { stands = refl; end = sym (add-zero at) }

module _ {first more before between after : List ℕ} {at middle end : ℕ} where
  pub put_more : Put first before at between middle → Put more between middle after end → Put (first ++ more) before at after end
  put_more p q = record {
    stands = q.stands ∙ rw (p.stands, p.end) (sets_more first more before at);
    end = q.end ∙ rw (p.end, length-append first more) (omega arith);
  }

pub put_length : {bytes before after : List ℕ} {at end : ℕ} → Put bytes before at after end → length after ≡ length before
put_length {bytes} {before} {after} {at} {end} p = ap (λ (l : List ℕ). length l) p.stands ∙ length-sets before at bytes

-- at the front
pub put_written : {text before after : List ℕ} {end : ℕ} → Put text before 0 after end → length text ≤ length before
    → (after ≡ written text before) × (end ≡ length text)
put_written {text} {before} {after} {end} p room =
    (p.stands ∙ sets-eq text before 0 (omega arith) ∙ rw (zero-add (length text)), p.end ∙ zero-add (length text))

-- ---- the loop of `put_word`

-- the next byte goes right behind those that stand
pub byte_more : (word : List ℕ) (i : ℕ) {before text after : List ℕ} {at behind end : ℕ} → Put (take i word) before at text behind
    → i < length word → Put (get_or word i 0 ∷ []) text behind after end → Put (take (i + 1) word) before at after end
byte_more word i p more q = rw (add-one i, take-suc word i 0 more) (put_more p q)
