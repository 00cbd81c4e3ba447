-- Fields written: what was written is read, what was read is written, what stands elsewhere stays, and a field is written in runs, each
-- within one byte.
use mathlib.Core.Path.{◌≡◌, refl, sym, ap, ◌∙◌}
use mathlib.Core.List.{List}
use mathlib.Core.Logic.{⊎_elim, ◌⊎◌, inl, inr}
use Prim.Native.Nat.{ℕ, zero, suc, ◌+◌, ◌-◌, ◌*◌, ◌/◌, ◌%◌, ◌^◌, ◌<◌, ◌≤◌}
use native.Mathlib.Nat.{pow-succ', add-zero, add-suc, add_assoc, mod-one, mod-lt, div-one, div-div-eq-div-mul, eq-or-lt_of_le, mod-eq_of_lt}
use native.Mathlib.Omega.{arith}
use native.Mathlib.Decide.{ℕ_discrete, dec_lt}
use lib.Dec.{lit<}
use lib.ListN.{length, get_or, set, take, drop, length-set}
use lib.Seq.{get_or-set_same, get_or-set_other, set-get_or, set-set, set_out, drop-set-lt, ext_get_or, get_or-take, length-take-le}
use lib.Pow.{shr-shr}
use Rattle.base_bits.specs.Bits.{bit, field}
use Rattle.base_bits.specs.Written.{patch, with_bit, with_field}
use Rattle.base_bits.proofs.Runs.{field_whole, halves}
use Rattle.base_bits.proofs.Patches.{patch_none, patch_own, patch_more, patch_below, bit_here, bit_other}

-- ---- one bit of the list

bit_length : (bytes : List ℕ) (i b : ℕ) → length (with_bit bytes i b) ≡ length bytes
unfolding with_bit
bit_length bytes i b = length-set bytes (i / 8) _

bit_written : (bytes : List ℕ) (i b : ℕ) → i < 8 * length bytes → b < 2 → bit (with_bit bytes i b) i ≡ b
unfolding with_bit bit
bit_written bytes i b h hb =
    ap (λ (byte : ℕ). byte / 2 ^ (7 - i % 8) % 2)
    (get_or-set_same bytes (i / 8) (patch (get_or bytes (i / 8) 0) (7 - i % 8) 1 b) 0 (omega arith))
    ∙ bit_here (get_or bytes (i / 8) 0) (7 - i % 8) b hb

bit_stays : (bytes : List ℕ) (i j b : ℕ) → i < 8 * length bytes → b < 2 → (j ≡ i → ⊥) → bit (with_bit bytes i b) j ≡ bit bytes j
unfolding with_bit bit
bit_stays bytes i j b h hb ne =
    elim (ℕ_discrete (j / 8) (i / 8)) [
      | yes e ↦
          rw (e, get_or-set_same bytes (i / 8) (patch (get_or bytes (i / 8) 0) (7 - i % 8) 1 b) 0 (omega arith))
          (bit_other (get_or bytes (i / 8) 0) (7 - i % 8) (7 - j % 8) b hb (λ f. ne (omega (arith, e, f))))
      | no f ↦ rw (get_or-set_other bytes (i / 8) (j / 8) (patch (get_or bytes (i / 8) 0) (7 - i % 8) 1 b) 0 f)
    ]

bit_own : (bytes : List ℕ) (i : ℕ) → with_bit bytes i (bit bytes i) ≡ bytes
unfolding with_bit bit
bit_own bytes i = rw (patch_own (get_or bytes (i / 8) 0) (7 - i % 8)) (set-get_or bytes (i / 8) 0)

bit_two : (bytes : List ℕ) (i : ℕ) → bit bytes i < 2
unfolding bit
bit_two bytes i = mod-lt _ (lit< tt)

-- ---- fields

-- two lists whose bits are the same have the same fields
pub field_same : (s d : List ℕ) (at k : ℕ) → ((i : ℕ) → i < k → bit d (at + i) ≡ bit s (at + i)) → field d at k ≡ field s at k
unfolding field
field_same s d at zero f = refl
field_same s d at (suc k) f = rw (field_same s d at k (λ i h. f i (omega arith)), f k (omega arith))

pub field_length : (bytes : List ℕ) (at k v : ℕ) → length (with_field bytes at k v) ≡ length bytes
unfolding with_field
field_length bytes at zero v = refl
field_length bytes at (suc k) v = bit_length (with_field bytes at k (v / 2)) (at + k) (v % 2) ∙ field_length bytes at k (v / 2)

-- only the lowest bits of a number are written
pub lowest_written : (bytes : List ℕ) (at k v : ℕ) → with_field bytes at k v ≡ with_field bytes at k (v % 2 ^ k)
unfolding with_field
lowest_written bytes at zero v = refl
lowest_written bytes at (suc k) v =
    let h = halves v k in
    let first : v % 2 ^ suc k / 2 ≡ v / 2 % 2 ^ k = omega arith in
    let last : v % 2 ^ suc k % 2 ≡ v % 2 = omega arith in
    rw (first, last, ← lowest_written bytes at k (v / 2))

-- a bit that is not written stays
other_bit : (bytes : List ℕ) (at k v j : ℕ) → at + k ≤ 8 * length bytes → ((i : ℕ) → i < k → j ≡ at + i → ⊥)
    → bit (with_field bytes at k v) j ≡ bit bytes j
unfolding with_field
other_bit bytes at zero v j h f = refl
other_bit bytes at (suc k) v j h f =
    bit_stays (with_field bytes at k (v / 2)) (at + k) j (v % 2) (rw (field_length bytes at k (v / 2)) (omega arith)) (mod-lt v (lit< tt))
    (f k (omega arith))
    ∙ other_bit bytes at k (v / 2) j (omega arith) (λ i l. f i (omega arith))

-- what was written is read
pub read_of_written : (bytes : List ℕ) (at k v : ℕ) → at + k ≤ 8 * length bytes → field (with_field bytes at k v) at k ≡ v % 2 ^ k
unfolding with_field field
read_of_written bytes at zero v h = sym (mod-one v)
read_of_written bytes at (suc k) v h =
    let p = with_field bytes at k (v / 2) in
    let l : at + k < 8 * length p = rw (field_length bytes at k (v / 2)) (omega arith) in
    rw (
      field_same p (with_bit p (at + k) (v % 2)) at k
          (λ i m. bit_stays p (at + k) (at + i) (v % 2) l (mod-lt v (lit< tt)) (λ e. omega (arith, e))),
      read_of_written bytes at k (v / 2) (omega arith),
      bit_written p (at + k) (v % 2) l (mod-lt v (lit< tt)),
    )
    (halves v k)

-- what was read is written: nothing changes
pub written_of_read : (bytes : List ℕ) (at k : ℕ) → with_field bytes at k (field bytes at k) ≡ bytes
unfolding with_field field
written_of_read bytes at zero = refl
written_of_read bytes at (suc k) =
    let b : bit bytes (at + k) < 2 = bit_two bytes (at + k) in
    let e : (field bytes at k * 2 + bit bytes (at + k)) / 2 ≡ field bytes at k = omega arith in
    let f : (field bytes at k * 2 + bit bytes (at + k)) % 2 ≡ bit bytes (at + k) = omega arith in
    rw (e, f, written_of_read bytes at k) (bit_own bytes (at + k))

-- a field beside the one that is written stays
pub other_field : (bytes : List ℕ) (at k v a n : ℕ) → at + k ≤ 8 * length bytes → (a + n ≤ at) ⊎ (at + k ≤ a)
    → field (with_field bytes at k v) a n ≡ field bytes a n
other_field bytes at k v a n h (inl l) =
    field_same bytes (with_field bytes at k v) a n (λ i m. other_bit bytes at k v (a + i) h (λ j o e. omega (arith, e)))
other_field bytes at k v a n h (inr l) =
    field_same bytes (with_field bytes at k v) a n (λ i m. other_bit bytes at k v (a + i) h (λ j o e. omega (arith, e)))

-- the bytes past a field stay
pub drop_field : (bytes : List ℕ) (at k v n : ℕ) → at + k ≤ 8 * n → drop n (with_field bytes at k v) ≡ drop n bytes
unfolding with_field with_bit
drop_field bytes at zero v n h = refl
drop_field bytes at (suc k) v n h =
    drop-set-lt n (with_field bytes at k (v / 2)) ((at + k) / 8) _ (omega arith) ∙ drop_field bytes at k (v / 2) n (omega arith)

-- ---- bytes stay bytes

abbrev pub Bytes : List ℕ → Type 0
Bytes bytes = (i : ℕ) → get_or bytes i 0 < 256

set_bytes : (bytes : List ℕ) (j v : ℕ) → Bytes bytes → v < 256 → Bytes (set bytes j v)
set_bytes bytes j v all h i =
    elim (ℕ_discrete i j) [
      | yes e ↦
          elim (dec_lt j (length bytes)) [
            | yes l ↦ rw (e, get_or-set_same bytes j v 0 l) h
            | no f ↦ rw (set_out bytes j v (omega (arith, f))) (all i)
          ]
      | no f ↦ rw (get_or-set_other bytes j i v 0 f) (all i)
    ]

pub field_bytes : (bytes : List ℕ) (at k v : ℕ) → Bytes bytes → Bytes (with_field bytes at k v)
unfolding with_field with_bit
field_bytes bytes at zero v all = all
field_bytes bytes at (suc k) v all =
    let before = field_bytes bytes at k (v / 2) all in
    set_bytes (with_field bytes at k (v / 2)) ((at + k) / 8) _ before
    (patch_below (get_or (with_field bytes at k (v / 2)) ((at + k) / 8) 0) (7 - (at + k) % 8) 1 (v % 2) (before ((at + k) / 8)) (omega arith)
    (mod-lt v (lit< tt)))

-- ---- a run is a first run and a second, and within one byte one store

pub written_add : (bytes : List ℕ) (at a b v : ℕ)
    → with_field bytes at (a + b) v ≡ with_field (with_field bytes at a (v / 2 ^ b)) (at + a) b v
unfolding with_field
written_add bytes at a zero v = rw (add-zero a, div-one v)
written_add bytes at a (suc b) v =
    rw (add-suc a b, written_add bytes at a b (v / 2), div-div-eq-div-mul v 2 (2 ^ b), ← pow-succ' 2 b, ← add_assoc at a b)

pub in_byte : (bytes : List ℕ) (q f t v : ℕ) → f + t ≤ 8 → q < length bytes
    → set bytes q (patch (get_or bytes q 0) (8 - f - t) t (v % 2 ^ t)) ≡ with_field bytes (8 * q + f) t v
unfolding with_field with_bit
in_byte bytes q f zero v h l = rw (patch_none (get_or bytes q 0) (8 - f - 0) v) (set-get_or bytes q 0)
in_byte bytes q f (suc t) v h l =
    let p : (8 * q + f + t) / 8 ≡ q = omega arith in
    let m : 7 - (8 * q + f + t) % 8 ≡ 8 - f - suc t = omega arith in
    let e : 8 - f - t ≡ 8 - f - suc t + 1 = omega arith in
    let y = patch (get_or bytes q 0) (8 - f - suc t + 1) t (v / 2 % 2 ^ t) in
    rw (
      ← in_byte bytes q f t (v / 2) (omega arith) l,
      p,
      m,
      e,
      get_or-set_same bytes q y 0 l,
      set-set bytes q y (patch y (8 - f - suc t) 1 (v % 2)),
      patch_more (get_or bytes q 0) (8 - f - suc t) t (v / 2 % 2 ^ t) (v % 2),
      halves v t,
    )

-- a number's heaviest bits: none is written yet, one run more at p, all are written
pub written_none : (bytes : List ℕ) (at v : ℕ) → bytes ≡ with_field bytes at 0 v
unfolding with_field
written_none bytes at v = refl

pub written_more : (z s : List ℕ) (at i k t v p : ℕ) → s ≡ with_field z at i (v / 2 ^ (k - i)) → i + t ≤ k → p ≡ at + i
    → with_field s p t (v / 2 ^ (k - i - t)) ≡ with_field z at (i + t) (v / 2 ^ (k - (i + t)))
written_more z s at i k t v p e h place =
    let m : k - (i + t) ≡ k - i - t = omega arith in
    let n : k - i - t + t ≡ k - i = omega arith in
    rw (place, e, m, written_add z at i t (v / 2 ^ (k - i - t)), shr-shr v (k - i - t) t, n)

pub written_all : (z s : List ℕ) (at i k v : ℕ) → s ≡ with_field z at i (v / 2 ^ (k - i)) → i ≡ k → s ≡ with_field z at k v
written_all z s at i k v e f = let n : k - k ≡ 0 = omega arith in e ∙ rw (f, n, div-one v)

-- ---- lists of bytes with the same bits

-- the first n bits of d are those of s
pub record Agree (s d : List ℕ) (n : ℕ) : Type 0 where
  pub same : (i : ℕ) → i < n → bit d i ≡ bit s i

below_or_there : (i n : ℕ) → i ≤ n → (i ≡ n → ⊥) → i < n
below_or_there i n l ne = ⊎_elim (λ e. absurd (ne e)) (λ m. m) (eq-or-lt_of_le l)

-- a field of s written into d
pub agree_more : (s d : List ℕ) (at k : ℕ) → at + k ≤ 8 * length d → Agree s d at → Agree s (with_field d at k (field s at k)) (at + k)
unfolding with_field field
agree_more s d at zero h a = record { same = λ i l. a.same i (omega arith) }
agree_more s d at (suc k) h a = record {
  same = λ i l.
      let b : bit s (at + k) < 2 = bit_two s (at + k) in
      let e : (field s at k * 2 + bit s (at + k)) / 2 ≡ field s at k = omega arith in
      let f : (field s at k * 2 + bit s (at + k)) % 2 ≡ bit s (at + k) = omega arith in
      let p : at + k < 8 * length (with_field d at k (field s at k)) = rw (field_length d at k (field s at k)) (omega arith) in
      rw (e, f)
      (elim (ℕ_discrete i (at + k)) [
        | yes q ↦ rw q (bit_written (with_field d at k (field s at k)) (at + k) (bit s (at + k)) p b)
        | no g ↦
            bit_stays (with_field d at k (field s at k)) (at + k) i (bit s (at + k)) p b g
            ∙ (agree_more s d at k (omega arith) a).same i (below_or_there i (at + k) (omega arith) g)
      ]);
}

byte_is : (bytes : List ℕ) (q : ℕ) → get_or bytes q 0 < 256 → field bytes (8 * q) 8 ≡ get_or bytes q 0
byte_is bytes q h = field_whole bytes q ∙ mod-eq_of_lt h

-- with the same bits they are the same bytes
pub agree_bytes : (s d : List ℕ) (n : ℕ) → Bytes s → Bytes d → length s ≡ n → n ≤ length d → Agree s d (8 * n) → take n d ≡ s
agree_bytes s d n hs hd e l a =
    ext_get_or 0 (take n d) s (length-take-le n d l ∙ sym e) (λ i m.
    let o : i < n = omega (arith, m, length-take-le n d l) in
    get_or-take n d i 0 o ∙ sym (byte_is d i (hd i)) ∙ field_same s d (8 * i) 8 (λ j p. a.same (8 * i + j) (omega (arith, o, p)))
    ∙ byte_is s i (hs i))
