-- A row of fields: what was written is read, what was read is written, and bytes of its own are what it leaves in any other bytes.
use mathlib.Core.Path.{◌≡◌, refl, sym, ap, subst, ◌∙◌}
use mathlib.Core.List.{List, [], ◌∷◌, ◌++◌, map}
use mathlib.Core.Logic.{inl}
use Prim.Native.Nat.{ℕ, ◌+◌, ◌*◌, ◌%◌, ◌^◌, ◌<◌, ◌≤◌}
use native.Mathlib.Nat.{mod-eq_of_lt, mod-lt, add-zero, add_assoc}
use native.Mathlib.Omega.{arith}
use native.Mathlib.Decide.{dec_lt}
use lib.Dec.{lit<}
use lib.ListN.{length, take, drop, replicate, length-replicate, take-append-drop, get_or-replicate, get_or-eq_default}
use lib.Seq.{take_all}
use lib.Pow.{pow_pos}
use Rattle.base_bits.specs.Bits.{field}
use Rattle.base_bits.specs.Written.{with_field, Field, bits_in, with_fields, bytes_for, packed}
use Rattle.base_bits.proofs.Writes.{
  field_length,
  lowest_written,
  read_of_written,
  other_field,
  drop_field,
  Bytes,
  field_bytes,
  Agree,
  agree_more,
  agree_bytes,
}

-- the fields stand in the bytes from bit `at` on
unfoldable pub Stand : List ℕ → ℕ → List Field → Type 0
Stand bytes at [] = Unit {0}
Stand bytes at (first ∷ rest) = (field bytes at first.width ≡ first.value) × Stand bytes (at + first.width) rest

-- each number has no more bits than its field
unfoldable pub Sized : List Field → Type 0
Sized [] = Unit {0}
Sized (first ∷ rest) = (first.value < 2 ^ first.width) × Sized rest

-- ---- a row that is two rows

pub bits_in_append : (a b : List Field) → bits_in (a ++ b) ≡ bits_in a + bits_in b
unfolding bits_in
bits_in_append [] b = omega arith
bits_in_append (f ∷ a) b = rw (bits_in_append a b) (sym (add_assoc f.width (bits_in a) (bits_in b)))

pub with_fields_append : (bytes : List ℕ) (at : ℕ) (a b : List Field)
    → with_fields bytes at (a ++ b) ≡ with_fields (with_fields bytes at a) (at + bits_in a) b
unfolding with_fields bits_in
with_fields_append bytes at [] b = rw add-zero
with_fields_append bytes at (f ∷ a) b =
    with_fields_append (with_field bytes at f.width f.value) (at + f.width) a b ∙ rw (add_assoc at f.width (bits_in a))

pub stand_append : (bytes : List ℕ) (at : ℕ) (a b : List Field) → Stand bytes at a → Stand bytes (at + bits_in a) b
    → Stand bytes at (a ++ b)
unfolding Stand bits_in
stand_append bytes at [] b s t = rw add-zero at t
stand_append bytes at (f ∷ a) b s t = (s.0, stand_append bytes (at + f.width) a b s.1 (rw (add_assoc at f.width (bits_in a)) t))

pub stand_first : (bytes : List ℕ) (at : ℕ) (a b : List Field) → Stand bytes at (a ++ b) → Stand bytes at a
unfolding Stand
stand_first bytes at [] b s = tt
stand_first bytes at (f ∷ a) b s = (s.0, stand_first bytes (at + f.width) a b s.1)

pub stand_second : (bytes : List ℕ) (at : ℕ) (a b : List Field) → Stand bytes at (a ++ b) → Stand bytes (at + bits_in a) b
unfolding Stand bits_in
stand_second bytes at [] b s = rw add-zero s
stand_second bytes at (f ∷ a) b s = rw (← add_assoc at f.width (bits_in a)) (stand_second bytes (at + f.width) a b s.1)

pub sized_append : (a b : List Field) → Sized a → Sized b → Sized (a ++ b)
unfolding Sized
sized_append [] b s t = t
sized_append (f ∷ a) b s t = (s.0, sized_append a b s.1 t)

-- ---- written, and read

pub fields_length : (bytes : List ℕ) (at : ℕ) (fields : List Field) → length (with_fields bytes at fields) ≡ length bytes
unfolding with_fields
fields_length bytes at [] = refl
fields_length bytes at (f ∷ fs) =
    fields_length (with_field bytes at f.width f.value) (at + f.width) fs ∙ field_length bytes at f.width f.value

fields_bytes : (bytes : List ℕ) (at : ℕ) (fields : List Field) → Bytes bytes → Bytes (with_fields bytes at fields)
unfolding with_fields
fields_bytes bytes at [] all = all
fields_bytes bytes at (f ∷ fs) all =
    fields_bytes (with_field bytes at f.width f.value) (at + f.width) fs (field_bytes bytes at f.width f.value all)

-- a field before the row stays
before_stays : (bytes : List ℕ) (at : ℕ) (fields : List Field) (a n : ℕ) → at + bits_in fields ≤ 8 * length bytes → a + n ≤ at
    → field (with_fields bytes at fields) a n ≡ field bytes a n
unfolding with_fields bits_in
before_stays bytes at [] a n h l = refl
before_stays bytes at (f ∷ fs) a n h l =
    before_stays (with_field bytes at f.width f.value) (at + f.width) fs a n
    (rw (field_length bytes at f.width f.value) (omega arith)) (omega arith)
    ∙ other_field bytes at f.width f.value a n (omega arith) (inl l)

-- what was written is read: each field of the row
pub fields_stand : (bytes : List ℕ) (at : ℕ) (fields : List Field) → at + bits_in fields ≤ 8 * length bytes → Sized fields
    → Stand (with_fields bytes at fields) at fields
unfolding with_fields bits_in Stand Sized
fields_stand bytes at [] h z = tt
fields_stand bytes at (f ∷ fs) h z =
    let p = with_field bytes at f.width f.value in
    let l : at + f.width + bits_in fs ≤ 8 * length p = rw (field_length bytes at f.width f.value) (omega arith) in (
      before_stays p (at + f.width) fs at f.width l (omega arith) ∙ read_of_written bytes at f.width f.value (omega arith)
          ∙ mod-eq_of_lt z.0,
      fields_stand p (at + f.width) fs l z.1,
    )

-- what was read is written: the bits of s, where the row stands in s
fields_agree : (s d : List ℕ) (at : ℕ) (fields : List Field) → at + bits_in fields ≤ 8 * length d → Stand s at fields → Agree s d at
    → Agree s (with_fields d at fields) (at + bits_in fields)
unfolding with_fields bits_in Stand
fields_agree s d at [] h z a = rw add-zero a
fields_agree s d at (f ∷ fs) h z a =
    rw (← z.0, ← add_assoc at f.width (bits_in fs))
    (fields_agree s (with_field d at f.width (field s at f.width)) (at + f.width) fs
    (rw (field_length d at f.width (field s at f.width)) (omega arith)) z.1
    (agree_more s d at f.width (omega arith) a))

-- the bytes past the row stay
fields_past : (bytes : List ℕ) (at : ℕ) (fields : List Field) (n : ℕ) → at + bits_in fields ≤ 8 * n
    → drop n (with_fields bytes at fields) ≡ drop n bytes
unfolding with_fields bits_in
fields_past bytes at [] n h = refl
fields_past bytes at (f ∷ fs) n h =
    fields_past (with_field bytes at f.width f.value) (at + f.width) fs n (omega arith)
    ∙ drop_field bytes at f.width f.value n (omega arith)

-- ---- bytes of its own

pub packed_length : (fields : List Field) → length (packed fields) ≡ bytes_for (bits_in fields)
unfolding packed
packed_length fields = fields_length _ 0 fields ∙ length-replicate {A = ℕ} (bytes_for (bits_in fields)) 0

zero_bytes : (n : ℕ) → Bytes (replicate n 0)
zero_bytes n i =
    elim (dec_lt i n) [
      | yes l ↦ rw (get_or-replicate {A = ℕ} n i 0 0 l) (lit< tt)
      | no f ↦ rw (get_or-eq_default {A = ℕ} (replicate n 0) 0 {n = i} (rw (length-replicate {A = ℕ} n 0) (omega (arith, f)))) (lit< tt)
    ]

pub packed_bytes : (fields : List Field) → Bytes (packed fields)
unfolding packed
packed_bytes fields = fields_bytes _ 0 fields (zero_bytes (bytes_for (bits_in fields)))

pub packed_stand : (fields : List Field) → Sized fields → Stand (packed fields) 0 fields
unfolding packed
packed_stand fields z =
    fields_stand (replicate (bytes_for (bits_in fields)) 0) 0 fields
    (rw (length-replicate {A = ℕ} (bytes_for (bits_in fields)) 0) (omega arith)) z

none_agree : (s d : List ℕ) → Agree s d 0
none_agree s d = record { same = λ i l. absurd (omega (arith, l)) }

fewer_agree : (s d : List ℕ) (m n : ℕ) → m ≤ n → Agree s d n → Agree s d m
fewer_agree s d m n h a = record { same = λ i l. a.same i (omega arith) }

-- a number of more bits than its field leaves there its lowest ones
cut : Field → Field
cut f = record { width = f.width; value = f.value % 2 ^ f.width }

cut_written : (bytes : List ℕ) (at : ℕ) (fields : List Field) → with_fields bytes at (map cut fields) ≡ with_fields bytes at fields
unfolding with_fields cut
cut_written bytes at [] = refl
cut_written bytes at (f ∷ fs) =
    cut_written (with_field bytes at f.width (f.value % 2 ^ f.width)) (at + f.width) fs
    ∙ ap (λ (d : List ℕ). with_fields d (at + f.width) fs) (sym (lowest_written bytes at f.width f.value))

cut_bits : (fields : List Field) → bits_in (map cut fields) ≡ bits_in fields
unfolding bits_in cut
cut_bits [] = refl
cut_bits (f ∷ fs) = rw (cut_bits fs)

cut_sized : (fields : List Field) → Sized (map cut fields)
unfolding Sized cut
cut_sized [] = tt
cut_sized (f ∷ fs) = (mod-lt f.value (pow_pos f.width), cut_sized fs)

cut_packed : (fields : List Field) → packed (map cut fields) ≡ packed fields
unfolding packed
cut_packed fields = rw (cut_bits fields) (cut_written (replicate (bytes_for (bits_in fields)) 0) 0 fields)

module _ (fields : List Field) (n : ℕ) (whole : bits_in fields ≡ 8 * n) where
  own_length : length (packed fields) ≡ n
  own_length = packed_length fields ∙ rw whole (omega arith)

  own_stand : Stand (packed fields) 0 (map cut fields)
  own_stand = subst (λ (d : List ℕ). Stand d 0 (map cut fields)) (cut_packed fields) (packed_stand (map cut fields) (cut_sized fields))

  -- a row that fills whole bytes leaves in any bytes the same: those of its own, and behind them what was there
  pub over_any : (bytes : List ℕ) → Bytes bytes → n ≤ length bytes
      → with_fields bytes 0 fields ≡ packed fields ++ drop (length (packed fields)) bytes
  over_any bytes all h =
      let d = with_fields bytes 0 fields in
      let same = cut_bits fields in
      let l : n ≤ length d = rw (fields_length bytes 0 fields) h in
      let a = fields_agree (packed fields) bytes 0 (map cut fields) (omega arith) own_stand (none_agree (packed fields) bytes) in
      let b : Agree (packed fields) d (0 + bits_in (map cut fields)) = rw (cut_written bytes 0 fields) at a in
      let front : take n d ≡ packed fields =
      agree_bytes (packed fields) d n (packed_bytes fields) (fields_bytes bytes 0 fields all) own_length l
      (fewer_agree _ _ (8 * n) _ (omega arith) b) in
      rw (own_length, ← front, ← fields_past bytes 0 fields n (omega arith)) (sym (take-append-drop n d))

  -- and bytes in which it stands, and that it fills, are its own
  pub packed_of : (bytes : List ℕ) → Bytes bytes → length bytes ≡ n → Stand bytes 0 fields → packed fields ≡ bytes
  unfolding packed
  packed_of bytes all h stands =
      let none : List ℕ = replicate (bytes_for (bits_in fields)) 0 in
      let size : length none ≡ n = length-replicate {A = ℕ} (bytes_for (bits_in fields)) 0 ∙ rw whole (omega arith) in
      let a = fields_agree bytes none 0 fields (rw size (omega arith)) stands (none_agree bytes none) in
      sym (take_all n (with_fields none 0 fields) (rw (fields_length none 0 fields) (omega arith)))
      ∙ agree_bytes bytes (with_fields none 0 fields) n all (packed_bytes fields) h (rw (fields_length none 0 fields) (omega arith))
      (fewer_agree bytes _ (8 * n) _ (omega arith) a)
