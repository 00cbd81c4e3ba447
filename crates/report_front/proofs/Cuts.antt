-- A sheet that is cut from a stream: only its tail is left to judge, to the byte. And what the front of a stream shows does not depend on
-- what follows enough bytes.
use mathlib.Core.Path.{◌≡◌, refl, sym, ap, ◌∙◌}
use mathlib.Core.Bool.{Bool, true, false, not, cond}
use mathlib.Core.List.{List, ◌++◌}
use Prim.Native.Nat.{ℕ, zero, suc, ◌+◌, ◌-◌, ◌*◌, ◌/◌, ◌<◌, ◌≤◌}
use native.Mathlib.Nat.{le-mul_of_pos_right}
use native.Mathlib.Omega.{arith}
use borrow.Author.Tests.{ltb-false, eq-eqb, ne_eqb}
use lib.Dec.{ltb, eqb}
use lib.ListN.{length, take, length-take}
use lib.Seq.{take-append-le, drop-append-le, take-length}
use lib.Pow.{pow_pos}
use Rattle.rules.specs.Sizes.{Grid, samples_length, tensor_length}
use Rattle.rules.specs.Refusals.{axes_refused, tensor_refused}
use Rattle.rules.proofs.Refused.{or_else_passed}
use Rattle.base_numbers.proofs.Scan.{neither}
use Rattle.base_bits.specs.Bits.{field, short, numbers_short}
use Rattle.base_bits.proofs.Runs.{short_together}
use Rattle.grid_codes.specs.Editions.{unknown_edition}
use Rattle.grid_codes.specs.Classes.{length_known}
use Rattle.sheet_read.specs.Fields.{edition, axes, axis_begin, entries, sheet_grid, samples_begin, samples_end}
use Rattle.sheet_read.specs.Faults.{axis_fault, axes_fault, sheet_refusal}
use Rattle.sheet_read.specs.Read.{refused_answer, answer_of}
use Rattle.sheet_read.proofs.Extents.{begin_most, begin_first}
use Rattle.sheet_read.proofs.Walks.{faultless_axis}
use Rattle.sheet_read.proofs.Samples.{few_left}
use Rattle.rules.proofs.Cases.{passed}
use Rattle.report_front.specs.Front.{sheet_bytes, front_size, front_bytes, rest_bytes, enough_bytes}
use Rattle.report_front.specs.LookedAt.{look_answer}
use Rattle.report_front.proofs.Agree.{
  Agree,
  agree_append,
  agree_take,
  begin_least,
  field_same,
  short_same,
  numbers_short_same,
  begin_same,
  axes_fault_same,
  axes_same,
  grid_same,
}
use Rattle.report_front.proofs.Tails.{before_tail, refusal_early, refusal_late, known_of, unknown_of, either_case}

-- ---- what is met before the tail, of bytes that agree as far as its fields reach

pub record Reach (n : ℕ) (bytes : List ℕ) : Type 0 where
  pub header : 7 ≤ n
  pub all_axes : axes bytes ≤ 4 → samples_begin bytes ≤ n
  pub all_samples : axes bytes ≤ 4 → tensor_refused (sheet_grid bytes) ≡ false → samples_end bytes ≤ n

cond_same : (test : Bool) (x y z : ℕ) → (test ≡ false → y ≡ z) → cond test x y ≡ cond test x z
cond_same true x y z e = refl
cond_same false x y z e = e refl

axes_in_range : (bytes : List ℕ) → axes_refused (sheet_grid bytes) ≡ false → (1 ≤ axes bytes) × (axes bytes ≤ 4)
unfolding sheet_grid
axes_in_range bytes e =
    let both = neither (ltb (axes bytes) 1) (ltb 4 (axes bytes)) e in
    (ltb-false (axes bytes) 1 both.0, ltb-false 4 (axes bytes) both.1)

module _ (n : ℕ) (a b : List ℕ) (s : Agree n a b) (r : Reach n a) where
  axes_refused_same : axes_refused (sheet_grid a) ≡ axes_refused (sheet_grid b)
  unfolding sheet_grid
  axes_refused_same = rw (axes_same n a b s r.header)

  module _ (few : axes a ≤ 4) where
    grid_is : sheet_grid a ≡ sheet_grid b
    grid_is = grid_same n a b s r.header (r.all_axes few)

    begin_is : samples_begin a ≡ samples_begin b
    begin_is = begin_same n a b s (axes a) (r.all_axes few) ∙ rw (axes_same n a b s r.header)

    end_is : samples_end a ≡ samples_end b
    end_is = rw (begin_is, grid_is)

    samples_same :
        ◌≡◌ {A = ℕ} (cond (tensor_refused (sheet_grid a)) 3 (cond (numbers_short a (samples_begin a) (samples_length (sheet_grid a))) 11 0))
        (cond (tensor_refused (sheet_grid b)) 3 (cond (numbers_short b (samples_begin b) (samples_length (sheet_grid b))) 11 0))
    samples_same =
        cond_same (tensor_refused (sheet_grid a)) 3 _ (cond (numbers_short b (samples_begin b) (samples_length (sheet_grid b))) 11 0)
        (λ small.
        rw (numbers_short_same n a b s (samples_begin a) (samples_length (sheet_grid a)) (r.all_samples few small), begin_is, grid_is))
        ∙ rw grid_is

  before_tail_same : before_tail a ≡ before_tail b
  unfolding before_tail
  before_tail_same =
      rw (
        short_same n a b s 0 4 (omega (arith, r.header)),
        short_same n a b s 4 3 (omega (arith, r.header)),
        field_same n a b s 0 4 (omega (arith, r.header)),
        ← axes_refused_same,
      )
      (cond_same (short b 0 4) 11 _ _ (λ p.
      cond_same (unknown_edition (edition b)) 12 _ _ (λ q.
      cond_same (short b 4 3) 11 _ _ (λ t.
      cond_same (axes_refused (sheet_grid a)) 1 _ _ (λ u.
      let few = (axes_in_range a u).1 in
      rw (samples_same few, axes_fault_same n a b s (axes a) (r.all_axes few), axes_same n a b s r.header))))))

-- ---- where nothing is met before the tail

pub record Sound (bytes : List ℕ) : Type 0 where
  pub seven : 7 ≤ 8 * length bytes
  pub least : 1 ≤ axes bytes
  pub few : axes bytes ≤ 4
  pub small : tensor_refused (sheet_grid bytes) ≡ false
  pub faultless : axes_fault bytes (axes bytes) ≡ 0
  pub room : samples_end bytes ≤ 8 * length bytes

samples_room : (bytes : List ℕ) (m : ℕ) → samples_begin bytes ≤ 8 * length bytes → numbers_short bytes (samples_begin bytes) m ≡ false
    → samples_begin bytes + 64 * m ≤ 8 * length bytes
samples_room bytes zero h e = omega arith
samples_room bytes (suc m) h e = ltb-false _ _ (short_together bytes (samples_begin bytes) (suc m) (omega arith) ∙ e)

axes_room : (bytes : List ℕ) (i : ℕ) → 7 ≤ 8 * length bytes → axes_fault bytes i ≡ 0 → axis_begin bytes i ≤ 8 * length bytes
unfolding axis_begin axes_fault
axes_room bytes zero h e = h
axes_room bytes (suc i) h e =
    (faultless_axis bytes (axis_begin bytes i) (or_else_passed (axes_fault bytes i) (axis_fault bytes (axis_begin bytes i)) e).1).1

pub sound : (bytes : List ℕ) → before_tail bytes ≡ 0 → Sound bytes
unfolding before_tail
sound bytes none =
    let p = passed (short bytes 0 4) 10 _ none in
    let q = passed (unknown_edition (edition bytes)) 11 _ p.1 in
    let t = passed (short bytes 4 3) 10 _ q.1 in
    let u = passed (axes_refused (sheet_grid bytes)) 0 _ t.1 in
    let f = or_else_passed (axes_fault bytes (axes bytes)) _ u.1 in
    let v = passed (tensor_refused (sheet_grid bytes)) 2 _ f.1 in
    let w = passed (numbers_short bytes (samples_begin bytes) (samples_length (sheet_grid bytes))) 10 0 v.1 in
    let seven : 7 ≤ 8 * length bytes = ltb-false (8 * length bytes) (4 + 3) t.0 in
    record {
      seven = seven;
      least = (axes_in_range bytes u.0).0;
      few = (axes_in_range bytes u.0).1;
      small = v.0;
      faultless = f.0;
      room = samples_room bytes (samples_length (sheet_grid bytes)) (axes_room bytes (axes bytes) seven f.0) w.0;
    }

module _ (bytes : List ℕ) where
  pub size_of_known : length_known (sheet_refusal bytes) ≡ true → front_size bytes ≡ sheet_bytes bytes
  unfolding front_size
  size_of_known known = rw known

  size_known : before_tail bytes ≡ 0 → front_size bytes ≡ sheet_bytes bytes
  size_known none = size_of_known (known_of bytes none)

  pub size_unknown : (before_tail bytes ≡ 0 → ⊥) → front_size bytes ≡ length bytes
  unfolding front_size
  size_unknown met = rw (unknown_of bytes met)

  pub all_shown : (before_tail bytes ≡ 0 → ⊥) → front_bytes bytes ≡ bytes
  all_shown met = rw (size_unknown met) (take-length bytes)

  -- ---- the sheet that is cut from the stream

  module _ (none : before_tail bytes ≡ 0) where
    header_least : 7 ≤ samples_end bytes
    header_least =
        let least = begin_least bytes 0 (axes bytes) (omega arith) in
        let first = begin_first bytes in omega arith

    fields_inside : (samples_end bytes ≤ 8 * sheet_bytes bytes) × (8 * sheet_bytes bytes < samples_end bytes + 8)
        × (sheet_bytes bytes ≤ length bytes)
    unfolding sheet_bytes
    fields_inside = let s = (sound bytes none).room in (omega arith, omega arith, omega arith)

    pub size_some : 1 ≤ front_size bytes
    size_some = let least = header_least in let inside = fields_inside.0 in rw (size_known none) (omega arith)

    abbrev own : List ℕ
    own = take (sheet_bytes bytes) bytes

    own_front : front_bytes bytes ≡ own
    own_front = rw (size_known none)

    own_length : length own ≡ sheet_bytes bytes
    own_length = let inside = fields_inside.2 in length-take (sheet_bytes bytes) bytes ∙ omega arith

    own_reach : Reach (samples_end bytes) bytes
    own_reach = record { header = header_least; all_axes = λ few. omega arith; all_samples = λ few small. omega arith }

    own_agree : Agree (samples_end bytes) bytes own
    own_agree = agree_take (samples_end bytes) (sheet_bytes bytes) bytes fields_inside.0 fields_inside.2

    own_none : before_tail own ≡ 0
    own_none = sym (before_tail_same (samples_end bytes) bytes own own_agree own_reach) ∙ none

    own_end : samples_end own ≡ samples_end bytes
    own_end = sym (end_is (samples_end bytes) bytes own own_agree own_reach (sound bytes none).few)

    -- nothing is met before the tail of the sheet's own bytes
    pub front_none : before_tail (front_bytes bytes) ≡ 0
    front_none = rw own_front own_none

    -- the bits after the last sample, up to the byte
    abbrev tail : ℕ
    tail = field own (samples_end bytes) (8 * length own - samples_end bytes)

    -- the tail rule of a stream: bits to the byte only, and one that is not zero is 14
    pub tail_to_the_byte : sheet_refusal (front_bytes bytes) ≡ cond (not (eqb tail 0)) 14 0
    tail_to_the_byte =
        let long = own_length in
        let near = fields_inside.1 in
        let few : length own < (samples_end bytes + 15) / 8 = omega arith in
        rw (own_front, refusal_late own own_none, own_end, ← few_left own (samples_end bytes) few tail refl)

    -- ---- what looking at its own bytes finds

    edition_own : edition own ≡ edition bytes
    edition_own = sym (field_same (samples_end bytes) bytes own own_agree 0 4 (omega (arith, header_least)))

    grid_own : sheet_grid own ≡ sheet_grid bytes
    grid_own = sym (grid_is (samples_end bytes) bytes own own_agree own_reach (sound bytes none).few)

    axes_own : axes own ≡ axes bytes
    axes_own = sym (axes_same (samples_end bytes) bytes own own_agree header_least)

    entries_own : entries own (axes own) ≡ entries bytes (axes bytes)
    unfolding sheet_grid
    entries_own = ap (λ (g : Grid). g.entries) grid_own

    -- the bits after the last sample, which are there, read in the stream
    pub tail_room : (8 * sheet_bytes bytes ≤ 8 * length bytes) × (samples_end bytes ≤ 8 * sheet_bytes bytes)
        × (8 * sheet_bytes bytes - samples_end bytes < 8) × (1 ≤ sheet_bytes bytes)
    tail_room =
        let inside = fields_inside in
        let least = header_least in
        (omega (arith, inside.2), inside.0, omega (arith, inside.1), omega (arith, inside.0))

    tail_is : field bytes (samples_end bytes) (8 * sheet_bytes bytes - samples_end bytes) ≡ tail
    tail_is =
        field_same (8 * sheet_bytes bytes) bytes own (agree_take (8 * sheet_bytes bytes) (sheet_bytes bytes) bytes (omega arith)
        fields_inside.2) (samples_end bytes) (8 * sheet_bytes bytes - samples_end bytes) (omega (arith, fields_inside.0))
        ∙ ap (λ (n : ℕ). field own (samples_end bytes) (8 * n - samples_end bytes)) (sym own_length)

    pub tail_set : (field bytes (samples_end bytes) (8 * sheet_bytes bytes - samples_end bytes) ≡ 0 → ⊥)
        → refused_answer 14 ≡ look_answer (front_bytes bytes)
    tail_set set =
        let some : eqb tail 0 ≡ false = ne_eqb tail 0 (λ z. set (tail_is ∙ z)) in
        let refusal : sheet_refusal (front_bytes bytes) ≡ 14 = tail_to_the_byte ∙ ap (λ (b : Bool). cond (not b) 14 0) some in
        rw refusal

    pub tail_zero : field bytes (samples_end bytes) (8 * sheet_bytes bytes - samples_end bytes) ≡ 0
        → answer_of 0 (edition bytes) (axes bytes) (entries bytes (axes bytes)) ≡ look_answer (front_bytes bytes)
    tail_zero zero_there =
        let none_set : eqb tail 0 ≡ true = eq-eqb tail 0 (sym tail_is ∙ zero_there) in
        let refusal : sheet_refusal (front_bytes bytes) ≡ 0 = tail_to_the_byte ∙ ap (λ (b : Bool). cond (not b) 14 0) none_set in
        rw (refusal, own_front, edition_own, entries_own, axes_own)

  pub size_inside : front_size bytes ≤ length bytes
  size_inside = either_case bytes (λ none. rw (size_known none) (fields_inside none).2) (λ met. rw (size_unknown met) (omega arith))

-- ---- enough bytes, and more

samples_few : (bytes : List ℕ) → tensor_refused (sheet_grid bytes) ≡ false → samples_length (sheet_grid bytes) ≤ 4096
samples_few bytes e =
    let most = ltb-false 4096 (tensor_length (sheet_grid bytes)) e in
    let g = sheet_grid bytes in
    omega (arith, le-mul_of_pos_right (samples_length g) (pow_pos g.axes))

enough_reach : (bytes : List ℕ) → Reach (8 * enough_bytes) bytes
enough_reach bytes = record {
  header = omega arith;
  all_axes = λ few. let most = begin_most bytes (axes bytes) in omega arith;
  all_samples = λ few small. let most = begin_most bytes (axes bytes) in let count = samples_few bytes small in omega arith;
}

pub end_most : (bytes : List ℕ) → before_tail bytes ≡ 0 → samples_end bytes ≤ 8 * enough_bytes
end_most bytes none = let s = sound bytes none in (enough_reach bytes).all_samples s.few s.small

module _ (bytes more : List ℕ) (h : enough_bytes ≤ length bytes) where
  abbrev all : List ℕ
  all = bytes ++ more

  agree : Agree (8 * enough_bytes) all bytes
  agree = agree_append (8 * enough_bytes) bytes more (omega arith)

  pub before_tail_local : before_tail all ≡ before_tail bytes
  before_tail_local = before_tail_same (8 * enough_bytes) all bytes agree (enough_reach all)

  -- a fault before the tail is met whatever follows
  pub refusal_local : (before_tail bytes ≡ 0 → ⊥) → sheet_refusal all ≡ sheet_refusal bytes
  refusal_local met = refusal_early all (λ z. met (sym before_tail_local ∙ z)) ∙ before_tail_local ∙ sym (refusal_early bytes met)

  -- and where there is none, the front sheet has the same bytes, and the same follow it
  module _ (none : before_tail bytes ≡ 0) where
    none_all : before_tail all ≡ 0
    none_all = before_tail_local ∙ none

    size_local : front_size all ≡ front_size bytes
    unfolding sheet_bytes
    size_local =
        let same = end_is (8 * enough_bytes) all bytes agree (enough_reach all) (sound all none_all).few in
        size_known all none_all ∙ ap (λ (n : ℕ). (n + 7) / 8) same ∙ sym (size_known bytes none)

    pub front_local : front_bytes all ≡ front_bytes bytes
    front_local = rw size_local (take-append-le (front_size bytes) bytes more (size_inside bytes))

    pub rest_local : rest_bytes all ≡ rest_bytes bytes ++ more
    rest_local = rw size_local (drop-append-le (front_size bytes) bytes more (size_inside bytes))
