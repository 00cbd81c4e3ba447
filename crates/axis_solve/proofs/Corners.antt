-- The stores of `diag_mod` and `u_vec`, on plain lists: the ends of a row, and zeros between them.
use native.Mathlib.Omega.{arith}
use mathlib.Core.Path.{◌≡◌, refl, subst, ◌∙◌}
use mathlib.Core.Logic.{◌≢◌}
use mathlib.Core.List.{List, []}
use Prim.Native.Nat.{ℕ, zero, suc, ◌+◌, ◌-◌, ◌<◌, ◌≤◌}
use lib.ListN.{length, set, take, drop, replicate, length-set, length-replicate, length-take, length-drop}
use borrow.Rule.Slice.PartMut.{put_mid}
use Rattle.std.proofs.lemmas.Slice.{put_mid-paste}
use Rattle.std.proofs.lemmas.List.Edits.{fill_from_more}
use native.Mathlib.Numerals.{add-one}
use lib.Seq.{paste, paste-zero, get_or-set_same, get_or-set_other}
use lib.Ieee.{Float, nan}
use borrow.Author.Count.{below_more}
use Rattle.rules.specs.Numbers.{at, ◌⊖◌, ◌⊗◌, ◌⊘◌, plus_zero}
use Rattle.axis_solve.specs.RowsSolved.{RowsGiven}
use Rattle.grid_scratch.specs.Layout.{row, Outside}
use Rattle.axis_solve.specs.Cyclic.{DiagMod, UVec}

-- a at a row's first place and then b at its last
module _ (w : List Float) (base l : ℕ) (a b : Float) (more : 0 < l) (inside : base + l < length w) where
  abbrev ends : List Float
  ends = set (set w base a) (base + l) b

  at_first : at ends base ≡ a
  at_first = get_or-set_other (set w base a) (base + l) base b nan (omega arith) ∙ get_or-set_same w base a nan (omega arith)

  at_last : at ends (base + l) ≡ b
  at_last = get_or-set_same (set w base a) (base + l) b nan (simp length-set (omega arith))

  at_other : (j : ℕ) → j ≢ base → j ≢ base + l → at ends j ≡ at w j
  at_other j m n = get_or-set_other (set w base a) (base + l) j b nan n ∙ get_or-set_other w base j a nan m

module _ (w : List Float) (l : ℕ) (gamma corner : Float) (g : RowsGiven w l) (more : 0 < l) where
  abbrev a : Float
  a = at w 512 ⊖ gamma

  abbrev b : Float
  b = at (set w 512 a) (512 + l) ⊖ corner ⊗ corner ⊘ gamma

  pub without_corners : DiagMod w (set (set w 512 a) (512 + l) b) l gamma corner
  without_corners = record {
    same_length = simp length-set;
    first = at_first w 512 l a b more (omega arith);
    last = at_last w 512 l a b more (omega arith) ∙ rw (get_or-set_other w 512 (512 + l) a nan (omega arith));
    kept = at_other w 512 l a b more (omega arith);
  }

-- the right side is zero after its first place and before place k
pub record Turn (w₀ w : List Float) (l k : ℕ) : Type 0 where
  pub given : RowsGiven w₀ l
  pub least : 0 < k
  pub most : k ≤ l
  pub same_length : length w ≡ length w₀
  pub between : (j : ℕ) → j < k → 0 < j → row w 1024 j ≡ plus_zero
  pub kept : (j : ℕ) → Outside 1024 (suc l) j → at w j ≡ at w₀ j

pub turn_first : (w : List Float) (l : ℕ) → RowsGiven w l → 0 < l → Turn w w l 1
turn_first w l g more = record {
  given = g;
  least = omega arith;
  most = omega arith;
  same_length = refl;
  between = λ j b a. absurd (omega arith);
  kept = λ j o. refl;
}

pub turn_next : (w₀ w : List Float) (l k : ℕ) → Turn w₀ w l k → k < l → Turn w₀ (set w (1024 + k) plus_zero) l (k + 1)
turn_next w₀ w l k t lt =
    let other : (j : ℕ) → j ≢ 1024 + k → at (set w (1024 + k) plus_zero) j ≡ at w j =
    λ j n. get_or-set_other w (1024 + k) j plus_zero nan n in
    record {
      given = t.given;
      least = omega arith;
      most = omega arith;
      same_length = simp length-set t.same_length;
      between =
          below_more _ k
          (λ j b a. other (1024 + j) (omega arith) ∙ t.between j b a)
          (λ a. get_or-set_same w (1024 + k) plus_zero nan (omega arith));
      kept = λ j o. other j (o k (omega arith)) ∙ t.kept j o;
    }

-- k zeros put in at once, from place 1 on
put_in : (w : List Float) (l k : ℕ) → RowsGiven w l → k < l → Turn w (paste w 1025 (replicate k plus_zero) k) l (k + 1)
put_in w l zero g lt = subst (λ (v : List Float). Turn w v l 1) (paste-zero w 1025 []) (turn_first w l g (omega arith))
put_in w l (suc k) g lt =
    let next : 1024 + (k + 1) ≡ 1025 + k = omega arith in
    simp add-one
    (simp add-one at
    (rw (next, fill_from_more w 1025 k plus_zero (omega (arith, g))) at
    (turn_next w (paste w 1025 (replicate k plus_zero) k) l (k + 1) (put_in w l k g (omega arith)) (omega arith))))

-- what a fill of the places between the ends leaves
pub filled : (w zeros : List Float) (l : ℕ) → RowsGiven w l → 0 < l
    → zeros ≡ replicate (length (take (1024 + l - 1025) (drop 1025 w))) plus_zero
    → Turn w (put_mid 1025 (1024 + l - 1025) w zeros) l l
filled w zeros l g more is =
    let inside : length (take (1024 + l - 1025) (drop 1025 w)) ≡ l - 1 = simp (length-take, length-drop) (omega (arith, g)) in
    let all : l - 1 + 1 ≡ l = omega arith in
    rw (put_mid-paste 1025 (1024 + l - 1025) w zeros (replicate (l - 1) plus_zero) (l - 1) (rw inside at is) (omega arith) (simp length-replicate))
    (subst (Turn w (paste w 1025 (replicate (l - 1) plus_zero) (l - 1)) l) all (put_in w l (l - 1) g (omega arith)))

pub turn_last : (w₀ w : List Float) (l k : ℕ) (gamma corner : Float) → Turn w₀ w l k → l ≤ k
    → UVec w₀ (set (set w 1024 gamma) (1024 + l) corner) l gamma corner
turn_last w₀ w l k gamma corner t ge =
    let more : 0 < l = omega arith in
    let inside : 1024 + l < length w = omega arith in
    let other = at_other w 1024 l gamma corner more inside in
    record {
      same_length = simp length-set t.same_length;
      first = at_first w 1024 l gamma corner more inside;
      last = at_last w 1024 l gamma corner more inside;
      between = λ j a b. other (1024 + j) (omega arith) (omega arith) ∙ t.between j (omega arith) a;
      kept = λ j o. other j (omega (arith, o 0 (omega arith))) (o l (omega arith)) ∙ t.kept j o;
    }
