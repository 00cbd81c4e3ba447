-- The turns of `remove_by_fours`, on plain lists: they leave the smaller cell in the front, and read each number before it is overwritten.
use native.Mathlib.Omega.{arith}
use mathlib.Core.Path.{◌≡◌, refl, ap₂, ◌∙◌}
use mathlib.Core.List.{List}
use Prim.Native.Nat.{ℕ, ◌+◌, ◌*◌, ◌/◌, ◌%◌, ◌<◌, ◌≤◌}
use lib.ListN.{length, set}
use lib.Ieee.{Float}
use Rattle.rules.specs.Numbers.{at}
use Rattle.query_blend.specs.Blend.{weighted_at, four_weighted, with_four, Blended}
use Rattle.query_blend.specs.declared.Weights.{Weights}
use Rattle.query_blend.proofs.Filling.{Reached, reached_none, reached_more, reached_four}

-- the number at e of the smaller cell
abbrev pub blended_at : List Float → ℕ → Weights → ℕ → Float
blended_at cell size w e = weighted_at w (at cell) (2 * e) (2 * size + 2 * e)

-- ---- the turns

-- so many turns are done, four numbers each
pub record Turn (cell₀ cell : List Float) (size : ℕ) (w : Weights) (k : ℕ) : Type 0 where
  pub room : 4 * size ≤ length cell₀
  pub few : length cell₀ ≤ 256
  pub fours : size % 4 ≡ 0
  pub reached : Reached cell₀ cell (blended_at cell₀ size w) (4 * k)

module _ (cell₀ cell : List Float) (size : ℕ) (w : Weights) (k : ℕ) (turn : Turn cell₀ cell size w k) where
  -- what is blended now is blended of the cell as it was
  further : (e near far : ℕ) → near ≡ 2 * e → far ≡ 2 * size + 2 * e → 4 * k ≤ e → weighted_at w (at cell) near far ≡ blended_at cell₀ size w e
  further e near far n f h =
      let kept = turn.reached.kept in
      ap₂ (weighted_at w (at cell)) n f
      ∙ cc (
        kept (2 * e) (omega arith),
        kept (2 * e + 1) (omega arith),
        kept (2 * size + 2 * e) (omega arith),
        kept (2 * size + 2 * e + 1) (omega arith),
      )

  pub turn_next : k < size / 4 → (four : List Float) → four ≡ four_weighted w (at cell) (2 * (4 * k)) (2 * size + 2 * (4 * k))
      → Turn cell₀ (with_four cell (4 * k) four) size w (k + 1)
  turn_next lt four is =
      let e = 4 * k in
      record {
        room = turn.room;
        few = turn.few;
        fours = turn.fours;
        reached = reached_four cell₀ (blended_at cell₀ size w) cell e turn.reached four
            (rw is (further e (2 * e) (2 * size + 2 * e) refl refl (omega arith)))
            (rw is (further (e + 1) (2 * e + 2) (2 * size + 2 * e + 2) (omega arith) (omega arith) (omega arith)))
            (rw is (further (e + 2) (2 * e + 4) (2 * size + 2 * e + 4) (omega arith) (omega arith) (omega arith)))
            (rw is (further (e + 3) (2 * e + 6) (2 * size + 2 * e + 6) (omega arith) (omega arith) (omega arith)))
            (omega (arith, turn.room, lt))
            (4 * (k + 1))
            (omega arith);
      }

-- ---- one number is left

pub one_left : (cell : List Float) (size : ℕ) (w : Weights) (r : Float) → size ≡ 1 → r ≡ weighted_at w (at cell) 0 2
    → 4 * size ≤ length cell → Blended cell (set cell 0 r) size w
one_left cell size w r one is room =
    let last =
    reached_more cell (blended_at cell size w) cell 0 (reached_none cell (blended_at cell size w)) r (rw one is) (omega arith) 1
    (omega arith) in
    record { same_length = last.same_length; smaller = λ e h. last.done e (omega arith) }
