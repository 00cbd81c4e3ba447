-- The turns of `blend_run`, on plain lists.
use native.Mathlib.Omega.{arith}
use mathlib.Core.Path.{◌≡◌, refl, ap₂}
use mathlib.Core.List.{List}
use Prim.Native.Nat.{ℕ, ◌+◌, ◌*◌, ◌/◌, ◌<◌}
use lib.ListN.{length}
use lib.Ieee.{Float}
use Rattle.rules.specs.Numbers.{at}
use Rattle.query_blend.specs.Blend.{weighted_at, four_weighted, with_four, RunGiven}
use Rattle.query_blend.specs.declared.Weights.{Weights}
use Rattle.query_blend.proofs.Filling.{Reached, reached_four}

module _ (run₀ numbers : List Float) (lower upper : ℕ) (w : Weights) where
  abbrev blended : ℕ → Float
  blended k = weighted_at w (at numbers) (lower + 2 * k) (upper + 2 * k)

  -- so many turns are done, four numbers each
  pub record Turn (run : List Float) (k : ℕ) : Type 0 where
    pub given : RunGiven (length run₀) numbers lower upper
    pub reached : Reached run₀ run blended (4 * k)

  further : (k near far : ℕ) → near ≡ lower + 2 * k → far ≡ upper + 2 * k → weighted_at w (at numbers) near far ≡ blended k
  further k near far n f = ap₂ (weighted_at w (at numbers)) n f

  pub turn_next : (run : List Float) (k : ℕ) → Turn run k → k < length run₀ / 4 → (four : List Float)
      → four ≡ four_weighted w (at numbers) (lower + 2 * (4 * k)) (upper + 2 * (4 * k)) → Turn (with_four run (4 * k) four) (k + 1)
  turn_next run k turn lt four is =
      let e = 4 * k in
      record {
        given = turn.given;
        reached = reached_four run₀ blended run e turn.reached four
            (rw is refl)
            (rw is (further (e + 1) (lower + 2 * e + 2) (upper + 2 * e + 2) (omega arith) (omega arith)))
            (rw is (further (e + 2) (lower + 2 * e + 4) (upper + 2 * e + 4) (omega arith) (omega arith)))
            (rw is (further (e + 3) (lower + 2 * e + 6) (upper + 2 * e + 6) (omega arith) (omega arith)))
            (omega (arith, lt))
            (4 * (k + 1))
            (omega arith);
      }
