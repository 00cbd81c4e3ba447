-- The turns of `gather`, on plain lists.
use native.Mathlib.Omega.{arith}
use mathlib.Core.Path.{◌≡◌, refl, ◌∙◌}
use mathlib.Core.List.{List}
use Prim.Native.Nat.{ℕ, ◌+◌, ◌*◌, ◌<◌, ◌≤◌}
use lib.ListN.{length, set, length-set}
use lib.Seq.{get_or-set_same, get_or-set_other}
use lib.Ieee.{Float, nan}
use borrow.Author.Count.{below_more}
use Rattle.rules.specs.Numbers.{at}
use Rattle.tensor_lane.specs.LaneInScratch.{Lies, Gathered}

pub record Turn (w₀ w : List Float) (n from step k : ℕ) : Type 0 where
  pub lies : Lies w₀ n from step
  pub few : n ≤ 256
  pub most : k ≤ n
  pub same_length : length w ≡ length w₀
  pub done : Gathered w₀ w k from step

pub turn_first : (w : List Float) (n from step : ℕ) → Lies w n from step → n ≤ 256 → Turn w w n from step 0
turn_first w n from step l few = record {
  lies = l;
  few = few;
  most = omega arith;
  same_length = refl;
  done = record { same_length = refl; samples = λ k h. absurd (omega arith); kept = λ j h. refl };
}

pub turn_next :
    (w₀ w : List Float) (n from step k : ℕ) → Turn w₀ w n from step k → k < n
    → Turn w₀ (set w k (at w (from + k * step))) n from step (k + 1)
turn_next w₀ w n from step k t lt =
    let l = t.lies in
    let here : Float = at w (from + k * step) in
    record {
      lies = l;
      few = t.few;
      most = omega arith;
      same_length = simp length-set t.same_length;
      done = record {
        same_length = simp length-set t.same_length;
        samples = below_more _ k
            (λ j h. get_or-set_other w k j here nan (omega arith) ∙ t.done.samples j h)
            (get_or-set_same w k here nan (omega (arith, t.same_length, l.room, t.few))
            ∙ t.done.kept (from + k * step) (omega (arith, l.behind)));
        kept = λ j h. get_or-set_other w k j here nan (omega (arith, t.few)) ∙ t.done.kept j h;
      };
    }

pub turn_last : (w₀ w : List Float) (n from step k : ℕ) → Turn w₀ w n from step k → n ≤ k → Gathered w₀ w n from step
turn_last w₀ w n from step k t ge = let e : k ≡ n = omega (arith, t.most) in rw e at t.done
