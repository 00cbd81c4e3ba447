-- A solve reads its own rows alone: where two solves have the same rows, they have the same result. So for a cyclic solve.
use native.Mathlib.Omega.{arith}
use mathlib.Core.Path.{◌≡◌}
use Prim.Native.Nat.{ℕ, zero, suc, ◌-◌, ◌<◌, ◌≤◌}
use lib.Ieee.{Float}
use Rattle.rules.specs.Solve as Solve
use Rattle.rules.specs.Solve.{cp, dp, before_last, thomas, diag_mod, u_vec, factor, cyclic_thomas}

module _
    (sub diag sup rhs sub' diag' sup' rhs' : ℕ → Float) (l : ℕ)
    (same_sub : (k : ℕ) → k < l → sub k ≡ sub' k)
    (same_diag : (k : ℕ) → k ≤ l → diag k ≡ diag' k)
    (same_sup : (k : ℕ) → k < l → sup k ≡ sup' k)
    (same_rhs : (k : ℕ) → k ≤ l → rhs k ≡ rhs' k)
  where
    same_w : (k : ℕ) → k ≤ l → Solve.w sub diag sup rhs k ≡ Solve.w sub' diag' sup' rhs' k
    unfolding Solve.w
    same_w zero h = same_diag zero h
    same_w (suc k) h = cc (same_diag (suc k) h, same_sub k h, same_sup k h, same_w k (omega arith))

    same_cp : (k : ℕ) → k < l → cp sub diag sup rhs k ≡ cp sub' diag' sup' rhs' k
    unfolding cp
    same_cp k h = cc (same_sup k h, same_w k (omega arith))

    same_dp : (k : ℕ) → k ≤ l → dp sub diag sup rhs k ≡ dp sub' diag' sup' rhs' k
    unfolding dp
    same_dp zero h = cc (same_rhs zero h, same_diag zero h)
    same_dp (suc k) h = cc (same_rhs (suc k) h, same_sub k h, same_dp k (omega arith), same_w (suc k) h)

    same_before_last : (j : ℕ) → j ≤ l → before_last sub diag sup rhs l j ≡ before_last sub' diag' sup' rhs' l j
    unfolding before_last
    same_before_last zero h = same_dp l (omega arith)
    same_before_last (suc j) h =
        cc (same_dp (l - suc j) (omega arith), same_cp (l - suc j) (omega arith), same_before_last j (omega arith))

    pub same_thomas : (k : ℕ) → thomas sub diag sup rhs l k ≡ thomas sub' diag' sup' rhs' l k
    unfolding thomas
    same_thomas k = same_before_last (l - k) (omega arith)

module _
    (sub diag sup rhs sub' diag' sup' rhs' : ℕ → Float) (corner : Float) (l : ℕ)
    (same_sub : (k : ℕ) → k < l → sub k ≡ sub' k)
    (same_diag : (k : ℕ) → k ≤ l → diag k ≡ diag' k)
    (same_sup : (k : ℕ) → k < l → sup k ≡ sup' k)
    (same_rhs : (k : ℕ) → k ≤ l → rhs k ≡ rhs' k)
  where
    same_diag_mod : (k : ℕ) → k ≤ l → diag_mod sub diag sup rhs corner l k ≡ diag_mod sub' diag' sup' rhs' corner l k
    unfolding diag_mod
    same_diag_mod k h = cc (same_diag k h, same_diag 0 (omega arith))

    same_u_vec : (k : ℕ) → k ≤ l → u_vec sub diag sup rhs corner l k ≡ u_vec sub' diag' sup' rhs' corner l k
    unfolding u_vec
    same_u_vec k h = cc (same_diag 0 (omega arith))

    same_y : (k : ℕ) → Solve.y sub diag sup rhs corner l k ≡ Solve.y sub' diag' sup' rhs' corner l k
    unfolding Solve.y
    same_y k = same_thomas sub _ sup rhs sub' _ sup' rhs' l same_sub same_diag_mod same_sup same_rhs k

    same_z : (k : ℕ) → Solve.z sub diag sup rhs corner l k ≡ Solve.z sub' diag' sup' rhs' corner l k
    unfolding Solve.z
    same_z k = same_thomas sub _ sup _ sub' _ sup' _ l same_sub same_diag_mod same_sup same_u_vec k

    same_factor : factor sub diag sup rhs corner l ≡ factor sub' diag' sup' rhs' corner l
    unfolding factor
    same_factor = cc (same_y 0, same_y l, same_z 0, same_z l, same_diag 0 (omega arith))

    pub same_cyclic : (k : ℕ) → cyclic_thomas sub diag sup rhs corner l k ≡ cyclic_thomas sub' diag' sup' rhs' corner l k
    unfolding cyclic_thomas
    same_cyclic k = cc (same_y k, same_z k, same_factor)
