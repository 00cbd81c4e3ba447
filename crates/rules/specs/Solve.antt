-- The chapter Solve of docs/RULES.md: the two solves of linear rows, each row a function of its index. Row k has sub (k - 1), diag k, sup k
-- and rhs k; the last row is row l.
use Rattle.std.specs.Prelude.{cond, eqb, Float}
use Prim.Native.Nat.{ℕ, zero, suc, ◌-◌}
use Rattle.std.specs.Float.Ieee.{neg}
use Rattle.rules.specs.Numbers.{◌⊕◌, ◌⊖◌, ◌⊗◌, ◌⊘◌, plus_zero, one}

-- `thomas`
module _ (sub diag sup rhs : ℕ → Float) where
  -- what row k is divided by
  unfoldable pub w : ℕ → Float
  w zero = diag zero
  w (suc k) = diag (suc k) ⊖ sub k ⊗ (sup k ⊘ w k)

  -- the first helper row; the Rust sets its last number to zero and does not read it
  unfoldable pub cp : ℕ → Float
  unfolding w
  cp k = sup k ⊘ w k

  -- the second helper row
  unfoldable pub dp : ℕ → Float
  unfolding w
  dp zero = rhs zero ⊘ diag zero
  dp (suc k) = (rhs (suc k) ⊖ sub k ⊗ dp k) ⊘ w (suc k)

  -- the result j rows before the last
  unfoldable pub before_last : ℕ → ℕ → Float
  unfolding cp dp
  before_last l zero = dp l
  before_last l (suc j) = dp (l - suc j) ⊖ cp (l - suc j) ⊗ before_last l j

  -- number k of the result
  unfoldable pub thomas : ℕ → ℕ → Float
  unfolding before_last
  thomas l k = before_last l (l - k)

-- `cyclic_thomas`: the corner stands in the first row's last place and in the last row's first
module _ (sub diag sup rhs : ℕ → Float) (corner : Float) where
  -- the first number of the diagonal, its sign turned
  abbrev pub gamma : Float
  gamma = neg (diag 0)

  -- the diagonal without the corners
  unfoldable pub diag_mod : ℕ → ℕ → Float
  diag_mod l k =
      cond (eqb k 0) (diag k ⊖ gamma)
      (cond (eqb k l) (diag k ⊖ corner ⊗ corner ⊘ gamma)
      (diag k))

  -- the right side of the second solve
  unfoldable pub u_vec : ℕ → ℕ → Float
  u_vec l k = cond (eqb k 0) gamma (cond (eqb k l) corner plus_zero)

  -- number k of the first solve, which has the right side as it is
  unfoldable pub y : ℕ → ℕ → Float
  unfolding diag_mod thomas
  y l k = thomas sub (diag_mod l) sup rhs l k

  -- number k of the second solve
  unfoldable pub z : ℕ → ℕ → Float
  unfolding diag_mod u_vec thomas
  z l k = thomas sub (diag_mod l) sup (u_vec l) l k

  -- how many times the second result is taken from the first
  unfoldable pub factor : ℕ → Float
  unfolding y z
  factor l = (y l 0 ⊕ corner ⊘ gamma ⊗ y l l) ⊘ (one ⊕ (z l 0 ⊕ corner ⊘ gamma ⊗ z l l))

  -- number k of the result, of two unknowns or more
  unfoldable pub cyclic_thomas : ℕ → ℕ → Float
  unfolding y z factor
  cyclic_thomas l k = y l k ⊖ factor l ⊗ z l k
