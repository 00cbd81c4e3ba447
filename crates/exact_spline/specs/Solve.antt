-- The chapter Solve of docs/RULES.md, over any arithmetic: the two solves of linear rows, row k with
-- sub (k - 1), diag k, sup k and rhs k; the last row is row l.
use Rattle.std.specs.Prelude.{cond, eqb}
use Prim.Native.Nat.{ℕ, zero, suc, ◌-◌}
use Rattle.exact_arithmetic.specs.Arithmetic.{Arithmetic}

module _ (A : Arithmetic) where
  infixl 60 ◌⊕◌
  infixl 60 ◌⊖◌
  infixl 70 ◌⊗◌
  infixl 70 ◌⊘◌
  open A use {Number, nought, one, plus as ◌⊕◌, minus as ◌⊖◌, times as ◌⊗◌, over as ◌⊘◌, negative as neg}

  -- `thomas`
  module _ (sub diag sup rhs : ℕ → Number) where
    -- what row k is divided by
    unfoldable pub w : ℕ → Number
    w zero = diag zero
    w (suc k) = diag (suc k) ⊖ sub k ⊗ (sup k ⊘ w k)

    -- the first helper row
    unfoldable pub cp : ℕ → Number
    unfolding w
    cp k = sup k ⊘ w k

    -- the second helper row
    unfoldable pub dp : ℕ → Number
    unfolding w
    dp zero = rhs zero ⊘ diag zero
    dp (suc k) = (rhs (suc k) ⊖ sub k ⊗ dp k) ⊘ w (suc k)

    -- the result j rows before the last
    unfoldable pub before_last : ℕ → ℕ → Number
    unfolding cp dp
    before_last l zero = dp l
    before_last l (suc j) = dp (l - suc j) ⊖ cp (l - suc j) ⊗ before_last l j

    -- number k of the result
    unfoldable pub thomas : ℕ → ℕ → Number
    unfolding before_last
    thomas l k = before_last l (l - k)

  -- `cyclic_thomas`: the corner stands in the first row's last place and in the last row's first
  module _ (sub diag sup rhs : ℕ → Number) (corner : Number) where
    -- the first number of the diagonal, its sign turned
    abbrev pub gamma : Number
    gamma = neg (diag 0)

    -- the diagonal without the corners
    unfoldable pub diag_mod : ℕ → ℕ → Number
    diag_mod l k =
        cond (eqb k 0) (diag k ⊖ gamma)
        (cond (eqb k l) (diag k ⊖ corner ⊗ corner ⊘ gamma)
        (diag k))

    -- the right side of the second solve
    unfoldable pub u_vec : ℕ → ℕ → Number
    u_vec l k = cond (eqb k 0) gamma (cond (eqb k l) corner nought)

    -- number k of the first solve, which has the right side as it is
    unfoldable pub y : ℕ → ℕ → Number
    unfolding diag_mod thomas
    y l k = thomas sub (diag_mod l) sup rhs l k

    -- number k of the second solve
    unfoldable pub z : ℕ → ℕ → Number
    unfolding diag_mod u_vec thomas
    z l k = thomas sub (diag_mod l) sup (u_vec l) l k

    -- how many times the second result is taken from the first
    unfoldable pub factor : ℕ → Number
    unfolding y z
    factor l = (y l 0 ⊕ corner ⊘ gamma ⊗ y l l) ⊘ (one ⊕ (z l 0 ⊕ corner ⊘ gamma ⊗ z l l))

    -- number k of the result, of two unknowns or more
    unfoldable pub cyclic_thomas : ℕ → ℕ → Number
    unfolding y z factor
    cyclic_thomas l k = y l k ⊖ factor l ⊗ z l k
