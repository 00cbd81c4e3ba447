-- Linear rows in which each unknown meets its two neighbours alone: what it is to solve them, and what bounds their solution.
use Rattle.std.specs.Prelude.{◌≡◌, ℕ, suc, ◌<◌}
use Rattle.exact_arithmetic.specs.Arithmetic.{Arithmetic, IsOrdered}

module _ (A : Arithmetic) (sub diag sup : ℕ → A.Number) where
  infixl 60 ◌⊕◌
  infixl 60 ◌⊖◌
  infixl 70 ◌⊗◌
  open A use {Number, plus as ◌⊕◌, minus as ◌⊖◌, times as ◌⊗◌}

  -- v solves the rows 0 .. l + 1, of which there are two or more
  pub record Solves (rhs : ℕ → Number) (l : ℕ) (v : ℕ → Number) : Type 0 where
    pub first : diag 0 ⊗ v 0 ⊕ sup 0 ⊗ v 1 ≡ rhs 0
    pub middle : (k : ℕ) → k < l → sub k ⊗ v k ⊕ diag (suc k) ⊗ v (suc k) ⊕ sup (suc k) ⊗ v (suc (suc k)) ≡ rhs (suc k)
    pub last : sub l ⊗ v l ⊕ diag (suc l) ⊗ v (suc l) ≡ rhs (suc l)

  -- on each row the diagonal is greater than the two others together, whatever their signs
  pub record Dominant (O : IsOrdered A) (l : ℕ) : Type 0 where
    pub first_minus : O.Positive (diag 0 ⊖ sup 0)
    pub first_plus : O.Positive (diag 0 ⊕ sup 0)
    pub middle_minus_minus : (k : ℕ) → k < l → O.Positive (diag (suc k) ⊖ sup (suc k) ⊖ sub k)
    pub middle_minus_plus : (k : ℕ) → k < l → O.Positive (diag (suc k) ⊖ sup (suc k) ⊕ sub k)
    pub middle_plus_minus : (k : ℕ) → k < l → O.Positive (diag (suc k) ⊕ sup (suc k) ⊖ sub k)
    pub middle_plus_plus : (k : ℕ) → k < l → O.Positive (diag (suc k) ⊕ sup (suc k) ⊕ sub k)
    pub last_minus : O.Positive (diag (suc l) ⊖ sub l)
    pub last_plus : O.Positive (diag (suc l) ⊕ sub l)

  -- v solves the rows 0 .. l + 1, where a corner stands in the first row's last place and in the last row's first
  pub record SolvesCyclic (rhs : ℕ → Number) (corner : Number) (l : ℕ) (v : ℕ → Number) : Type 0 where
    pub first : diag 0 ⊗ v 0 ⊕ sup 0 ⊗ v 1 ⊕ corner ⊗ v (suc l) ≡ rhs 0
    pub middle : (k : ℕ) → k < l → sub k ⊗ v k ⊕ diag (suc k) ⊗ v (suc k) ⊕ sup (suc k) ⊗ v (suc (suc k)) ≡ rhs (suc k)
    pub last : sub l ⊗ v l ⊕ diag (suc l) ⊗ v (suc l) ⊕ corner ⊗ v 0 ≡ rhs (suc l)

  -- on each row the right side is less, whatever its sign, than so many times what the diagonal has above the two others, which are
  -- positive
  pub record Bounded (O : IsOrdered A) (rhs : ℕ → Number) (bound : Number) (l : ℕ) : Type 0 where
    pub sub_positive : (k : ℕ) → k < suc l → O.Positive (sub k)
    pub sup_positive : (k : ℕ) → k < suc l → O.Positive (sup k)
    pub first_below : O.Positive (bound ⊗ (diag 0 ⊖ sup 0) ⊖ rhs 0)
    pub first_above : O.Positive (bound ⊗ (diag 0 ⊖ sup 0) ⊕ rhs 0)
    pub middle_below : (k : ℕ) → k < l → O.Positive (bound ⊗ (diag (suc k) ⊖ sup (suc k) ⊖ sub k) ⊖ rhs (suc k))
    pub middle_above : (k : ℕ) → k < l → O.Positive (bound ⊗ (diag (suc k) ⊖ sup (suc k) ⊖ sub k) ⊕ rhs (suc k))
    pub last_below : O.Positive (bound ⊗ (diag (suc l) ⊖ sub l) ⊖ rhs (suc l))
    pub last_above : O.Positive (bound ⊗ (diag (suc l) ⊖ sub l) ⊕ rhs (suc l))
