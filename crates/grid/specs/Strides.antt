-- The chapter Strides of docs/RULES.md: how far apart neighbours stand.
use Rattle.std.specs.Prelude.{cond, ℕ, zero, suc, ◌*◌, ltb}

-- from one place to the next along axis i, on the first d axes of n points each: as many as the axes after i have places
unfoldable pub stride : (ℕ → ℕ) → ℕ → ℕ → ℕ
stride n zero i = 1
stride n (suc d) i = cond (ltb i d) (stride n d i * n d) 1
