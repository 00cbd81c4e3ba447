-- The layout of the scratch, as in src/lib.rt: where each row begins, and what it is to read a row or to lie outside some of them.
use Rattle.std.specs.Prelude.{◌≢◌, List, ℕ, ◌+◌, ◌*◌, ◌<◌, Float}
use Rattle.rules.specs.Numbers.{at}
use Rattle.rules.specs.Sizes.{scratch_of_rows}

-- how many numbers a row has, and some rows together
abbrev pub row_length : ℕ
row_length = 256

abbrev pub rows : ℕ → ℕ
rows count = count * row_length

-- where each row begins; the lane's numbers stand in front of all
abbrev pub sub_row : ℕ
sub_row = 256

-- number k - 1 of sub, which row k has left of its diagonal, stands k further on
abbrev pub sub_before : ℕ
sub_before = 255

abbrev pub diag_row : ℕ
diag_row = 512

abbrev pub sup_row : ℕ
sup_row = 768

abbrev pub rhs_row : ℕ
rhs_row = 1024

abbrev pub cp_row : ℕ
cp_row = 1280

abbrev pub z_row : ℕ
z_row = 1536

abbrev pub moments_row : ℕ
moments_row = 1792

-- where the working tensor begins
abbrev pub tensor_begin : ℕ
tensor_begin = scratch_of_rows

-- number k of the row that begins at base
abbrev pub row : List Float → ℕ → ℕ → Float
row w base k = at w (base + k)

-- j is none of the n places that begin at base
abbrev pub Outside : ℕ → ℕ → ℕ → Type 0
Outside base n j = (k : ℕ) → k < n → j ≢ base + k

-- ---- the layout by four

-- how many numbers a row of a plan has, and some of them together
abbrev pub plan_row_length : ℕ
plan_row_length = 128

abbrev pub plan_rows : ℕ → ℕ
plan_rows count = count * plan_row_length

-- where each row of a plan begins, and where the last ends; the steps stand in front of all
abbrev pub divisors_row : ℕ
divisors_row = 128

abbrev pub helpers_row : ℕ
helpers_row = 256

abbrev pub second_row : ℕ
second_row = 384

abbrev pub plan_end : ℕ
plan_end = 512

-- where the blocks of rows of four begin, and how many numbers some of them have
abbrev pub four_slopes : ℕ
four_slopes = 1024

abbrev pub four_moments : ℕ
four_moments = 1536

abbrev pub four_blocks : ℕ → ℕ
four_blocks count = count * 512
