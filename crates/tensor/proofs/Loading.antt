-- A tensor copied to the scratch behind the rows, and one number stored over the copy.
use native.Mathlib.Omega.{arith}
use mathlib.Core.Path.{◌≡◌, sym, ap, ◌∙◌}
use mathlib.Core.List.{List, ◌++◌}
use Prim.Native.Nat.{ℕ, ◌+◌, ◌<◌, ◌≤◌}
use lib.ListN.{length, set, take, drop, length-set, length-append, length-drop, get_or-append}
use lib.Seq.{length-take-le, get_or-append-add, get_or-set_same, get_or-set_other}
use lib.Ieee.{Float, nan}
use Rattle.rules.specs.Numbers.{at}
use Rattle.tensor.specs.Working.{Loaded}

module _ (w tensor : List Float) (n spot : ℕ) (number : Float) (room : 2048 + length tensor ≤ length w) (inside : spot < length tensor)
    (n_is : n ≡ length tensor) where
  -- the scratch with the copy
  abbrev copy : List Float
  copy = take 2048 w ++ (tensor ++ drop n (drop 2048 w))

  rows_length : length (take 2048 w) ≡ 2048
  rows_length = length-take-le 2048 w (omega arith)

  copy_length : length copy ≡ length w
  copy_length = simp (length-append, length-drop) (omega (arith, rows_length))

  copy_at : (e : ℕ) → e < length tensor → at copy (2048 + e) ≡ at tensor e
  copy_at e lt =
      ap (λ (k : ℕ). at copy (k + e)) (sym rows_length)
      ∙ get_or-append-add (take 2048 w) (tensor ++ drop n (drop 2048 w)) e nan
      ∙ get_or-append tensor (drop n (drop 2048 w)) nan e lt

  pub loaded : Loaded w (set copy (2048 + spot) number) tensor spot number
  loaded = record {
    same_length = simp length-set copy_length;
    new = get_or-set_same copy (2048 + spot) number nan (omega (arith, copy_length));
    copied = λ e lt other. get_or-set_other copy (2048 + spot) (2048 + e) number nan (omega arith) ∙ copy_at e lt;
  }
