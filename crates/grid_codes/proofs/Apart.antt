-- The classes are apart from each other.
use mathlib.Core.Path.{◌≡◌, ap}
use Prim.Native.Nat.{ℕ}
use native.Mathlib.Omega.{arith}
use Rattle.grid_codes.specs.declared.classes.Class.{Class}
use Rattle.grid_codes.specs.declared.classes.Class.TheVariants.{None, Reading, Building, Writing, Unknown}

-- the classes one after the other
abbrev pub place : Class → ℕ
place None = 0
place Reading = 1
place Building = 2
place Writing = 3
place Unknown = 4

pub none_not_reading : None ≡ Reading → ⊥
none_not_reading e = let places = ap place e in omega arith

pub reading_not_building : Reading ≡ Building → ⊥
reading_not_building e = let places = ap place e in omega arith

pub none_not_building : None ≡ Building → ⊥
none_not_building e = let places = ap place e in omega arith
