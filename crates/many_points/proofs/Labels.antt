-- Four labels at a place of a list stand there, one after the other, and what stands below them stays.
use native.Mathlib.Omega.{arith}
use mathlib.Core.Path.{◌≡◌, ap, ◌∙◌}
use mathlib.Core.List.{List}
use Prim.Native.Nat.{ℕ, zero, suc, ◌+◌, ◌<◌}
use lib.ListN.{length, set, length-set}
use lib.Seq.{get_or-set_same, get_or-set_other}
use Rattle.rules.specs.Sizes.{place_of}
use Rattle.many_points.specs.PointByPoint.{with_labels}

module _ (labels : List ℕ) (place : ℕ) (found : List ℕ) where
  -- the labels with one of the four in its place, with two, with three
  abbrev one : List ℕ
  one = set labels place (place_of found 0)

  abbrev two : List ℕ
  two = set one (place + 1) (place_of found 1)

  abbrev three : List ℕ
  three = set two (place + 2) (place_of found 2)

  -- what stands before the last of them, before the last two, before all but the first
  before_fourth : (k : ℕ) → (k ≡ place + 3 → ⊥) → place_of (with_labels labels place found) k ≡ place_of three k
  before_fourth k other = get_or-set_other three (place + 3) k (place_of found 3) 0 other

  before_third : (k : ℕ) → (k ≡ place + 3 → ⊥) → (k ≡ place + 2 → ⊥) → place_of (with_labels labels place found) k ≡ place_of two k
  before_third k fourth other = before_fourth k fourth ∙ get_or-set_other two (place + 2) k (place_of found 2) 0 other

  before_second :
      (k : ℕ) → (k ≡ place + 3 → ⊥) → (k ≡ place + 2 → ⊥) → (k ≡ place + 1 → ⊥)
      → place_of (with_labels labels place found) k ≡ place_of one k
  before_second k fourth third other = before_third k fourth third ∙ get_or-set_other one (place + 1) k (place_of found 1) 0 other

  pub labels_below : (k : ℕ) → k < place → place_of (with_labels labels place found) k ≡ place_of labels k
  labels_below k below =
      before_second k (λ e. omega arith) (λ e. omega arith) (λ e. omega arith)
      ∙ get_or-set_other labels place k (place_of found 0) 0 (λ e. omega arith)

  pub as_many_labels : length (with_labels labels place found) ≡ length labels
  as_many_labels = simp length-set

  pub labels_there : place + 3 < length labels → (i : ℕ) → i < 4 → place_of (with_labels labels place found) (place + i) ≡ place_of found i
  labels_there room zero few =
      before_second (place + 0) (λ e. omega arith) (λ e. omega arith) (λ e. omega arith)
      ∙ ap (place_of one) (let e : place + 0 ≡ place = omega arith in e)
      ∙ get_or-set_same labels place (place_of found 0) 0 (omega arith)
  labels_there room (suc zero) few =
      before_third (place + 1) (λ e. omega arith) (λ e. omega arith)
      ∙ get_or-set_same one (place + 1) (place_of found 1) 0 (simp length-set (omega arith))
  labels_there room (suc (suc zero)) few =
      before_fourth (place + 2) (λ e. omega arith) ∙ get_or-set_same two (place + 2) (place_of found 2) 0 (simp length-set (omega arith))
  labels_there room (suc (suc (suc zero))) few = get_or-set_same three (place + 3) (place_of found 3) 0 (simp length-set (omega arith))
  labels_there room (suc (suc (suc (suc i)))) few = absurd (omega arith)
