-- Four labels copied to a place of a list are those written there one after the other.
use native.Mathlib.Omega.{arith}
use mathlib.Core.Path.{◌≡◌, refl, ap}
use mathlib.Core.List.{List, [], ◌∷◌}
use Prim.Native.Nat.{ℕ, zero, suc, ◌+◌, ◌≤◌}
use borrow.Rule.Slice.PartMut.{put_mid}
use lib.ListN.{length}
use Rattle.many_points.specs.PointByPoint.{with_labels}

-- the first four of a list
first_four : (labels found : List ℕ) → length found ≡ 4 → 4 ≤ length labels → put_mid 0 4 labels found ≡ with_labels labels 0 found
first_four [] found e h = absurd (omega arith)
first_four (a ∷ []) found e h = absurd (omega arith)
first_four (a ∷ b ∷ []) found e h = absurd (omega arith)
first_four (a ∷ b ∷ c ∷ []) found e h = absurd (omega arith)
first_four (a ∷ b ∷ c ∷ d ∷ labels) [] e h = absurd (omega arith)
first_four (a ∷ b ∷ c ∷ d ∷ labels) (w ∷ []) e h = absurd (omega arith)
first_four (a ∷ b ∷ c ∷ d ∷ labels) (w ∷ x ∷ []) e h = absurd (omega arith)
first_four (a ∷ b ∷ c ∷ d ∷ labels) (w ∷ x ∷ y ∷ []) e h = absurd (omega arith)
first_four (a ∷ b ∷ c ∷ d ∷ labels) (w ∷ x ∷ y ∷ z ∷ []) e h = refl
first_four (a ∷ b ∷ c ∷ d ∷ labels) (w ∷ x ∷ y ∷ z ∷ v ∷ found) e h = absurd (omega arith)

pub labels_copied : (labels : List ℕ) (place : ℕ) (found : List ℕ) → length found ≡ 4 → place + 4 ≤ length labels
    → put_mid place 4 labels found ≡ with_labels labels place found
labels_copied labels zero found e h = first_four labels found e h
labels_copied [] (suc place) found e h = absurd (omega arith)
labels_copied (a ∷ labels) (suc place) found e h =
    let second : suc place + 1 ≡ suc (place + 1) = omega arith in
    let third : suc place + 2 ≡ suc (place + 2) = omega arith in
    let fourth : suc place + 3 ≡ suc (place + 3) = omega arith in
    rw (second, third, fourth) (ap (λ (l : List ℕ). a ∷ l) (labels_copied labels place found e (omega arith)))
