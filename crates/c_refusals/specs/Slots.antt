-- The chapter Slots of docs/RULES.md: what stands in the slots of an answer. They are written with every answer, a refusal's too, where all
-- of them have their lengths.
use Rattle.std.specs.Prelude.{◌≡◌, Bool, cond, ◌||◌, List, [], ◌∷◌, ℕ, length, Float}
use Rattle.rules.specs.Refusals.{length_refused}
use Rattle.c_refusals.specs.OwnRefusals.{query_slots_refused}

-- an answer in a slot of one, which is left as it was where it is another slice
abbrev pub in_slot : {A : Type 0} → List A → A → List A
in_slot lent answer = cond (length_refused (length lent) 1) lent (answer ∷ [])

-- a value and labels in these slots, which are both left as they were where one is another slice
pub record QueryStored (value_lent : List Float) (labels_lent : List ℕ) (value : Float) (labels : List ℕ) (value_later : List Float)
    (labels_later : List ℕ) : Type 0 where
  pub slot : value_later ≡ cond (query_slots_refused value_lent labels_lent) value_lent (value ∷ [])
  pub slots : labels_later ≡ cond (query_slots_refused value_lent labels_lent) labels_lent labels

-- 4 for a slot of the query of even axes
abbrev pub even_slots_refused : List Float → List ℕ → List ℕ → Bool
even_slots_refused value labels uneven = query_slots_refused value labels || length_refused (length uneven) 2

-- a value, labels, and an axis with its interval in these slots, which are all left as they were where one is another slice
pub record EvenStored (value_lent : List Float) (labels_lent uneven_lent : List ℕ) (value : Float) (labels : List ℕ) (axis interval : ℕ)
    (value_later : List Float) (labels_later uneven_later : List ℕ) : Type 0 where
  pub slot : value_later ≡ cond (even_slots_refused value_lent labels_lent uneven_lent) value_lent (value ∷ [])
  pub slots : labels_later ≡ cond (even_slots_refused value_lent labels_lent uneven_lent) labels_lent labels
  pub told : uneven_later ≡ cond (even_slots_refused value_lent labels_lent uneven_lent) uneven_lent (axis ∷ interval ∷ [])
