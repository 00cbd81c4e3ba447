-- The chapter ProfileExports of docs/RULES.md: the exported profile of even axes, and its own refusals in the order of OwnRefusals.
use Rattle.std.specs.Prelude.{◌≡◌, cond, ◌||◌, List, [], ◌∷◌, ◌++◌, ℕ, eqb, length, Float}
use Rattle.rules.specs.Sizes.{knots_length}
use Rattle.rules.specs.Refusals.{length_refused}
use Rattle.grid_checks.specs.Tables.{Refusal, row, lowest}
use Rattle.query_profile.specs.ProfileCalls.{even_profile_answer}
use Rattle.query_profile.specs.ProfileCalls.{EvenProfile}
use Rattle.c_axes.specs.Axes.{grid_without_ends}
use Rattle.c_refusals.specs.OwnRefusals.{sizes_given, axes_rows}

-- an axis and a place in a slot of two, which is left as it was where it is another slice
abbrev pub in_slot_of_two : List ℕ → ℕ → ℕ → List ℕ
in_slot_of_two lent axis place = cond (length_refused (length lent) 2) lent (axis ∷ place ∷ [])

module _ (axes : ℕ) (points : List ℕ) (knots : List Float) (told_lent : List ℕ) where
  -- 4 for the slot and for the knots
  abbrev pub even_profile_own_rows : List Refusal
  even_profile_own_rows =
      axes_rows axes points ++ (
      row 4 (length_refused (length told_lent) 2 || length_refused (length knots) (knots_length (sizes_given axes points))) ∷ []
      )

  unfoldable pub even_profile_own_refusal : ℕ
  even_profile_own_refusal = lowest even_profile_own_rows 0

  -- what is told: the call's answer, or that of the host's own refusal
  abbrev pub profile_told : EvenProfile
  profile_told =
      cond (eqb even_profile_own_refusal 0) (even_profile_answer (grid_without_ends axes points knots))
      (record { refusal = even_profile_own_refusal; axis = 0; place = 0 })

  -- what is promised: the refusal, and the axis and the place in their slot
  pub record EvenProfileExport (refusal : ℕ) (told_later : List ℕ) : Type 0 where
    pub answer : refusal ≡ profile_told.refusal
    pub answer_stored : told_later ≡ in_slot_of_two told_lent profile_told.axis profile_told.place
