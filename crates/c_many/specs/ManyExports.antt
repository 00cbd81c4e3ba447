-- The chapter ManyExports of docs/RULES.md: the exported queries of many points. All that they refuse as a whole is the host's own: from 7
-- on each point has its own refusal.
use Rattle.std.specs.Prelude.{List, [], ◌∷◌, ◌++◌, ℕ, length, Float}
use Rattle.rules.specs.Sizes.{most_axes, knots_length, tensor_length}
use Rattle.rules.specs.Refusals.{length_refused}
use Rattle.rules.specs.Calls.{quick_query_answer}
use Rattle.grid_checks.specs.Tables.{Refusal, row, lowest}
use Rattle.many_points.specs.ManyPoints.{point_of, points_lengths_refused, EachAnswered}
use Rattle.query_direct.specs.DirectCalls.{direct_query_answer}
use Rattle.c_axes.specs.Axes.{grid_in_modes, some_modes_refused}
use Rattle.c_refusals.specs.OwnRefusals.{sizes_given, axes_rows}

module _ (axes : ℕ) (points modes : List ℕ) (knots tensor_lent coordinates values_lent : List Float) (labels_lent refusals_lent : List ℕ)
  where
    -- 4 for the modes, the knots, the tensor and what is lent of the points, and 22
    abbrev pub queries_own_rows : List Refusal
    queries_own_rows =
        axes_rows axes points ++ (
        row 4 (length_refused (length modes) most_axes)
        ∷ row 4 (length_refused (length knots) (knots_length (sizes_given axes points)))
        ∷ row 4 (length_refused (length tensor_lent) (tensor_length (sizes_given axes points)))
        ∷ row 4 (points_lengths_refused axes (length coordinates) (length values_lent) (length labels_lent) (length refusals_lent))
        ∷ row 22 (some_modes_refused axes modes)
        ∷ []
        )

    unfoldable pub queries_own_refusal : ℕ
    queries_own_refusal = lowest queries_own_rows 0

    -- what is promised of the quick query of many points, and of the direct query
    abbrev pub QuickQueriesExport : ℕ → List Float → List ℕ → List ℕ → Type 0
    QuickQueriesExport =
        EachAnswered queries_own_refusal
        (λ j. quick_query_answer (grid_in_modes axes points modes knots) tensor_lent (point_of axes coordinates j))
        values_lent labels_lent refusals_lent

    abbrev pub DirectQueriesExport : ℕ → List Float → List ℕ → List ℕ → Type 0
    DirectQueriesExport =
        EachAnswered queries_own_refusal
        (λ j. direct_query_answer (grid_in_modes axes points modes knots) tensor_lent (point_of axes coordinates j))
        values_lent labels_lent refusals_lent
