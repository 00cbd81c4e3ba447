-- The chapter DirectExports of docs/RULES.md: the exported direct query, in the manner of QueryExports.
use Rattle.std.specs.Prelude.{List, ℕ, Float}
use Rattle.query_direct.specs.DirectCalls.{direct_query_answer}
use Rattle.c_axes.specs.Axes.{grid_in_modes}
use Rattle.c_refusals.specs.OwnRefusals.{query_own_refusal}
use Rattle.c_query.specs.QueryExports.{AnswerExport}

-- what is promised of the direct query, which has the slots and the own refusal of the query
abbrev pub DirectQueryExport :
    ℕ → List ℕ → List ℕ → List Float → List Float → List Float → List Float → List ℕ → ℕ → List Float → List ℕ → Type 0
DirectQueryExport axes points modes knots tensor_lent coordinates value_lent labels_lent =
    AnswerExport (query_own_refusal axes points modes knots tensor_lent coordinates value_lent labels_lent)
    (direct_query_answer (grid_in_modes axes points modes knots) tensor_lent coordinates) value_lent labels_lent
