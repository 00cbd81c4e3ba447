-- The direct query's promise has one answer: whatever satisfies it, for the same inputs, is equal.
use mathlib.Core.Path.{◌≡◌}
use mathlib.Core.List.{List}
use lib.Ieee.{Float}
use Rattle.rules.specs.Sizes.{Grid}
use Rattle.rules.specs.Answers.{QueryAnswer}
use Rattle.rules.proofs.Unique.{same}
use Rattle.query_direct.specs.DirectCalls.{DirectQueryPromise}

pub direct_query_unique :
    (g : Grid) (tensor_lent coordinates : List Float) (a a' : QueryAnswer)
    → DirectQueryPromise g tensor_lent coordinates a
    → DirectQueryPromise g tensor_lent coordinates a'
    → a ≡ a'
direct_query_unique g tensor_lent coordinates a a' p q = same p.answer q.answer
