-- Both ends are those of the rules. By `extent` 64 bits of the axis follow each place that is read, also where a kind has none.
use mathlib.Core.Path.{◌≡◌, ap, ◌∙◌}
use native.Mathlib.Omega.{arith}
use Rattle.grid_codes.specs.Kinds.{values_of_kind}
use Rattle.sheet_read.specs.Fields.{lower_kind, axis_at}
use Rattle.sheet_read.proofs.Extents.{Extent, extent}
use borrow.Author.Rules.{rules}
use Rattle.sheet_read.proofs.axes.condition.Goals as goal
use Rattle.sheet_read.proofs.axes.condition.Goals.{After-values_of_kind, Start}

known : (c : Start) → Extent c.args.bytes.now c.args.at
known c = extent _ _

kind : (c : After-values_of_kind)
    → c.values_of_kind.result ≡ values_of_kind (lower_kind c.args.bytes.now c.args.at)
kind c = c.values_of_kind.ensures ∙ ap values_of_kind c.requires.2.lower

pub overflow_add-at-2 : goal.overflow_add-at-2
overflow_add-at-2 c = let reach = known (goal.at.overflow_add-at-2 c).Start in let told = c.requires.0 in omega arith

pub number_at-first-requires : goal.number_at-first-requires
number_at-first-requires c = let reach = known (goal.at.number_at-first-requires c).Start in let told = c.requires.0 in search rules

pub overflow_add-at-4 : goal.overflow_add-at-4
overflow_add-at-4 c = let reach = known (goal.at.overflow_add-at-4 c).Start in let told = c.requires.0 in omega arith

pub overflow_mul-values_of_kind : goal.overflow_mul-values_of_kind
overflow_mul-values_of_kind c = let reach = known (goal.at.overflow_mul-values_of_kind c).Start in let lower = kind (goal.at.overflow_mul-values_of_kind c).After-values_of_kind in omega arith

pub overflow_add-at-5 : goal.overflow_add-at-5
overflow_add-at-5 c =
    let reach = known (goal.at.overflow_add-at-5 c).Start in
    let told = c.requires.0 in
    let lower = kind (goal.at.overflow_add-at-5 c).After-values_of_kind in omega arith

pub number_at-second-requires : goal.number_at-second-requires
number_at-second-requires c =
    let reach = known (goal.at.number_at-second-requires c).Start in
    let told = c.requires.0 in
    let lower = kind (goal.at.number_at-second-requires c).After-values_of_kind in search rules

pub returns : goal.returns
unfolding axis_at
returns c =
    let told = c.requires.0 in
    let head = c.requires.2 in
    let lower = head.lower in
    let upper = head.upper in cc
