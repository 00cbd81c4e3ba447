-- The lines of a report from the parts that are put one after the other.
use mathlib.Core.Path.{◌≡◌}
use mathlib.Core.Bool.{Bool, true, false}
use mathlib.Core.List.{List}
use Prim.Native.Nat.{ℕ}
use borrow.Author.Tests.{eq-eqb, ne_eqb}
use Rattle.base_text.specs.Lines.{line_end, hex_digits, word_line}
use Rattle.base_text.specs.PutBytes.{Put}
use Rattle.base_text.proofs.Puts.{put_none, put_more}
use Rattle.report_totals.specs.declared.OrderTotals.{OrderTotals}
use Rattle.program_report_text.specs.ReportText.{
  word_number,
  space,
  refused_word,
  occurred_line,
  order_word,
  order_counts,
  order_line,
  stopped_line,
  end_line,
  last_line,
}

module _ {before : List ℕ} {at : ℕ} where
  pub occurred_none : (number count : ℕ) → count ≡ 0 → Put (occurred_line number count) before at before at
  unfolding occurred_line
  occurred_none number count none = rw (eq-eqb count 0 none) (put_none before at)

  module _ {first after : List ℕ} {a end : ℕ} where
    pub occurred_put : (number count : ℕ) → (count ≡ 0 → ⊥) → Put (word_number refused_word number) before at first a
        → Put (word_line space count) first a after end
        → Put (occurred_line number count) before at after end
    unfolding occurred_line
    occurred_put number count some p q = rw (ne_eqb count 0 some) (put_more p q)

    module _ {second : List ℕ} {b : ℕ} where
      pub counts_put : (k : ℕ) (order : OrderTotals) → Put (word_number order_word k) before at first a
          → Put (word_number space order.entries) first a second b
          → Put (word_number space order.nonzero) second b after end → Put (order_counts k order) before at after end
      unfolding order_counts
      counts_put k order p q r = put_more p (put_more q r)

      pub order_put : (k : ℕ) (order : OrderTotals) {third : List ℕ} {c : ℕ} → Put (order_counts k order) before at first a
          → Put space first a second b
          → Put (hex_digits 16 order.largest) second b third c → Put line_end third c after end
          → Put (order_line k order) before at after end
      unfolding order_line
      order_put k order p q r s = put_more p (put_more q (put_more r s))

  module _ {after : List ℕ} {end : ℕ} where
    pub stopped_put : (stopped : Bool) → stopped ≡ true → Put stopped_line before at after end → Put (last_line stopped) before at after end
    unfolding last_line
    stopped_put stopped e p = rw e p

    pub end_put : (stopped : Bool) → stopped ≡ false → Put end_line before at after end → Put (last_line stopped) before at after end
    unfolding last_line
    end_put stopped e p = rw e p
