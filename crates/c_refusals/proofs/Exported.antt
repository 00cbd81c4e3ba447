-- An export refuses by the host's own number, or answers by the call's: what it then gives, and what it leaves in all that it was lent.
use mathlib.Core.Path.{◌≡◌, refl, sym, ◌∙◌}
use mathlib.Core.List.{List}
use Prim.Native.Nat.{ℕ, zero, suc}
use lib.Ieee.{Float}
use Rattle.rules.specs.Numbers.{plus_zero, table}
use Rattle.rules.specs.Sizes.{most_axes}
use Rattle.rules.specs.Calls.{or_else, stored, answered, counted, labelled}
use Rattle.rules.proofs.Refused.{or_else_met, unchanged}

-- ---- the host refuses: its number is the answer, each slice is as it was, and slots say that nothing was answered

pub own_answer : (own later : ℕ) {r : ℕ} → r ≡ own → (r ≡ 0 → ⊥) → r ≡ or_else own later
own_answer own later e some = e ∙ sym (or_else_met own later (λ z. some (e ∙ z)))

pub untouched : {A : Type 0} (own : ℕ) (lent later : List A) {r : ℕ} → r ≡ own → (r ≡ 0 → ⊥) → lent ≡ stored own lent later
untouched own lent later e some = unchanged own lent later (λ z. some (e ∙ z))

pub no_value : (own : ℕ) (value : Float) {r : ℕ} → r ≡ own → (r ≡ 0 → ⊥) → plus_zero ≡ answered own value
no_value zero value e some = absurd (some e)
no_value (suc own) value e some = refl

pub no_count : (own count : ℕ) {r : ℕ} → r ≡ own → (r ≡ 0 → ⊥) → 0 ≡ counted own count
no_count zero count e some = absurd (some e)
no_count (suc own) count e some = refl

pub no_labels : (own : ℕ) (labels : List ℕ) {r : ℕ} → r ≡ own → (r ≡ 0 → ⊥) → table most_axes (λ i. 0) ≡ labelled own labels
no_labels zero labels e some = absurd (some e)
no_labels (suc own) labels e some = refl

-- ---- it does not: the call's number, and what the call leaves

pub call_answer : (own : ℕ) {later r a : ℕ} → r ≡ own → r ≡ 0 → a ≡ later → a ≡ or_else own later
call_answer own e none answers = rw (sym e ∙ none) answers

pub left : {A : Type 0} (own : ℕ) (lent : List A) {later l : List A} {r : ℕ} → r ≡ own → r ≡ 0 → l ≡ later → l ≡ stored own lent later
left own lent e none leaves = rw (sym e ∙ none) leaves

-- ---- two answers of one record: both equal a third
