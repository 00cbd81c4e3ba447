-- One sheet more: the totals of the list with it at its end. No total passes what fits: the bounds of a report.
use mathlib.Core.Path.{◌≡◌, refl, sym, ap, ◌∙◌}
use mathlib.Core.List.{List, [], ◌∷◌, ◌++◌, append-nil, append_assoc}
use Prim.Native.Nat.{ℕ, ◌+◌, ◌<◌, ◌≤◌}
use native.Mathlib.Omega.{arith}
use lib.Dec.{eqb}
use lib.ListN.{length, get_or, set, length-append}
use borrow.Author.Tests.{eq-eqb, ne_eqb}
use Rattle.rules.specs.Numbers.{filter}
use Rattle.rules.proofs.Tables.{at_table}
use Rattle.report_totals.specs.Totals.{Entry, Sheet, refused_total, all_entries, totals_of, most_sheets}
use Rattle.report_totals.specs.Counting.{order_totals, orders_of, Room, Tallied, Running, sheet_added, Adds}
use Rattle.report_totals.specs.declared.OrderTotals.{OrderTotals}
use Rattle.report_totals.specs.declared.Totals.{Totals}
use Rattle.report_totals.proofs.Lists.{filter_kept, filter_dropped, filter_most, table_set}

pub all_entries_snoc : (seen : List Sheet) (sheet : Sheet) → all_entries (seen ++ (sheet ∷ [])) ≡ all_entries seen ++ sheet.tensor
unfolding all_entries
all_entries_snoc [] sheet = append-nil sheet.tensor
all_entries_snoc (first ∷ rest) sheet = rw (all_entries_snoc rest sheet, append_assoc)

-- the totals by order are those of all entries
pub orders_are : (sheets : List Sheet) → (totals_of sheets).orders ≡ orders_of (all_entries sheets)
unfolding totals_of orders_of order_totals
orders_are sheets = refl

totals_parts : (a d : ℕ) (b e : List ℕ) (c f : List OrderTotals) → a ≡ d → b ≡ e → c ≡ f
    → ◌≡◌ {A = Totals} (record { sheets = a; refusals = b; orders = c }) (record { sheets = d; refusals = e; orders = f })
totals_parts a d b e c f p q r = cc

module _ (seen : List Sheet) (sheet : Sheet) (h : sheet.refusal < 24) where
  abbrev number : ℕ
  number = sheet.refusal

  abbrev more : List Sheet
  more = seen ++ (sheet ∷ [])

  own_number : refused_total number more ≡ refused_total number seen + 1
  own_number =
      rw (filter_kept (λ x. eqb x.refusal number) seen sheet (eq-eqb number number refl))
      (length-append (filter (λ (x : Sheet). eqb x.refusal number) seen) (sheet ∷ []))

  other_number : (k : ℕ) → (k ≡ number → ⊥) → refused_total k seen ≡ refused_total k more
  other_number k other = rw (filter_dropped (λ x. eqb x.refusal k) seen sheet (ne_eqb number k (λ z. other (sym z))))

  refusals_next : set (totals_of seen).refusals number (get_or (totals_of seen).refusals number 0 + 1) ≡ (totals_of more).refusals
  unfolding totals_of
  refusals_next =
      table_set 0 24 (λ k. refused_total k seen) (λ k. refused_total k more) number _ h
      (rw (at_table 24 (λ k. refused_total k seen) number 0 h) (sym own_number))
      other_number

  pub totals_next : (totals : Totals) (orders : List OrderTotals) → totals ≡ totals_of seen
      → Tallied totals.orders sheet.tensor orders
      → ◌≡◌ {A = Totals}
      (record {
        sheets = totals.sheets + 1;
        refusals = set totals.refusals number (get_or totals.refusals number 0 + 1);
        orders = orders;
      })
      (totals_of more)
  unfolding totals_of
  totals_next totals orders said tallied =
      totals_parts _ _ _ _ _ _
      (rw (said, length-append))
      (rw said refusals_next)
      (tallied (all_entries seen) (ap (λ (t : Totals). t.orders) said ∙ orders_are seen) ∙ ap orders_of (sym (all_entries_snoc seen sheet))
      ∙ sym (orders_are more))

-- no entries leave the orders as they are
pub nothing_tallied : (orders : List OrderTotals) → Tallied orders [] orders
nothing_tallied orders before said = said ∙ ap orders_of (sym (append-nil before))

pub sheet_adds : (totals : Totals) (refusal : ℕ) → refusal < 24 → (entries : List Entry) (orders : List OrderTotals)
    → Tallied totals.orders entries orders → (later : Totals) → later ≡ sheet_added totals refusal orders
    → Adds totals refusal entries later
sheet_adds totals refusal h entries orders tallied later e = record {
  counted = ap (λ (t : Totals). t.sheets) e;
  adds = λ seen said. e ∙ totals_next seen (record { refusal = refusal; tensor = entries }) h totals orders said tallied;
}

-- ---- the bounds

-- there is room for a tensor
pub running_room : (totals : Totals) (n : ℕ) → Running totals → n ≤ 4096 → Room totals.orders n
running_room totals n run h = record {
  before = all_entries run.seen;
  said = ap (λ (t : Totals). t.orders) run.said ∙ orders_are run.seen;
  few = let few = run.few in let small = run.small in omega arith;
}

-- a refusal's number occurs no more often than there are sheets
pub refused_most : (totals : Totals) (k : ℕ) → Running totals → k < 24 → get_or totals.refusals k 0 ≤ most_sheets
unfolding totals_of
refused_most totals k run h =
    let few = run.few in
    let most = filter_most (λ sheet. eqb sheet.refusal k) run.seen in
    rw (run.said, at_table 24 (λ j. refused_total j run.seen) k 0 h) (omega arith)

pub sheets_are : (totals : Totals) (seen : List Sheet) → totals ≡ totals_of seen → totals.sheets ≡ length seen
unfolding totals_of
sheets_are totals seen said = rw said

pub sheets_most : (totals : Totals) → Running totals → totals.sheets ≤ most_sheets
sheets_most totals run = rw (sheets_are totals run.seen run.said) run.few

-- ---- running on

pub none_small : length (all_entries []) ≤ 0
unfolding all_entries
none_small = omega arith

abbrev pub running_none : (totals : Totals) → totals ≡ totals_of [] → Running totals
running_none totals said = record { seen = []; said = said; few = omega arith; small = omega (arith, none_small) }

abbrev pub running_next : (totals later : Totals) (sheet : Sheet) (run : Running totals)
    → Adds totals sheet.refusal sheet.tensor later
    → length run.seen < most_sheets → length sheet.tensor ≤ 4096 → Running later
running_next totals later sheet run adds room h = record {
  seen = run.seen ++ (sheet ∷ []);
  said = adds.adds run.seen run.said;
  few = let long = length-append run.seen (sheet ∷ []) in omega arith;
  small =
      let long = length-append run.seen (sheet ∷ []) in
      let whole = length-append (all_entries run.seen) sheet.tensor in
      let small = run.small in
      rw (all_entries_snoc run.seen sheet) (omega arith);
}
