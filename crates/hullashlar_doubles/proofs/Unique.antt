-- Each export of double arithmetic has one answer: two numbers that satisfy its record, for the same patterns, are equal.
use mathlib.Core.Path.{◌≡◌, sym, ◌∙◌}
use Prim.Native.Nat.{ℕ}
use Rattle.hullashlar_doubles.specs.DoublesExports.{
  AddExport,
  SubExport,
  MulExport,
  DivExport,
  LtExport,
  LeExport,
  EqExport,
  GtExport,
  GeExport,
  UnExport,
}

module _ (a b r r' : ℕ) where
  pub add_export_unique : AddExport a b r → AddExport a b r' → r ≡ r'
  add_export_unique p q = p.answer ∙ sym q.answer

  pub sub_export_unique : SubExport a b r → SubExport a b r' → r ≡ r'
  sub_export_unique p q = p.answer ∙ sym q.answer

  pub mul_export_unique : MulExport a b r → MulExport a b r' → r ≡ r'
  mul_export_unique p q = p.answer ∙ sym q.answer

  pub div_export_unique : DivExport a b r → DivExport a b r' → r ≡ r'
  div_export_unique p q = p.answer ∙ sym q.answer

  pub lt_export_unique : LtExport a b r → LtExport a b r' → r ≡ r'
  lt_export_unique p q = p.answer ∙ sym q.answer

  pub le_export_unique : LeExport a b r → LeExport a b r' → r ≡ r'
  le_export_unique p q = p.answer ∙ sym q.answer

  pub eq_export_unique : EqExport a b r → EqExport a b r' → r ≡ r'
  eq_export_unique p q = p.answer ∙ sym q.answer

  pub gt_export_unique : GtExport a b r → GtExport a b r' → r ≡ r'
  gt_export_unique p q = p.answer ∙ sym q.answer

  pub ge_export_unique : GeExport a b r → GeExport a b r' → r ≡ r'
  ge_export_unique p q = p.answer ∙ sym q.answer

  pub un_export_unique : UnExport a b r → UnExport a b r' → r ≡ r'
  un_export_unique p q = p.answer ∙ sym q.answer
