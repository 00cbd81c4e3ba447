pub mod RationalLaws
pub mod OrderedField
pub mod Order
pub mod Comparisons
