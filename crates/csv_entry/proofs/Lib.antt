pub mod AmountLaws
pub mod EntryLaws
