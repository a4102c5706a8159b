pub mod RecallView
pub mod Gone
