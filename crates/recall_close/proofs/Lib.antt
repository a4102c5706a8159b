pub mod CloseLaws
pub mod BitLaws
pub mod PutLaws
pub mod MarkLaws
pub mod RangeLaws
