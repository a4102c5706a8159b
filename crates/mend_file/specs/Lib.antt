pub mod WorkChanging
pub mod WorkJudging
pub mod WorkRenewing
