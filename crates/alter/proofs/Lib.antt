pub mod Listing
pub mod ExchangeLaws
pub mod AmountLaws
