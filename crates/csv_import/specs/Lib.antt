pub mod WorkListing
