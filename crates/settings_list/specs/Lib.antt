pub mod BoardList
pub mod Listing
pub mod Instances
