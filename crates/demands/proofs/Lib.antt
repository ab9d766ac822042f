pub mod Channels
pub mod Excluded
pub mod GoodLists
pub mod Growing
pub mod Repeats
