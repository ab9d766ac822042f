pub mod Listing
pub mod Told
pub mod Room
pub mod Printed
