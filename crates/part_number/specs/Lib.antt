pub mod PartNumber
