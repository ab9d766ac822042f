pub mod FileLength
