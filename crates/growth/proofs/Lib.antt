pub mod AllBytes
pub mod ReadsLast
pub mod StillKeeps
pub mod StillRead
