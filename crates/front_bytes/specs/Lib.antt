pub mod Run
pub mod OneByte
