pub mod ChannelLine
pub mod Finding
