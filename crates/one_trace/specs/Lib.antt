pub mod Alone
pub mod AloneLaws
