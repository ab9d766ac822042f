pub mod Note
