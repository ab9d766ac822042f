pub mod Machine
