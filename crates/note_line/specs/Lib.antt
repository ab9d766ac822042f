pub mod NoteLine
