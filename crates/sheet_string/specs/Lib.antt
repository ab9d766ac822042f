pub mod StringBytes
