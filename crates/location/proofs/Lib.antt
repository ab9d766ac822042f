pub mod LocationMarks
