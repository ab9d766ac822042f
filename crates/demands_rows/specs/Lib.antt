pub mod FileRows
pub mod WriterRows
pub mod QuestionRows
pub mod Answers
pub mod Locations
pub mod Exported
pub mod Decimals
