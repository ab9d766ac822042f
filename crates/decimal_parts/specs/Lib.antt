pub mod Grammar
pub mod Answer
