pub mod Float20
pub mod Float20Laws
