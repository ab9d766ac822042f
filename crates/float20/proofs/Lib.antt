pub mod Float20Laws
