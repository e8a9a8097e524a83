pub mod Edges
pub mod Laws
pub mod Links
pub mod Plans
pub mod Searches
pub mod Walks
