pub use Rattle.moments_spans.specs as MomentsSpans
pub use Rattle.name_parts.specs as NameParts
pub mod Names
pub mod ResultNames
pub mod Parents
pub mod ArtifactNames
pub mod Realms
pub mod Pairs
pub mod Variants
pub mod Laws
