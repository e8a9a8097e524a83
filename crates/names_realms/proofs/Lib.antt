pub use Rattle.moments_spans.proofs as MomentsSpans
pub use Rattle.name_parts.proofs as NameParts
pub mod InvocationNameLemmas
pub mod RealmLemmas
pub mod RealmPlaces
pub mod PairLemmas
pub mod VariantLemmas
pub mod ResultNameLemmas
pub mod ParentLemmas
pub mod ArtifactNameLemmas
pub mod NameLaws
