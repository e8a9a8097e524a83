pub mod CaseFacts
pub mod DigestFacts
pub mod ReadFacts
pub mod ResultFacts
pub mod SentFacts
pub mod RecordedFacts
pub mod UploadFacts
