pub mod Civil
pub mod Moments
pub mod MomentReading
pub mod Spans
pub mod SpanReading
pub mod MomentGrammar
pub mod SpanGrammar
pub mod Laws
