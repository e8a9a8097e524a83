-- What is cited of sink_uploads, here or above.
pub use Rattle.sink_uploads.specs.declared
