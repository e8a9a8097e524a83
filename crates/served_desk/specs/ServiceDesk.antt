-- What is cited of service_desk, here or above.
pub use Rattle.service_desk.specs.Shelves
