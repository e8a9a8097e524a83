-- What is cited of request_demands, here or above.
pub use Rattle.request_demands.specs.Alone
pub use Rattle.request_demands.specs.Demands
pub use Rattle.request_demands.specs.Numbered
pub use Rattle.request_demands.specs.Order
pub use Rattle.request_demands.specs.Settings
pub use Rattle.request_demands.specs.Understood
pub use Rattle.request_demands.specs.declared
