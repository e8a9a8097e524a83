pub mod TextKinds
pub mod MethodLaws
pub mod RequestLaws
pub mod FaultLaws
pub mod FormLaws
