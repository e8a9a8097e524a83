mod DocumentLemmas
mod FaultLemmas
mod FrontLemmas
mod MessageLemmas
pub mod RunLaws
mod ShrinkLaws
mod StandingLemmas
