pub mod ServiceCore
pub mod MachineLaws
pub mod PlanFacts
