-- Lemmas of the calls over arrays.
pub mod CopiedRuns
pub mod PlanLemmas
pub mod PartLaws
pub mod PartNumbers
pub mod RefusalNumbers
