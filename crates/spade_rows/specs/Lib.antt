pub mod ChartB
pub mod Answers
pub mod Batch
