pub mod Answered
mod Answering
pub mod Assigning
pub mod ByGrammar
pub mod CommandAnswers
mod CommandBuilt
mod CommandRead
pub mod CommandStarts
mod CommandSteps
mod CommandTakes
mod CommandUnique
mod Complete
mod Completions
pub mod FirstFaults
mod Keeps
mod Outcomes
mod Prefixes
pub mod Raised
mod ReadExprs
mod ReadRefs
mod Runs
pub mod Starts
mod Takes
pub mod TreeAnswers
mod Unique
mod Whole
