pub mod CommandScopeLaws
mod NewNames
pub mod PrintedExprs
mod PrintedLeaves
mod PrintedNames
pub mod PrintedTokens
mod PrintedTrees
pub mod ScopeLaws
mod TypesLeft
