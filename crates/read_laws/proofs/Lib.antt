mod Choices
mod Events
pub mod Inversions
mod Keyed
mod Lists
mod MadeNames
mod Placements
mod Queries
mod Registries
pub mod Scenarios
mod ScopesServe
mod SortedNodes
mod SortedTables
mod Spawns
mod SystemTexts
mod Systems
mod Tables
mod TextsFit
mod TextsRead
mod TypeLists
