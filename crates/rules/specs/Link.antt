pub mod PassesToRules
pub mod RulesToPasses
pub mod ArrayLimits
pub mod FewEntries
pub mod Gap
pub mod CodeLaws
pub mod PartsAreAll
