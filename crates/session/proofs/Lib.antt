pub mod SessionRules
pub mod AnswersBound
pub mod Examples
pub mod LongestLine
pub mod RunGoesOn
