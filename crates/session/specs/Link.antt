pub mod SessionRules
pub mod LineTurn
pub mod RunningTurn
