pub mod CallWrote
pub mod CutText
pub mod SessionImage
pub mod RunsOfLines
pub mod CallFrom
pub mod ImageStart
pub mod Inspecting
