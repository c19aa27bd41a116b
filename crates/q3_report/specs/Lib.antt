pub mod ServerLines
pub mod ClientLines
pub mod Answers
pub mod AnswerLines
pub mod Tellings
