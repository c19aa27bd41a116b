pub mod Schedules
pub mod Recorded
pub mod ReportLines
pub mod NodeRecorded
pub mod Early
pub mod Slots
