pub mod PlainSchedule
pub mod Feasibility
pub mod Served
