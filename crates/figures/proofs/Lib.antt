pub mod FiguresHold
pub mod WorkedHolds
pub mod RecordedHolds
pub mod Ks0759Holds
pub mod GroupsHold
