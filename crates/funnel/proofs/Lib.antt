pub mod StringLengths
pub mod FromTheRight
pub mod SettledChains
pub mod GainedEnds
pub mod OpenedChains
pub mod ReadBack
pub mod WrittenBends
pub mod FoundStrings
