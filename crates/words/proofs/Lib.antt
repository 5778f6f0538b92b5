pub mod LastLetters
pub mod EqualReductions
pub mod LastLetterTells
pub mod ReducingInPlace
pub mod LawfulSorts
pub mod CarriedOver
