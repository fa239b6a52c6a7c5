pub mod StateWords
pub mod AnswerWords
pub mod Entry
pub mod PixelWords
pub mod CheckWords
pub mod Laws
