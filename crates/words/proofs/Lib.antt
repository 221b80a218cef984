-- What the answers say of reading, and the laws: of bytes, words and numbers at a cursor; of what begins there.
pub mod Reading
pub mod WordLaws
pub mod BeginLaws
pub mod BeginSays
pub mod Only
