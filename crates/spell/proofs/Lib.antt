-- The laws of forms; of entries put one behind the other; of one record; of the entries of longer steps; of a table that changes; of a part.
pub mod FormLaws
pub mod Adding
pub mod Records
pub mod StepLaws
pub mod Changes
pub mod PartLaws
