-- The laws of the state's fields.
pub mod FieldLaws
