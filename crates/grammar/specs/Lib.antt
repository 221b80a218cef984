-- What the readers accept and refuse, without a cursor. Read in this order.
pub mod When
pub mod Rules
pub mod Table
pub mod Reports
pub mod Legal
