-- Laws: what is made of a part; the parsers that call each other; a whole text; its rows.
pub mod PartLaws
pub mod TreeLaws
pub mod ReadLaws
pub mod HeldLaws
