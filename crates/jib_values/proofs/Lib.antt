mod SlotLaws
mod RegisterLaws
mod OperandLaws
mod TypeLaws
mod PartLaws
mod RowLaws
pub mod ChangeLaws
