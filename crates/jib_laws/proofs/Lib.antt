mod ZeroLaws
mod StateLaws
mod BelongLaws
mod OtherLaws
mod OpeningLaws
pub mod AlikeLaws
