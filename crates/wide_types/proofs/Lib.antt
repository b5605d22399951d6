pub mod Agreed
pub mod FirstPlaces
pub mod ShapeForms
pub mod SpelledForms
pub mod Turns
pub mod ValueForms
pub mod WideForms
