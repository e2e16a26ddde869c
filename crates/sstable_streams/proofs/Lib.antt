pub mod StatesLaws
pub mod EdgeLaws
pub mod StepLaws
pub mod StreamLaws
pub mod HeldLaws
