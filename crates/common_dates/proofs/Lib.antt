pub mod DatesRead
