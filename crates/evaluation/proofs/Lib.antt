pub mod WorkingOut
