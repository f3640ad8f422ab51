pub mod Executes
