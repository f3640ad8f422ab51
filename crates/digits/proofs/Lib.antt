pub mod ShownLaws
