pub mod Reopen
