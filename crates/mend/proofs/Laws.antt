pub mod Mend
