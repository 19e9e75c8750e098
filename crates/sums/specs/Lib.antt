pub mod Exams
