pub mod Find
pub mod Surveys
pub mod SurveyLaws
