pub mod Texts
pub mod OneReport
pub mod OneDesign
pub mod OneConvoy
pub mod SummaryLines
pub mod RecallLines
pub mod Telling
