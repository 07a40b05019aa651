pub mod Areas
pub mod UnderLines
pub mod WholeSpan
pub mod OneLane
pub mod OneGreatest
pub mod Choosing
pub mod OneJudgement
