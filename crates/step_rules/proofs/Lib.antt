mod Basis
mod Clashes
pub mod SetLists
mod Ended
pub mod FindLists
mod Frames
mod Within
mod SetLogs
mod QuietGateEntry
mod GateSteps
pub mod SessionTurns
mod Begun
mod SendStep
mod BeginAccount
mod BeginStep
mod ReplyStep
mod FinishStep
mod Commits
mod Verdicts
mod JudgeStep
mod NopStep
mod ShardStep
mod QuietSteps
mod ProgramBegun
mod Replying
pub mod StepGoesOn
pub mod VisitLogs
mod Preceded
pub mod VisitStep
mod Visiting
mod Stepping
mod Starting
mod Computed
mod RowWords
mod Rows
mod MoreRows
mod FurtherRows
mod RowsKept
mod RestartRows
mod FewSteps
mod DoneReplies
mod ReportedReplies
mod FinishedRows
mod JoinRows
