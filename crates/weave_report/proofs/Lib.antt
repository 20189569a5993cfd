pub mod WorkedTexts
pub mod WorkedReadings
pub mod ReadingLoops
pub mod ListsRead
pub mod CutAtMark
pub mod KeysInOrder
pub mod ReadSteps
pub mod FieldsRead
pub mod StampsRead
pub mod StatesRead
pub mod AnswersRead
mod PricedParts
mod PricedRead
mod WideNumbers
pub mod RequestsRead
pub mod RepliesRead
pub mod ReportRead
pub mod ReportAgain
pub mod FewOps
pub mod ReportClean
pub mod ReportComesBack
pub mod FirstRefused
pub mod ReadAnswersLaws
