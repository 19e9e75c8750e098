-- What is proved of the definitions and of the statements in specs/.
pub mod Reading
pub mod ReadingRuns
pub mod Requests
pub mod Skeleton
pub mod Works
pub mod Starts
pub mod States
pub mod RecoverMarks
pub mod RecoverErase
pub mod RecoverOwing
pub mod OwingCuts
pub mod Recover
pub mod Read
pub mod Delete
-- put: making room, the slot written, the old one marked
pub mod RoomTorn
pub mod RoomOwing
pub mod RoomCuts
pub mod RoomSteps
pub mod RoomMade
pub mod WriteTop
pub mod PutCut
-- the theorem, the customer's sentences, and bench examples 7 and 8 as instances
pub mod Theorem
pub mod Sentences
pub mod Examples
