pub mod Exact
pub mod FoundMeetings
pub mod Keeping
pub mod Meetings
pub mod Reading
pub mod ReadingBack
pub mod ValueSets
pub mod Writing
