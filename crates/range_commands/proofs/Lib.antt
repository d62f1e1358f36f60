pub mod CountedRuns
pub mod FewRanges
pub mod Replies
