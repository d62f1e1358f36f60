mod Common
pub mod AppendedLists
pub mod Ascending
pub mod BoundKeys
pub mod JoinedItems
pub mod SortedLists
pub mod SplitLists
