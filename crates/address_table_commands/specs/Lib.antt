-- What the commands over tables print, and why they do not.
pub mod Differences
pub mod Files
pub mod Results
pub mod Values
