-- Bookings among those of a calendar, and where there is room.
pub mod Meeting
pub mod Minutes
pub mod Room
