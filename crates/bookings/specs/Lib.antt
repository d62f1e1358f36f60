-- What a calendar of minutes says.
pub mod Calendars
