-- U4B basic telemetry: the ranges of what is measured, the codes, the two numbers; then what writing and reading answer, and what the
-- two promise of each other. How the numbers stand in a message is u4b's.
pub mod Ranges
pub mod Codes
pub mod Payload
pub mod Answer
pub mod RoundTrip
