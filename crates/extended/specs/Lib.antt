-- U4B extended telemetry: the table of fields with the code of a reading, the number that holds the codes; then what writing and reading
-- answer, and what the two promise of each other. How the number stands in a message is u4b's.
pub mod Fields
pub mod Number
pub mod Answer
pub mod RoundTrip
