-- How long a job file is, that it reads back whole, and which refusals its header can get.
pub mod Rows
pub mod Places
pub mod RoundTrip
pub mod EncodedHeader
