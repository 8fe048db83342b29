-- The laws of the search by pairs over keys.
mod Comparing
mod Listing
mod KeySearch
mod Stepping
mod Promised
