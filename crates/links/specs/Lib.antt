-- What callers believe of a list of links (LinkList) and of how it is found (Linkable), and what this crate's functions leave step by step.
pub mod LinkList
pub mod Linkable
pub mod Tied
pub mod Linking
pub mod Numbered
