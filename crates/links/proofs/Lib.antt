-- The link by the run of a value; how a list of links grows, along a fact, fact by fact and goal by goal; what such a list says.
pub mod Tied
pub mod Supported
pub mod Putting
pub mod Linking
pub mod LinkList
pub mod Numbered
