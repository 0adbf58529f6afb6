-- Search: the accepted records of a type; Said: what the answers of the code say.
pub mod Search
pub mod Said
