-- Items: an item, a step and a value; Walk: the walk as a list, and its report; ItemBytes: what the writer writes; Sent: items as
-- their sender has them; Said: what the end report says. The enum of a step is its own meaning. Only the writer refuses, with
-- a size or wire's `Refusal`.
pub mod Items
pub mod Walk
pub mod ItemBytes
pub mod Sent
pub mod Said
