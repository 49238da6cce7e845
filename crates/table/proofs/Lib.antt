-- What the proofs of the checker of tables rest on, and what the walks down an accepted table rest on.
--
--   Checking     what checking answers, by its tests
--   NodeKinds    a node by its kind and its fields
--   Reading      what reading a node answers, by its tests
--   Tally        how often each node is an operand, counted
--   Walk         the walk over the nodes
--   Unfolding    the expression of a node, by those of its operands
--   Counting     the counting law
--   Acceptance   what acceptance says of a table and of its recipe
pub mod Acceptance
pub mod Checking
pub mod Counting
pub mod NodeKinds
pub mod Reading
pub mod Tally
pub mod Unfolding
pub mod Walk
