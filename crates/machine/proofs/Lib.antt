-- What the proofs of the machine rest on, from the items in the lent stack to the run.
--
--   Stores      a record stored in the stack, read back
--   Stacked     the items of the stack, from the top
--   Others      an item that is not of the kind looked for
--   Carrying    what is done for an instruction is what its rule says
--   Removing    what unwinding removes
--   AtLength    what a run ends in at the length
--   Stepping    the step, at an instruction or unwinding
--   EachState   a step leads from one of the rules' states to the next
--   EachStep    the page of the machine: what one step promises
--   Underway    a run, followed from state to state
--   Turns       the turns of the run's loop
--   Answering   what running answers and leaves, by its tests
pub mod Answering
pub mod AtLength
pub mod Carrying
pub mod EachState
pub mod EachStep
pub mod Others
pub mod Removing
pub mod Stacked
pub mod Stepping
pub mod Stores
pub mod Turns
pub mod Underway
