-- One step of the machine, and a run.
--
--   Effects     what a step does to a state, by a few cases
--   Order       the rules for a step and a run, in their order
--   States      the states of a run, one after another
--   Counted     a step that is taken counts one
--   Addresses   where a run can come to
--   Bounds      what a step adds to the totals, and where it is refused
pub mod Addresses
pub mod Bounds
pub mod Counted
pub mod Effects
pub mod Order
pub mod States
