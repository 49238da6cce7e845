-- What is proved of the definitions, room by room; a room's own file says what stands in it.
--
--   Lists      lists, whatever they hold
--   Stores     runs of stores in a list
--   Refusals   tests in their order (`specs/Refusals`)
--   Checking   what readers and checkers of records answer, and the walk over records with any test (`specs/Checking`)
--   Step       one step of the machine, and a run (`specs/Machine`, `specs/Run`)
--   Theory     demand 3: the code of an expression ends in what the evaluation rules permit (`specs/Demand`)
--   Bytes      the same over bytes: tables, codes and schedules as they are lent, and the answers
--   Computed   cases of document 01, and others, that are only computed
pub mod Bytes
pub mod Checking
pub mod Computed
pub mod Lists
pub mod Refusals
pub mod Step
pub mod Stores
pub mod Theory
