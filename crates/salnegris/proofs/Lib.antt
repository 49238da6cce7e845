-- The page of demands, and what it rests on.
--
--   Fits          every answer fits the fields that a C caller sees
--   Inside        a lent buffer is as long after a call as before it
--   Accepted      what it means that compiling accepted a table
--   CompiledRun   running what compiling left is the run that the theory speaks of
--   Demands       the page: the three demands, over bytes
pub mod Accepted
pub mod CompiledRun
pub mod Demands
pub mod Fits
pub mod Inside
