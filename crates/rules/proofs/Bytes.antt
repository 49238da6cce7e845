-- Over bytes: what the proofs of the code share, and what carries the theory to the bytes that a worker lends.
--
--   Records         the bytes of a record
--   Sizes           the tests 1 and 9
--   Instructions    the instructions that bytes say
--   CodeBytes       the bytes of a code
--   WrittenCode     a code survives being written, and passes its tests
--   CompiledCode    so does compiled code
--   AcceptedCode    no run of accepted code comes past its length
--   ScheduleBytes   a placing as the bytes of a schedule
--   Answered        what compiling, evaluating and running answer, by their first refusal
--   RefusedPlaces   where the tests refuse
--   AnswerBounds    no field of an answer is large
pub mod AcceptedCode
pub mod AnswerBounds
pub mod Answered
pub mod CodeBytes
pub mod CompiledCode
pub mod Instructions
pub mod Records
pub mod RefusedPlaces
pub mod ScheduleBytes
pub mod Sizes
pub mod WrittenCode
