-- Demand 3, over expressions and placings: 001's two propositions and what joins them, from the bottom.
--
--   Path           runs of steps
--   Holding        where an expression's instructions stand in a code
--   Soundness      a run ends in what the rules permit, within 3n - 1 steps
--   Completeness   what they permit is met
--   Quiet          the end that no recall gives
--   Along          from paths to runs
--   Demand         all of it, as `specs/Demand` claims it
pub mod Along
pub mod Completeness
pub mod Demand
pub mod Holding
pub mod Path
pub mod Quiet
pub mod Soundness
