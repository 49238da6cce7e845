-- What the proofs of the lane counts rest on.
--
--   Signed   two's complement, as the machine's 32 bits carry it
pub mod Signed
