-- Schedule bits (document 01, "One step of the machine").
--
--   asks schedule k   the schedule asks for a recall at the instruction reached as number k
--
-- Assumes nothing.
use Rattle.std.specs.Prelude.{ℕ, ◌/◌, ◌%◌, ◌^◌, eqb, List}
use Rattle.rules.specs.Bytes.{byte_at}
use Rattle.rules.specs.Machine.{Placing}

-- "byte k / 8, least significant bit first"; "past its end no recall is asked for", since no byte stands there
unfoldable pub asks : List ℕ → Placing
asks schedule k = eqb (byte_at schedule (k / 8) / 2 ^ (k % 8) % 2) 1
