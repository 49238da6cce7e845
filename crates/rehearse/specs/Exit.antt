-- The exit status of the program. Whether a read or a write succeeds is not ours to say, so without arguments it is promised that
-- the status is one of the two, and which of them goes by what `write` answered.
--
--   line_status   by whether the line is written
--   ExitsWith     by whether there are arguments
--
-- Assumes nothing.
use Rattle.std.specs.Prelude.{ℕ, Bool, true, false, ◌≡◌}

abbrev pub line_status : Bool → ℕ
line_status true = 0
line_status false = 1

abbrev pub ExitsWith : Bool → ℕ → Type 0
ExitsWith true status = status ≡ 2
ExitsWith false status = (written : Bool) × (status ≡ line_status written)
