-- What reading standard input answers.
--
--   turn_of   what a call of `read` came to, by its answer and the bytes that it was lent: an error stays one, at 0 the input ends,
--             and else so many bytes more are read
--
-- Assumes nothing.
use Rattle.std.specs.Prelude.{ℕ, min, ◌==◌, if◌then◌else◌, Option, None, Some, Result, Ok, Err}

abbrev pub turn_of : {E : Type 0} → Result ℕ E → ℕ → Result (Option ℕ) E
turn_of (Err e) lent = Err e
turn_of (Ok n) lent = Ok (if n == 0 then None else Some (min n lent))
