-- What a rehearsal comes to (document 01, "The rehearsal program"): "it compiles, runs".
--
--   rehearse    the answer for a status, a table and a schedule, in buffers that are large enough
--   rehearsal   the answer for an input
--
-- Assumes nothing.
use Rattle.std.specs.Prelude.{ℕ, ◌+◌, ◌*◌, ltb, length, take, drop, replicate, Bool, true, false, ◌||◌, List, Ok, Err}
use Rattle.rules.specs.Bytes.{byte_at, half_at}
use Rattle.rules.specs.Compiling.{compile_answer, compile_leaves}
use Rattle.rules.specs.Limits.{record_bytes, code_limit, stack_bytes}
use Rattle.rules.specs.Running.{run_answer, refused_answer}
use Rattle.rules.specs.declared.Reason.TheVariants.{TableSize}
use Rattle.rules.specs.declared.Answer.{Answer}

unfoldable pub rehearse : ℕ → List ℕ → List ℕ → Answer
rehearse status table schedule =
    let buffer : List ℕ = replicate code_limit 0 in
    elim (compile_answer table buffer) [
      | Ok n ↦ run_answer status (take (record_bytes * n) (compile_leaves table buffer)) schedule (replicate stack_bytes 0)
      | Err r ↦ refused_answer r
    ]

-- ---- "one status byte, two bytes of table length (little-endian), the table, and the rest as schedule"

abbrev pub head_bytes : ℕ
head_bytes = 3

abbrev pub table_length : List ℕ → ℕ
table_length input = half_at input 1

-- "Input under 3 bytes, or shorter than it announces"
unfoldable pub too_short : List ℕ → Bool
too_short input = ltb (length input) head_bytes || ltb (length input) (head_bytes + table_length input)

-- too short, it is refused by 1 at 0
unfoldable pub rehearsal : List ℕ → Answer
rehearsal input = elim (too_short input) [
  | true ↦ refused_answer (record { reason = TableSize; place = 0 })
  | false ↦
      rehearse (byte_at input 0) (take (table_length input) (drop head_bytes input)) (drop (head_bytes + table_length input) input)
]
