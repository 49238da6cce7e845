-- What the pass along an accepted table and the walk down it ask, and what emitting comes to.
--
--   Measurable   the last node of an accepted table
--   Placeable    there is room for an instruction at an address, and its target fits
--   Placed       it stands there, and the address after it is handed back
--   Emittable    a node of an accepted table whose code fits the buffer from an address on
--   Emitted      its code stands there, and the address after it is handed back
--
-- Assumes nothing.
use Rattle.std.specs.Prelude.{ℕ, ◌+◌, ◌*◌, ◌^◌, ◌≤◌, ◌<◌, length, List, ◌≡◌}
use Rattle.std.proofs.lemmas.List.Edits.{sets}
use Rattle.rules.specs.Bytes.{records}
use Rattle.rules.specs.Code.{code_length, compile, target_of}
use Rattle.rules.specs.CodeBytes.{instruction_bytes, bytes_of}
use Rattle.rules.specs.Limits.{record_bytes, instruction_limit}
use Rattle.rules.specs.Recipe.{expression_at}
use Rattle.rules.specs.declared.Instruction.{Instruction}
use Rattle.table.specs.Acceptance.{AcceptedTable, AcceptedNode}

pub record Measurable (table : List ℕ) (j : ℕ) : Type 0 where
  pub accepted : AcceptedTable table
  pub last : j + 1 ≡ records table

pub record Placeable (code : List ℕ) (at : ℕ) (instruction : Instruction) : Type 0 where
  pub room : record_bytes * at + 7 < length code
  pub target : target_of instruction < 2 ^ 32

pub record Placed (code : List ℕ) (at : ℕ) (instruction : Instruction) (next : ℕ) (code' : List ℕ) : Type 0 where
  pub after : next ≡ at + 1
  pub bytes : code' ≡ sets code (record_bytes * at) (instruction_bytes instruction)

pub record Emittable (table : List ℕ) (j : ℕ) (code : List ℕ) (at : ℕ) : Type 0 where
  pub node : AcceptedNode table j
  pub short : at + code_length (expression_at table j) ≤ instruction_limit
  pub room : record_bytes * (at + code_length (expression_at table j)) ≤ length code

pub record Emitted (table : List ℕ) (j : ℕ) (code : List ℕ) (at next : ℕ) (code' : List ℕ) : Type 0 where
  pub after : next ≡ at + code_length (expression_at table j)
  pub bytes : code' ≡ sets code (record_bytes * at) (bytes_of (compile at (expression_at table j)))
