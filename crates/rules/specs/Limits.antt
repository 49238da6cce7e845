-- The sizes that document 01 fixes ("The recipe table", "One step of the machine", "Refusal numbers").
--
--   record_bytes   the bytes of a node, of an instruction and of an item
--   node_limit     the nodes of a table, and `table_limit`, its bytes
--   code_limit     the bytes of a code, and `instruction_limit`, its instructions
--   item_limit     the items on the stack, and `stack_bytes`, the bytes lent for them
--   step_limit     the steps of a run
--
-- Assumes nothing.
use Rattle.std.specs.Prelude.{ℕ}

abbrev pub record_bytes : ℕ
record_bytes = 8

abbrev pub node_limit : ℕ
node_limit = 512

abbrev pub table_limit : ℕ
table_limit = 4096

abbrev pub code_limit : ℕ
code_limit = 8184

abbrev pub instruction_limit : ℕ
instruction_limit = 1023

abbrev pub item_limit : ℕ
item_limit = 512

abbrev pub stack_bytes : ℕ
stack_bytes = 4096

abbrev pub step_limit : ℕ
step_limit = 1535
