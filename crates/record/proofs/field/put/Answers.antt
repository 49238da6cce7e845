-- `record::field::put` meets its contract: eight stores are the one run of stores. Assumes nothing.
use native.Mathlib.Numerals.{towards_suc}
use Rattle.rules.specs.Bytes.{word_bytes}
use Rattle.rules.specs.CodeBytes.{instruction_record}
use Rattle.record.proofs.field.put.Goals as goal

pub returns : goal.returns
returns c = rw c.to_le_bytes.ensures (unfold instruction_record word_bytes in simp towards_suc)
