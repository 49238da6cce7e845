-- `code::check`: the instructions before a have passed. Assumes nothing.
use Rattle.rules.specs.Bytes.{records}
use Rattle.rules.specs.CodeBytes.{instruction_test}
use Rattle.rules.proofs.Checking.{Walked}
use Rattle.code.proofs.check.Given as goal

abbrev pub invariant-loop-a : goal.invariant-loop-a
invariant-loop-a l = Walked (instruction_test l.code) (records l.code) l.a
