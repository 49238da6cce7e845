-- `evaluation::end_of` meets its contract, kind by kind. Assumes nothing.
use Rattle.std.proofs.Common.{◌≡◌, to_z, of_z, w32, refl, rules}
use Rattle.rules.specs.Evaluation.{quiet, quiet_add, quiet_seqn, quiet_catch}
use Rattle.rules.specs.Recipe.{of_node}
use Rattle.table.proofs.Acceptance.{says}
use Rattle.evaluation.proofs.Evaluating.{operand, operands}
use Rattle.evaluation.proofs.+end_of.Goals as goal

-- ---- the operands, which lie below

pub end_of-requires : goal.end_of-requires
end_of-requires t c = (operands (c.decreases, c.requires) (says c.requires c.at.ensures c.in-Add.is) refl).0

pub end_of-requires-in-Add : goal.end_of-requires-in-Add
end_of-requires-in-Add t c = (operands (c.decreases, c.requires) (says c.requires c.at.ensures c.in-Add.is) refl).1

pub end_of-requires-in-Seqn : goal.end_of-requires-in-Seqn
end_of-requires-in-Seqn t c = (operands (c.decreases, c.requires) (says c.requires c.at.ensures c.in-Seqn.is) refl).0

pub end_of-requires-in-Number-end_of-2 : goal.end_of-requires-in-Number-end_of-2
end_of-requires-in-Number-end_of-2 t c = (operands (c.decreases, c.requires) (says c.requires c.at.ensures c.in-Seqn.is) refl).1

pub end_of-requires-in-Catch : goal.end_of-requires-in-Catch
end_of-requires-in-Catch t c = (operands (c.decreases, c.requires) (says c.requires c.at.ensures c.in-Catch.is) refl).0

pub end_of-requires-in-Throw-end_of-2 : goal.end_of-requires-in-Throw-end_of-2
end_of-requires-in-Throw-end_of-2 t c = (operands (c.decreases, c.requires) (says c.requires c.at.ensures c.in-Catch.is) refl).1

pub end_of-requires-in-Block : goal.end_of-requires-in-Block
end_of-requires-in-Block t c = operand (c.decreases, c.requires) (says c.requires c.at.ensures c.in-Block.is) refl

pub end_of-requires-in-Unblock : goal.end_of-requires-in-Unblock
end_of-requires-in-Unblock t c = operand (c.decreases, c.requires) (says c.requires c.at.ensures c.in-Unblock.is) refl

-- ---- what each kind ends in

pub returns-in-Val : goal.returns-in-Val
unfolding of_node quiet
returns-in-Val t c =
    let same : to_z w32 (of_z w32 c.in-Val.n) ≡ c.in-Val.n = search rules in
    rw (same, (says c.requires c.at.ensures c.in-Val.is).expression)

pub returns-in-Throw : goal.returns-in-Throw
unfolding of_node quiet
returns-in-Throw t c = rw (says c.requires c.at.ensures c.in-Throw.is).expression

-- an Add whose left side throws, whose right side does, and one of two numbers
pub returns-in_default : goal.returns-in_default
unfolding of_node quiet quiet_add
returns-in_default t c =
    rw ((says c.requires c.at.ensures c.in-Add.is).expression, ← c.end_of.ensures, c.in_default.is)

pub returns-in_default-end_of : goal.returns-in_default-end_of
unfolding of_node quiet quiet_add
returns-in_default-end_of t c =
    rw (
      (says c.requires c.at.ensures c.in-Add.is).expression,
      ← c.end_of.ensures,
      c.in-Number.is,
      ← c.end_of-in-Add.ensures,
      c.in_default-end_of.is,
    )

pub returns-in-Number-end_of : goal.returns-in-Number-end_of
unfolding of_node quiet quiet_add
returns-in-Number-end_of t c =
    let left : to_z w32 (of_z w32 c.in-Number.n) ≡ c.in-Number.n = search rules in
    let right : to_z w32 (of_z w32 c.in-Number-end_of.m) ≡ c.in-Number-end_of.m = search rules in
    let sum : to_z w32 (of_z w32 c.sum.result) ≡ c.sum.result = search rules in
    rw (
      sum,
      c.sum.ensures,
      left,
      right,
      (says c.requires c.at.ensures c.in-Add.is).expression,
      ← c.end_of.ensures,
      c.in-Number.is,
      ← c.end_of-in-Add.ensures,
      c.in-Number-end_of.is,
    )

pub returns-in-Number-end_of-2 : goal.returns-in-Number-end_of-2
unfolding of_node quiet quiet_seqn
returns-in-Number-end_of-2 t c =
    rw ((says c.requires c.at.ensures c.in-Seqn.is).expression, ← c.end_of-in-Seqn.ensures, c.in-Number-end_of-2.is)
    c.end_of-in-Number-end_of-2.ensures

pub returns-in-Throw-end_of : goal.returns-in-Throw-end_of
unfolding of_node quiet quiet_seqn
returns-in-Throw-end_of t c =
    rw ((says c.requires c.at.ensures c.in-Seqn.is).expression, ← c.end_of-in-Seqn.ensures, c.in-Throw-end_of.is)

pub returns-in-Number-end_of-3 : goal.returns-in-Number-end_of-3
unfolding of_node quiet quiet_catch
returns-in-Number-end_of-3 t c =
    let same : to_z w32 (of_z w32 c.in-Number-end_of-3.n) ≡ c.in-Number-end_of-3.n = search rules in
    rw (same, (says c.requires c.at.ensures c.in-Catch.is).expression, ← c.end_of-in-Catch.ensures, c.in-Number-end_of-3.is)

pub returns-in-Throw-end_of-2 : goal.returns-in-Throw-end_of-2
unfolding of_node quiet quiet_catch
returns-in-Throw-end_of-2 t c =
    rw ((says c.requires c.at.ensures c.in-Catch.is).expression, ← c.end_of-in-Catch.ensures, c.in-Throw-end_of-2.is)
    c.end_of-in-Throw-end_of-2.ensures

pub returns-in-Block : goal.returns-in-Block
unfolding of_node quiet
returns-in-Block t c = rw (says c.requires c.at.ensures c.in-Block.is).expression c.end_of-in-Block.ensures

pub returns-in-Unblock : goal.returns-in-Unblock
unfolding of_node quiet
returns-in-Unblock t c = rw (says c.requires c.at.ensures c.in-Unblock.is).expression c.end_of-in-Unblock.ensures
