-- `table::node::read` meets its contract: what is answered is by the first test that refuses. Assumes nothing.
use Rattle.std.proofs.Common.{◌≡◌, ℕ, Bool, List, Err, ap, sym, ◌∙◌, eq-eqb, ne_eqb}
use Rattle.rules.specs.Table.{node_at, operands_of, all_below}
use Rattle.rules.proofs.Checking.{first_refuses, second_refuses, both_pass}
use Rattle.table.specs.Reading.{named, operands_at}
use Rattle.table.specs.declared.node.Operands.{Operands}
use Rattle.table.proofs.Reading.{operands_named, reads_unknown, tests}
use Rattle.table.proofs.node.read.Goals as goal

pub returns-in_default : goal.returns-in_default
returns-in_default c = rw c.at.ensures (sym (reads_unknown _ _ c.in_default.ensures))

-- ---- the tests 3 and 4, of a known kind

-- what `below` answers is test 4
tested : (table : List ℕ) (j : ℕ) {operands : Operands} {answer : Bool} → operands ≡ operands_at table j
    → answer ≡ all_below j (named operands) → all_below j (operands_of (node_at table j)) ≡ answer
tested table j same answered = ap (all_below j) (sym (operands_named (node_at table j)) ∙ ap named (sym same)) ∙ sym answered

pub returns-then-unused-ne0 : goal.returns-then-unused-ne0
returns-then-unused-ne0 c =
    let wrong = sym c.by_kind-unused.ensures.unused ∙ ne_eqb _ _ c.if-unused-ne0.true in
    rw c.at-then-unused-ne0.ensures (sym (first_refuses Err _ (tests _ _ _ c.in-Ok.ensures) wrong))

pub returns-then-below : goal.returns-then-below
returns-then-below c =
    let clean = sym c.by_kind-unused.ensures.unused ∙ eq-eqb _ _ c.if-unused-ne0.false in
    let right = tested _ _ c.by_kind-unused.ensures.operands c.below.ensures ∙ c.if-below.true in
    rw c.by_kind-unused.ensures.operands (sym (both_pass Err _ (tests _ _ _ c.in-Ok.ensures) clean right))

pub returns-else-below : goal.returns-else-below
returns-else-below c =
    let clean = sym c.by_kind-unused.ensures.unused ∙ eq-eqb _ _ c.if-unused-ne0.false in
    let wrong = tested _ _ c.by_kind-unused.ensures.operands c.below.ensures ∙ c.if-below.false in
    rw c.at-else-below.ensures (sym (second_refuses Err _ (tests _ _ _ c.in-Ok.ensures) clean wrong))
