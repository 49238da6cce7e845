-- Small runs that tell the rules from what is easily taken for them (document 01, "Easy to get wrong"), and that both bounds of
-- demand 3 are met, so that neither can be less by one. By computation; what must come was worked out from document 01 by hand.
--
--   as_witnessed   each run comes to its answer
--   bounds_met     a recall at the RESET of an Unblock takes 3n - 1 steps and reaches 2n - 1 instructions
--
-- Assumes nothing.
use Prim.Native.Nat.{ℕ}
use lib.Dec.{eqb}
use lib.IntN.{pos}
use mathlib.Core.List.{List, [], ◌∷◌, map}
use mathlib.Core.Path.{◌≡◌, refl}
use Rattle.rules.specs.Demand.{of_expression, most_steps, most_reached}
use Rattle.rules.specs.Expression.{Expression, Val, Throw, Add, Seqn, Catch, Block, Unblock}
use Rattle.rules.specs.Machine.{Placing}
use Rattle.rules.specs.declared.Status.{Status}
use Rattle.rules.specs.declared.Status.TheVariants.{Blocked, Unblocked}
use Rattle.rules.specs.declared.End.{End}
use Rattle.rules.specs.declared.Answer.{Answer}
use Rattle.std.specs.Prelude.{Ok}
use Rattle.rules.proofs.Computed.Computing.{computing}

record Witness : Type 0 where
  recipe : Expression
  status : Status
  recall : ℕ
  answer : Answer

abbrev comes : Expression → Status → ℕ → End → ℕ → ℕ → Witness
comes e i k v steps reached =
    record { recipe = e; status = i; recall = k; answer = record { outcome = Ok v; steps = steps; reached = reached } }

-- one recall, at an instruction reached
recall_at : ℕ → Placing
recall_at k r = eqb r k

abbrev one : Expression
one = Val (pos 1)

abbrev two : Expression
two = Val (pos 2)

witnesses : List Witness
witnesses =
    -- the handler runs in the status at its MARK, blocked: the recall at its PUSH lapses
    comes (Catch (Unblock Throw) one) Blocked 3 (End.Number (pos 1)) 6 4
    -- RESET restores unblocked: the recall after the closing part bites
    ∷ comes (Seqn (Block one) two) Unblocked 4 End.Throw 5 5
    -- no cut after the last instruction
    ∷ comes one Unblocked 1 (End.Number (pos 1)) 1 1
    -- unwinding reads no recall: the one for instruction 2 finds the number being dropped
    ∷ comes (Add one Throw) Unblocked 2 End.Throw 3 2
    -- UNMARK goes on after the handler
    ∷ comes (Catch one two) Unblocked 9 (End.Number (pos 1)) 3 3
    ∷ []

as_witnessed : map (λ w. of_expression w.recipe (recall_at w.recall) w.status) witnesses ≡ map (λ w. w.answer) witnesses
unfolding computing recall_at witnesses
as_witnessed = refl

bounds_met : of_expression (Unblock one) (recall_at 2) Blocked
    ≡ record { outcome = Ok End.Throw; steps = most_steps (Unblock one); reached = most_reached (Unblock one) }
unfolding computing recall_at
bounds_met = refl
