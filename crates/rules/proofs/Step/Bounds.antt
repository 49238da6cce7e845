-- What a step adds to the totals, and where it is refused: at its own address, if at all. Unlike `Counted.antt` it asks nothing
-- of the items, and it speaks of a run that is over too.
--
--   Limited        a state with one step more and at most one instruction reached more, or an outcome with a place of at most n
--   step_limited   what a step comes to, from an address of at most n
--
-- Assumes nothing.
use Prim.Native.Nat.{ℕ, ◌+◌, ◌≤◌}
use native.Mathlib.Omega.{arith}
use mathlib.Core.List.{List}
use mathlib.Core.Path.{◌≡◌}
use Rattle.rules.specs.Answers.{outcome_place}
use Rattle.rules.specs.Machine.{State, Mode, Step, Placing, Next, Over, Stuck, step}
use Rattle.rules.specs.declared.Instruction.{Instruction}
use Rattle.rules.proofs.Step.Addresses.{At}
use Rattle.rules.proofs.Step.Effects.{carried, refused, removed, empty, Stepped}
use Rattle.rules.proofs.Step.Effects.{instruction, ended, unended, unwinding, step_effect}

abbrev pub Limited : ℕ → State → Step → Type 0
Limited n s (Next next) = (next.steps ≡ s.steps + 1) × (next.reached ≤ s.reached + 1)
Limited n s (Over o) = outcome_place o ≤ n
Limited n s (Stuck r) = r.place ≤ n

module _ (n : ℕ) (s : State) where
  stepped_limited : {code : List Instruction} {m : Mode} {next : Step} → At n m → Stepped code s m next → Limited n s next
  unfolding outcome_place
  stepped_limited low (instruction e (carried change)) = omega arith
  stepped_limited low (instruction e refused) = low
  stepped_limited low ended = omega arith
  stepped_limited low unended = low
  stepped_limited low (unwinding e (removed undoes)) = omega arith
  stepped_limited low (unwinding e empty) = omega arith

  pub step_limited : (code : List Instruction) (placing : Placing) → At n s.mode → Limited n s (step code placing s)
  step_limited code placing low = stepped_limited low (step_effect code s placing)
