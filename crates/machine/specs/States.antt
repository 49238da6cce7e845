-- The states of the rules (`rules`, `specs/Machine`) in a machine and its lent stack, and what the machine's functions ask and
-- promise of them.
--
--   mode_of, state_of
--               the state that a machine and the bytes of its stack hold
--   place_of    where a step of it is refused
--   step_of     what a step comes to, as the rules have it
--   fresh_of    the machine in which a run begins
--   unwound_of, onward_of
--               the counts after a step
--   thrown_of   the machine where unwinding begins
--   Counting    its counts let it take a step
--   Within      and its items are within their limit
--   Ready, Unwindable, Replaceable
--               and there is an address to go on from, or an item to remove, or there are two
--   AtInstruction
--               an address of an instruction of the code
--   HasStep     there is a step to take: if it runs, it is at an instruction; if it unwinds, it has an item
--   Steppable   all that a step asks
--   Does        a step does what a rule says
--   Carries, Pushes, Steps, Unwinds
--               the rules by name
--   Replaces    a number takes the place of the two top items
--
-- Assumes nothing.
use Rattle.std.specs.Prelude.{ℕ, ◌+◌, ◌-◌, ◌≤◌, ◌<◌, ℤ, List, ◌∷◌, ◌≡◌, Result, Ok, Err}
use Rattle.rules.specs.Bytes.{records}
use Rattle.rules.specs.CodeBytes.{instructions}
use Rattle.rules.specs.Limits.{instruction_limit, item_limit, step_limit}
use Rattle.rules.specs.Machine as rules
use Rattle.rules.specs.Machine.{State}
use Rattle.rules.specs.Schedule.{asks}
use Rattle.rules.specs.declared.Instruction.{Instruction}
use Rattle.rules.specs.declared.Item.{Item}
use Rattle.rules.specs.declared.Item.TheVariants.{Number}
use Rattle.rules.specs.declared.Reason.{Reason}
use Rattle.rules.specs.declared.Status.{Status}
use Rattle.machine.specs.Items.{items_of}
use Rattle.machine.specs.declared.state.Machine.{Machine}
use Rattle.machine.specs.declared.state.Mode.{Mode}
use Rattle.machine.specs.declared.state.Mode.TheVariants.{Running, Unwinding}

abbrev pub mode_of : Mode → rules.Mode
mode_of (Running address) = rules.Running address
mode_of Unwinding = rules.Unwinding

abbrev pub state_of : List ℕ → Machine → State
state_of stack m = record {
  mode = mode_of m.mode;
  status = m.status;
  items = items_of stack m.height;
  steps = m.steps;
  reached = m.reached;
}

abbrev pub place_of : Mode → ℕ
place_of (Running address) = address
place_of Unwinding = 0

-- a refused step has this place
unfoldable pub step_of : List ℕ → ℕ → Result Machine Reason → rules.Step
step_of stack place (Ok next) = rules.Next (state_of stack next)
step_of stack place (Err reason) = rules.Stuck (record { reason = reason; place = place })

-- ---- the rules' `fresh`, `onward` and `unwound`

abbrev pub fresh_of : Status → Machine
fresh_of i = record { mode = Running 0; status = i; height = 0; steps = 0; reached = 0 }

abbrev pub unwound_of : Machine → Machine
unwound_of m = record m { steps = m.steps + 1 }

abbrev pub onward_of : Machine → Machine
onward_of m = record m { steps = m.steps + 1; reached = m.reached + 1 }

-- THROW carried out, or an instruction cut
abbrev pub thrown_of : Machine → Machine
thrown_of m = record (onward_of m) { mode = Unwinding }

-- ---- what a step asks

pub record Counting (m : Machine) : Type 0 where
  pub steps : m.steps < step_limit
  pub reached : m.reached ≤ m.steps

pub record Within (m : Machine) : Type 0 where
  pub counting : Counting m
  pub height : m.height ≤ item_limit

pub record Ready (address : ℕ) (m : Machine) : Type 0 where
  pub within : Within m
  pub limit : address < instruction_limit

pub record Unwindable (m : Machine) : Type 0 where
  pub within : Within m
  pub some : 0 < m.height

pub record Replaceable (m : Machine) : Type 0 where
  pub within : Within m
  pub two : 2 ≤ m.height

pub record AtInstruction (code : List ℕ) (address : ℕ) : Type 0 where
  pub below : address < records code
  pub limit : address < instruction_limit

pub record HasStep (code : List ℕ) (m : Machine) : Type 0 where
  pub running : (address : ℕ) → m.mode ≡ Running address → AtInstruction code address
  pub unwinding : m.mode ≡ Unwinding → 0 < m.height

pub record Steppable (code : List ℕ) (m : Machine) : Type 0 where
  pub within : Within m
  pub has : HasStep code m

-- ---- what it promises

abbrev pub Does : rules.Step → ℕ → Result Machine Reason → List ℕ → Type 0
Does rule place step after = step_of after place step ≡ rule

-- an instruction carried out at an address, an item pushed, a whole step
abbrev pub Carries : Instruction → ℕ → List ℕ → Machine → Result Machine Reason → List ℕ → Type 0
Carries x address stack m = Does (rules.execute x address (state_of stack m)) address

abbrev pub Pushes : Item → Status → ℕ → List ℕ → Machine → Result Machine Reason → List ℕ → Type 0
Pushes item i address stack m = Does (rules.push item address (state_of stack m) i) address

abbrev pub Steps : List ℕ → List ℕ → List ℕ → Machine → Result Machine Reason → List ℕ → Type 0
Steps code schedule stack m = Does (rules.step (instructions code) (asks schedule) (state_of stack m)) (place_of m.mode)

-- an item removed in unwinding
abbrev pub Unwinds : List ℕ → Machine → Machine → Type 0
Unwinds stack m next = rules.unwind (state_of stack m) (items_of stack m.height) ≡ rules.Next (state_of stack next)

pub record Replaces (n : ℤ) (address : ℕ) (status : Status) (stack : List ℕ) (m next : Machine) (after : List ℕ) : Type 0 where
  pub machine :
      next
      ≡ record (onward_of m) { mode = Running address; status = status; height = m.height - 1 }
  pub items : items_of after (m.height - 1) ≡ Number n ∷ items_of stack (m.height - 2)
