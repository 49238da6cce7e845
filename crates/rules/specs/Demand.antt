-- Demand 3, before bytes: what is claimed of an expression of n nodes and a starting status (001, section 10, in the order's
-- words). proofs/Demand.antt proves it of every expression of at most 512 nodes.
--
--   of_expression     the run of an expression's compiled code under a placing
--   most_steps        3n - 1
--   most_reached      2n - 1, also the most instructions of its code
--   Ends              an answer is a permitted number or throw, within both
--   AsksNothingFrom   a placing asks for no recall from some instruction on
--   Demand            the claim
--
-- Assumes nothing.
use Rattle.std.specs.Prelude.{ℕ, ◌*◌, ◌-◌, ◌≤◌, length, false, ◌↔◌, ◌≡◌, Ok}
use Rattle.std.proofs.Math.Option.{some}
use Rattle.rules.specs.Code.{code_length, compile}
use Rattle.rules.specs.Evaluation.{Gives, quiet}
use Rattle.rules.specs.Expression.{Expression, nodes}
use Rattle.rules.specs.Machine.{State, Placing}
use Rattle.rules.specs.Run.{runs, state_after}
use Rattle.rules.specs.declared.Status.{Status}
use Rattle.rules.specs.declared.End.{End}
use Rattle.rules.specs.declared.Answer.{Answer}

abbrev pub of_expression : Expression → Placing → Status → Answer
of_expression e placing i = runs (compile 0 e) placing i

unfoldable pub most_steps : Expression → ℕ
most_steps e = 3 * nodes e - 1

unfoldable pub most_reached : Expression → ℕ
most_reached e = 2 * nodes e - 1

pub record Ends (e : Expression) (i : Status) (a : Answer) : Type 0 where
  pub end : End
  pub ended : a.outcome ≡ Ok end
  pub permitted : Gives e i end
  pub within_steps : a.steps ≤ most_steps e
  pub within_reached : a.reached ≤ most_reached e

abbrev pub AsksNothingFrom : ℕ → Placing → Type 0
AsksNothingFrom n placing = (k : ℕ) → n ≤ k → placing k ≡ false

abbrev pub no_recall : Placing
no_recall k = false

pub record Demand (e : Expression) (i : Status) : Type 0 where
  -- "Every placing, however long, ends in a number or a throw within 3n - 1 steps", and the rules permit that end
  pub ends : (placing : Placing) → Ends e i (of_expression e placing i)
  -- "each permitted end is met by a placing over the first 2n - 1 instructions reached"
  pub meets : (v : End) → Gives e i v
      → (placing : Placing) × AsksNothingFrom (most_reached e) placing × ((of_expression e placing i).outcome ≡ Ok v)
  -- "a number, or a throw, is the end of its compiled code under some placing exactly when the evaluation rules permit that end"
  pub exactly : (v : End) → ((placing : Placing) × ((of_expression e placing i).outcome ≡ Ok v)) ↔ Gives e i v
  -- the stack never holds more items than there are nodes
  pub items : (placing : Placing) (k : ℕ) (s : State) → state_after (compile 0 e) placing i k ≡ some s
      → length s.items ≤ nodes e
  -- "The code length is the sum of the last column above, at most 2n - 1"
  pub column : length (compile 0 e) ≡ code_length e
  pub short : code_length e ≤ most_reached e
  -- the end that no recall gives is the expression's own, and permitted
  pub quietly : (of_expression e no_recall i).outcome ≡ Ok (quiet e)
  pub quiet_given : Gives e i (quiet e)
