-- What a recipe may end in (document 01, the section of that name; 001, sections 2 and 5).
--
--   Gives e i v   "e in i gives v", with one constructor for each rule, under its name in 001
--   quiet         the end of a recipe that no recall strikes
--
-- Assumes nothing.
use Rattle.std.specs.Prelude.{ℤ}
use Rattle.rules.specs.Expression.{Expression, Val, Throw, Add, Seqn, Catch, Block, Unblock}
use Rattle.rules.specs.Number.{sum}
use Rattle.rules.specs.declared.Status.{Status}
use Rattle.rules.specs.declared.Status.TheVariants.{Blocked, Unblocked}
use Rattle.rules.specs.declared.End.{End}
use Rattle.rules.specs.declared.End.TheVariants.{Number}

pub data Gives : Expression → Status → End → Type 0 where
  VAL : {n : ℤ} {i : Status} → Gives (Val n) i (Number n)
  THROW : {i : Status} → Gives Throw i End.Throw
  ADD1 : {x y : Expression} {i : Status} {n m : ℤ} → Gives x i (Number n) → Gives y i (Number m)
      → Gives (Add x y) i (Number (sum n m))
  ADD2 : {x y : Expression} {i : Status} → Gives x i End.Throw → Gives (Add x y) i End.Throw
  ADD3 : {x y : Expression} {i : Status} {n : ℤ} → Gives x i (Number n) → Gives y i End.Throw → Gives (Add x y) i End.Throw
  SEQN1 : {x y : Expression} {i : Status} {n : ℤ} {v : End} → Gives x i (Number n) → Gives y i v → Gives (Seqn x y) i v
  SEQN2 : {x y : Expression} {i : Status} → Gives x i End.Throw → Gives (Seqn x y) i End.Throw
  CATCH1 : {x y : Expression} {i : Status} {n : ℤ} → Gives x i (Number n) → Gives (Catch x y) i (Number n)
  CATCH2 : {x y : Expression} {i : Status} {v : End} → Gives x i End.Throw → Gives y i v → Gives (Catch x y) i v
  BLOCK : {x : Expression} {i : Status} {v : End} → Gives x Blocked v → Gives (Block x) i v
  UNBLOCK : {x : Expression} {i : Status} {v : End} → Gives x Unblocked v → Gives (Unblock x) i v
  INT : {e : Expression} → Gives e Unblocked End.Throw

-- ---- without recalls: 001, section 2, as the total function that it says its relation is

unfoldable pub quiet_add : End → End → End
quiet_add (Number n) (Number m) = Number (sum n m)
quiet_add (Number n) End.Throw = End.Throw
quiet_add End.Throw v = End.Throw

unfoldable pub quiet_seqn : End → End → End
quiet_seqn (Number n) v = v
quiet_seqn End.Throw v = End.Throw

unfoldable pub quiet_catch : End → End → End
quiet_catch (Number n) v = Number n
quiet_catch End.Throw v = v

unfoldable pub quiet : Expression → End
quiet (Val n) = Number n
quiet Throw = End.Throw
quiet (Add x y) = quiet_add (quiet x) (quiet y)
quiet (Seqn x y) = quiet_seqn (quiet x) (quiet y)
quiet (Catch x y) = quiet_catch (quiet x) (quiet y)
quiet (Block x) = quiet x
quiet (Unblock x) = quiet x
