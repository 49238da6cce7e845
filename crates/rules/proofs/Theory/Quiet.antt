-- The end that no recall gives: the rules permit it in both statuses, by a derivation whose row asks for nothing.
--
--   Silent           a row of bits in which nothing is asked for
--   Quietly          a derivation with such a row
--   quietly_gives    each expression quietly gives its quiet end
--
-- Assumes nothing.
use Prim.Native.Nat.{ℕ, ◌+◌}
use mathlib.Core.Bool.{Bool, false}
use mathlib.Core.List.{List, [], ◌∷◌}
use mathlib.Core.Path.{refl}
use Rattle.rules.specs.Demand.{no_recall}
use Rattle.rules.specs.Evaluation.{Gives, VAL, THROW, ADD1, ADD2, ADD3, SEQN1, SEQN2, CATCH1}
use Rattle.rules.specs.Evaluation.{CATCH2, BLOCK, UNBLOCK, quiet_add, quiet_seqn, quiet_catch, quiet}
use Rattle.rules.specs.Expression.{Expression, Val, Throw, Add, Seqn, Catch, Block, Unblock}
use Rattle.rules.specs.declared.Status.{Status}
use Rattle.rules.specs.declared.Status.TheVariants.{Blocked, Unblocked}
use Rattle.rules.specs.declared.End.{End}
use Rattle.rules.specs.declared.End.TheVariants.{Number}
use Rattle.rules.proofs.Theory.Completeness.{bits, reset_bits, Reads, none, bit}

pub data Silent : List Bool → Type 0 where
  empty : Silent []
  silent : {rest : List Bool} → Silent rest → Silent (false ∷ rest)

pub silent_reads : {row : List Bool} → Silent row → (r : ℕ) → Reads no_recall r row
silent_reads empty r = none
silent_reads (silent s) r = bit refl (silent_reads s (r + 1))

pub record Quietly (e : Expression) (i : Status) (v : End) : Type 0 where
  pub gives : Gives e i v
  pub silently : (rest : List Bool) → Silent rest → Silent (bits gives rest)

module _ {x y : Expression} {i : Status} where
  quietly_add : (v w : End) → Quietly x i v → Quietly y i w → Quietly (Add x y) i (quiet_add v w)
  unfolding quiet_add bits
  quietly_add (Number n) (Number m) p q =
      record { gives = ADD1 p.gives q.gives; silently = λ rest s. p.silently _ (q.silently _ (silent s)) }
  quietly_add (Number n) End.Throw p q =
      record { gives = ADD3 p.gives q.gives; silently = λ rest s. p.silently _ (q.silently _ s) }
  quietly_add End.Throw w p q = record { gives = ADD2 p.gives; silently = λ rest s. p.silently _ s }

  quietly_seqn : (v w : End) → Quietly x i v → Quietly y i w → Quietly (Seqn x y) i (quiet_seqn v w)
  unfolding quiet_seqn bits
  quietly_seqn (Number n) w p q =
      record { gives = SEQN1 p.gives q.gives; silently = λ rest s. p.silently _ (silent (q.silently _ s)) }
  quietly_seqn End.Throw w p q = record { gives = SEQN2 p.gives; silently = λ rest s. p.silently _ s }

  quietly_catch : (v w : End) → Quietly x i v → Quietly y i w → Quietly (Catch x y) i (quiet_catch v w)
  unfolding quiet_catch bits
  quietly_catch (Number n) w p q = record { gives = CATCH1 p.gives; silently = λ rest s. silent (p.silently _ (silent s)) }
  quietly_catch End.Throw w p q =
      record { gives = CATCH2 p.gives q.gives; silently = λ rest s. silent (p.silently _ (q.silently _ s)) }

silent_reset : (v : End) {rest : List Bool} → Silent rest → Silent (reset_bits v rest)
unfolding reset_bits
silent_reset (Number n) s = silent s
silent_reset End.Throw s = s

pub quietly_gives : (e : Expression) (i : Status) → Quietly e i (quiet e)
unfolding quiet bits
quietly_gives (Val n) i = record { gives = VAL; silently = λ rest s. silent s }
quietly_gives Throw i = record { gives = THROW; silently = λ rest s. silent s }
quietly_gives (Add x y) i = quietly_add (quiet x) (quiet y) (quietly_gives x i) (quietly_gives y i)
quietly_gives (Seqn x y) i = quietly_seqn (quiet x) (quiet y) (quietly_gives x i) (quietly_gives y i)
quietly_gives (Catch x y) i = quietly_catch (quiet x) (quiet y) (quietly_gives x i) (quietly_gives y i)
quietly_gives (Block x) i =
    let p : Quietly x Blocked (quiet x) = quietly_gives x Blocked in
    record { gives = BLOCK p.gives; silently = λ rest s. silent (p.silently _ (silent_reset (quiet x) s)) }
quietly_gives (Unblock x) i =
    let p : Quietly x Unblocked (quiet x) = quietly_gives x Unblocked in
    record { gives = UNBLOCK p.gives; silently = λ rest s. silent (p.silently _ (silent_reset (quiet x) s)) }
