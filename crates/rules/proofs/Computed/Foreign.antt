-- Codes that no table compiles to, on the definitions of the machine and its run. By computation; what must come was worked out
-- from document 01 by hand.
--
--   as_foreign     document 01's own ("Rehearsed recipes", "Run only"): 13, 14 and 15 at their places and with their totals
--   at_the_limit   what comes first after 1,535 steps ("Refusal numbers")
--
-- Assumes nothing.
use Prim.Native.Nat.{ℕ, zero, suc, ◌+◌}
use lib.IntN.{pos}
use lib.ListN.{replicate}
use mathlib.Core.List.{List, [], ◌∷◌, ◌++◌, map}
use mathlib.Core.Path.{◌≡◌, refl}
use Rattle.rules.specs.Demand.{no_recall}
use Rattle.rules.specs.Run.{runs}
use Rattle.rules.specs.declared.Status.TheVariants.{Unblocked}
use Rattle.rules.specs.declared.Instruction.{Instruction}
use Rattle.rules.specs.declared.Instruction.TheVariants.{Push, Throw, Pop, Mark, Reset}
use Rattle.rules.specs.declared.End.{End}
use Rattle.rules.specs.declared.Reason.{Reason}
use Rattle.rules.specs.declared.Reason.TheVariants.{StackFull, NoRule, Steps}
use Rattle.rules.specs.declared.Answer.{Answer}
use Rattle.std.specs.Prelude.{Ok, Err}
use Rattle.rules.proofs.Computed.Computing.{computing}

record Foreign : Type 0 where
  code : List Instruction
  answer : Answer

abbrev comes : List Instruction → Answer → Foreign
comes code answer = record { code = code; answer = answer }

abbrev refused : Reason → ℕ → ℕ → ℕ → Answer
refused reason place steps reached =
    record { outcome = Err (record { reason = reason; place = place }); steps = steps; reached = reached }

abbrev push : Instruction
push = Push (pos 1)

-- "each with the next address as target, then THROW"
marks : ℕ → ℕ → List Instruction
marks a zero = Throw ∷ []
marks a (suc n) = Mark (a + 1) ∷ marks (a + 1) n

-- ---- document 01's own

foreign_codes : List Foreign
foreign_codes =
    comes (replicate 512 push) (refused NoRule 512 512 512)
    ∷ comes (replicate 513 push) (refused StackFull 512 512 512)
    ∷ comes (Pop ∷ []) (refused NoRule 0 0 0)
    ∷ comes (marks 0 9) (record { outcome = Ok End.Throw; steps = 1534; reached = 1023 })
    ∷ comes (marks 0 10) (refused Steps 0 1535 1024)
    ∷ []

as_foreign : map (λ f. runs f.code no_recall Unblocked) foreign_codes ≡ map (λ f. f.answer) foreign_codes
unfolding computing marks foreign_codes
as_foreign = refl

-- ---- "an end or 14 at the length comes before 15, 15 before a step"

-- A row of m MARKs and THROW, under a handler at what follows it, takes 3 * 2^m steps and reaches 2^(m + 1) instructions, and
-- leaves no item.
rows : ℕ → List ℕ → List Instruction → List Instruction
rows a [] rest = rest
rows a (m ∷ ms) rest = let next : ℕ = a + m + 2 in Mark next ∷ marks (a + 1) m ++ rows next ms rest

-- 1,530 steps, 1,020 instructions and 52 addresses, then these
abbrev late : List Instruction → List Instruction
late = rows 0 (8 ∷ 7 ∷ 6 ∷ 5 ∷ 4 ∷ 3 ∷ 2 ∷ 1 ∷ [])

-- 1,023 steps and 682 instructions, then these
abbrev early : List Instruction → List Instruction
early = rows 0 (8 ∷ 6 ∷ 4 ∷ 2 ∷ 0 ∷ [])

limit_codes : List Foreign
limit_codes =
    -- at the length: a number, and five numbers
    comes
    (late (push ∷ Pop ∷ push ∷ Pop ∷ push ∷ []))
    (record { outcome = Ok (End.Number (pos 1)); steps = 1535; reached = 1025 })
    ∷ comes (late (replicate 5 push)) (refused NoRule 57 1535 1025)
    -- at an instruction: one that could be carried out, one with no rule, and a push onto 512 items
    ∷ comes (late (replicate 6 push)) (refused Steps 0 1535 1025)
    ∷ comes (late (replicate 5 push ++ (Reset ∷ []))) (refused Steps 0 1535 1025)
    ∷ comes (early (replicate 513 push)) (refused Steps 0 1535 1194)
    ∷ []

at_the_limit : map (λ f. runs f.code no_recall Unblocked) limit_codes ≡ map (λ f. f.answer) limit_codes
unfolding computing marks rows limit_codes
at_the_limit = refl
