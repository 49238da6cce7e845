-- R1 to R12 (document 01, "Rehearsed recipes"), as bytes that go in and the answer that must come.
--
--   Rehearsed           a status, a table, a schedule, and the answer
--   rehearsed_recipes   R1 to R12
--   AsRehearsed         each of them comes to its answer
--
-- Assumes nothing.
use Rattle.std.specs.Prelude.{ℕ, ℤ, pos, negsuc, ◌≡◌, List, [], ◌∷◌, ◌++◌, map, Ok}
use Rattle.rules.specs.Rehearsal.{rehearse}
use Rattle.rules.specs.Running.{refused_answer}
use Rattle.rules.specs.declared.End.TheVariants.{Number, Throw}
use Rattle.rules.specs.declared.Reason.TheVariants.{Uses}
use Rattle.rules.specs.declared.Answer.{Answer}

pub record Rehearsed : Type 0 where
  pub status : ℕ
  pub table : List ℕ
  pub schedule : List ℕ
  pub answer : Answer

-- ---- words for the list

-- the bytes of a record
abbrev pub eight : ℕ → ℕ → ℕ → ℕ → ℕ → ℕ → ℕ → ℕ → List ℕ
eight a b c d e f g h = a ∷ b ∷ c ∷ d ∷ e ∷ f ∷ g ∷ h ∷ []

abbrev blocked : ℕ
blocked = 0

abbrev unblocked : ℕ
unblocked = 1

abbrev quietly : List ℕ
quietly = []

-- a schedule byte for recalls at instructions 0 to 7
abbrev recalls : ℕ → List ℕ
recalls bits = bits ∷ []

abbrev number : ℤ → ℕ → ℕ → Answer
number n steps reached = record { outcome = Ok (Number n); steps = steps; reached = reached }

abbrev throw : ℕ → ℕ → Answer
throw steps reached = record { outcome = Ok Throw; steps = steps; reached = reached }

abbrev comes : ℕ → List ℕ → List ℕ → Answer → Rehearsed
comes status table schedule answer = record { status = status; table = table; schedule = schedule; answer = answer }

-- ---- the tables

-- Val 9
abbrev pub just_nine : List ℕ
just_nine = eight 1 0 0 0 9 0 0 0

-- Add (Val 5) (Catch (Add (Val 7) Throw) (Val 6))
abbrev pub tree_a : List ℕ
tree_a =
    eight 1 0 0 0 5 0 0 0
    ++ eight 1 0 0 0 7 0 0 0
    ++ eight 2 0 0 0 0 0 0 0
    ++ eight 3 0 1 0 2 0 0 0
    ++ eight 1 0 0 0 6 0 0 0
    ++ eight 5 0 3 0 4 0 0 0
    ++ eight 3 0 0 0 5 0 0 0

-- Block (Val 4)
abbrev blocked_four : List ℕ
blocked_four = eight 1 0 0 0 4 0 0 0 ++ eight 6 0 0 0 0 0 0 0

-- Unblock (Block (Val 4))
abbrev opened_blocked_four : List ℕ
opened_blocked_four = blocked_four ++ eight 7 0 1 0 0 0 0 0

-- Add (Val 2147483647) (Val 1)
abbrev pub add_over_the_top : List ℕ
add_over_the_top = eight 1 0 0 0 255 255 255 127 ++ eight 1 0 0 0 1 0 0 0 ++ eight 3 0 0 0 1 0 0 0

-- Catch (Val 1) (Val 2)
abbrev caught_one : List ℕ
caught_one = eight 1 0 0 0 1 0 0 0 ++ eight 1 0 0 0 2 0 0 0 ++ eight 5 0 0 0 1 0 0 0

-- Val and Add 0 0
abbrev pub used_twice : List ℕ
used_twice = eight 1 0 0 0 1 0 0 0 ++ eight 3 0 0 0 0 0 0 0

-- ---- the list

unfoldable pub rehearsed_recipes : List Rehearsed
rehearsed_recipes =
    -- R1
    comes unblocked just_nine quietly (number (pos 9) 1 1)
    -- R2
    ∷ comes unblocked just_nine (recalls 0b00000001) (throw 1 1)
    -- R3
    ∷ comes blocked just_nine (recalls 0b00000001) (number (pos 9) 1 1)
    -- R4
    ∷ comes unblocked tree_a quietly (number (pos 11) 8 6)
    -- R5
    ∷ comes unblocked tree_a (recalls 0b00000100) (number (pos 11) 6 5)
    -- R6
    ∷ comes unblocked tree_a (recalls 0b00100000) (throw 10 6)
    -- R7
    ∷ comes unblocked blocked_four (recalls 0b00000110) (number (pos 4) 3 3)
    -- R8
    ∷ comes unblocked blocked_four (recalls 0b00000001) (throw 1 1)
    -- R9
    ∷ comes blocked opened_blocked_four (recalls 0b00000010) (throw 3 2)
    -- R10
    ∷ comes blocked add_over_the_top quietly (number (negsuc 2147483647) 3 3)
    -- R11
    ∷ comes unblocked caught_one (recalls 0b00000100) (number (pos 2) 6 4)
    -- R12
    ∷ comes unblocked used_twice quietly (refused_answer (record { reason = Uses; place = 0 }))
    ∷ []

unfoldable pub AsRehearsed : Type 0
AsRehearsed = map (λ r. rehearse r.status r.table r.schedule) rehearsed_recipes ≡ map (λ r. r.answer) rehearsed_recipes
