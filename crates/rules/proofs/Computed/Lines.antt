-- Inputs of the rehearsal program and the lines that it must print, tried on the definitions. By computation; what must come was
-- worked out from document 01 by hand.
--
--   given_bytes     document 01's example, byte for byte
--   lines_printed   numbers of either sign, a throw, refusals, and inputs that are too short
--
-- Assumes nothing.
use Prim.Native.Nat.{ℕ}
use Prim.Native.String.{String}
use mathlib.Core.List.{List, [], ◌∷◌, ◌++◌, map}
use mathlib.Core.Path.{◌≡◌, refl}
use Rattle.rules.specs.Line.{ascii, rehearsal_line}
use Rattle.rules.specs.Rehearsed.{eight, just_nine, add_over_the_top, used_twice}
use Rattle.rules.proofs.Computed.Computing.{computing}

-- "Input 01 08 00 01 00 00 00 09 00 00 00 prints exactly `number 9 steps 1 reached 1`"
given_bytes : rehearsal_line (1 ∷ 8 ∷ 0 ∷ 1 ∷ 0 ∷ 0 ∷ 0 ∷ 9 ∷ 0 ∷ 0 ∷ 0 ∷ [])
    ≡ 110 ∷ 117 ∷ 109 ∷ 98 ∷ 101 ∷ 114 ∷ 32 ∷ 57 ∷ 32
    ∷ 115 ∷ 116 ∷ 101 ∷ 112 ∷ 115 ∷ 32 ∷ 49 ∷ 32
    ∷ 114 ∷ 101 ∷ 97 ∷ 99 ∷ 104 ∷ 101 ∷ 100 ∷ 32 ∷ 49 ∷ 10 ∷ []
unfolding computing
given_bytes = refl

record Printed : Type 0 where
  input : List ℕ
  line : String

abbrev prints : List ℕ → String → Printed
prints input line = record { input = input; line = line }

-- a status, and the two bytes of a table length
abbrev head : ℕ → ℕ → ℕ → List ℕ
head status low high = status ∷ low ∷ high ∷ []

-- Add (Val -2147483648) (Val -1)
abbrev add_under_the_bottom : List ℕ
add_under_the_bottom = eight 1 0 0 0 0 0 0 128 ++ eight 1 0 0 0 255 255 255 255 ++ eight 3 0 0 0 1 0 0 0

printed : List Printed
printed =
    prints (head 1 8 0 ++ just_nine) "number 9 steps 1 reached 1\n"
    -- the byte after the table is the schedule's first: a recall at instruction 0
    ∷ prints (head 1 8 0 ++ just_nine ++ (1 ∷ [])) "throw steps 1 reached 1\n"
    ∷ prints (head 0 8 0 ++ just_nine ++ (1 ∷ [])) "number 9 steps 1 reached 1\n"
    -- sums past both ends of the range
    ∷ prints (head 0 24 0 ++ add_over_the_top) "number -2147483648 steps 3 reached 3\n"
    ∷ prints (head 0 24 0 ++ add_under_the_bottom) "number 2147483647 steps 3 reached 3\n"
    -- refused by compiling, at node 0 and at node 1, and by running
    ∷ prints (head 1 16 0 ++ used_twice) "refused 5 at 0\n"
    ∷ prints (head 1 16 0 ++ just_nine ++ eight 8 0 0 0 0 0 0 0) "refused 2 at 1\n"
    ∷ prints (head 2 8 0 ++ just_nine) "refused 7 at 0\n"
    -- under 3 bytes
    ∷ prints [] "refused 1 at 0\n"
    ∷ prints (1 ∷ []) "refused 1 at 0\n"
    ∷ prints (1 ∷ 0 ∷ []) "refused 1 at 0\n"
    -- shorter than it announces, by one byte and by its high byte
    ∷ prints (head 1 8 0 ++ (1 ∷ 0 ∷ 0 ∷ 0 ∷ 9 ∷ 0 ∷ 0 ∷ [])) "refused 1 at 0\n"
    ∷ prints (head 1 8 1 ++ just_nine) "refused 1 at 0\n"
    -- it announces no table: what follows is schedule, and test 1 refuses
    ∷ prints (head 1 0 0) "refused 1 at 0\n"
    ∷ prints (head 1 0 0 ++ just_nine) "refused 1 at 0\n"
    ∷ []

lines_printed : map (λ p. rehearsal_line p.input) printed ≡ map (λ p. ascii p.line) printed
unfolding computing printed
lines_printed = refl
