-- Small tables and codes, tried on the definitions of compiling and running: the refusals 1 to 12 at their places, often where
-- something else is wrong too, so that the order of tests shows; and what is left in the buffers. By computation; what must come
-- was worked out from document 01 by hand.
--
--   sums_tried                                   sums at both ends of the range
--   sizes_tried                                  the sizes at which 1 and 9 begin
--   tables_tried, code_left, code_untouched      compiling
--   codes_tried, stack_zeroed, stack_untouched   running
--
-- Assumes nothing.
use Prim.Native.Nat.{ℕ}
use lib.IntN.{ℤ, pos, negsuc}
use lib.ListN.{replicate}
use mathlib.Core.Bool.{Bool, true, false}
use mathlib.Core.List.{List, [], ◌∷◌, ◌++◌, map}
use mathlib.Core.Path.{◌≡◌, refl}
use Rattle.rules.specs.Answers.{outcome_refusal, outcome_place, compiled_length, compiled_refusal, compiled_place}
use Rattle.rules.specs.Bytes.{whole_records}
use Rattle.rules.specs.Compiling.{compile_answer, compile_leaves}
use Rattle.rules.specs.Limits.{table_limit, code_limit}
use Rattle.rules.specs.Number.{sum}
use Rattle.rules.specs.Rehearsed.{eight, tree_a}
use Rattle.rules.specs.Running.{run_answer, run_leaves}
use Rattle.rules.specs.declared.Answer.{Answer}
use Rattle.std.specs.Prelude.{Result}
use Rattle.rules.proofs.Computed.Computing.{computing}
use Rattle.rules.specs.declared.Refusal.{Refusal}

-- ---- sums: "exact at both ends of the range" (document 01, "Places and their forms")

record Summing : Type 0 where
  first : ℤ
  second : ℤ
  together : ℤ

abbrev adds : ℤ → ℤ → ℤ → Summing
adds n m together = record { first = n; second = m; together = together }

abbrev highest : ℤ
highest = pos 2147483647

abbrev lowest : ℤ
lowest = negsuc 2147483647

sums : List Summing
sums =
    -- past an end, by one and as far as can be
    adds highest (pos 1) lowest
    ∷ adds lowest (negsuc 0) highest
    ∷ adds highest highest (negsuc 1)
    ∷ adds lowest lowest (pos 0)
    -- up to an end, and back to the middle
    ∷ adds (pos 2147483646) (pos 1) highest
    ∷ adds (negsuc 2147483646) (negsuc 0) lowest
    ∷ adds lowest highest (negsuc 0)
    ∷ adds (negsuc 0) (pos 1) (pos 0)
    ∷ []

sums_tried : map (λ s. sum s.first s.second) sums ≡ map (λ s. s.together) sums
unfolding computing sums
sums_tried = refl

-- ---- sizes: 512 nodes and 1,023 instructions are taken, one more is not, nor one byte less

takes : ℕ → ℕ → Bool
takes most bytes = whole_records most (replicate bytes 0)

sizes_tried : map (takes table_limit) (0 ∷ 8 ∷ 4095 ∷ 4096 ∷ 4104 ∷ []) ++ map (takes code_limit) (0 ∷ 8 ∷ 8183 ∷ 8184 ∷ 8192 ∷ [])
    ≡ false ∷ true ∷ false ∷ true ∷ false ∷ false ∷ true ∷ false ∷ true ∷ false ∷ []
unfolding computing takes
sizes_tried = refl

-- ---- compiling: a table, the bytes of the code buffer; the length, the refusal and the place

record Compiling : Type 0 where
  table : List ℕ
  room : ℕ
  answer : List ℕ

abbrev table : List ℕ → ℕ → ℕ → ℕ → ℕ → Compiling
table bytes room length refusal place = record { table = bytes; room = room; answer = length ∷ refusal ∷ place ∷ [] }

abbrev val : List ℕ
val = eight 1 0 0 0 9 0 0 0

tables : List Compiling
tables =
    -- 1, whatever else
    table [] 0 0 1 0
    ∷ table (1 ∷ 0 ∷ 0 ∷ 0 ∷ 9 ∷ 0 ∷ 0 ∷ []) 8 0 1 0
    ∷ table (val ++ (0 ∷ [])) 8 0 1 0
    -- 2, before 3
    ∷ table (eight 0 0 0 0 0 0 0 0) 8 0 2 0
    ∷ table (eight 8 1 0 0 0 0 0 0) 8 0 2 0
    -- 3: byte 1 and bytes that a kind doesn't use, before 4
    ∷ table (eight 1 1 0 0 9 0 0 0) 8 0 3 0
    ∷ table (eight 1 0 0 1 9 0 0 0) 8 0 3 0
    ∷ table (eight 2 0 0 0 1 0 0 0) 8 0 3 0
    ∷ table (val ++ eight 3 0 0 0 1 0 1 0) 8 0 3 1
    ∷ table (val ++ eight 6 0 1 0 0 0 0 1) 8 0 3 1
    -- 4: its own number, on the right, by its high byte
    ∷ table (eight 6 0 0 0 0 0 0 0) 8 0 4 0
    ∷ table (val ++ eight 5 0 0 0 1 0 0 0) 8 0 4 1
    ∷ table (val ++ eight 7 0 0 1 0 0 0 0) 8 0 4 1
    -- each node upward: 4 at node 0 before 2 at node 1
    ∷ table (eight 6 0 0 0 0 0 0 0 ++ eight 9 0 0 0 0 0 0 0) 8 0 4 0
    -- 5: the lowest, before 6 and after a 4 at a higher node
    ∷ table (val ++ val) 0 0 5 0
    ∷ table (val ++ val ++ eight 6 0 0 0 0 0 0 0) 8 0 5 1
    ∷ table (val ++ val ++ val ++ eight 6 0 2 0 0 0 0 0) 8 0 5 0
    ∷ table (val ++ val ++ eight 6 0 2 0 0 0 0 0) 8 0 4 2
    -- 6, and just enough
    ∷ table val 7 0 6 0
    ∷ table val 8 1 0 0
    ∷ table (val ++ eight 6 0 0 0 0 0 0 0) 24 3 0 0
    ∷ []

compile_fields : Result ℕ Refusal → List ℕ
compile_fields a = compiled_length a ∷ compiled_refusal a ∷ compiled_place a ∷ []

tables_tried : map (λ c. compile_fields (compile_answer c.table (replicate c.room 170))) tables ≡ map (λ c. c.answer) tables
unfolding computing compile_fields tables
tables_tried = refl

-- PUSH 5, MARK 6, PUSH 7, THROW, ADD, UNMARK 7, PUSH 6, ADD, and two bytes that stay as they were
code_left : compile_leaves tree_a (replicate 66 170)
    ≡ eight 1 0 0 0 5 0 0 0
    ++ eight 5 0 0 0 6 0 0 0
    ++ eight 1 0 0 0 7 0 0 0
    ++ eight 2 0 0 0 0 0 0 0
    ++ eight 3 0 0 0 0 0 0 0
    ++ eight 6 0 0 0 7 0 0 0
    ++ eight 1 0 0 0 6 0 0 0
    ++ eight 3 0 0 0 0 0 0 0
    ++ (170 ∷ 170 ∷ [])
unfolding computing
code_left = refl

code_untouched : compile_leaves tree_a (replicate 63 170) ≡ replicate 63 170
unfolding computing
code_untouched = refl

-- ---- running: a status, a code, the bytes of the stack buffer; the refusal, the place and both totals

record Running : Type 0 where
  status : ℕ
  code : List ℕ
  room : ℕ
  answer : List ℕ

abbrev code : ℕ → List ℕ → ℕ → ℕ → ℕ → ℕ → ℕ → Running
code status bytes room refusal place steps reached =
    record { status = status; code = bytes; room = room; answer = refusal ∷ place ∷ steps ∷ reached ∷ [] }

abbrev push_one : List ℕ
push_one = eight 1 0 0 0 1 0 0 0

refused_codes : List Running
refused_codes =
    -- 7, 8, 9 in this order
    code 2 [] 4095 7 0 0 0
    ∷ code 1 [] 4095 8 0 0 0
    ∷ code 1 [] 4096 9 0 0 0
    ∷ code 1 (push_one ++ (0 ∷ [])) 4096 9 0 0 0
    -- 10, before 11
    ∷ code 1 (eight 0 0 0 0 0 0 0 0) 4096 10 0 0 0
    ∷ code 1 (push_one ++ eight 9 1 0 0 0 0 0 0) 4096 10 1 0 0
    -- 11: bytes 1 to 3, an operand where none is, SET 2; before 12
    ∷ code 1 (eight 1 0 0 1 1 0 0 0) 4096 11 0 0 0
    ∷ code 1 (eight 2 0 0 0 0 0 0 1) 4096 11 0 0 0
    ∷ code 1 (eight 7 0 0 0 2 0 0 0) 4096 11 0 0 0
    ∷ code 1 (eight 5 0 1 0 0 0 0 0) 4096 11 0 0 0
    -- 12: its own address, above the length
    ∷ code 1 (push_one ++ eight 5 0 0 0 1 0 0 0) 4096 12 1 0 0
    ∷ code 1 (eight 6 0 0 0 2 0 0 0) 4096 12 0 0 0
    -- each instruction upward: 12 at address 0 before 10 at address 1
    ∷ code 1 (eight 5 0 0 0 0 0 0 0 ++ eight 0 0 0 0 0 0 0 0) 4096 12 0 0 0
    ∷ []

codes : List Running
codes =
    -- a target at the length is none of these: MARK 1 runs, and at the length there is no number
    code 1 (eight 5 0 0 0 1 0 0 0) 4096 14 1 1 1
    ∷ code 0 push_one 4096 0 0 1 1
    ∷ refused_codes

run_fields : Answer → List ℕ
run_fields a = outcome_refusal a.outcome ∷ outcome_place a.outcome ∷ a.steps ∷ a.reached ∷ []

codes_tried : map (λ c. run_fields (run_answer c.status c.code [] (replicate c.room 170))) codes
    ≡ map (λ c. c.answer) codes
unfolding computing run_fields codes refused_codes
codes_tried = refl

stack_zeroed : run_leaves 1 push_one (replicate 4096 170 ++ (171 ∷ [])) ≡ replicate 4096 0 ++ (171 ∷ [])
unfolding computing
stack_zeroed = refl

-- "Refusals 7 to 12 write nothing."
stack_untouched : map (λ c. run_leaves c.status c.code (replicate c.room 170)) refused_codes
    ≡ map (λ c. replicate c.room 170) refused_codes
unfolding computing refused_codes
stack_untouched = refl
