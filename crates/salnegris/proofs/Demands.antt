-- The three demands of the order, over bytes: what `salnegris_compile` and `salnegris_run` together mean. Each statement stands
-- under the sentence that it keeps; the proofs, at the foot of the page, cite the laws below it.
--
--   compile_answers, run_answers   demand 1: the promises of both functions are kept
--   compile_asks, run_asks         they ask nothing
--   compile_says, run_says         and say what is the answer and what is left in the buffer
--   Demand1, demand_1              demand 1: refusals and buffers
--   Demand2, demand_2              demand 2: acceptance, the code made, the run and each of its states
--   Demand3, demand_3              demand 3: the ends of compiled code under every schedule are those that the rules permit
--   Exact, exact                   its bounds are met, at two nodes and at one: neither can be less by one
--   room_enough                    a code buffer of 8,184 bytes is never too small
--   Relied, relied                 what document 01 says besides of compiled code, and a worker counts on
--
-- A buffer is the list of its bytes; a table, a code and a schedule are too. The definitions cited are those of `rules`, each
-- written from document 01: the tests in their order (`compile_tests`, `run_tests`, `first_refusal`), the recipe that a table holds
-- (`recipe`), its code (`compile`) and the code's bytes (`bytes_of`), the run of a code under a placing (`runs`), which
-- instructions schedule bytes ask a recall for (`asks`), and 001's rules of evaluation, sums wrapped (`Gives e i v`: "e in i
-- gives v"); and the sizes by name (`record_bytes` 8, `code_limit` 8,184, `stack_bytes` 4,096).
--
-- Assumes nothing.
use Prim.Native.Nat.{ℕ, ◌*◌, ◌-◌, ◌≤◌, ◌<◌}
use contract.Lifetimes.{Lfts}
use denote.MutBor.{MutBor}
use denote.Ref.{Bor}
use lib.IntN.{ℤ, pos}
use lib.ListN.{length, take, drop, replicate}
use mathlib.Core.List.{List, [], ◌++◌}
use mathlib.Core.Logic.{◌↔◌}
use mathlib.Core.Option.{none, some}
use mathlib.Core.Path.{◌≡◌, refl}
use Rattle.rules.specs.Answers.{status_number, status_numbered}
use Rattle.rules.specs.Bytes.{byte_at, records}
use Rattle.rules.specs.Code.{compile}
use Rattle.rules.specs.CodeBytes.{bytes_of, instructions}
use Rattle.rules.specs.Compiling.{compile_tests, compile_answer, compile_leaves}
use Rattle.rules.specs.Demand.{AsksNothingFrom}
use Rattle.rules.specs.Evaluating.{evaluate_answer}
use Rattle.rules.specs.Evaluation.{Gives, INT}
use Rattle.rules.specs.Limits.{record_bytes, code_limit, stack_bytes}
use Rattle.rules.specs.Recipe.{recipe}
use Rattle.rules.specs.Refusals.{refusal_number, first_refusal}
use Rattle.rules.specs.Rehearsed.{just_nine}
use Rattle.rules.specs.Run.{runs}
use Rattle.rules.specs.Running.{run_tests, run_answer, run_leaves}
use Rattle.rules.specs.Schedule.{asks}
use Rattle.rules.specs.Table.{table_tests}
use Rattle.rules.specs.declared.End.{End}
use Rattle.rules.specs.declared.End.TheVariants.{Number, Throw}
use Rattle.rules.specs.declared.Refusal.{Refusal}
use Rattle.rules.specs.declared.Status.{Status}
use Rattle.rules.specs.declared.Status.TheVariants.{Blocked, Unblocked}
use Rattle.rules.proofs.Computed.ExactBounds.{opened_one, recall_at_reset, code_buffer, stack_buffer}
use Rattle.salnegris.specs.Fields.{compiled_fields, answer_fields}
use Rattle.salnegris.specs.declared.AnswerFields.{AnswerFields}
use Rattle.salnegris.specs.declared.CompiledFields.{CompiledFields}
use Rattle.machine.proofs.EachStep.{EachStep}
use Rattle.salnegris.proofs.salnegris_compile.Statement as compile-statement
use Rattle.salnegris.proofs.salnegris_compile.Reads as compile-promise
use Rattle.salnegris.proofs.salnegris_run.Statement as run-statement
use Rattle.salnegris.proofs.salnegris_run.Reads as run-promise
-- what only the proofs cite
use native.Mathlib.Decide.{dec_lt}
use native.Mathlib.Omega.{arith}
use mathlib.Core.Path.{sym, ap, ◌∙◌, fun_ext}
use Rattle.rules.specs.Answers.{outcome_kind, outcome_number, outcome_refusal, outcome_place}
use Rattle.rules.specs.Answers.{compiled_length, compiled_refusal, compiled_place}
use Rattle.rules.specs.Compiling.{code_of}
use Rattle.rules.specs.Demand as theory
use Rattle.rules.specs.Demand.{of_expression, most_reached, Ends}
use Rattle.rules.specs.declared.Answer.{Answer}
use Rattle.rules.proofs.Bytes.Answered.{compile_passed, compile_refused, evaluate_passed, run_passed, run_refused}
use Rattle.rules.proofs.Computed.ExactBounds.{opened_one_accepted, just_nine_accepted, opened_one_cut, just_nine_cut}
use Rattle.rules.proofs.Computed.ExactBounds.{just_nine_uncut, at_push, at_push_only}
use Rattle.rules.proofs.Bytes.ScheduleBytes.{schedule_of, schedule_of_bytes, asks_schedule_of, asks_nothing}
use Rattle.table.proofs.Acceptance.{recipe_short}
use Rattle.machine.proofs.EachStep.{each_step}
use Rattle.salnegris.proofs.Accepted.{Passes, passes, table_passes, table_accepted, few_nodes, enough}
use Rattle.salnegris.proofs.Accepted.{code_length_lem, code_answered, code_left, later_left}
use Rattle.salnegris.proofs.CompiledRun.{recipe_demand, compiled_run, code_never_refused}
use Rattle.salnegris.proofs.Inside.{compile_inside, run_inside}
use Rattle.salnegris.proofs.salnegris_compile.Met as compile-proof
use Rattle.std.specs.Prelude.{Ok}
use Rattle.salnegris.proofs.salnegris_run.Met as run-proof

-- ---- the words of this page

-- what `salnegris_compile(table, buffer)` answers
abbrev pub compiled : List ℕ → List ℕ → CompiledFields
compiled table buffer = compiled_fields (compile_answer table buffer)

-- the code that then stands at the front of the buffer, eight bytes an instruction
abbrev pub code_in : List ℕ → List ℕ → List ℕ
code_in table buffer = take (record_bytes * (compiled table buffer).length) (compile_leaves table buffer)

-- what `salnegris_run(status, code, schedule, stack)` answers
abbrev pub ran : ℕ → List ℕ → List ℕ → List ℕ → AnswerFields
ran status code schedule stack = answer_fields (run_answer status code schedule stack)

-- the answer is this number, or a throw
unfoldable pub EndsIn : End → AnswerFields → Type 0
EndsIn (Number n) answer = (answer.kind ≡ 0) × (answer.number ≡ n)
EndsIn Throw answer = answer.kind ≡ 1

abbrev pub Bytes : List ℕ → Type 0
Bytes schedule = (k : ℕ) → byte_at schedule k < 256

-- "within 3n - 1 steps", "over the first 2n - 1 instructions reached", of n nodes
abbrev pub most_steps : ℕ → ℕ
most_steps n = 3 * n - 1

abbrev pub most_placed : ℕ → ℕ
most_placed n = 2 * n - 1

-- ---- demand 1

-- "Compiler and runner answer for every input, end every time, and stay inside their buffers. .. No caller has to check first."
-- What the kit calls a function's statement is that from any arguments that it asks for it ends, touches nothing but what it is
-- lent, and leaves what it says.
pub compile_answers : {M : Type 1} → compile-statement.statement M
compile_answers = compile-proof.met

pub run_answers : {M : Type 1} → run-statement.statement M
run_answers = run-proof.met

-- What they ask and what they say (`src/lib.rt`), word by word, so that a word less breaks this page: they ask nothing, and say
-- by equation what is the answer and what is left in the buffer, so that no second answer meets them.
module _ (lifetimes : Lfts 2) (table : Bor (List ℕ)) (buffer : MutBor (List ℕ)) where
  pub compile_asks : compile-promise.Asked lifetimes (table, (buffer, tt)) ≡ Unit {0}
  compile_asks = refl

  pub compile_says : (answer : CompiledFields) (left : MutBor (List ℕ))
      → compile-promise.Learnt lifetimes (table, (buffer, tt)) answer (table, (left, tt))
      ≡ ((answer ≡ compiled table.now buffer.now) × (left.now ≡ compile_leaves table.now buffer.now))
  compile_says answer left = refl

module _ (lifetimes : Lfts 3) (status : ℕ) (code schedule : Bor (List ℕ)) (stack : MutBor (List ℕ)) where
  pub run_asks : run-promise.Asked lifetimes (status, (code, (schedule, (stack, tt)))) ≡ Unit {0}
  run_asks = refl

  pub run_says : (answer : AnswerFields) (left : MutBor (List ℕ))
      → run-promise.Learnt lifetimes (status, (code, (schedule, (stack, tt)))) answer (status, (code, (schedule, (left, tt))))
      ≡ ((answer ≡ ran status code.now schedule.now stack.now) × (left.now ≡ run_leaves status code.now stack.now))
  run_says answer left = refl

pub record Demand1 : Type 0 where
  -- "Bad input gets exactly the refusal of document 01, and what is then in the buffers is fixed too": the refusal is that of the
  -- first test that refuses, no other field is set, and nothing is written.
  pub compile_refuses : (table buffer : List ℕ) {r : Refusal} → first_refusal (compile_tests table buffer) ≡ some r
      → (compiled table buffer ≡ record { length = 0; refusal = refusal_number r.reason; place = r.place })
      × (compile_leaves table buffer ≡ buffer)
  pub run_refuses : (status : ℕ) (code schedule stack : List ℕ) {r : Refusal} → first_refusal (run_tests status code stack) ≡ some r
      → (ran status code schedule stack
      ≡ record { kind = 2; number = pos 0; refusal = refusal_number r.reason; place = r.place; steps = 0; reached = 0 })
      × (run_leaves status code stack ≡ stack)
  -- Document 01: "Otherwise the first 4,096 bytes of the stack buffer are zero afterwards and the rest is untouched."
  pub run_clears : (status : ℕ) (code stack : List ℕ) → first_refusal (run_tests status code stack) ≡ none
      → run_leaves status code stack ≡ replicate stack_bytes 0 ++ drop stack_bytes stack
  -- "and stay inside their buffers": a buffer is as long as before.
  pub compile_inside : (table buffer : List ℕ) → length (compile_leaves table buffer) ≡ length buffer
  pub run_inside : (status : ℕ) (code stack : List ℕ) → length (run_leaves status code stack) ≡ length stack

-- ---- demand 2

-- "Acceptance, the code made, and every step, count and end of a run are those of document 01's rules."
pub record Demand2 : Type 0 where
  -- A table is accepted exactly when no test refuses it.
  pub acceptance : (table buffer : List ℕ)
      → ((compiled table buffer).refusal ≡ 0) ↔ (first_refusal (compile_tests table buffer) ≡ none)
  -- The code made is that of the recipe that the table holds, the answer is its length, and later bytes stay as they were.
  pub code : (table buffer : List ℕ) → (compiled table buffer).refusal ≡ 0
      → (compiled table buffer ≡ record { length = length (compile 0 (recipe table)); refusal = 0; place = 0 })
      × (code_in table buffer ≡ bytes_of (compile 0 (recipe table)))
      × (drop (record_bytes * (compiled table buffer).length) (compile_leaves table buffer)
      ≡ drop (record_bytes * (compiled table buffer).length) buffer)
  -- "each state and both counts are those of the rules": a step of the machine leads from the rules' state after so many steps to
  -- the next, and the loop, told to take at most k steps, stops in the one after k (`machine`, `EachStep`).
  pub states : EachStep
  -- The end and both counts of a run are those of the rules' steps, one by one, from a fresh state.
  pub run : (status : ℕ) (code schedule stack : List ℕ) → first_refusal (run_tests status code stack) ≡ none
      → ran status code schedule stack ≡ answer_fields (runs (instructions code) (asks schedule) (status_numbered status))

-- ---- demand 3

-- Of a table that compiling accepted into some buffer, a starting status, and a stack buffer of at least 4,096 bytes.
module _ (table buffer : List ℕ) (i : Status) (stack : List ℕ) where
  -- "any accepted table of n nodes"
  abbrev n : ℕ
  n = records table

  -- its compiled code, run
  abbrev under : List ℕ → AnswerFields
  under schedule = ran (status_number i) (code_in table buffer) schedule stack

  pub record Demand3 : Type 0 where
    -- "a number, or a throw, is the end of its compiled code under some placing of recalls exactly when the evaluation rules,
    -- sums wrapped, permit that end"
    pub exactly : (v : End) → ((schedule : List ℕ) × Bytes schedule × EndsIn v (under schedule)) ↔ Gives (recipe table) i v
    -- "Every placing, however long, ends in a number or a throw within 3n - 1 steps"
    pub ends : (schedule : List ℕ) → (v : End) × EndsIn v (under schedule) × ((under schedule).steps ≤ most_steps n)
    -- "each permitted end is met by a placing over the first 2n - 1 instructions reached"
    pub meets : (v : End) → Gives (recipe table) i v
        → (schedule : List ℕ) × Bytes schedule × AsksNothingFrom (most_placed n) (asks schedule) × EndsIn v (under schedule)

-- The bounds are met, the one at two nodes and the other at one, so neither can be less by one.
pub record Exact : Type 0 where
  pub accepted : ((compiled opened_one code_buffer).refusal ≡ 0) × ((compiled just_nine code_buffer).refusal ≡ 0)
  -- Unblock (Val 1) from blocked, with a recall at its RESET, takes just so many steps.
  pub steps : (under opened_one code_buffer Blocked stack_buffer recall_at_reset).steps ≡ most_steps (records opened_one)
  -- Val 9 in unblocked may throw, and a placing over the first b instructions meets that exactly if b is no less.
  pub permitted : Gives (recipe just_nine) Unblocked Throw
  pub placed : (b : ℕ)
      → ((schedule : List ℕ) × AsksNothingFrom b (asks schedule)
      × EndsIn Throw (under just_nine code_buffer Unblocked stack_buffer schedule))
      ↔ (most_placed (records just_nine) ≤ b)

-- ---- what document 01 says besides

-- Refusal 6 is only for a buffer of less than 8,184 bytes.
pub room_enough : (table buffer : List ℕ) → first_refusal (table_tests table) ≡ none → code_limit ≤ length buffer
    → (compiled table buffer).refusal ≡ 0
unfolding compiled_refusal
room_enough table buffer tests room = rw (compile_passed table buffer (enough table buffer tests room)).0

-- Of a table that compiling accepted into some buffer.
pub record Relied (table buffer : List ℕ) : Type 0 where
  -- "The code length is .. at most 2n - 1"
  pub short : (compiled table buffer).length ≤ most_placed (records table)
  -- "Compiled code never meets 9 to 15", whatever the status, the schedule and the stack buffer.
  pub code_never_refused : (status : ℕ) (schedule stack : List ℕ) → (ran status (code_in table buffer) schedule stack).refusal ≤ 8
  -- Evaluating the table gives what its run ends in when no recall comes, in both statuses.
  pub quietly : (i : Status) (stack : List ℕ) → stack_bytes ≤ length stack
      → (run_answer (status_number i) (code_in table buffer) [] stack).outcome ≡ evaluate_answer table

-- ---- proofs

pub demand_1 : Demand1
unfolding compiled_length compiled_refusal compiled_place outcome_kind outcome_number outcome_refusal outcome_place
demand_1 = record {
  compile_refuses = λ table buffer e. let (answer, leaves) = compile_refused table buffer e in (rw answer, leaves);
  run_refuses = λ status code schedule stack e.
      let (answer, leaves) = run_refused status code schedule stack e in (rw answer, leaves);
  run_clears = λ status code stack e. (run_passed status code [] stack e).1;
  compile_inside = compile_inside;
  run_inside = run_inside;
}

pub demand_2 : Demand2
unfolding code_of compiled_refusal
demand_2 = record {
  acceptance = λ table buffer.
      ((λ accepted. (passes table buffer accepted).tests), λ e. rw (compile_passed table buffer e).0);
  code = λ table buffer accepted.
      let all = passes table buffer accepted in (code_answered all, code_left all, later_left all);
  states = each_step;
  run = λ status code schedule stack e. ap answer_fields (run_passed status code schedule stack e).0;
}

-- the end of a run, and its fields

ended : (v : End) (a : Answer) → a.outcome ≡ Ok v → EndsIn v (answer_fields a)
unfolding EndsIn outcome_kind outcome_number
ended (Number k) a e = rw e (refl, refl)
ended Throw a e = rw e

-- by its fields an answer has one end
number_once : (w : End) (a : Answer) {k : ℤ} → a.outcome ≡ Ok w → (answer_fields a).kind ≡ 0 → (answer_fields a).number ≡ k
    → w ≡ Number k
unfolding outcome_kind outcome_number
number_once (Number m) a e kind number = ap Number (rw e at number)
number_once Throw a e kind number = absurd (omega (arith, rw e at kind))

throw_once : (w : End) (a : Answer) → a.outcome ≡ Ok w → (answer_fields a).kind ≡ 1 → w ≡ Throw
unfolding outcome_kind
throw_once (Number m) a e kind = absurd (omega (arith, rw e at kind))
throw_once Throw a e kind = refl

module _ (table buffer : List ℕ) (accepted : (compiled table buffer).refusal ≡ 0)
    (i : Status) (stack : List ℕ) (room : stack_bytes ≤ length stack) where
  all : Passes table buffer
  all = passes table buffer accepted

  abbrev run_under : List ℕ → Answer
  run_under schedule = run_answer (status_number i) (code_in table buffer) schedule stack

  -- the run of the bytes is the run that the theory speaks of
  answered : (schedule : List ℕ) → run_under schedule ≡ of_expression (recipe table) (asks schedule) i
  answered schedule = rw (code_left all) (compiled_run all i stack room schedule)

  ends : (schedule : List ℕ) → Ends (recipe table) i (run_under schedule)
  ends schedule = rw (answered schedule) ((recipe_demand all i).ends (asks schedule))

  pub demand_3 : Demand3 table buffer i stack
  unfolding theory.most_steps most_reached EndsIn
  demand_3 =
      let once : (v : End) (schedule : List ℕ) → EndsIn v (under table buffer i stack schedule) → (ends schedule).end ≡ v =
      λ v schedule. elim v as (λ v'. EndsIn v' (under table buffer i stack schedule) → (ends schedule).end ≡ v') [
        | Number k ↦ λ so. number_once _ (run_under schedule) (ends schedule).ended so.0 so.1
        | Throw ↦ λ so. throw_once _ (run_under schedule) (ends schedule).ended so
      ] in
      let meets : (v : End) → Gives (recipe table) i v
      → (schedule : List ℕ) × Bytes schedule × AsksNothingFrom (most_placed (records table)) (asks schedule)
      × EndsIn v (under table buffer i stack schedule) =
      λ v d.
      let (placing, silent, outcome) = (recipe_demand all i).meets v d in
      let last : ℕ = most_reached (recipe table) in
      let schedule : List ℕ = schedule_of placing last in
      let same : asks schedule ≡ placing = fun_ext (asks_schedule_of placing last silent) in (
        schedule,
        schedule_of_bytes placing last,
        rw (same, ← (few_nodes all).0) silent,
        ended v _ (rw (answered schedule, same) outcome),
      ) in
      record {
        exactly = λ v. (
          (λ met. let (schedule, bytes, ends_so) = met in rw (once v schedule ends_so) at (ends schedule).permitted),
          (λ d. let (schedule, bytes, silent, ends_so) = meets v d in (schedule, bytes, ends_so)),
        );
        ends = λ schedule.
            let run = ends schedule in
            (run.end, ended run.end _ run.ended, omega (arith, run.within_steps, (few_nodes all).0));
        meets = meets;
      }

-- the bounds, met

uncut : (b : ℕ) (schedule : List ℕ) → AsksNothingFrom b (asks schedule)
    → EndsIn Throw (under just_nine code_buffer Unblocked stack_buffer schedule) → 0 < b
unfolding EndsIn outcome_kind
uncut b schedule silent ends_so = elim (dec_lt 0 b) [
  | yes one ↦ one
  | no none-placed ↦
      let number = just_nine_uncut schedule (λ k h. silent k (omega (arith, none-placed))) in
      absurd (omega (arith, rw number at ends_so))
]

pub exact : Exact
exact = record {
  accepted = (opened_one_accepted, just_nine_accepted);
  steps = ap (λ a. a.steps) opened_one_cut;
  permitted = INT;
  placed = λ b. (
    (λ met. let (schedule, silent, ends_so) = met in let one : 0 < b = uncut b schedule silent ends_so in omega arith),
    (λ enough.
        let schedule : List ℕ = schedule_of at_push 1 in
        let same : asks schedule ≡ at_push = fun_ext (asks_schedule_of at_push 1 at_push_only) in (
          schedule,
          rw same (λ k past. at_push_only k (omega (arith, enough, past))),
          ended Throw _ (rw (just_nine_cut schedule same)),
        )),
  );
}

module _ (table buffer : List ℕ) (accepted : (compiled table buffer).refusal ≡ 0) where
  tests_passed : Passes table buffer
  tests_passed = passes table buffer accepted

  pub relied : Relied table buffer
  relied = record {
    short = omega (arith, code_length_lem tests_passed, recipe_short (table_accepted tests_passed));
    code_never_refused = λ status schedule stack.
        rw (code_left tests_passed) (code_never_refused tests_passed status schedule stack);
    quietly = λ i stack room.
        rw (answered table buffer accepted i stack room [], asks_nothing)
        ((recipe_demand tests_passed i).quietly ∙ sym (evaluate_passed table (table_passes tests_passed)));
  }
