-- Opens the definitions of the rules, all together: a claim that is proved by computing says `unfolding computing`, and unfolds
-- what this one unfolds. Assumes nothing.
use Rattle.rules.specs.Answers.{outcome_refusal, outcome_place, compiled_length, compiled_refusal, compiled_place}
use Rattle.rules.specs.Bytes.{half_at, word_at, word_bytes, all_zero, whole_records, row_numbered}
use Rattle.rules.specs.Code.{code_length, compile}
use Rattle.rules.specs.CodeBytes.{instruction_record, instruction_bytes, bytes_of, opcodes, opcode_at, instruction_at}
use Rattle.rules.specs.CodeBytes.{instructions_below, instructions, operand_fits, target_fits, instruction_test, code_tests}
use Rattle.rules.specs.Compiling.{code_of, compile_tests, compile_answer, compile_leaves}
use Rattle.rules.specs.Demand.{most_steps, most_reached}
use Rattle.rules.specs.Expression.{nodes}
use Rattle.rules.specs.Line.{decimal_within, decimal, integer, outcome_line, answer_line, rehearsal_line}
use Rattle.rules.specs.Machine.{with_number, with_handler, with_saved, with_nothing, push}
use Rattle.rules.specs.Machine.{execute, cuts, at_instruction, at_length, unwind, step_at, step_in, step}
use Rattle.rules.specs.Number.{residue, signed, sum}
use Rattle.rules.specs.Recipe.{of_node, expression_within, expression_at, recipe}
use Rattle.rules.specs.Refusals.{unless, first_refusal, lowest_refusal}
use Rattle.rules.specs.Rehearsal.{rehearse, too_short, rehearsal}
use Rattle.rules.specs.Run.{run, runs}
use Rattle.rules.specs.Running.{run_tests, run_answer, run_leaves}
use Rattle.rules.specs.Schedule.{asks}
use Rattle.rules.specs.Table.{kinds, kind_at, node_of, node_at, all_below, node_test, times, uses, use_test, table_tests}

unfoldable pub computing : Unit {0}
unfolding half_at word_at word_bytes all_zero whole_records code_length compile instruction_record instruction_bytes bytes_of
    opcodes row_numbered opcode_at instruction_at instructions_below instructions operand_fits target_fits instruction_test
    code_tests code_of compile_tests compile_answer compile_leaves with_number with_handler with_saved with_nothing push execute
    cuts at_instruction at_length unwind step_at step_in step residue signed sum of_node expression_within expression_at recipe
    unless first_refusal lowest_refusal rehearse run runs run_tests run_answer asks kinds kind_at node_of node_at all_below
    node_test times uses use_test table_tests run_leaves outcome_refusal outcome_place compiled_length compiled_refusal
    compiled_place most_steps most_reached nodes decimal_within decimal integer outcome_line answer_line too_short rehearsal
    rehearsal_line
computing = tt
