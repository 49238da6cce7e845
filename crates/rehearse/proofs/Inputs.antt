-- The line of an input, by its length.
--
--   line_under_three   under 3 bytes
--   line_too_short     shorter than it announces
--   line_of_parts      neither: the rehearsal of the parts into which it is cut
--
-- Assumes nothing.
use Prim.Native.Nat.{ℕ, ◌+◌, ◌-◌, ◌≤◌, ◌<◌}
use native.Mathlib.Omega.{arith}
use borrow.Author.Tests.{lt-ltb, le-ltb}
use lib.ListN.{length, take, drop, length-drop}
use lib.Seq.{drop-drop}
use mathlib.Core.Bool.{true, false}
use mathlib.Core.List.{List}
use mathlib.Core.Path.{◌≡◌}
use Rattle.std.proofs.lemmas.List.{take_rest}
use Rattle.std.specs.List.{IsSplitAt}
use Rattle.rules.specs.Bytes.{byte_at}
use Rattle.rules.specs.Line.{refused_line, outcome_line, answer_line, rehearsal_line}
use Rattle.rules.specs.Rehearsal.{rehearse, table_length, too_short, rehearsal}

module _ (input : List ℕ) where
  line_short : too_short input ≡ true → refused_line 1 0 ≡ rehearsal_line input
  unfolding rehearsal_line rehearsal answer_line outcome_line
  line_short short = rw (short, rehearsal)

  pub line_under_three : length input < 3 → refused_line 1 0 ≡ rehearsal_line input
  unfolding too_short
  line_under_three under = line_short (rw (lt-ltb (length input) 3 under))

  -- what the pattern of a status and a length leaves
  abbrev rest : List ℕ
  rest = take (length input - 3) (drop 3 input)

  pub line_too_short : (size : ℕ) → size ≡ table_length input → 3 ≤ length input → length rest < size
      → refused_line 1 0 ≡ rehearsal_line input
  unfolding too_short
  line_too_short size announced head below =
      let short : length input < 3 + table_length input = omega (arith, length-drop 3 input, rw (take_rest input 3) at below) in
      line_short (rw (le-ltb (length input) 3 head, lt-ltb (length input) (3 + table_length input) short))

  long_enough : 3 + table_length input ≤ length input → too_short input ≡ false
  unfolding too_short
  long_enough whole = rw (le-ltb (length input) 3 (omega arith), le-ltb (length input) (3 + table_length input) whole)

  pub line_of_parts : (size : ℕ) (table schedule : List ℕ) → size ≡ table_length input → 3 ≤ length input
      → IsSplitAt rest size table schedule
      → answer_line (rehearse (byte_at input 0) table schedule) ≡ rehearsal_line input
  unfolding rehearsal_line rehearsal
  line_of_parts size table schedule announced head split =
      let parts = rw (take_rest input 3) at split in
      let whole : 3 + table_length input ≤ length input = omega (arith, length-drop 3 input, parts.0) in
      rw (parts.1, parts.2, drop-drop, announced) (rw (long_enough whole, rehearsal))
