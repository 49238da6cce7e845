-- The line that the rehearsal program prints (document 01, "The rehearsal program"). A text is the list of its character codes.
--
--   ascii                       the codes of a text's characters
--   decimal                     "numbers in decimal"
--   integer                     "(a minus sign where negative)"
--   totals                      ` steps 1 reached 1`, "and a line feed at its end"
--   number_line                 `number 9 steps 1 reached 1`
--   throw_line                  `throw steps 1 reached 1`
--   refused_line                `refused 5 at 0`: a refusal's number, and its place
--   outcome_line, answer_line   the line for an answer
--   rehearsal_line              the line for an input
--
-- Assumes nothing.
use Prim.Native.Char.{code}
use Rattle.std.specs.Prelude.{ℕ, zero, suc, ◌+◌, ◌/◌, ◌%◌, ltb, ℤ, pos, negsuc, true, false, List, [], ◌∷◌, ◌++◌, Result, Ok, Err}
use Prim.Native.String.{String, [] as nothing, ◌∷◌ as ◌then◌}
use Rattle.rules.specs.Refusals.{refusal_number}
use Rattle.rules.specs.Rehearsal.{rehearsal}
use Rattle.rules.specs.declared.End.TheVariants.{Number, Throw}
use Rattle.rules.specs.declared.Answer.{Answer}
use Rattle.rules.specs.declared.Refusal.{Refusal}
use Rattle.rules.specs.declared.End.{End}

abbrev pub ascii : String → List ℕ
ascii nothing = []
ascii (c then text) = code c ∷ ascii text

-- ---- numbers

-- `0` has the code 48, `9` the code 57
abbrev pub digit : ℕ → ℕ
digit d = 48 + d

-- no zero stands in front, and 0 itself is `0`; so many digits at most
unfoldable pub decimal_within : ℕ → ℕ → List ℕ
decimal_within zero n = []
decimal_within (suc most) n = elim (ltb n 10) [
  | true ↦ digit n ∷ []
  | false ↦ decimal_within most (n / 10) ++ (digit (n % 10) ∷ [])
]

-- n has no more than n + 1 digits
unfoldable pub decimal : ℕ → List ℕ
decimal n = decimal_within (suc n) n

-- `negsuc n` is -(n + 1)
unfoldable pub integer : ℤ → List ℕ
integer (pos n) = decimal n
integer (negsuc n) = ascii "-" ++ decimal (suc n)

-- ---- "prints one line"

abbrev pub totals : ℕ → ℕ → List ℕ
totals steps reached = ascii " steps " ++ decimal steps ++ ascii " reached " ++ decimal reached ++ ascii "\n"

abbrev pub number_line : ℤ → ℕ → ℕ → List ℕ
number_line n steps reached = ascii "number " ++ integer n ++ totals steps reached

abbrev pub throw_line : ℕ → ℕ → List ℕ
throw_line steps reached = ascii "throw" ++ totals steps reached

abbrev pub refused_line : ℕ → ℕ → List ℕ
refused_line refusal place = ascii "refused " ++ decimal refusal ++ ascii " at " ++ decimal place ++ ascii "\n"

unfoldable pub outcome_line : Result End Refusal → ℕ → ℕ → List ℕ
outcome_line (Ok (Number n)) steps reached = number_line n steps reached
outcome_line (Ok Throw) steps reached = throw_line steps reached
outcome_line (Err r) steps reached = refused_line (refusal_number r.reason) r.place

unfoldable pub answer_line : Answer → List ℕ
answer_line a = outcome_line a.outcome a.steps a.reached

-- ---- the line for an input

-- for the bytes that were read, "at most 8,192"
unfoldable pub rehearsal_line : List ℕ → List ℕ
rehearsal_line input = answer_line (rehearsal input)
