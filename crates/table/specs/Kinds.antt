-- The kinds as the source names them, by the numbers of document 01's table of kinds (`Table.kinds`).
--
--   kind_number   1 to 7
--   Decodes       a byte is decoded to the kind of its number, or it has no row in the table
--
-- Assumes nothing.
use Rattle.std.specs.Prelude.{ℕ, Result, MatchResult, ◌≡◌}
use Rattle.std.proofs.Math.Option.{none}
use Rattle.rules.specs.Bytes.{row_numbered}
use Rattle.rules.specs.Table.{kinds}
use Rattle.table.specs.declared.kind.Kind.{Kind}
use Rattle.table.specs.declared.kind.Kind.TheVariants.{Val, Throw, Add, Seqn, Catch, Block, Unblock}
use Rattle.table.specs.declared.kind.UnknownKind.{UnknownKind}

abbrev pub kind_number : Kind → ℕ
kind_number Val = 1
kind_number Throw = 2
kind_number Add = 3
kind_number Seqn = 4
kind_number Catch = 5
kind_number Block = 6
kind_number Unblock = 7

abbrev pub Decodes : ℕ → Result Kind UnknownKind → Type 0
Decodes byte answer = MatchResult answer (λ kind. kind_number kind ≡ byte) (λ unknown. row_numbered kinds byte ≡ none)
