-- What is told where no line is written, or not all of it.
--
--   sentence   on standard error, in a line of its own
--
-- Assumes nothing.
use Rattle.std.specs.Prelude.{ℕ, List}
use Rattle.rules.specs.Line.{ascii}
use Rattle.rehearse.specs.declared.failure.Failure.{Failure}
use Rattle.rehearse.specs.declared.failure.Failure.TheVariants.{Unread, Unwritten}

abbrev pub sentence : Failure → List ℕ
sentence Unread = ascii "rehearse: standard input cannot be read"
sentence Unwritten = ascii "rehearse: standard output cannot be written"
