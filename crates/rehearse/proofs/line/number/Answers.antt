-- `line::number` meets its contract: what is pushed one after the other, the number in its digits. Assumes nothing.
use Rattle.std.proofs.Common.{append_assoc, refl, ap, ◌∙◌, ◌++◌, ◌≡◌}
use Rattle.rules.specs.Line.{integer}
use Rattle.rehearse.proofs.Decimal.{integer_text}
use Rattle.rehearse.proofs.line.number.Goals as goal

pub returns : goal.returns
returns c =
    let digits : c.push.new.line.bytes ≡ c.push_str.new.self.bytes ++ integer c.args.n =
    c.push.ensures.bytes ∙ ap (λ text. c.push_str.new.self.bytes ++ text) (integer_text _ c.ranges.n) in
    rw (c.push_totals.ensures, digits, c.push_str.ensures.bytes, c.new-line.ensures) (simp append_assoc refl)
