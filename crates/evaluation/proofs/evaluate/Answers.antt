-- `evaluation::evaluate` meets its contract: an accepted table ends as its last node does, a refused one as it is refused. Assumes
-- nothing.
use Rattle.std.proofs.Common.{Ok, ap, sym, ◌∙◌}
use Rattle.std.proofs.lemmas.Result.{err_from_is_err_and}
use Rattle.table.proofs.Acceptance.{last_node}
use Rattle.evaluation.proofs.Evaluating.{accepted_ends, refused_answers}
use Rattle.evaluation.proofs.evaluate.Goals as goal

pub returns-in_err-nodes : goal.returns-in_err-nodes
returns-in_err-nodes c =
    let err = err_from_is_err_and c.from_residual.result c.from_residual.ensures.1 in
    rw (err.1, err.2) (refused_answers _ (sym c.check.ensures ∙ c.in_err-nodes.was))

pub overflow_sub-nodes : goal.overflow_sub-nodes
overflow_sub-nodes c = (last_node _ (sym c.check.ensures ∙ c.in_ok-nodes.was)).0

pub end_of-requires : goal.end_of-requires
end_of-requires c = (last_node _ (sym c.check.ensures ∙ c.in_ok-nodes.was)).1

pub returns : goal.returns
returns c = ap Ok c.end_of.ensures ∙ accepted_ends _ (sym c.check.ensures ∙ c.in_ok-nodes.was)
