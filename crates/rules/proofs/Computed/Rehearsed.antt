-- R1 to R12 come to their answers, by computation over the definitions that the contracts cite. Assumes nothing.
use mathlib.Core.Path.{refl}
use Rattle.rules.specs.Rehearsed.{rehearsed_recipes, AsRehearsed}
use Rattle.rules.proofs.Computed.Computing.{computing}

pub as_rehearsed : AsRehearsed
unfolding computing rehearsed_recipes AsRehearsed
as_rehearsed = refl
