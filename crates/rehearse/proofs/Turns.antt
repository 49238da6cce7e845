-- What a call of `read` that came to more bytes (`specs/Reading.antt`) leaves.
--
--   more_consumed   what was read before it and what it gave are both consumed, one after the other
--
-- Assumes nothing.
use Rattle.std.proofs.Common.{arith, ℕ, ◌+◌, ◌≤◌, min, zero, suc, List, ◌++◌, length, take, length-take-le}
use Rattle.std.proofs.Common.{Option, Some, Result, Ok, Err, ◌≡◌, ap, sym, subst, ◌∙◌}
use Rattle.std.proofs.lemmas.List.{take-append-le}
use lib.Seq.{take-append-add}
use Prim.Native.Nat.compare
use borrow.Rule.Slice.PartMut.{put_mid}
use Rattle.std.proofs.KnownBytes.{Consumes-trans}
use Rattle.std.specs.Io.{ReadsAtMost}
use Rattle.std.specs.Io.KnownBytes.{Consumes, ReadConsumes}
use Rattle.rehearse.specs.Reading.{turn_of}

-- all that the call gave is within the bytes that it was lent
more_given : {E : Type 0} (got : Result ℕ E) (given : List ℕ) (lent more : ℕ) → ReadsAtMost got given → length given ≤ lent
    → turn_of got lent ≡ Ok (Some more) → got ≡ Ok more
more_given (Err e) given lent more bound room came = cc came
more_given (Ok zero) given lent more bound room came = cc came
more_given {E} (Ok (suc k)) given lent more bound room came =
    let some : ◌≡◌ {A = Result (Option ℕ) E} (Ok (Some (min (suc k) lent))) (Ok (Some more)) = rw (compare.suc-zero k) at came in
    let same : min (suc k) lent ≡ more = cc some in
    let all : suc k ≡ more = omega (arith, bound.0) in ap Ok all

joined : (at size more : ℕ) (bytes given : List ℕ) → at ≤ length bytes → more ≤ length given
    → take (at + more) (put_mid at size bytes given) ≡ take at bytes ++ take more given
joined at size more bytes given inside fits =
    ap (λ n. take (n + more) (put_mid at size bytes given)) (sym (length-take-le at bytes inside))
    ∙ take-append-add (take at bytes) _ more
    ∙ ap (λ rest. take at bytes ++ rest) (take-append-le more given _ fits)

pub more_consumed : {E : Type 0} (old mid new : Option (List ℕ)) (got : Result ℕ E) (at size lent more : ℕ) (bytes given : List ℕ)
    → at ≤ length bytes → length given ≤ lent → ReadsAtMost got given → ReadConsumes mid new got given
    → turn_of got lent ≡ Ok (Some more) → Consumes old mid (take at bytes)
    → Consumes old new (take (at + more) (put_mid at size bytes given))
more_consumed old mid new got at size lent more bytes given inside room bound read came before =
    let is = more_given got given lent more bound room came in
    let fits = rw is at bound in
    let now = rw is at read in
    subst (Consumes old new) (sym (joined at size more bytes given inside fits.0)) (Consumes-trans old mid new _ _ before now.0)
