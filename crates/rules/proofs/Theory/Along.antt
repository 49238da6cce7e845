-- What a path says of a run. A machine is deterministic under a placing, so a path to where nothing is left to do is the run.
--
--   Finishes                          a state in which the run is over
--   number_finishes, throw_finishes   at the length with one number; unwinding with nothing left
--   finished                          the answer of a run whose path finishes within the steps allowed
--   agree                             two paths that finish end alike
--   met_fits                          every state met in a run whose path finishes has room
--
-- Assumes nothing.
use Prim.Native.Nat.{ℕ, zero, suc, ◌+◌, ◌-◌, ◌≤◌}
use native.Mathlib.Omega.{arith}
use lib.IntN.{ℤ}
use lib.ListN.{length}
use mathlib.Core.List.{List, [], ◌∷◌}
use mathlib.Core.Path.{◌≡◌, refl, ap, ◌∙◌}
use Rattle.rules.specs.Limits.{step_limit}
use Rattle.rules.specs.Machine.{State, fresh, Placing, Next, Over, with_number}
use Rattle.rules.specs.Machine.{with_nothing, at_length, unwind, step_at, step_in, step}
use Rattle.rules.specs.Run.{answer, run, runs}
use Rattle.rules.specs.declared.Status.{Status}
use Rattle.rules.specs.declared.Instruction.{Instruction}
use Rattle.rules.specs.declared.Item.TheVariants.{Number}
use Rattle.rules.specs.declared.End.{End}
use Rattle.rules.proofs.Lists.{missing_past}
use Rattle.rules.proofs.Step.Order.{running, unwinding, run_next, run_over}
use Rattle.rules.proofs.Step.States.{Meets, here, later}
use Rattle.std.specs.Prelude.{Result, Ok}
use Rattle.rules.proofs.Theory.Path.{Goes, Path, done, ◌▸◌}
use Rattle.rules.specs.declared.Refusal.{Refusal}

-- ---- where a path is over

pub record Finishes (code : List Instruction) (placing : Placing) (s : State) (o : Result End Refusal) : Type 0 where
  pub over : step code placing s ≡ Over o

module _ {code : List Instruction} {placing : Placing} {i : Status} {t r : ℕ} where
  pub number_finishes : {a : ℕ} {n : ℤ} → length code ≤ a
      → Finishes code placing (running a i (Number n ∷ []) t r) (Ok (End.Number n))
  unfolding step step_in step_at at_length with_number with_nothing
  number_finishes {a = a} h = record { over = rw (missing_past code a h, step_at) }

  pub throw_finishes : Finishes code placing (unwinding i [] t r) (Ok End.Throw)
  unfolding step step_in unwind
  throw_finishes = record { over = refl }

module _ {code : List Instruction} {placing : Placing} {room : ℕ} where
  -- ---- the run

  path_steps : {s u : State} → Path code placing room s u → s.steps ≤ u.steps
  path_steps done = omega arith
  path_steps (g ▸ path) = omega (arith, g.counted, path_steps path)

  run_along : {s u : State} → Path code placing room s u → (left k : ℕ) → k + u.steps ≡ left + s.steps
      → run code placing left s ≡ run code placing k u
  run_along {s} done left k e = let same : left ≡ k = omega arith in ap (λ n. run code placing n s) same
  run_along (g ▸ path) zero k e = absurd (omega (arith, g.counted, path_steps path))
  run_along {s} (g ▸ path) (suc left) k e =
      run_next code placing s left g.taken ∙ run_along path left k (omega (arith, g.counted))

module _ {code : List Instruction} {placing : Placing} {u : State} {o : Result End Refusal} where
  pub finished : {room : ℕ} {i : Status} → Path code placing room (fresh i) u → Finishes code placing u o
      → u.steps ≤ step_limit → runs code placing i ≡ answer u o
  unfolding runs
  finished path f h =
      let left : ℕ = step_limit - u.steps in
      run_along path step_limit left (omega arith) ∙ run_over code placing u left f.over

  finished_stays : {next : State} {A : Type 0} → Finishes code placing u o → step code placing u ≡ Next next → A
  finished_stays f e = let z : ◌≡◌ {A = ℕ} 0 1 = cc f.over in absurd (omega arith)

-- ---- determinism

module _ {code : List Instruction} {placing : Placing} {room : ℕ} where
  same_next : {s u next : State} → Goes code placing room s u → step code placing s ≡ Next next → next ≡ u
  same_next g e = cc g.taken

  pub agree : {s u u' : State} {o o' : Result End Refusal} → Path code placing room s u → Finishes code placing u o
      → Path code placing room s u' → Finishes code placing u' o' → o ≡ o'
  agree done f done f' = cc (f.over, f'.over)
  agree done f (g ▸ path) f' = finished_stays f g.taken
  agree (g ▸ path) f done f' = finished_stays f' g.taken
  agree (g ▸ path) f (g' ▸ path') f' = agree path f (rw (same_next g g'.taken) at path') f'

  fits_after : {s u m : State} → Goes code placing room s u → length s.items ≤ room → Meets code placing s m
      → (Meets code placing u m → length m.items ≤ room) → length m.items ≤ room
  fits_after g h here rest = h
  fits_after g h (later e meets) rest = rest (rw (same_next g e) at meets)

  fits_last : {u m : State} {o : Result End Refusal} → Finishes code placing u o → length u.items ≤ room → Meets code placing u m
      → length m.items ≤ room
  fits_last f h here = h
  fits_last f h (later e meets) = finished_stays f e

  pub met_fits : {s u m : State} {o : Result End Refusal} → Path code placing room s u → Finishes code placing u o
      → length s.items ≤ room → Meets code placing s m → length m.items ≤ room
  met_fits done f h meets = fits_last f h meets
  met_fits (g ▸ path) f h meets = fits_after g h meets (met_fits path f g.fits)
