-- The states of a run, one after another (`specs/Run`, `state_after`).
--
--   state_next    a step that is taken from one of them gives the next
--   same_state    there is one after so many steps
--   none_later    where no step is taken, there is none later
--   run_from      the run from one of them, with the steps that are left, is the whole run
--   Meets         a state that a run from another one comes to, for laws that go along a run
--   state_met     each of them is met from the fresh one
--
-- Assumes nothing.
use Prim.Native.Nat.{ℕ, zero, suc, ◌+◌, ◌<◌}
use native.Mathlib.Decide.{dec_lt}
use native.Mathlib.Omega.{arith}
use mathlib.Core.List.{List}
use mathlib.Core.Option.{Option, none, some, some-injective, none-ne-some}
use mathlib.Core.Path.{◌≡◌, refl, sym, ap, ◌∙◌}
use Rattle.rules.specs.Machine.{State, fresh, Placing, Step, Next, Over, Stuck, step}
use Rattle.rules.specs.Run.{run, next_of, step_from, state_after}
use Rattle.rules.specs.declared.Instruction.{Instruction}
use Rattle.rules.specs.declared.Status.{Status}
use Rattle.rules.proofs.Step.Order.{run_next}

pub data Meets (code : List Instruction) (placing : Placing) : State → State → Type 0 where
  here : {s : State} → Meets code placing s s
  later : {s next met : State} → step code placing s ≡ Next next → Meets code placing next met → Meets code placing s met

then_next : {code : List Instruction} {placing : Placing} {s met next : State} → Meets code placing s met
    → step code placing met ≡ Next next → Meets code placing s next
then_next here taken = later taken here
then_next (later first meets) taken = later first (then_next meets taken)

module _ (code : List Instruction) (placing : Placing) (i : Status) where
  abbrev After : ℕ → State → Type 0
  After k s = state_after code placing i k ≡ some s

  pub state_next : (k : ℕ) {s next : State} → After k s → step code placing s ≡ Next next → After (suc k) next
  unfolding state_after step_from next_of
  state_next k at taken = rw (at, step_from, taken)

  pub same_state : (k : ℕ) {s t : State} → After k s → After k t → s ≡ t
  same_state k at also = some-injective _ _ (sym at ∙ also)

  later_none : (k : ℕ) {s : State} → After k s → next_of (step code placing s) ≡ none → (n : ℕ) → k < n
      → state_after code placing i n ≡ none
  unfolding state_after step_from
  later_none k at stopped zero past = absurd (omega arith)
  later_none k at stopped (suc n) past = elim (dec_lt k n) [
    | yes past-it ↦ rw (later_none k at stopped n past-it, step_from)
    | no not-past ↦
        let same : n ≡ k = omega (arith, past, not-past) in
        rw (same, at, step_from) stopped
  ]

  pub none_later : (k : ℕ) {s : State} → After k s → next_of (step code placing s) ≡ none → (n : ℕ) → k < n
      → {t : State} → After n t → ⊥
  none_later k at stopped n past there = none-ne-some _ (sym (later_none k at stopped n past) ∙ there)

  -- what stands before a state that a step led to
  record Before (k : ℕ) (next : State) : Type 0 where
    state : State
    at : After k state
    taken : step code placing state ≡ Next next

  by_step : (k : ℕ) {s next : State} (x : Step) → step code placing s ≡ x → After k s → next_of x ≡ some next → Before k next
  unfolding next_of
  by_step k {s = s} (Next t) taken at e = record { state = s; at = at; taken = taken ∙ ap Next (some-injective _ _ e) }
  by_step k (Over o) taken at e = absurd (none-ne-some _ e)
  by_step k (Stuck r) taken at e = absurd (none-ne-some _ e)

  by_state : (k : ℕ) {next : State} (x : Option State) → state_after code placing i k ≡ x → step_from code placing x ≡ some next
      → Before k next
  unfolding step_from
  by_state k none at e = absurd (none-ne-some _ e)
  by_state k (some s) at e = by_step k (step code placing s) refl at e

  before : (k : ℕ) {next : State} → After (suc k) next → Before k next
  unfolding state_after
  before k e = by_state k (state_after code placing i k) refl e

  pub run_from : (k left all : ℕ) → k + left ≡ all → (s : State) → After k s
      → run code placing left s ≡ run code placing all (fresh i)
  unfolding state_after
  run_from zero left all e s at =
      let same : left ≡ all = omega (arith, e) in
      rw same (ap (run code placing all) (sym (some-injective _ _ at)))
  run_from (suc k) left all e s at =
      let last = before k at in
      sym (run_next code placing last.state left last.taken)
      ∙ run_from k (suc left) all (omega (arith, e)) last.state last.at

  pub state_met : (k : ℕ) (s : State) → After k s → Meets code placing (fresh i) s
  unfolding state_after
  state_met zero s at = rw (sym (some-injective _ _ at)) here
  state_met (suc k) s at = let last = before k at in then_next (state_met k last.state last.at) last.taken
