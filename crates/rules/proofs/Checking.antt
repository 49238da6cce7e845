-- What readers and checkers of records answer (`specs/Checking.antt`), and the walk over records with any test.
--
--   answer_passed, answer_refused    the answer, by what the tests found
--   answer_told                      what the tests found, by the answer
--   TwoTests, first_refuses, second_refuses, both_pass
--                                    the answer, by two tests one after the other
--   row_passes_lem                   a test by the row that a number names
--   checked_told                     so of a checker's answer
--   check_accepted, check_refused    and of its answer for bytes
--   Walked                           the records below j have passed a test
--   walk_begins, walk_goes_on        from the first record on
--   walk_stops, walk_ends            to one that is refused, or past the last
--   size_told, size_missing          how many records there are, where a test of the size is passed, and the refusal where not
--
-- Assumes nothing.
use Prim.Native.Nat.{ℕ, ◌+◌, ◌≤◌, ◌<◌}
use native.Mathlib.Omega.{arith}
use mathlib.Core.Bool.{Bool, true, false, cond}
use mathlib.Core.List.{List, [], ◌∷◌}
use mathlib.Core.Option.{Option, none, some}
use mathlib.Core.Path.{◌≡◌, refl, sym}
use Rattle.rules.specs.Bytes.{records, row_numbered}
use Rattle.rules.specs.Checking.{answer_by, checked_by, check_answer, row_passes}
use Rattle.rules.specs.Refusals.{unless, first_refusal, lowest_refusal}
use Rattle.rules.specs.declared.Refusal.{Refusal}
use Rattle.std.specs.Prelude.{Result, Ok, Err, Some, None}
use Rattle.std.specs.Option.{ok_or}
use Rattle.rules.proofs.Refusals.{lowest_next, lowest_found}

-- ---- an answer

module _ {A : Type 0} (refused : Refusal → A) (sound : A) {found : Option Refusal} where
  pub answer_passed : found ≡ none → answer_by found refused sound ≡ sound
  unfolding answer_by
  answer_passed e = rw e

  pub answer_refused : {r : Refusal} → found ≡ some r → answer_by found refused sound ≡ refused r
  unfolding answer_by
  answer_refused e = rw e

-- `told` says of an answer which refusal it is, if any
module _ {A : Type 0} (told : A → Option Refusal) (refused : Refusal → A) (sound : A) where
  pub answer_told : (found : Option Refusal) → told sound ≡ none → ((r : Refusal) → told (refused r) ≡ some r)
      → {answer : A} → answer_by found refused sound ≡ answer → found ≡ told answer
  unfolding answer_by
  answer_told none s r e = sym (rw e at s)
  answer_told (some x) s r e = sym (rw e at (r x))

-- two tests, one after the other, and what each refuses with
pub record TwoTests (found : Option Refusal) (first : Bool) (r : Refusal) (second : Bool) (s : Refusal) : Type 0 where
  pub in_turn : found ≡ first_refusal (unless first r.reason r.place ∷ unless second s.reason s.place ∷ [])

module _ {A : Type 0} (refused : Refusal → A) (sound : A) {found : Option Refusal} {first second : Bool} {r s : Refusal}
    (tests : TwoTests found first r second s) where
  pub first_refuses : first ≡ false → answer_by found refused sound ≡ refused r
  unfolding answer_by unless first_refusal
  first_refuses e = rw (tests.in_turn, e)

  pub second_refuses : first ≡ true → second ≡ false → answer_by found refused sound ≡ refused s
  unfolding answer_by unless first_refusal
  second_refuses e f = rw (tests.in_turn, e, f)

  pub both_pass : first ≡ true → second ≡ true → answer_by found refused sound ≡ sound
  unfolding answer_by unless first_refusal
  both_pass e f = rw (tests.in_turn, e, f)

-- ---- a test by a row

pub row_passes_lem : {A : Type 0} (rows : List A) (test : A → Bool) (k : ℕ) {row : A} → row_numbered rows k ≡ some row
    → row_passes rows test k ≡ test row
row_passes_lem rows test k e = rw e

-- ---- a checker's answer

abbrev pub refusal_of : {A : Type 0} → Result A Refusal → Option Refusal
refusal_of (Ok x) = none
refusal_of (Err r) = some r

pub checked_told : (n : ℕ) (found : Option Refusal) {answer : Result ℕ Refusal} → checked_by n found ≡ answer
    → found ≡ refusal_of answer
checked_told n found = answer_told refusal_of Err (Ok n) found refl (λ r. refl)

module _ (tests : List ℕ → List (Option Refusal)) (bytes : List ℕ) where
  pub check_refused : {r : Refusal} → check_answer tests bytes ≡ Err r → first_refusal (tests bytes) ≡ some r
  check_refused = checked_told (records bytes) (first_refusal (tests bytes))

  pub check_accepted : {n : ℕ} → check_answer tests bytes ≡ Ok n → (first_refusal (tests bytes) ≡ none) × (n ≡ records bytes)
  check_accepted e =
      let passed = checked_told (records bytes) (first_refusal (tests bytes)) e in
      (passed, cc (answer_passed Err (Ok (records bytes)) passed, e))

-- ---- the walk over n records, upward

pub record Walked (test : ℕ → Option Refusal) (n j : ℕ) : Type 0 where
  pub within : j ≤ n
  pub passed : lowest_refusal test j ≡ none

pub walk_begins : (test : ℕ → Option Refusal) (n : ℕ) → Walked test n 0
unfolding lowest_refusal
walk_begins test n = record { within = omega arith; passed = refl }

module _ {test : ℕ → Option Refusal} {n j : ℕ} (so_far : Walked test n j) where
  pub walk_goes_on : j < n → test j ≡ none → Walked test n (j + 1)
  walk_goes_on h here = record { within = omega arith; passed = lowest_next test j so_far.passed here }

  pub walk_stops : j < n → {r : Refusal} → test j ≡ some r → lowest_refusal test n ≡ some r
  walk_stops h here = lowest_found test n j h so_far.passed here

  pub walk_ends : n ≤ j → lowest_refusal test n ≡ none
  walk_ends h = let end : j ≡ n = omega (arith, so_far.within) in rw end at so_far.passed

-- ---- the size

pub size_told : (test : Bool) (n : ℕ) (e : Refusal) {m : ℕ} → ok_or (cond test (Some n) None) e ≡ Ok m → (test ≡ true) × (m ≡ n)
size_told true n e h = (refl, cc (sym h))
size_told false n e h = absurd (cc h)

pub size_missing : (test : Bool) (n : ℕ) (e : Refusal) {r : Refusal} → ok_or (cond test (Some n) None) e ≡ Err r
    → (test ≡ false) × (r ≡ e)
size_missing true n e h = absurd (cc h)
size_missing false n e h = (refl, cc (sym h))
