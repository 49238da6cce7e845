-- The laws of tests in their order (`specs/Refusals.antt`).
--
--   refused_not_passed              a test does not both pass and refuse
--   unless_passed                   a test that refuses nothing has passed
--   first_only                      a row of one
--   rows_passed, rows_refused       a row of tests, by its front
--   first_none                      where a row refuses nothing, its first refuses nothing, nor do the others
--   rows_none                       nor does its front
--   lowest_suc, lowest_kept         one test at each place upward: a place more, by what the places below it came to
--   lowest_next, lowest_found       a place passed, a place refused
--   lowest_same                     two tests that agree at each place
--   lowest_none, lowest_all         where it refuses nothing, no place is refused, and the other way round
--
-- Assumes nothing.
use Prim.Native.Nat.{ℕ, zero, suc, ◌+◌, ◌<◌}
use native.Mathlib.Decide.{dec_lt}
use native.Mathlib.Numerals.{add-one}
use native.Mathlib.Omega.{arith}
use mathlib.Core.Bool.{Bool, true, false}
use mathlib.Core.List.{List, [], ◌∷◌, ◌++◌}
use mathlib.Core.Option.{Option, none, some, none-ne-some, some-ne-none}
use mathlib.Core.Path.{◌≡◌, refl, sym, ◌∙◌}
use Rattle.rules.specs.Refusals.{unless, first_refusal, lowest_refusal}
use Rattle.rules.specs.declared.Reason.{Reason}
use Rattle.rules.specs.declared.Refusal.{Refusal}

-- ---- a test

pub refused_not_passed : {A : Type 0} {r : Refusal} → some r ≡ none → A
refused_not_passed e = absurd (some-ne-none _ e)

pub unless_passed : (passed : Bool) (reason : Reason) (place : ℕ) → unless passed reason place ≡ none → passed ≡ true
unfolding unless
unless_passed true reason place e = refl
unless_passed false reason place e = refused_not_passed e

-- ---- a row of tests

pub first_only : (test : Option Refusal) → first_refusal (test ∷ []) ≡ test
unfolding first_refusal
first_only none = refl
first_only (some r) = refl

pub first_none : (test : Option Refusal) (tests : List (Option Refusal)) → first_refusal (test ∷ tests) ≡ none
    → (test ≡ none) × (first_refusal tests ≡ none)
unfolding first_refusal
first_none none tests e = (refl, e)
first_none (some r) tests e = refused_not_passed e

pub rows_none : (front back : List (Option Refusal)) → first_refusal (front ++ back) ≡ none → first_refusal front ≡ none
unfolding first_refusal
rows_none [] back e = refl
rows_none (none ∷ front) back e = rows_none front back e
rows_none (some r ∷ front) back e = e

pub rows_passed : (front back : List (Option Refusal)) → first_refusal front ≡ none
    → first_refusal (front ++ back) ≡ first_refusal back
unfolding first_refusal
rows_passed [] back e = refl
rows_passed (none ∷ front) back e = rows_passed front back e
rows_passed (some r ∷ front) back e = refused_not_passed e

pub rows_refused : (front back : List (Option Refusal)) {r : Refusal} → first_refusal front ≡ some r
    → first_refusal (front ++ back) ≡ some r
unfolding first_refusal
rows_refused [] back e = absurd (none-ne-some _ e)
rows_refused (none ∷ front) back e = rows_refused front back e
rows_refused (some s ∷ front) back e = e

-- ---- one test at each place

module _ (test : ℕ → Option Refusal) where
  pub lowest_suc : (j : ℕ) → lowest_refusal test j ≡ none → lowest_refusal test (suc j) ≡ test j
  unfolding lowest_refusal
  lowest_suc j below = rw (below, lowest_refusal)

  pub lowest_kept : (n : ℕ) {r : Refusal} → lowest_refusal test n ≡ some r → lowest_refusal test (suc n) ≡ some r
  unfolding lowest_refusal
  lowest_kept n e = rw (e, lowest_refusal)

  pub lowest_next : (j : ℕ) → lowest_refusal test j ≡ none → test j ≡ none → lowest_refusal test (j + 1) ≡ none
  lowest_next j below here = rw add-one (lowest_suc j below ∙ here)

  pub lowest_found : (n j : ℕ) {r : Refusal} → j < n → lowest_refusal test j ≡ none → test j ≡ some r
      → lowest_refusal test n ≡ some r
  lowest_found zero j h below here = absurd (omega arith)
  lowest_found (suc n) j h below here = elim (dec_lt j n) [
    | yes lower ↦ lowest_kept n (lowest_found n j lower below here)
    | no not_lower ↦ let last : n ≡ j = omega arith in rw last (lowest_suc j below ∙ here)
  ]

  -- below a place that is passed, all are
  lowest_before : (n : ℕ) (o : Option Refusal) → lowest_refusal test n ≡ o → lowest_refusal test (suc n) ≡ none
      → lowest_refusal test n ≡ none
  lowest_before n none e last = e
  lowest_before n (some r) e last = cc (lowest_kept n e)

  pub lowest_none : (n j : ℕ) → j < n → lowest_refusal test n ≡ none → test j ≡ none
  lowest_none zero j h e = absurd (omega arith)
  lowest_none (suc n) j h e =
      let before : lowest_refusal test n ≡ none = lowest_before n (lowest_refusal test n) refl e in
      elim (dec_lt j n) [
        | yes lower ↦ lowest_none n j lower before
        | no not_lower ↦ let last : j ≡ n = omega arith in rw last (cc (lowest_suc n before))
      ]

  pub lowest_all : (n : ℕ) → ((j : ℕ) → j < n → test j ≡ none) → lowest_refusal test n ≡ none
  unfolding lowest_refusal
  lowest_all zero each = refl
  lowest_all (suc n) each = lowest_suc n (lowest_all n λ j low. each j (omega arith)) ∙ each n (omega arith)

module _ (test other : ℕ → Option Refusal) where
  lowest_same_next : (n : ℕ) (o : Option Refusal) → lowest_refusal other n ≡ o → lowest_refusal test n ≡ o → test n ≡ other n
      → lowest_refusal test (suc n) ≡ lowest_refusal other (suc n)
  lowest_same_next n none e f here = lowest_suc test n f ∙ here ∙ sym (lowest_suc other n e)
  lowest_same_next n (some r) e f here = lowest_kept test n f ∙ sym (lowest_kept other n e)

  pub lowest_same : (n : ℕ) → ((j : ℕ) → j < n → test j ≡ other j) → lowest_refusal test n ≡ lowest_refusal other n
  unfolding lowest_refusal
  lowest_same zero same = refl
  lowest_same (suc n) same =
      lowest_same_next n (lowest_refusal other n) refl (lowest_same n (λ j h. same j (omega arith))) (same n (omega arith))
