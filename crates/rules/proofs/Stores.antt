-- Runs of stores in a list, the kit's `sets`. Only `sets_at` and `sets_front` ask that they lie inside it.
--
--   sets_append   two adjoining runs are one
--   sets_comm     two runs that do not overlap commute
--   sets_below    a run leaves what lies before it
--   sets_at       what stands at a place of the run
--   drop_sets     a run leaves what lies past it
--   sets_front    a run from the start on is in front of what it leaves
--
-- Assumes nothing.
use Prim.Native.Nat.{ℕ, zero, suc, ◌+◌, ◌≤◌, ◌<◌}
use native.Mathlib.Nat.{zero-add, add-zero}
use native.Mathlib.Omega.{arith}
use lib.ListN.{length, get_or, drop, set, length-set}
use lib.Seq.{sets, sets-eq, set_comm, get_or-set_same, get_or-set_other, drop-set-lt}
use mathlib.Core.List.{List, [], ◌∷◌, ◌++◌}
use mathlib.Core.Logic.{◌≢◌}
use mathlib.Core.Path.{◌≡◌, refl, ◌∙◌}

module _ {ℓ} {A : Type ℓ} where
  pub sets_append : (l : List A) (i : ℕ) (xs ys : List A) → sets l i (xs ++ ys) ≡ sets (sets l i xs) (i + length xs) ys
  sets_append l i [] ys = rw add-zero
  sets_append l i (x ∷ xs) ys =
      let e : i + suc (length xs) ≡ suc i + length xs = omega arith in
      rw e (sets_append (set l i x) (suc i) xs ys)

  set_sets_comm : (l : List A) (i : ℕ) (x : A) (j : ℕ) (ys : List A) → i < j → sets (set l i x) j ys ≡ set (sets l j ys) i x
  set_sets_comm l i x j [] h = refl
  set_sets_comm l i x j (y ∷ ys) h =
      let apart : i ≢ j = λ e. omega arith in
      let above : i < suc j = omega arith in
      rw (set_comm l i j x y apart) (set_sets_comm (set l j y) i x (suc j) ys above)

  pub sets_comm : (l : List A) (i : ℕ) (xs : List A) (j : ℕ) (ys : List A) → i + length xs ≤ j
      → sets (sets l i xs) j ys ≡ sets (sets l j ys) i xs
  sets_comm l i [] j ys h = refl
  sets_comm l i (x ∷ xs) j ys h =
      let below : i < j = omega arith in
      let rest : suc i + length xs ≤ j = omega arith in
      rw (sets_comm (set l i x) (suc i) xs j ys rest, set_sets_comm l i x j ys below)

  pub sets_below : (l : List A) (i : ℕ) (vs : List A) (j : ℕ) (d : A) → j < i → get_or (sets l i vs) j d ≡ get_or l j d
  sets_below l i [] j d h = refl
  sets_below l i (v ∷ vs) j d h =
      let apart : j ≢ i = λ e. omega arith in
      let below : j < suc i = omega arith in
      sets_below (set l i v) (suc i) vs j d below ∙ get_or-set_other l i j v d apart

  pub sets_at : (l : List A) (i : ℕ) (vs : List A) (n : ℕ) (d : A) → n < length vs → i + length vs ≤ length l
      → get_or (sets l i vs) (i + n) d ≡ get_or vs n d
  sets_at l i [] n d h room = absurd (omega arith)
  sets_at l i (v ∷ vs) zero d h room =
      let here : i + 0 ≡ i = omega arith in
      let first : i < suc i = omega arith in
      let inside : i < length l = omega arith in
      rw here (sets_below (set l i v) (suc i) vs i d first ∙ get_or-set_same l i v d inside)
  sets_at l i (v ∷ vs) (suc n) d h room =
      let there : i + suc n ≡ suc i + n = omega arith in
      let rest : n < length vs = omega arith in
      let fits : suc i + length vs ≤ length (set l i v) = simp length-set (omega arith) in
      rw there (sets_at (set l i v) (suc i) vs n d rest fits)

  pub drop_sets : (n : ℕ) (l : List A) (i : ℕ) (vs : List A) → i + length vs ≤ n → drop n (sets l i vs) ≡ drop n l
  drop_sets n l i [] h = refl
  drop_sets n l i (v ∷ vs) h =
      let below : i < n = omega arith in
      let rest : suc i + length vs ≤ n = omega arith in
      drop_sets n (set l i v) (suc i) vs rest ∙ drop-set-lt n l i v below

  pub sets_front : (l vs : List A) → length vs ≤ length l → sets l 0 vs ≡ vs ++ drop (length vs) l
  sets_front l vs h =
      let fits : 0 + length vs ≤ length l = omega arith in
      rw zero-add at (sets-eq vs l 0 fits)
