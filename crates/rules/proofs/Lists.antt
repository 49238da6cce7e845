-- Looking up in a list.
--
--   missing_past         from the length on nothing stands
--   below_found          so what stands somewhere stands below it
--   found_get_or         namely what `get_or` gives
--   found_front          of two lists, in the front one
--   found_seam           and where they meet
--
-- A fact of each element and its number.
--
--   EachFrom P k xs      P of each of xs, the first of them numbered k: `first ▸ second ▸ done`
--   each_append          of one list after another
--   each_found           of the element at a place
--
-- Rows that are numbered from 1, as `row_numbered` looks them up.
--
--   RowKnown   a number has a row
--   each_row   of each row and its number, so of the row that a number names
--
-- Assumes nothing.
use Prim.Native.Nat.{ℕ, zero, suc, ◌+◌, ◌≤◌, ◌<◌}
use native.Mathlib.Decide.{dec_lt}
use native.Mathlib.Omega.{arith}
use lib.ListN.{length, get_or, get_elem?}
use mathlib.Core.List.{List, [], ◌∷◌, ◌++◌}
use mathlib.Core.Option.{none, some, none-ne-some, some-injective}
use mathlib.Core.Path.{◌≡◌, refl, sym, ◌∙◌}
use Rattle.rules.specs.Bytes.{row_numbered}

module _ {A : Type 0} where
  pub missing_past : (l : List A) (k : ℕ) → length l ≤ k → get_elem? l k ≡ none
  missing_past [] k h = refl
  missing_past (x ∷ l) zero h = absurd (omega arith)
  missing_past (x ∷ l) (suc k) h = missing_past l k (omega arith)

  pub below_found : (l : List A) (k : ℕ) {x : A} → get_elem? l k ≡ some x → k < length l
  below_found l k e = elim (dec_lt k (length l)) [
    | yes below ↦ below
    | no past ↦ absurd (none-ne-some _ (sym (missing_past l k (omega arith)) ∙ e))
  ]

  pub found_get_or : (l : List A) (k : ℕ) (default : A) → k < length l → get_elem? l k ≡ some (get_or l k default)
  found_get_or [] k default h = absurd (omega arith)
  found_get_or (x ∷ l) zero default h = refl
  found_get_or (x ∷ l) (suc k) default h = found_get_or l k default (omega arith)

  pub found_front : (front back : List A) (k : ℕ) → k < length front → get_elem? (front ++ back) k ≡ get_elem? front k
  found_front [] back k h = absurd (omega arith)
  found_front (x ∷ front) back zero h = refl
  found_front (x ∷ front) back (suc k) h = found_front front back k (omega arith)

  pub found_seam : (front : List A) (x : A) (back : List A) → get_elem? (front ++ x ∷ back) (length front) ≡ some x
  found_seam [] x back = refl
  found_seam (y ∷ front) x back = found_seam front x back

-- ---- each element and its number

module _ {A : Type 0} (P : ℕ → A → Type 0) where
  infixr 40 ◌▸◌
  pub data EachFrom : ℕ → List A → Type 0 where
    done : {k : ℕ} → EachFrom k []
    ◌▸◌ : {k : ℕ} {x : A} {xs : List A} → P k x → EachFrom (k + 1) xs → EachFrom k (x ∷ xs)

module _ {A : Type 0} {P : ℕ → A → Type 0} where
  pub each_append : {k n : ℕ} {xs ys : List A} → length xs ≡ n → EachFrom P k xs → EachFrom P (k + n) ys → EachFrom P k (xs ++ ys)
  each_append {k} {n} e done back = let here : k + n ≡ k = omega arith in rw here at back
  each_append {k} {n} e (◌▸◌ {xs = xs} first front) back =
      let there : k + n ≡ k + 1 + length xs = omega arith in
      first ▸ each_append refl front (rw there at back)

  pub each_found : {k : ℕ} {xs : List A} → EachFrom P k xs → (j n : ℕ) → k + j ≡ n → {x : A} → get_elem? xs j ≡ some x → P n x
  each_found done j n place e = absurd (none-ne-some _ e)
  each_found {k} (first ▸ all) zero n place e =
      let here : k ≡ n = omega arith in
      rw (here, some-injective _ _ e) at first
  each_found (first ▸ all) (suc j) n place e = each_found all j n (omega arith) e

-- ---- rows

module _ {A : Type 0} where
  pub record RowKnown (rows : List A) (k : ℕ) : Type 0 where
    pub row : A
    pub found : row_numbered rows k ≡ some row

  pub each_row : (P : ℕ → A → Type 0) (rows : List A) → EachFrom P 1 rows → (k : ℕ) {row : A} → row_numbered rows k ≡ some row
      → P k row
  unfolding row_numbered
  each_row P rows each zero e = absurd (none-ne-some _ e)
  each_row P rows each (suc k) e = each_found each k (suc k) (omega arith) e
