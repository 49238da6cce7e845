-- What the machine ends in at the length is what the rules say (`rules`, `specs/Machine`, `at_length`).
--
--   one_number   one item, a number
--   one_other    one item, but no number
--   not_one      no item, or more than one
--
-- Assumes nothing.
use Prim.Native.Nat.{ℕ}
use native.Mathlib.Omega.{arith}
use lib.IntN.{ℤ}
use lib.ListN.{length}
use mathlib.Core.List.{List, [], ◌∷◌}
use mathlib.Core.Path.{◌≡◌, refl, sym}
use Rattle.rules.specs.Machine.{Over, at_length, with_number, with_nothing, no_rule}
use Rattle.rules.specs.declared.End.{End}
use Rattle.rules.specs.declared.Item.{Item}
use Rattle.rules.specs.declared.Item.TheVariants.{Number, Handler, Saved}
use Rattle.machine.specs.Items.{item_at, items_of}
use Rattle.machine.specs.States.{state_of}
use Rattle.machine.specs.declared.state.Machine.{Machine}
use Rattle.machine.proofs.Stacked.{length_items_of}
use Rattle.std.specs.Prelude.{Ok, Err}
use Rattle.machine.proofs.Others.{NoNumber, not_number}

not_one_item : {A : Type 0} (items : List Item) (otherwise : A) (f : ℤ → A) → (length items ≡ 1 → ⊥)
    → with_number items otherwise (λ n rest. with_nothing rest otherwise (f n)) ≡ otherwise
unfolding with_number with_nothing
not_one_item [] otherwise f many = refl
not_one_item (Number n ∷ []) otherwise f many = absurd (many refl)
not_one_item (Number n ∷ x ∷ rest) otherwise f many = refl
not_one_item (Handler h ∷ rest) otherwise f many = refl
not_one_item (Saved i ∷ rest) otherwise f many = refl

module _ (a : ℕ) (stack : List ℕ) (m : Machine) where
  pub one_number : m.height ≡ 1 → {n : ℤ} → Number n ≡ item_at stack 0
      → Over (Ok (End.Number n)) ≡ at_length (state_of stack m) a
  unfolding at_length items_of with_number with_nothing
  one_number one e = rw (one, ← e)

  pub one_other : m.height ≡ 1 → {x : Item} → x ≡ item_at stack 0 → NoNumber x
      → Over (Err (no_rule a)) ≡ at_length (state_of stack m) a
  unfolding at_length items_of
  one_other one e other = rw (one, ← e) (sym (not_number _ _ _ _ other))

  pub not_one : (m.height ≡ 1 → ⊥) → Over (Err (no_rule a)) ≡ at_length (state_of stack m) a
  unfolding at_length
  not_one many =
      sym (not_one_item (items_of stack m.height) _ _ (λ e. many (omega (arith, e, length_items_of stack m.height))))
