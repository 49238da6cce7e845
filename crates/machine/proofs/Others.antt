-- An item that is not of the kind looked for, as the last arm of a match has it: what is done otherwise is done.
--
--   NoNumber, NoHandler, NoSaved         it is none of that kind
--   not_number, not_handler, not_saved   of the top item
--
-- Assumes nothing.
use Prim.Native.Nat.{ℕ}
use lib.IntN.{ℤ}
use mathlib.Core.List.{List, ◌∷◌}
use mathlib.Core.Path.{◌≡◌, refl}
use Rattle.rules.specs.Machine.{with_number, with_handler, with_saved}
use Rattle.rules.specs.declared.Item.{Item}
use Rattle.rules.specs.declared.Item.TheVariants.{Number, Handler, Saved}
use Rattle.rules.specs.declared.Status.{Status}

abbrev pub NoNumber : Item → Type 0
NoNumber item = (n : ℤ) → item ≡ Number n → ⊥

abbrev pub NoHandler : Item → Type 0
NoHandler item = (address : ℕ) → item ≡ Handler address → ⊥

abbrev pub NoSaved : Item → Type 0
NoSaved item = (i : Status) → item ≡ Saved i → ⊥

module _ {A : Type 0} (rest : List Item) (otherwise : A) where
  pub not_number : (f : ℤ → List Item → A) (item : Item) → NoNumber item → with_number (item ∷ rest) otherwise f ≡ otherwise
  unfolding with_number
  not_number f (Number n) none = absurd (none n refl)
  not_number f (Handler h) none = refl
  not_number f (Saved i) none = refl

  pub not_handler : (f : List Item → A) (item : Item) → NoHandler item → with_handler (item ∷ rest) otherwise f ≡ otherwise
  unfolding with_handler
  not_handler f (Number n) none = refl
  not_handler f (Handler h) none = absurd (none h refl)
  not_handler f (Saved i) none = refl

  pub not_saved : (f : Status → List Item → A) (item : Item) → NoSaved item → with_saved (item ∷ rest) otherwise f ≡ otherwise
  unfolding with_saved
  not_saved f (Number n) none = refl
  not_saved f (Handler h) none = refl
  not_saved f (Saved i) none = absurd (none i refl)
