-- The items of the stack in the lent stack buffer (document 01, "One step of the machine": "512 items at most, kept in the lent
-- stack buffer"), eight bytes each. Whatever the bytes are, they say items: no item needs a test.
--
--   item_tagged   the item that a tag and an operand say
--   item_at       the item at a place, counted from the bottom
--   items_of      the items below a height, the top first
--   number_over_of
--                 a number on top, and the item that it stands over: no rule for ADD, UNMARK and RESET where they are not there
--   handler_of    the address of a handler
--   Storable      an item can be put at a place
--   Stored        it was put there: it stands over the items below
--
-- Assumes nothing.
use Rattle.std.specs.Prelude.{ℕ, zero, suc, ◌+◌, ◌*◌, ◌^◌, ◌<◌, ℤ, List, [], ◌∷◌, ◌≡◌, Result, Ok, Err}
use Rattle.rules.specs.Bytes.{byte_at, word_at}
use Rattle.rules.specs.Limits.{record_bytes, item_limit}
use Rattle.rules.specs.Number.{signed}
use Rattle.rules.specs.declared.Item.{Item}
use Rattle.rules.specs.declared.Item.TheVariants.{Number, Handler, Saved}
use Rattle.rules.specs.declared.Reason.{Reason}
use Rattle.rules.specs.declared.Reason.TheVariants.{NoRule}
use Rattle.rules.specs.declared.Status.TheVariants.{Blocked, Unblocked}

unfoldable pub item_tagged : ℕ → ℕ → Item
item_tagged zero operand = Number (signed operand)
item_tagged (suc zero) operand = Handler operand
item_tagged (suc (suc zero)) operand = Saved Blocked
item_tagged (suc (suc (suc tag))) operand = Saved Unblocked

unfoldable pub item_at : List ℕ → ℕ → Item
item_at stack k = item_tagged (byte_at stack (record_bytes * k)) (word_at stack (record_bytes * k + 4))

unfoldable pub items_of : List ℕ → ℕ → List Item
items_of stack zero = []
items_of stack (suc k) = item_at stack k ∷ items_of stack k

unfoldable pub number_over_of : List Item → Result (ℤ × Item) Reason
number_over_of [] = Err NoRule
number_over_of (Number n ∷ []) = Err NoRule
number_over_of (Number n ∷ x ∷ rest) = Ok (n, x)
number_over_of (Handler address ∷ rest) = Err NoRule
number_over_of (Saved status ∷ rest) = Err NoRule

-- ---- putting an item

unfoldable pub handler_of : Item → ℕ
handler_of (Number n) = 0
handler_of (Handler address) = address
handler_of (Saved status) = 0

pub record Storable (k : ℕ) (item : Item) : Type 0 where
  pub place : k < item_limit
  pub operand : handler_of item < 2 ^ 32

abbrev pub Stored : List ℕ → ℕ → Item → List ℕ → Type 0
Stored stack k item after = items_of after (k + 1) ≡ item ∷ items_of stack k
