-- The items of the stack, read one by one and seen from the top.
--
--   item_read         the tag and the operand at a place say its item
--   tagged_other      a tag above 2 says the saved status unblocked
--   length_items_of   there are as many as the height
--   items_none        at height 0 there is none
--   items_top         from height 1 on there is a top
--   items_two         from height 2 on there is a second
--
-- Assumes nothing.
use Prim.Native.Nat.{ℕ, zero, suc, ◌+◌, ◌-◌, ◌*◌, ◌≤◌}
use native.Mathlib.Omega.{arith}
use lib.ListN.{length}
use mathlib.Core.List.{List, [], ◌∷◌}
use mathlib.Core.Logic.{◌≢◌}
use mathlib.Core.Path.{◌≡◌, refl, ap}
use Rattle.rules.specs.Bytes.{byte_at, word_at}
use Rattle.rules.specs.Limits.{record_bytes}
use Rattle.rules.specs.declared.Item.TheVariants.{Saved}
use Rattle.rules.specs.declared.Status.TheVariants.{Unblocked}
use Rattle.machine.specs.Items.{item_tagged, item_at, items_of}

pub item_read : (stack : List ℕ) (k : ℕ) {tag operand : ℕ}
    → tag ≡ byte_at stack (record_bytes * k) → operand ≡ word_at stack (record_bytes * k + 4)
    → item_tagged tag operand ≡ item_at stack k
unfolding item_at
item_read stack k e f = rw (e, f)

pub tagged_other : (tag operand : ℕ) → tag ≢ 0 → tag ≢ 1 → tag ≢ 2 → item_tagged tag operand ≡ Saved Unblocked
unfolding item_tagged
tagged_other zero operand a b c = absurd (a refl)
tagged_other (suc zero) operand a b c = absurd (b refl)
tagged_other (suc (suc zero)) operand a b c = absurd (c refl)
tagged_other (suc (suc (suc tag))) operand a b c = refl

-- ---- from the top

pub length_items_of : (stack : List ℕ) (h : ℕ) → length (items_of stack h) ≡ h
unfolding items_of
length_items_of stack zero = refl
length_items_of stack (suc k) = ap suc (length_items_of stack k)

pub items_none : (stack : List ℕ) (h : ℕ) → h ≡ 0 → items_of stack h ≡ []
unfolding items_of
items_none stack zero e = refl
items_none stack (suc k) e = absurd (omega arith)

pub items_top : (stack : List ℕ) (h : ℕ) → 1 ≤ h → items_of stack h ≡ item_at stack (h - 1) ∷ items_of stack (h - 1)
unfolding items_of
items_top stack zero l = absurd (omega arith)
items_top stack (suc k) l = let below : suc k - 1 ≡ k = omega arith in rw below

pub items_two : (stack : List ℕ) (h : ℕ) → 2 ≤ h
    → items_of stack h ≡ item_at stack (h - 1) ∷ item_at stack (h - 2) ∷ items_of stack (h - 2)
unfolding items_of
items_two stack zero l = absurd (omega arith)
items_two stack (suc zero) l = absurd (omega arith)
items_two stack (suc (suc k)) l =
    let first : suc (suc k) - 1 ≡ suc k = omega arith in
    let second : suc (suc k) - 2 ≡ k = omega arith in
    rw (first, second)
