-- What the machine does for an instruction is what the rules say (`rules`, `specs/Machine`).
--
--   few_over, other_over, number_found
--                                    a number over another item: of fewer than two, of another item on top, and found
--   push_full, pushed                PUSH, MARK and SET: onto 512 items, and onto fewer
--   pop_none, pop_other, popped      POP: of no item, of another item than a number, of a number
--   add-.., unmark-.., reset-..      ADD, UNMARK and RESET: of no number over another item (`none`), where that is the wrong one
--                                    (`other`), and carried out
--
-- Assumes nothing.
use Prim.Native.Nat.{ℕ, zero, suc, ◌+◌, ◌-◌, ◌≤◌, ◌<◌}
use native.Mathlib.Omega.{arith}
use borrow.Author.Tests.{lt-ltb, le-ltb}
use lib.Dec.{ltb}
use lib.IntN.{ℤ}
use lib.ListN.{length, drop}
use mathlib.Core.Bool.{true, false}
use mathlib.Core.List.{List, [], ◌∷◌}
use mathlib.Core.Path.{◌≡◌, refl, sym, ap}
use Rattle.std.specs.Prelude.{Ok, Err}
use Rattle.rules.specs.Limits.{item_limit}
use Rattle.rules.specs.Machine as rules
use Rattle.rules.specs.Machine.{execute, push, with_number, with_handler, with_saved, no_rule}
use Rattle.rules.specs.Number.{sum}
use Rattle.rules.specs.declared.Instruction.{Instruction}
use Rattle.rules.specs.declared.Instruction.TheVariants.{Add, Pop, Unmark, Reset}
use Rattle.rules.specs.declared.Item.{Item}
use Rattle.rules.specs.declared.Item.TheVariants.{Number, Handler, Saved}
use Rattle.rules.specs.declared.Reason.{Reason}
use Rattle.rules.specs.declared.Reason.TheVariants.{StackFull, NoRule}
use Rattle.rules.specs.declared.Status.{Status}
use Rattle.machine.specs.Items.{item_at, items_of, number_over_of, Stored}
use Rattle.machine.specs.States.{state_of, step_of, onward_of, Does, Carries, Pushes, Replaces}
use Rattle.machine.specs.declared.state.Machine.{Machine}
use Rattle.machine.specs.declared.state.Mode.TheVariants.{Running}
use Rattle.machine.proofs.Stacked.{length_items_of, items_none, items_top, items_two}
use Rattle.machine.proofs.Others.{NoNumber, NoHandler, NoSaved, not_number, not_handler, not_saved}

-- ---- a number over another item

-- there is none
none_over : {A : Type 0} (items : List Item) {e : Reason} → number_over_of items ≡ Err e → (otherwise : A) (f : ℤ → List Item → A)
    → ((n : ℤ) → f n [] ≡ otherwise) → (e ≡ NoRule) × (with_number items otherwise f ≡ otherwise)
unfolding number_over_of with_number
none_over [] e otherwise f none = (cc e, refl)
none_over (Number n ∷ []) e otherwise f none = (cc e, none n)
none_over (Number n ∷ x ∷ rest) e otherwise f none = absurd (cc e)
none_over (Handler h ∷ rest) e otherwise f none = (cc e, refl)
none_over (Saved i ∷ rest) e otherwise f none = (cc e, refl)

-- or these are the items
over : (items : List Item) {n : ℤ} {x : Item} → number_over_of items ≡ Ok (n, x) → items ≡ Number n ∷ x ∷ drop 2 items
unfolding number_over_of
over [] e = absurd (cc e)
over (Number n ∷ []) e = absurd (cc e)
over (Number k ∷ y ∷ rest) {n = n} {x = x} e =
    let both : ◌≡◌ {A = ℤ × Item} (k, y) (n, x) = cc e in
    let first : k ≡ n = ap (λ p. p.0) both in
    let second : y ≡ x = ap (λ p. p.1) both in
    rw (first, second)
over (Handler h ∷ rest) e = absurd (cc e)
over (Saved i ∷ rest) e = absurd (cc e)

below : (stack : List ℕ) (h : ℕ) → drop 2 (items_of stack h) ≡ items_of stack (h - 2)
unfolding items_of
below stack zero = refl
below stack (suc zero) = refl
below stack (suc (suc k)) = let two : suc (suc k) - 2 ≡ k = omega arith in rw two

-- what is found of them by their height
few : (items : List Item) → length items < 2 → number_over_of items ≡ Err NoRule
unfolding number_over_of
few [] h = refl
few (Number n ∷ []) h = refl
few (Number n ∷ x ∷ rest) h = absurd (omega arith)
few (Handler a ∷ rest) h = refl
few (Saved i ∷ rest) h = refl

other : (x : Item) (rest : List Item) → NoNumber x → number_over_of (x ∷ rest) ≡ Err NoRule
unfolding number_over_of
other (Number n) rest none = absurd (none n refl)
other (Handler a) rest none = refl
other (Saved i) rest none = refl

module _ (stack : List ℕ) (h : ℕ) where
  pub few_over : h < 2 → Err NoRule ≡ number_over_of (items_of stack h)
  few_over l = sym (few (items_of stack h) (omega (arith, l, length_items_of stack h)))

  module _ {x : Item} (two : 2 ≤ h) (top : x ≡ item_at stack (h - 1)) where
    pub other_over : NoNumber x → Err NoRule ≡ number_over_of (items_of stack h)
    other_over none = rw (items_top stack h (omega arith), ← top) (sym (other x _ none))

  pub number_found : {n : ℤ} {x : Item} → 2 ≤ h → Number n ≡ item_at stack (h - 1) → x ≡ item_at stack (h - 2)
      → Ok (n, x) ≡ number_over_of (items_of stack h)
  unfolding number_over_of
  number_found two top under = rw (items_two stack h two, ← top, ← under)

module _ (a : ℕ) (stack : List ℕ) (m : Machine) where
  abbrev Refuses : Instruction → Type 0
  Refuses x = Carries x a stack m (Err NoRule) stack

  -- with this item at this height
  abbrev Reads : Item → ℕ → Type 0
  Reads x k = x ≡ item_at stack k

  refused : {rule : rules.Step} → rule ≡ rules.Stuck (no_rule a) → Does rule a (Err NoRule) stack
  unfolding step_of
  refused e = sym e

  -- ---- one item more

  module _ (item : Item) (status : Status) where
    pub push_full : m.height ≡ item_limit
        → Pushes item status a stack m (Err StackFull) stack
    unfolding push step_of
    push_full e =
        let full : ltb (length (items_of stack m.height)) item_limit ≡ false =
        le-ltb (length (items_of stack m.height)) item_limit (omega (arith, e, length_items_of stack m.height)) in
        sym (rw full)

    pub pushed : m.height < item_limit → (after : List ℕ) → Stored stack m.height item after
        → Pushes item status a stack m
        (Ok (record (onward_of m) { mode = Running (a + 1); status = status; height = m.height + 1 })) after
    unfolding push step_of
    pushed h after put =
        let room : ltb (length (items_of stack m.height)) item_limit ≡ true =
        lt-ltb (length (items_of stack m.height)) item_limit (omega (arith, h, length_items_of stack m.height)) in
        rw (room, put)

  -- ---- one item less

  pub pop_none : m.height ≡ 0 → Refuses Pop
  unfolding execute with_number
  pop_none e = refused (rw (items_none stack m.height e, with_number))

  pub pop_other : 1 ≤ m.height → {x : Item} → Reads x (m.height - 1) → NoNumber x → Refuses Pop
  unfolding execute
  pop_other h e other = refused (rw (items_top stack m.height h, ← e) (not_number _ _ _ _ other))

  pub popped : 1 ≤ m.height → {n : ℤ} → Reads (Number n) (m.height - 1)
      → Carries Pop a stack m (Ok (record (onward_of m) { mode = Running (a + 1); height = m.height - 1 })) stack
  unfolding execute step_of with_number
  popped h e = rw (items_top stack m.height h, ← e, with_number)

  -- ---- a number over another item

  module _ {e : Reason} (none : Err e ≡ number_over_of (items_of stack m.height)) where
    pub add_none : Carries Add a stack m (Err e) stack
    unfolding execute with_number
    add_none = let (reason, rule) = none_over _ (sym none) _ _ (λ n. refl) in rw reason (refused rule)

    pub unmark_none : (target : ℕ) → Carries (Unmark target) a stack m (Err e) stack
    unfolding execute with_handler
    unmark_none target = let (reason, rule) = none_over _ (sym none) _ _ (λ n. refl) in rw reason (refused rule)

    pub reset_none : Carries Reset a stack m (Err e) stack
    unfolding execute with_saved
    reset_none = let (reason, rule) = none_over _ (sym none) _ _ (λ n. refl) in rw reason (refused rule)

  module _ {n : ℤ} {x : Item} (found : Ok (n, x) ≡ number_over_of (items_of stack m.height)) where
    tops : items_of stack m.height ≡ Number n ∷ x ∷ items_of stack (m.height - 2)
    tops = rw (below stack m.height) at (over (items_of stack m.height) (sym found))

    pub add_other : NoNumber x → Refuses Add
    unfolding execute with_number
    add_other other =
        let add : ℤ → List Item → rules.Step =
        λ k rest. rules.onward (state_of stack m) (rules.Running (a + 1)) m.status (Number (sum k n) ∷ rest) in
        refused (rw (tops, with_number) (not_number (items_of stack (m.height - 2)) _ add x other))

    pub unmark_other : (target : ℕ) → NoHandler x → Refuses (Unmark target)
    unfolding execute with_number
    unmark_other target other = refused (rw (tops, with_number) (not_handler _ _ _ x other))

    pub reset_other : NoSaved x → Refuses Reset
    unfolding execute with_number
    reset_other other = refused (rw (tops, with_number) (not_saved _ _ _ x other))

  module _ {n : ℤ} {after : List ℕ} {next : Machine} where
    pub added : {k : ℤ} → Ok (n, Number k) ≡ number_over_of (items_of stack m.height)
        → Replaces (sum k n) (a + 1) m.status stack m next after → Carries Add a stack m (Ok next) after
    unfolding execute with_number step_of
    added found put = rw (tops found, put.machine, put.items)

    pub unmarked : (target : ℕ) {h : ℕ} → Ok (n, Handler h) ≡ number_over_of (items_of stack m.height)
        → Replaces n target m.status stack m next after → Carries (Unmark target) a stack m (Ok next) after
    unfolding execute with_number with_handler step_of
    unmarked target found put = rw (tops found, put.machine, put.items)

    pub reset : {i : Status} → Ok (n, Saved i) ≡ number_over_of (items_of stack m.height)
        → Replaces n (a + 1) i stack m next after → Carries Reset a stack m (Ok next) after
    unfolding execute with_number with_saved step_of
    reset found put = rw (tops found, put.machine, put.items)
