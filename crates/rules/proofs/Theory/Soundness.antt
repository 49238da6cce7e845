-- 001's soundness (its Proposition 4), with counts: whatever the placing, code that holds e comes from its first address to a
-- number above the stack it began with, or to unwinding that stack, in the status it began with, and the rules permit that end.
--
--   Struck       an instruction is carried out, or cut, and then every expression may give Throw
--   Lands        where a run of e's instructions comes to, and the bounds: a number within 3n - 2 steps, a throw within 3n - 1
--   lands        every placing lands
--
-- Assumes nothing.
use Prim.Native.Nat.{ℕ, suc, ◌+◌, ◌*◌, ◌≤◌}
use native.Mathlib.Omega.{arith}
use lib.IntN.{ℤ}
use lib.ListN.{length}
use mathlib.Core.Bool.{Bool, true, false}
use mathlib.Core.List.{List, ◌∷◌}
use mathlib.Core.Path.{◌≡◌, refl}
use Rattle.rules.specs.Evaluation.{Gives, VAL, THROW, ADD1, ADD2, ADD3, SEQN1, SEQN2, CATCH1, CATCH2, BLOCK, UNBLOCK, INT}
use Rattle.rules.specs.Expression.{Expression, Val, Throw, Add, Seqn, Catch, nodes}
use Rattle.rules.specs.Limits.{item_limit}
use Rattle.rules.specs.Machine.{State, Placing, cuts, execute, with_number, with_handler, with_saved}
use Rattle.rules.specs.Number.{sum}
use Rattle.rules.specs.declared.Status.{Status}
use Rattle.rules.specs.declared.Status.TheVariants.{Blocked, Unblocked}
use Rattle.rules.specs.declared.Instruction.{Instruction}
use Rattle.rules.specs.declared.Item.{Item}
use Rattle.rules.specs.declared.Item.TheVariants.{Number, Handler, Saved}
use Rattle.rules.specs.declared.End.{End}
use Rattle.rules.proofs.Theory.Holding.{nodes_pos, Holds, val, throw, add, seqn, catch, block, unblock}
use Rattle.rules.proofs.Step.Order.{running, unwinding, Has}
use Rattle.rules.proofs.Theory.Path.{Path, done, ◌▸◌, ◌▹◌, go, cut, pushes, drop, restore, handle}

data Struck (i : Status) (asked : Bool) : Type 0 where
  calm : cuts i asked ≡ false → Struck i asked
  struck : ((e : Expression) → Gives e i End.Throw) → cuts i asked ≡ true → Struck i asked

strikes : (i : Status) (asked : Bool) → Struck i asked
unfolding cuts
strikes Blocked asked = calm refl
strikes Unblocked true = struck (λ e. INT) refl
strikes Unblocked false = calm refl

module _ (code : List Instruction) (placing : Placing) (room : ℕ) where
  pub data Lands (e : Expression) (i : Status) (s : List Item) (b t r : ℕ) (from : State) : Type 0 where
    number : (n : ℤ) (t' r' : ℕ) → Gives e i (End.Number n) → t' + 2 ≤ t + 3 * nodes e → r' + 1 ≤ r + 2 * nodes e
        → Path code placing room from (running b i (Number n ∷ s) t' r') → Lands e i s b t r from
    throws : (t' r' : ℕ) → Gives e i End.Throw → t' + 1 ≤ t + 3 * nodes e → r' + 1 ≤ r + 2 * nodes e
        → Path code placing room from (unwinding i s t' r') → Lands e i s b t r from

module _ {code : List Instruction} {placing : Placing} {room : ℕ} (small : room ≤ item_limit) where
  -- ---- the handler of a Catch, after x gave Throw

  handler_lands : {x y : Expression} {i : Status} {s : List Item} {a b t r t' r' : ℕ} {from : State} → Gives x i End.Throw
      → t' ≤ t + 3 * nodes x + 2 → r' ≤ r + 2 * nodes x + 1 → Path code placing room from (running a i s t' r')
      → Lands code placing room y i s b t' r' (running a i s t' r') → Lands code placing room (Catch x y) i s b t r from
  unfolding nodes
  handler_lands g p q path (number n t'' r'' g' p' q' path') =
      number n t'' r'' (CATCH2 g g') (omega arith) (omega arith) (path ▹ path')
  handler_lands g p q path (throws t'' r'' g' p' q' path') = throws t'' r'' (CATCH2 g g') (omega arith) (omega arith) (path ▹ path')

  -- ---- SET j, x, RESET: what Block and Unblock have in common

  module _ {e x : Expression} {i j : Status} {s : List Item} {a b t r : ℕ} (rule : (v : End) → Gives x j v → Gives e i v)
      (size : nodes e ≡ nodes x + 1) (set : Has code a (Instruction.Set j)) (reset : Has code b Instruction.Reset)
      (f : length s + nodes e ≤ room) where
    reset_lands : Path code placing room (running a i s t r) (running (a + 1) j (Saved i ∷ s) (t + 1) (r + 1))
        → Lands code placing room x j (Saved i ∷ s) b (t + 1) (r + 1) (running (a + 1) j (Saved i ∷ s) (t + 1) (r + 1))
        → Lands code placing room e i s (b + 1) t r (running a i s t r)
    unfolding execute with_number with_saved
    reset_lands path (throws t' r' g p q path') =
        let f₀ : length s ≤ room = omega arith in
        throws (t' + 1) r' (rule End.Throw g) (omega arith) (omega arith) (path ▹ path' ▹ restore f₀ ▸ done)
    reset_lands path (number n t' r' g p q path') =
        let f₀ : length s ≤ room = omega arith in
        let f₁ : suc (length s) ≤ room = omega arith in
        let f₂ : suc (suc (length s)) ≤ room = omega (arith, nodes_pos x) in
        elim (strikes j (placing r')) [
          | calm c ↦ number n (t' + 1) (r' + 1) (rule (End.Number n) g) (omega arith) (omega arith)
              (path ▹ path' ▹ go reset c refl f₁ ▸ done)
          | struck int c ↦ throws (t' + 1 + 1 + 1) (r' + 1) (rule End.Throw (int x)) (omega arith) (omega arith)
              (path ▹ path' ▹ cut reset c f₂ ▸ drop f₁ ▸ restore f₀ ▸ done)
        ]

    scope_lands : Lands code placing room x j (Saved i ∷ s) b (t + 1) (r + 1) (running (a + 1) j (Saved i ∷ s) (t + 1) (r + 1))
        → Lands code placing room e i s (b + 1) t r (running a i s t r)
    unfolding execute
    scope_lands inner =
        let f₀ : length s ≤ room = omega arith in
        let f₁ : suc (length s) ≤ room = omega arith in
        elim (strikes i (placing r)) [
          | calm c ↦ reset_lands (pushes small set c refl f₁ ▸ done) inner
          | struck int c ↦ throws (t + 1) (r + 1) (int e) (omega arith) (omega arith) (cut set c f₀ ▸ done)
        ]

  -- ---- every expression

  pub lands : {a b : ℕ} {e : Expression} → Holds code a e b → (i : Status) (s : List Item) (t r : ℕ) → length s + nodes e ≤ room
      → Lands code placing room e i s b t r (running a i s t r)
  unfolding nodes execute with_number with_handler with_saved
  lands (val {n = n} h) i s t r f =
      let f₀ : length s ≤ room = omega arith in
      let f₁ : suc (length s) ≤ room = omega arith in
      elim (strikes i (placing r)) [
        | calm c ↦ number n (t + 1) (r + 1) VAL (omega arith) (omega arith) (pushes small h c refl f₁ ▸ done)
        | struck int c ↦ throws (t + 1) (r + 1) (int (Val n)) (omega arith) (omega arith) (cut h c f₀ ▸ done)
      ]
  lands (throw h) i s t r f =
      let f₀ : length s ≤ room = omega arith in
      elim (strikes i (placing r)) [
        | calm c ↦ throws (t + 1) (r + 1) THROW (omega arith) (omega arith) (go h c refl f₀ ▸ done)
        | struck int c ↦ throws (t + 1) (r + 1) (int Throw) (omega arith) (omega arith) (cut h c f₀ ▸ done)
      ]
  lands (add {x = x} {y = y} hx hy h) i s t r f =
      let f₀ : length s ≤ room = omega arith in
      let f₁ : suc (length s) ≤ room = omega arith in
      let f₂ : suc (suc (length s)) ≤ room = omega (arith, nodes_pos x) in
      elim (lands hx i s t r (omega arith)) [
        | throws t' r' g p q path ↦ throws t' r' (ADD2 g) (omega arith) (omega arith) path
        | number n t' r' g p q path ↦ elim (lands hy i (Number n ∷ s) t' r' (omega (arith, nodes_pos x))) [
          | throws t'' r'' g' p' q' path' ↦ throws (t'' + 1) r'' (ADD3 g g') (omega arith) (omega arith)
              (path ▹ path' ▹ drop f₀ ▸ done)
          | number m t'' r'' g' p' q' path' ↦ elim (strikes i (placing r'')) [
            | calm c ↦ number (sum n m) (t'' + 1) (r'' + 1) (ADD1 g g') (omega arith) (omega arith)
                (path ▹ path' ▹ go h c refl f₁ ▸ done)
            | struck int c ↦ throws (t'' + 1 + 1 + 1) (r'' + 1) (int (Add x y)) (omega arith) (omega arith)
                (path ▹ path' ▹ cut h c f₂ ▸ drop f₁ ▸ drop f₀ ▸ done)
          ]
        ]
      ]
  lands (seqn {x = x} {y = y} hx h hy) i s t r f =
      let f₀ : length s ≤ room = omega arith in
      let f₁ : suc (length s) ≤ room = omega arith in
      elim (lands hx i s t r (omega arith)) [
        | throws t' r' g p q path ↦ throws t' r' (SEQN2 g) (omega arith) (omega arith) path
        | number n t' r' g p q path ↦ elim (strikes i (placing r')) [
          | struck int c ↦ throws (t' + 1 + 1) (r' + 1) (int (Seqn x y)) (omega arith) (omega arith)
              (path ▹ cut h c f₁ ▸ drop f₀ ▸ done)
          | calm c ↦ elim (lands hy i s (t' + 1) (r' + 1) (omega arith)) [
            | throws t'' r'' g' p' q' path' ↦
                throws t'' r'' (SEQN1 g g') (omega arith) (omega arith) (path ▹ go h c refl f₀ ▸ path')
            | number m t'' r'' g' p' q' path' ↦ number m t'' r'' (SEQN1 g g') (omega arith) (omega arith)
                (path ▹ go h c refl f₀ ▸ path')
          ]
        ]
      ]
  lands (catch {b = b} {x = x} {y = y} mark hx unmark hy) i s t r f =
      let f₀ : length s ≤ room = omega arith in
      let f₁ : suc (length s) ≤ room = omega arith in
      let f₂ : suc (suc (length s)) ≤ room = omega (arith, nodes_pos x) in
      elim (strikes i (placing r)) [
        | struck int c ↦ throws (t + 1) (r + 1) (int (Catch x y)) (omega arith) (omega arith) (cut mark c f₀ ▸ done)
        | calm c ↦ elim (lands hx i (Handler (b + 1) ∷ s) (t + 1) (r + 1) (omega (arith, nodes_pos y))) [
          | throws t' r' g p q path ↦
              handler_lands g (omega arith) (omega arith) (pushes small mark c refl f₁ ▸ path ▹ handle f₀ ▸ done)
              (lands hy i s (t' + 1) r' (omega arith))
          | number n t' r' g p q path ↦ elim (strikes i (placing r')) [
            | calm c' ↦ number n (t' + 1) (r' + 1) (CATCH1 g) (omega arith) (omega arith)
                (pushes small mark c refl f₁ ▸ path ▹ go unmark c' refl f₁ ▸ done)
            | struck int c' ↦
                handler_lands (int x) (omega arith) (omega arith)
                (pushes small mark c refl f₁ ▸ path ▹ cut unmark c' f₂ ▸ drop f₁ ▸ handle f₀ ▸ done)
                (lands hy i s (t' + 1 + 1 + 1) (r' + 1) (omega arith))
          ]
        ]
      ]
  lands (block set hx reset) i s t r f =
      scope_lands (λ v g. BLOCK g) refl set reset f (lands hx Blocked (Saved i ∷ s) (t + 1) (r + 1) (omega arith))
  lands (unblock set hx reset) i s t r f =
      scope_lands (λ v g. UNBLOCK g) refl set reset f (lands hx Unblocked (Saved i ∷ s) (t + 1) (r + 1) (omega arith))
