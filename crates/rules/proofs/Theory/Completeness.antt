-- 001's completeness (its Proposition 3): each end that the rules permit has a row of bits, and code that holds e comes to that
-- end under every placing that reads the row.
--
--   bits d rest       the row of a derivation, one bit for each instruction that its run reaches, and then `rest`
--   length_bits       at most 2n - 1 of them
--   Reads             a placing reads a row of bits from some number reached on
--   Comes             a run has come to a state, with a row still to be read
--   arrives           the run comes to the end that was derived
--
-- Assumes nothing.
use Prim.Native.Nat.{ℕ, suc, ◌+◌, ◌*◌, ◌≤◌}
use native.Mathlib.Omega.{arith}
use lib.ListN.{length}
use mathlib.Core.Bool.{Bool, true, false}
use mathlib.Core.List.{List, [], ◌∷◌}
use mathlib.Core.Path.{◌≡◌, refl}
use Rattle.rules.specs.Evaluation.{Gives, VAL, THROW, ADD1, ADD2, ADD3, SEQN1, SEQN2, CATCH1, CATCH2, BLOCK, UNBLOCK, INT}
use Rattle.rules.specs.Expression.{Expression, nodes}
use Rattle.rules.specs.Limits.{item_limit}
use Rattle.rules.specs.Machine.{State, Placing, cuts, execute, with_number, with_handler, with_saved}
use Rattle.rules.specs.declared.Status.{Status}
use Rattle.rules.specs.declared.Status.TheVariants.{Blocked, Unblocked}
use Rattle.rules.specs.declared.Instruction.{Instruction}
use Rattle.rules.specs.declared.Item.{Item}
use Rattle.rules.specs.declared.Item.TheVariants.{Number, Handler, Saved}
use Rattle.rules.specs.declared.End.{End}
use Rattle.rules.proofs.Theory.Holding.{nodes_pos, Holds, val, throw, add, seqn, catch, block, unblock}
use Rattle.rules.proofs.Step.Order.{running, unwinding, Has}
use Rattle.rules.proofs.Theory.Path.{Goes, Path, done, ◌▸◌, ◌▹◌, go, cut, pushes, drop, restore, handle}

-- ---- rows of bits

-- RESET is reached if x gave a number
unfoldable pub reset_bits : End → List Bool → List Bool
reset_bits (End.Number n) rest = false ∷ rest
reset_bits End.Throw rest = rest

unfoldable pub bits : {e : Expression} {i : Status} {v : End} → Gives e i v → List Bool → List Bool
bits VAL rest = false ∷ rest
bits THROW rest = false ∷ rest
bits (ADD1 x y) rest = bits x (bits y (false ∷ rest))
bits (ADD2 x) rest = bits x rest
bits (ADD3 x y) rest = bits x (bits y rest)
bits (SEQN1 x y) rest = bits x (false ∷ bits y rest)
bits (SEQN2 x) rest = bits x rest
bits (CATCH1 x) rest = false ∷ bits x (false ∷ rest)
bits (CATCH2 x y) rest = false ∷ bits x (bits y rest)
bits (BLOCK {v = v} x) rest = false ∷ bits x (reset_bits v rest)
bits (UNBLOCK {v = v} x) rest = false ∷ bits x (reset_bits v rest)
bits INT rest = true ∷ rest

length_reset_bits : (v : End) (rest : List Bool) → length (reset_bits v rest) ≤ length rest + 1
unfolding reset_bits
length_reset_bits (End.Number n) rest = omega arith
length_reset_bits End.Throw rest = omega arith

pub length_bits : {e : Expression} {i : Status} {v : End} (d : Gives e i v) (rest : List Bool)
    → length (bits d rest) + 1 ≤ length rest + 2 * nodes e
unfolding bits nodes
length_bits VAL rest = omega arith
length_bits THROW rest = omega arith
length_bits (ADD1 x y) rest = omega (arith, length_bits x (bits y (false ∷ rest)), length_bits y (false ∷ rest))
length_bits (ADD2 x) rest = omega (arith, length_bits x rest)
length_bits (ADD3 x y) rest = omega (arith, length_bits x (bits y rest), length_bits y rest)
length_bits (SEQN1 x y) rest = omega (arith, length_bits x (false ∷ bits y rest), length_bits y rest)
length_bits (SEQN2 x) rest = omega (arith, length_bits x rest)
length_bits (CATCH1 x) rest = omega (arith, length_bits x (false ∷ rest))
length_bits (CATCH2 x y) rest = omega (arith, length_bits x (bits y rest), length_bits y rest)
length_bits (BLOCK {v = v} x) rest = omega (arith, length_bits x (reset_bits v rest), length_reset_bits v rest)
length_bits (UNBLOCK {v = v} x) rest = omega (arith, length_bits x (reset_bits v rest), length_reset_bits v rest)
length_bits (INT {e = e}) rest = omega (arith, nodes_pos e)

-- ---- placings that read them

pub data Reads (placing : Placing) : ℕ → List Bool → Type 0 where
  none : {r : ℕ} → Reads placing r []
  bit : {r : ℕ} {b : Bool} {rest : List Bool} → placing r ≡ b → Reads placing (r + 1) rest → Reads placing r (b ∷ rest)

unasked_uncut : (i : Status) {asked : Bool} → asked ≡ false → cuts i asked ≡ false
unfolding cuts
unasked_uncut Blocked e = refl
unasked_uncut Unblocked e = e

-- ---- how far a run has come: `u` is the state but for the counts

module _ (code : List Instruction) (placing : Placing) (room : ℕ) where
  pub data Comes (from : State) (u : ℕ → ℕ → State) (row : List Bool) : Type 0 where
    by : {t r : ℕ} → Path code placing room from (u t r) → Reads placing r row → Comes from u row

module _ {code : List Instruction} {placing : Placing} {room : ℕ} {from : State} {u w : ℕ → ℕ → State} (row : List Bool) where
  -- an instruction carried out
  carry : ((t r : ℕ) → placing r ≡ false → Goes code placing room (u t r) (w (t + 1) (r + 1)))
      → Comes code placing room from u (false ∷ row) → Comes code placing room from w row
  carry g (by {t = t} {r = r} path (bit e reads)) = by (path ▹ g t r e ▸ done) reads

  -- an item removed in unwinding
  undo : ((t r : ℕ) → Goes code placing room (u t r) (w (t + 1) r))
      → Comes code placing room from u row → Comes code placing room from w row
  undo g (by {t = t} {r = r} path reads) = by (path ▹ g t r ▸ done) reads

-- the first instruction of an expression
first_instruction : {code : List Instruction} {a b : ℕ} {e : Expression} → Holds code a e b → (x : Instruction) × Has code a x
first_instruction (val {n = n} h) = (Instruction.Push n, h)
first_instruction (throw h) = (Instruction.Throw, h)
first_instruction (add hx hy h) = first_instruction hx
first_instruction (seqn hx h hy) = first_instruction hx
first_instruction (catch {b = b} mark hx unmark hy) = (Instruction.Mark (b + 1), mark)
first_instruction (block set hx reset) = (Instruction.Set Blocked, set)
first_instruction (unblock set hx reset) = (Instruction.Set Unblocked, set)

-- ---- every derivation

abbrev pub arrival : End → ℕ → Status → List Item → ℕ → ℕ → State
arrival (End.Number n) b i s = running b i (Number n ∷ s)
arrival End.Throw b i s = unwinding i s

module _ {code : List Instruction} {placing : Placing} {room : ℕ} {from : State} (small : room ≤ item_limit) where
  recall_arrives : {a b : ℕ} {e : Expression} {s : List Item} (row : List Bool) → Holds code a e b → length s ≤ room
      → Comes code placing room from (running a Unblocked s) (true ∷ row)
      → Comes code placing room from (unwinding Unblocked s) row
  unfolding cuts
  recall_arrives row h f (by path (bit e reads)) = by (path ▹ cut (first_instruction h).1 e f ▸ done) reads

  -- RESET after a number, a saved status restored after a throw
  reset_arrives : (v : End) (i j : Status) (s : List Item) (row : List Bool) {b : ℕ}
      → Has code b Instruction.Reset → suc (length s) ≤ room
      → Comes code placing room from (arrival v b j (Saved i ∷ s)) (reset_bits v row)
      → Comes code placing room from (arrival v (b + 1) i s) row
  unfolding reset_bits execute with_number with_saved
  reset_arrives (End.Number n) i j s row reset f p = carry row (λ t r e. go reset (unasked_uncut j e) refl f) p
  reset_arrives End.Throw i j s row reset f p = let f₀ : length s ≤ room = omega arith in undo row (λ t r. restore f₀) p

  -- SET j, x, RESET: what Block and Unblock have in common
  scope_arrives : (v : End) (i j : Status) (s : List Item) (inside row : List Bool) {a b : ℕ}
      → Has code a (Instruction.Set j) → Has code b Instruction.Reset → suc (length s) ≤ room
      → (Comes code placing room from (running (a + 1) j (Saved i ∷ s)) inside
      → Comes code placing room from (arrival v b j (Saved i ∷ s)) (reset_bits v row))
      → Comes code placing room from (running a i s) (false ∷ inside)
      → Comes code placing room from (arrival v (b + 1) i s) row
  unfolding execute
  scope_arrives v i j s inside row set reset f inner p =
      reset_arrives v i j s row reset f (inner (carry inside (λ t r e. pushes small set (unasked_uncut i e) refl f) p))

  pub arrives : {e : Expression} {i : Status} {v : End} (d : Gives e i v) {a b : ℕ} → Holds code a e b
      → (s : List Item) → length s + nodes e ≤ room
      → (row : List Bool) → Comes code placing room from (running a i s) (bits d row)
      → Comes code placing room from (arrival v b i s) row
  unfolding nodes bits execute with_number with_handler with_saved
  arrives (VAL {i = i}) (val h) s f row p =
      let f₁ : suc (length s) ≤ room = omega arith in
      carry row (λ t r e. pushes small h (unasked_uncut i e) refl f₁) p
  arrives (THROW {i = i}) (throw h) s f row p =
      let f₀ : length s ≤ room = omega arith in
      carry row (λ t r e. go h (unasked_uncut i e) refl f₀) p
  arrives (ADD1 {x = x} {i = i} {n = n} dx dy) (add hx hy h) s f row p =
      let f₁ : suc (length s) ≤ room = omega arith in
      carry row (λ t r e. go h (unasked_uncut i e) refl f₁)
      (arrives dy hy (Number n ∷ s) (omega (arith, nodes_pos x)) (false ∷ row)
      (arrives dx hx s (omega arith) (bits dy (false ∷ row)) p))
  arrives (ADD2 dx) (add hx hy h) s f row p = arrives dx hx s (omega arith) row p
  arrives (ADD3 {x = x} {n = n} dx dy) (add hx hy h) s f row p =
      let f₀ : length s ≤ room = omega arith in
      undo row (λ t r. drop f₀)
      (arrives dy hy (Number n ∷ s) (omega (arith, nodes_pos x)) row
      (arrives dx hx s (omega arith) (bits dy row) p))
  arrives (SEQN1 {i = i} dx dy) (seqn hx h hy) s f row p =
      let f₀ : length s ≤ room = omega arith in
      arrives dy hy s (omega arith) row
      (carry (bits dy row) (λ t r e. go h (unasked_uncut i e) refl f₀)
      (arrives dx hx s (omega arith) (false ∷ bits dy row) p))
  arrives (SEQN2 dx) (seqn hx h hy) s f row p = arrives dx hx s (omega arith) row p
  arrives (CATCH1 {y = y} {i = i} dx) (catch {b = b} mark hx unmark hy) s f row p =
      let f₁ : suc (length s) ≤ room = omega arith in
      carry row (λ t r e. go unmark (unasked_uncut i e) refl f₁)
      (arrives dx hx (Handler (b + 1) ∷ s) (omega (arith, nodes_pos y)) (false ∷ row)
      (carry (bits dx (false ∷ row)) (λ t r e. pushes small mark (unasked_uncut i e) refl f₁) p))
  arrives (CATCH2 {y = y} {i = i} dx dy) (catch {b = b} mark hx unmark hy) s f row p =
      let f₀ : length s ≤ room = omega arith in
      let f₁ : suc (length s) ≤ room = omega arith in
      arrives dy hy s (omega arith) row
      (undo (bits dy row) (λ t r. handle f₀)
      (arrives dx hx (Handler (b + 1) ∷ s) (omega (arith, nodes_pos y)) (bits dy row)
      (carry (bits dx (bits dy row)) (λ t r e. pushes small mark (unasked_uncut i e) refl f₁) p)))
  arrives (BLOCK {i = i} {v = v} dx) (block set hx reset) s f row p =
      scope_arrives v i Blocked s (bits dx (reset_bits v row)) row set reset (omega arith)
      (λ q. arrives dx hx (Saved i ∷ s) (omega arith) (reset_bits v row) q) p
  arrives (UNBLOCK {i = i} {v = v} dx) (unblock set hx reset) s f row p =
      scope_arrives v i Unblocked s (bits dx (reset_bits v row)) row set reset (omega arith)
      (λ q. arrives dx hx (Saved i ∷ s) (omega arith) (reset_bits v row) q) p
  arrives INT h s f row p = recall_arrives row h (omega arith) p
