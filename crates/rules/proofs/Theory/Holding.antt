-- Where an expression's instructions stand in a code.
--
--   nodes_pos           an expression has a node
--   code_length_pos     and its code an instruction
--   length_compile      the length of its code is document 01's column, summed over the nodes
--   code_length_nodes   "at most 2n - 1"
--   Holds code a e b    the code holds e's instructions from address a up to b
--   compile_holds       compiled code does, whatever stands before and after it
--
-- Assumes nothing.
use Prim.Native.Nat.{ℕ, ◌+◌, ◌*◌, ◌≤◌}
use native.Mathlib.Omega.{arith}
use lib.IntN.{ℤ}
use lib.ListN.{length, length-append}
use mathlib.Core.List.{List, [], ◌∷◌, ◌++◌, append_assoc}
use mathlib.Core.Path.{◌≡◌, refl, ◌∙◌}
use Rattle.rules.specs.Code.{code_length, compile}
use Rattle.rules.specs.Expression.{Expression, Val, Throw, Add, Seqn, Catch, Block, Unblock, nodes}
use Rattle.rules.specs.declared.Status.{Status}
use Rattle.rules.specs.declared.Status.TheVariants.{Blocked, Unblocked}
use Rattle.rules.specs.declared.Instruction.{Instruction}
use Rattle.rules.specs.declared.Instruction.TheVariants.{Push, Pop, Mark, Unmark, Set, Reset}
use Rattle.rules.proofs.Lists.{found_seam}
use Rattle.rules.proofs.Step.Order.{Has}

-- ---- sizes

pub nodes_pos : (e : Expression) → 1 ≤ nodes e
unfolding nodes
nodes_pos (Val n) = omega arith
nodes_pos Throw = omega arith
nodes_pos (Add x y) = omega arith
nodes_pos (Seqn x y) = omega arith
nodes_pos (Catch x y) = omega arith
nodes_pos (Block x) = omega arith
nodes_pos (Unblock x) = omega arith

pub code_length_pos : (e : Expression) → 1 ≤ code_length e
unfolding code_length
code_length_pos (Val n) = omega arith
code_length_pos Throw = omega arith
code_length_pos (Add x y) = omega arith
code_length_pos (Seqn x y) = omega arith
code_length_pos (Catch x y) = omega arith
code_length_pos (Block x) = omega arith
code_length_pos (Unblock x) = omega arith

pub length_compile : (a : ℕ) (e : Expression) → length (compile a e) ≡ code_length e
unfolding code_length compile
length_compile a (Val n) = refl
length_compile a Throw = refl
length_compile a (Add x y) =
    simp (length-append, length_compile a x, length_compile (a + code_length x) y)
length_compile a (Seqn x y) =
    simp (length-append, length_compile a x, length_compile (a + code_length x + 1) y) (omega arith)
length_compile a (Catch x y) =
    simp (length-append, length_compile (a + 1) x, length_compile (a + code_length x + 2) y) (omega arith)
length_compile a (Block x) = simp (length-append, length_compile (a + 1) x) (omega arith)
length_compile a (Unblock x) = simp (length-append, length_compile (a + 1) x) (omega arith)

pub code_length_nodes : (e : Expression) → code_length e + 1 ≤ 2 * nodes e
unfolding code_length nodes
code_length_nodes (Val n) = omega arith
code_length_nodes Throw = omega arith
code_length_nodes (Add x y) = omega (arith, code_length_nodes x, code_length_nodes y)
code_length_nodes (Seqn x y) = omega (arith, code_length_nodes x, code_length_nodes y)
code_length_nodes (Catch x y) = omega (arith, code_length_nodes x, code_length_nodes y)
code_length_nodes (Block x) = omega (arith, code_length_nodes x)
code_length_nodes (Unblock x) = omega (arith, code_length_nodes x)

-- ---- where instructions stand

pub data Holds (code : List Instruction) : ℕ → Expression → ℕ → Type 0 where
  val : {a : ℕ} {n : ℤ} → Has code a (Push n) → Holds code a (Val n) (a + 1)
  throw : {a : ℕ} → Has code a Instruction.Throw → Holds code a Throw (a + 1)
  add : {a b c : ℕ} {x y : Expression} → Holds code a x b → Holds code b y c → Has code c Instruction.Add
      → Holds code a (Add x y) (c + 1)
  seqn : {a b c : ℕ} {x y : Expression} → Holds code a x b → Has code b Pop → Holds code (b + 1) y c → Holds code a (Seqn x y) c
  catch : {a b c : ℕ} {x y : Expression} → Has code a (Mark (b + 1)) → Holds code (a + 1) x b → Has code b (Unmark c)
      → Holds code (b + 1) y c → Holds code a (Catch x y) c
  block : {a b : ℕ} {x : Expression} → Has code a (Set Blocked) → Holds code (a + 1) x b → Has code b Reset
      → Holds code a (Block x) (b + 1)
  unblock : {a b : ℕ} {x : Expression} → Has code a (Set Unblocked) → Holds code (a + 1) x b → Has code b Reset
      → Holds code a (Unblock x) (b + 1)

-- ---- compiled code

has : {code : List Instruction} {a : ℕ} {x : Instruction} (front back : List Instruction) → length front ≡ a
    → code ≡ front ++ x ∷ back → Has code a x
has {x = x} front back l e = record { found = rw (e, ← l) (found_seam front x back) }

-- SET i, x, RESET: what Block and Unblock have in common
scope_holds : {code : List Instruction} (i : Status) (a : ℕ) (x : Expression) (front back : List Instruction) → length front ≡ a
    → code ≡ front ++ (Set i ∷ compile (a + 1) x ++ (Reset ∷ []) ++ back)
    → ((before after : List Instruction) → length before ≡ a + 1 → code ≡ before ++ (compile (a + 1) x ++ after)
    → Holds code (a + 1) x (a + 1 + code_length x))
    → Has code a (Set i) × Holds code (a + 1) x (a + 1 + code_length x) × Has code (a + 1 + code_length x) Reset
scope_holds i a x front back l e inner =
    let first : length (front ++ Set i ∷ []) ≡ a + 1 = simp length-append (omega arith) in
    let last : length (front ++ Set i ∷ compile (a + 1) x) ≡ a + 1 + code_length x =
    simp (length-append, length_compile) (omega arith) in (
      has front (compile (a + 1) x ++ Reset ∷ back) l (e ∙ simp append_assoc),
      inner (front ++ Set i ∷ []) (Reset ∷ back) first (e ∙ simp append_assoc),
      has (front ++ Set i ∷ compile (a + 1) x) back last (e ∙ simp append_assoc),
    )

pub compile_holds : {code : List Instruction} (a : ℕ) (e : Expression) (front back : List Instruction) → length front ≡ a
    → code ≡ front ++ (compile a e ++ back) → Holds code a e (a + code_length e)
unfolding code_length compile
compile_holds a (Val n) front back l e = val (has front back l e)
compile_holds a Throw front back l e = throw (has front back l e)
compile_holds a (Add x y) front back l e =
    let b : ℕ = a + code_length x in
    let c : ℕ = b + code_length y in
    let lx : length (front ++ compile a x) ≡ b = simp (length-append, length_compile) (omega arith) in
    let ly : length (front ++ compile a x ++ compile b y) ≡ c = simp (length-append, length_compile) (omega arith) in
    let end : a + (code_length x + code_length y + 1) ≡ c + 1 = omega arith in
    rw end
    (add
    (compile_holds a x front (compile b y ++ Instruction.Add ∷ back) l (e ∙ simp append_assoc))
    (compile_holds b y (front ++ compile a x) (Instruction.Add ∷ back) lx (e ∙ simp append_assoc))
    (has (front ++ compile a x ++ compile b y) back ly (e ∙ simp append_assoc)))
compile_holds a (Seqn x y) front back l e =
    let b : ℕ = a + code_length x in
    let lx : length (front ++ compile a x) ≡ b = simp (length-append, length_compile) (omega arith) in
    let ly : length (front ++ compile a x ++ Pop ∷ []) ≡ b + 1 = simp (length-append, length_compile) (omega arith) in
    let end : a + (code_length x + code_length y + 1) ≡ b + 1 + code_length y = omega arith in
    rw end
    (seqn
    (compile_holds a x front (Pop ∷ compile (b + 1) y ++ back) l (e ∙ simp append_assoc))
    (has (front ++ compile a x) (compile (b + 1) y ++ back) lx (e ∙ simp append_assoc))
    (compile_holds (b + 1) y (front ++ compile a x ++ Pop ∷ []) back ly (e ∙ simp append_assoc)))
compile_holds {code} a (Catch x y) front back l e =
    let b : ℕ = a + 1 + code_length x in
    let handler : ℕ = a + code_length x + 2 in
    let c : ℕ = handler + code_length y in
    let mark : Instruction = Mark handler in
    let unmark : Instruction = Unmark c in
    let lx : length (front ++ mark ∷ []) ≡ a + 1 = simp length-append (omega arith) in
    let lb : length (front ++ mark ∷ compile (a + 1) x) ≡ b = simp (length-append, length_compile) (omega arith) in
    let ly : length (front ++ mark ∷ compile (a + 1) x ++ unmark ∷ []) ≡ handler =
    simp (length-append, length_compile) (omega arith) in
    let end : a + (code_length x + code_length y + 2) ≡ c = omega arith in
    let start : b + 1 ≡ handler = omega arith in
    let marked : Has code a (Mark (b + 1)) =
    rw start (has front (compile (a + 1) x ++ unmark ∷ compile handler y ++ back) l (e ∙ simp append_assoc)) in
    let unmarked : Has code b (Unmark c) =
    has (front ++ mark ∷ compile (a + 1) x) (compile handler y ++ back) lb (e ∙ simp append_assoc) in
    let handled : Holds code (b + 1) y c =
    rw start (compile_holds handler y (front ++ mark ∷ compile (a + 1) x ++ unmark ∷ []) back ly (e ∙ simp append_assoc)) in
    rw end
    (catch
    marked
    (compile_holds (a + 1) x (front ++ mark ∷ []) (unmark ∷ compile handler y ++ back) lx (e ∙ simp append_assoc))
    unmarked
    handled)
compile_holds a (Block x) front back l e =
    let (set, inner, reset) = scope_holds Blocked a x front back l e (compile_holds (a + 1) x) in
    let end : a + (code_length x + 2) ≡ a + 1 + code_length x + 1 = omega arith in
    rw end (block set inner reset)
compile_holds a (Unblock x) front back l e =
    let (set, inner, reset) = scope_holds Unblocked a x front back l e (compile_holds (a + 1) x) in
    let end : a + (code_length x + 2) ≡ a + 1 + code_length x + 1 = omega arith in
    rw end (unblock set inner reset)
