-- What the compiler leaves in the code's buffer. For each kind of node, the stores that the code makes are the one store
-- of the node's instructions; the addresses b and c are those that its calls hand back.
--
--   stored          instructions, stored from address a on
--   emitted         an expression's
--   placed          one instruction, stored at address a
--   emits_val, emits_throw, emits_add, emits_seqn, emits_catch
--                   a kind of node each
--   emits_scope     SET i, x, RESET: what Block and Unblock have in common
--   emitted_front   the whole code stands in front of what was there
--
-- Assumes nothing.
use Prim.Native.Nat.{ℕ, ◌+◌, ◌*◌, ◌≤◌}
use native.Mathlib.Omega.{arith}
use lib.IntN.{ℤ}
use lib.ListN.{length, drop, length-append}
use lib.Seq.{sets, append_snoc}
use mathlib.Core.List.{List, [], ◌∷◌, ◌++◌, append-nil}
use mathlib.Core.Path.{◌≡◌, refl}
use Rattle.rules.specs.Code.{code_length, compile}
use Rattle.rules.specs.CodeBytes.{instruction_bytes, bytes_of}
use Rattle.rules.specs.Expression.{Expression, Val, Throw, Add, Seqn, Catch}
use Rattle.rules.specs.Limits.{record_bytes}
use Rattle.rules.specs.declared.Status.{Status}
use Rattle.rules.specs.declared.Instruction.{Instruction}
use Rattle.rules.specs.declared.Instruction.TheVariants.{Push, Pop, Mark, Unmark, Set, Reset}
use Rattle.rules.proofs.Theory.Holding.{length_compile}
use Rattle.rules.proofs.Bytes.CodeBytes.{length_bytes_of, length_bytes_of_compile, bytes_of_append}
use Rattle.rules.proofs.Stores.{sets_append, sets_comm, sets_front}

abbrev stored : List ℕ → ℕ → List Instruction → List ℕ
stored code a xs = sets code (record_bytes * a) (bytes_of xs)

abbrev emitted : List ℕ → ℕ → Expression → List ℕ
emitted code at e = stored code at (compile at e)

abbrev placed : List ℕ → ℕ → Instruction → List ℕ
placed code a x = sets code (record_bytes * a) (instruction_bytes x)

-- ---- runs of instructions

placed_stored : (code : List ℕ) (a : ℕ) (x : Instruction) → placed code a x ≡ stored code a (x ∷ [])
unfolding bytes_of
placed_stored code a x = rw (append-nil (instruction_bytes x))

module _ (code : List ℕ) (a : ℕ) (xs : List Instruction) (b : ℕ) (ys : List Instruction) where
  stored_append : b ≡ a + length xs → stored (stored code a xs) b ys ≡ stored code a (xs ++ ys)
  stored_append h =
      let place : record_bytes * b ≡ record_bytes * a + length (bytes_of xs) = omega (arith, length_bytes_of xs) in
      rw (bytes_of_append, sets_append, place)

  stored_comm : a + length xs ≤ b → stored (stored code b ys) a xs ≡ stored (stored code a xs) b ys
  stored_comm h =
      let apart : record_bytes * a + length (bytes_of xs) ≤ record_bytes * b = omega (arith, length_bytes_of xs) in
      rw (sets_comm code (record_bytes * a) (bytes_of xs) (record_bytes * b) (bytes_of ys) apart)

stored_three : (code : List ℕ) (a : ℕ) (xs : List Instruction) (b : ℕ) (ys : List Instruction) (c : ℕ) (zs : List Instruction)
    → b ≡ a + length xs → c ≡ b + length ys → stored (stored (stored code a xs) b ys) c zs ≡ stored code a (xs ++ ys ++ zs)
stored_three code a xs b ys c zs h k =
    let end : c ≡ a + length (xs ++ ys) = simp length-append (omega arith) in
    rw (stored_append code a xs b ys h) (stored_append code a (xs ++ ys) c zs end)

-- MARK and UNMARK are stored after the code that they stand before.
stored_late : (code : List ℕ) (a : ℕ) (x : Instruction) (xs : List Instruction) (b : ℕ) (y : Instruction) (ys : List Instruction)
    → b ≡ a + 1 + length xs
    → stored (stored (stored (stored code (a + 1) xs) (b + 1) ys) a (x ∷ [])) b (y ∷ []) ≡ stored code a (x ∷ xs ++ y ∷ ys)
stored_late code a x xs b y ys h =
    let below : a + 1 ≤ b + 1 = omega arith in
    let next : a + 1 ≤ a + 1 = omega arith in
    let mid : b ≡ a + length (x ∷ xs) = omega arith in
    let end : b + 1 ≤ b + 1 = omega arith in
    rw (
      stored_comm (stored code (a + 1) xs) a (x ∷ []) (b + 1) ys below,
      stored_comm code a (x ∷ []) (a + 1) xs next,
      stored_append code a (x ∷ []) (a + 1) xs refl,
      stored_comm (stored code a (x ∷ xs)) b (y ∷ []) (b + 1) ys end,
      stored_append (stored code a (x ∷ xs)) b (y ∷ []) (b + 1) ys refl,
    )
    (stored_append code a (x ∷ xs) b (y ∷ ys) mid)

-- ---- the kinds of nodes

module _ (code : List ℕ) (at : ℕ) where
  pub emits_val : (n : ℤ) → placed code at (Push n) ≡ emitted code at (Val n)
  unfolding compile
  emits_val n = placed_stored code at (Push n)

  pub emits_throw : placed code at Instruction.Throw ≡ emitted code at Throw
  unfolding compile
  emits_throw = placed_stored code at Instruction.Throw

  pub emits_add : (x y : Expression) (b c : ℕ) → b ≡ at + code_length x → c ≡ b + code_length y
      → placed (emitted (emitted code at x) b y) c Instruction.Add ≡ emitted code at (Add x y)
  unfolding compile
  emits_add x y b c h k =
      let mid : b ≡ at + length (compile at x) = simp length_compile h in
      let end : c ≡ b + length (compile b y) = simp length_compile k in
      rw (placed_stored, ← h) (stored_three code at (compile at x) b (compile b y) c (Instruction.Add ∷ []) mid end)

  pub emits_seqn : (x y : Expression) (b : ℕ) → b ≡ at + code_length x
      → emitted (placed (emitted code at x) b Pop) (b + 1) y ≡ emitted code at (Seqn x y)
  unfolding compile
  emits_seqn x y b h =
      let mid : b ≡ at + length (compile at x) = simp length_compile h in
      rw (placed_stored, ← h, ← append_snoc)
      (stored_three code at (compile at x) b (Pop ∷ []) (b + 1) (compile (b + 1) y) mid refl)

  pub emits_catch : (x y : Expression) (b c : ℕ) → b ≡ at + 1 + code_length x → c ≡ b + 1 + code_length y
      → placed (placed (emitted (emitted code (at + 1) x) (b + 1) y) at (Mark (b + 1))) b (Unmark c) ≡ emitted code at (Catch x y)
  unfolding compile
  emits_catch x y b c h k =
      let handler : at + code_length x + 2 ≡ b + 1 = omega arith in
      let mid : b ≡ at + 1 + length (compile (at + 1) x) = simp length_compile h in
      simp (placed_stored, handler, ← k)
      (stored_late code at (Mark (b + 1)) (compile (at + 1) x) b (Unmark c) (compile (b + 1) y) mid)

  pub emits_scope : (i : Status) (x : Expression) (b : ℕ) → b ≡ at + 1 + code_length x
      → placed (emitted (placed code at (Set i)) (at + 1) x) b Reset ≡ stored code at (Set i ∷ compile (at + 1) x ++ (Reset ∷ []))
  emits_scope i x b h =
      let end : b ≡ at + 1 + length (compile (at + 1) x) = simp length_compile h in
      simp placed_stored (stored_three code at (Set i ∷ []) (at + 1) (compile (at + 1) x) b (Reset ∷ []) refl end)

-- ---- the whole code

pub emitted_front : (code : List ℕ) (e : Expression) → record_bytes * code_length e ≤ length code
    → emitted code 0 e ≡ bytes_of (compile 0 e) ++ drop (record_bytes * code_length e) code
emitted_front code e h =
    let size : length (bytes_of (compile 0 e)) ≡ record_bytes * code_length e = length_bytes_of_compile 0 e in
    let fits : length (bytes_of (compile 0 e)) ≤ length code = omega arith in
    rw size at (sets_front code (bytes_of (compile 0 e)) fits)
