-- What each call and each store of `emit` asks and comes to, kind by kind: from what a node of an accepted table says, and what
-- the calls on its operands left.
--
--   Reached, reached
--                    a node that was read: what it is given, and what it says
--   val_spot, val_emitted, throw_spot, throw_emitted
--                    a node with no operand
--   add_left, add_right, add_spot, add_emitted
--   seqn_left, seqn_spot, seqn_right, seqn_emitted
--   catch_left, catch_right, catch_mark, catch_unmark, catch_emitted
--   scope_set, scope_left, scope_reset, scope_emitted
--                    its operands' code, the spots of its own instructions, and the whole
--
-- Assumes nothing.
use Prim.Native.Nat.{ℕ, ◌+◌, ◌≤◌, ◌<◌}
use native.Mathlib.Omega.{arith}
use lib.IntN.{ℤ}
use lib.ListN.{length}
use lib.Seq.{length-sets}
use mathlib.Core.List.{List, [], ◌∷◌, ◌++◌}
use mathlib.Core.Path.{◌≡◌, refl, ap, ◌∙◌}
use Rattle.rules.specs.Code.{code_length, compile, target_of}
use Rattle.rules.specs.Recipe.{of_node, expression_at}
use Rattle.rules.specs.Table.{node_at}
use Rattle.rules.specs.declared.Status.{Status}
use Rattle.rules.specs.declared.Instruction.{Instruction}
use Rattle.rules.specs.declared.Instruction.TheVariants.{Push, Pop, Mark, Unmark, Set, Reset}
use Rattle.rules.specs.declared.Node.{Node}
use Rattle.rules.specs.declared.Node.TheVariants.{Val, Throw, Add, Seqn, Catch}
use Rattle.table.specs.Acceptance.{Says}
use Rattle.table.proofs.Acceptance.{says, node_below}
use Rattle.compiler.specs.Walking.{Placeable, Placed, Emittable, Emitted}
use Rattle.compiler.proofs.Operands.{Operands, operands, One}
use Rattle.compiler.proofs.Writing.{emits_val, emits_throw, emits_add, emits_seqn, emits_catch, emits_scope}

-- ---- lengths

emitted_length : {table : List ℕ} {j : ℕ} {code : List ℕ} {at next : ℕ} {code' : List ℕ} → Emitted table j code at next code'
    → length code' ≡ length code
emitted_length done = ap length done.bytes ∙ simp length-sets

placed_length : {code : List ℕ} {a : ℕ} {x : Instruction} {next : ℕ} {code' : List ℕ} → Placed code a x next code'
    → length code' ≡ length code
placed_length done = ap length done.bytes ∙ simp length-sets

-- ---- a node that was read

-- t is the measure at node j
pub record Reached (table : List ℕ) (j t : ℕ) (code : List ℕ) (at : ℕ) (node : Node) : Type 0 where
  pub measure : j ≡ t
  pub emittable : Emittable table j code at
  pub said : Says table j node
  pub operands : Operands table j node

module _ {table : List ℕ} {j t : ℕ} {code : List ℕ} {at : ℕ} {node : Node} where
  pub reached : (j ≡ t) × Emittable table j code at → {read : Node} → read ≡ node_at table j → read ≡ node
      → Reached table j t code at node
  reached here read told =
      let said : Says table j node = says here.1.node read told in
      record { measure = here.0; emittable = here.1; said = said; operands = operands node said }

  -- a part of the node's code, in a buffer of the same length
  part : Reached table j t code at node → {k : ℕ} {code' : List ℕ} {a : ℕ} → k < j → length code' ≡ length code
      → a + code_length (expression_at table k) ≤ at + code_length (expression_at table j) → (k < t) × Emittable table k code' a
  part here below same inside = (
    omega arith,
    record { node = node_below here.emittable.node below; short = omega arith; room = omega arith },
  )

  -- an instruction of the node's code
  spot : Reached table j t code at node → {code' : List ℕ} {x : Instruction} {a : ℕ} → length code' ≡ length code
      → a < at + code_length (expression_at table j) → target_of x ≤ at + code_length (expression_at table j) → Placeable code' a x
  spot here same inside near = record { room = omega arith; target = omega arith }

-- ---- a node with no operand

module _ {table : List ℕ} {j t : ℕ} {code : List ℕ} {at : ℕ} where
  module _ {n : ℤ} (here : Reached table j t code at (Val n)) where
    pub val_spot : (m : ℤ) → Placeable code at (Push m)
    val_spot m = spot here refl (omega arith) (omega arith)

    pub val_emitted : {next : ℕ} {code₁ : List ℕ} → Placed code at (Push n) next code₁ → Emitted table j code at next code₁
    unfolding of_node
    val_emitted e = record { after = omega arith; bytes = e.bytes ∙ rw here.said.expression (emits_val code at n) }

  module _ (here : Reached table j t code at Throw) where
    pub throw_spot : Placeable code at Instruction.Throw
    throw_spot = spot here refl (omega arith) (omega arith)

    pub throw_emitted : {next : ℕ} {code₁ : List ℕ} → Placed code at Instruction.Throw next code₁
        → Emitted table j code at next code₁
    unfolding of_node
    throw_emitted e = record { after = omega arith; bytes = e.bytes ∙ rw here.said.expression (emits_throw code at) }

-- ---- a node with two operands

module _ {table : List ℕ} {j t : ℕ} {code : List ℕ} {at left right : ℕ} where
  module _ (here : Reached table j t code at (Add left right)) where
    pub add_left : (left < t) × Emittable table left code at
    add_left = part here here.operands.left_below refl (omega arith)

    module _ {middle : ℕ} {code₁ : List ℕ} (first : Emitted table left code at middle code₁) where
      pub add_right : (right < t) × Emittable table right code₁ middle
      add_right = part here here.operands.right_below (emitted_length first) (omega arith)

      module _ {end : ℕ} {code₂ : List ℕ} (second : Emitted table right code₁ middle end code₂) where
        pub add_spot : Placeable code₂ end Instruction.Add
        add_spot = spot here (emitted_length second ∙ emitted_length first) (omega arith) (omega arith)

        pub add_emitted : {next : ℕ} {code₃ : List ℕ} → Placed code₂ end Instruction.Add next code₃
            → Emitted table j code at next code₃
        unfolding of_node
        add_emitted e = record {
          after = omega arith;
          bytes = e.bytes ∙ rw (second.bytes, first.bytes, here.said.expression)
              (emits_add code at _ _ middle end first.after second.after);
        }

  module _ (here : Reached table j t code at (Seqn left right)) where
    pub seqn_left : (left < t) × Emittable table left code at
    seqn_left = part here here.operands.left_below refl (omega arith)

    module _ {middle : ℕ} {code₁ : List ℕ} (first : Emitted table left code at middle code₁) where
      pub seqn_spot : Placeable code₁ middle Pop
      seqn_spot = spot here (emitted_length first) (omega arith) (omega arith)

      module _ {next : ℕ} {code₂ : List ℕ} (pop : Placed code₁ middle Pop next code₂) where
        pub seqn_right : (right < t) × Emittable table right code₂ next
        seqn_right = part here here.operands.right_below (placed_length pop ∙ emitted_length first) (omega arith)

        pub seqn_emitted : {end : ℕ} {code₃ : List ℕ} → Emitted table right code₂ next end code₃
            → Emitted table j code at end code₃
        unfolding of_node
        seqn_emitted second = record {
          after = omega arith;
          bytes = second.bytes ∙ rw (pop.after, pop.bytes, first.bytes, here.said.expression)
              (emits_seqn code at _ _ middle first.after);
        }

  module _ (here : Reached table j t code at (Catch left right)) where
    pub catch_left : (left < t) × Emittable table left code (at + 1)
    catch_left = part here here.operands.left_below refl (omega arith)

    module _ {middle : ℕ} {code₁ : List ℕ} (first : Emitted table left code (at + 1) middle code₁) where
      pub catch_right : (right < t) × Emittable table right code₁ (middle + 1)
      catch_right = part here here.operands.right_below (emitted_length first) (omega arith)

      module _ {end : ℕ} {code₂ : List ℕ} (second : Emitted table right code₁ (middle + 1) end code₂) where
        pub catch_mark : Placeable code₂ at (Mark (middle + 1))
        catch_mark = spot here (emitted_length second ∙ emitted_length first) (omega arith) (omega arith)

        pub catch_unmark : {x : Instruction} {next : ℕ} {code₃ : List ℕ} → Placed code₂ at x next code₃
            → Placeable code₃ middle (Unmark end)
        catch_unmark mark =
            spot here (placed_length mark ∙ emitted_length second ∙ emitted_length first) (omega arith) (omega arith)

        module _ {next : ℕ} {code₃ : List ℕ} (mark : Placed code₂ at (Mark (middle + 1)) next code₃) where
          pub catch_emitted : {last : ℕ} {code₄ : List ℕ} → Placed code₃ middle (Unmark end) last code₄
              → Emitted table j code at end code₄
          unfolding of_node
          catch_emitted e = record {
            after = omega arith;
            bytes = e.bytes ∙ rw (mark.bytes, second.bytes, first.bytes, here.said.expression)
                (emits_catch code at _ _ middle end first.after second.after);
          }

-- ---- a node with one operand

module _ {table : List ℕ} {j t : ℕ} {code : List ℕ} {at left : ℕ} {node : Node}
    (here : Reached table j t code at node) (one : One table j left 2) where
  pub scope_set : (i : Status) → Placeable code at (Set i)
  scope_set i = spot here refl (omega arith) (omega arith)

  module _ {i : Status} {inner : ℕ} {code₁ : List ℕ} (set : Placed code at (Set i) inner code₁) where
    pub scope_left : (left < t) × Emittable table left code₁ inner
    scope_left = part here one.left_below (placed_length set) (omega arith)

    module _ {end : ℕ} {code₂ : List ℕ} (under : Emitted table left code₁ inner end code₂) where
      pub scope_reset : Placeable code₂ end Reset
      scope_reset = spot here (emitted_length under ∙ placed_length set) (omega arith) (omega arith)

      pub scope_emitted : compile at (expression_at table j) ≡ Set i ∷ compile (at + 1) (expression_at table left) ++ (Reset ∷ [])
          → {next : ℕ} {code₃ : List ℕ} → Placed code₂ end Reset next code₃ → Emitted table j code at next code₃
      scope_emitted said e = record {
        after = omega arith;
        bytes = e.bytes ∙ rw (under.bytes, set.after, set.bytes, said) (emits_scope code at i _ end (omega arith));
      }
