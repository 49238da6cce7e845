-- Demand 3, before bytes: proved of every expression of at most 512 nodes, in both statuses (specs/Demand.antt says what is
-- claimed).
--
--   demand   the claim
--
-- Assumes nothing.
use Prim.Native.Nat.{ℕ, suc, ◌+◌, ◌*◌, ◌≤◌}
use native.Mathlib.Nat.{add-zero}
use native.Mathlib.Omega.{arith}
use lib.ListN.{length, get_or, get_or-eq_default}
use mathlib.Core.Bool.{Bool, false}
use mathlib.Core.List.{List, [], ◌∷◌, append-nil}
use mathlib.Core.Path.{◌≡◌, refl, sym, ap, ◌∙◌}
use Rattle.rules.specs.Code.{code_length, compile}
use Rattle.rules.specs.Demand.{of_expression, most_steps, most_reached, Ends, AsksNothingFrom, Demand}
use Rattle.rules.specs.Evaluation.{Gives, quiet}
use Rattle.rules.specs.Expression.{Expression, nodes}
use Rattle.rules.specs.Limits.{node_limit}
use Rattle.rules.specs.Machine.{State, fresh, Placing}
use Rattle.rules.specs.Run.{answer}
use Rattle.rules.specs.declared.Status.{Status}
use Rattle.rules.specs.declared.End.{End}
use Rattle.rules.proofs.Step.States.{state_met}
use Rattle.rules.proofs.Theory.Along.{Finishes, number_finishes, throw_finishes, finished, agree, met_fits}
use Rattle.rules.proofs.Theory.Completeness.{bits, length_bits, Reads, none, bit, Comes, by, arrival, arrives}
use Rattle.rules.proofs.Theory.Holding.{Holds, compile_holds, length_compile, code_length_nodes}
use Rattle.rules.proofs.Theory.Path.{Path, done}
use Rattle.rules.proofs.Theory.Quiet.{silent_reads, empty, Quietly, quietly_gives}
use Rattle.std.specs.Prelude.{Result, Ok}
use Rattle.rules.proofs.Theory.Soundness.{Lands, number, throws, lands}
use Rattle.rules.specs.declared.Refusal.{Refusal}

-- ---- a placing made of a row of bits

abbrev placed : List Bool → Placing
placed row k = get_or row k false

reads_from : (placing : Placing) (row : List Bool) (r : ℕ) → ((k : ℕ) → placing (r + k) ≡ get_or row k false) → Reads placing r row
reads_from placing [] r h = none
reads_from placing (b ∷ row) r h =
    bit (rw add-zero at (h 0))
    (reads_from placing row (r + 1) (λ k. let e : r + 1 + k ≡ r + suc k = omega arith in rw e (h (suc k))))

placed_reads : (row : List Bool) → Reads (placed row) 0 row
placed_reads row = reads_from (placed row) row 0 (λ k. let e : 0 + k ≡ k = omega arith in rw e)

placed_ends : (row : List Bool) (n : ℕ) → length row ≤ n → AsksNothingFrom n (placed row)
placed_ends row n h k l = let at_the_length : length row ≤ k = omega arith in get_or-eq_default row false at_the_length

module _ (e : Expression) (small : nodes e ≤ node_limit) (i : Status) where
  compiled_held : Holds (compile 0 e) 0 e (0 + code_length e)
  compiled_held = compile_holds 0 e [] [] refl (sym (append-nil (compile 0 e)))

  at_the_length : length (compile 0 e) ≤ 0 + code_length e
  at_the_length = rw length_compile (omega arith)

  -- where the run is over
  record Finish (placing : Placing) : Type 0 where
    state : State
    end : End
    path : Path (compile 0 e) placing (nodes e) (fresh i) state
    finishes : Finishes (compile 0 e) placing state (Ok end)
    permitted : Gives e i end
    steps : state.steps + 1 ≤ 3 * nodes e
    reached : state.reached + 1 ≤ 2 * nodes e

  finish_of : {placing : Placing} → Lands (compile 0 e) placing (nodes e) e i [] (0 + code_length e) 0 0 (fresh i) → Finish placing
  finish_of (number n t r g p q path) =
      record {
        state = _;
        end = End.Number n;
        path = path;
        finishes = number_finishes at_the_length;
        permitted = g;
        steps = omega arith;
        reached = omega arith;
      }
  finish_of (throws t r g p q path) =
      record {
        state = _;
        end = End.Throw;
        path = path;
        finishes = throw_finishes;
        permitted = g;
        steps = omega arith;
        reached = omega arith;
      }

  finish : (placing : Placing) → Finish placing
  finish placing = finish_of (lands small compiled_held i [] 0 0 (omega arith))

  answered : {placing : Placing} (f : Finish placing) → of_expression e placing i ≡ answer f.state (Ok f.end)
  answered f = finished f.path f.finishes (omega (arith, f.steps))

  ends : (placing : Placing) → Ends e i (of_expression e placing i)
  unfolding most_steps most_reached
  ends placing =
      let f : Finish placing = finish placing in
      rw (answered f)
      (record {
        end = f.end;
        ended = refl;
        permitted = f.permitted;
        within_steps = omega (arith, f.steps);
        within_reached = omega (arith, f.reached);
      })

  -- ---- the end of a derivation is the end of the run that reads its row

  same_end : {placing : Placing} (v : End)
      → Comes (compile 0 e) placing (nodes e) (fresh i) (arrival v (0 + code_length e) i []) [] → (f : Finish placing)
      → ◌≡◌ {A = Result End Refusal} (Ok f.end) (Ok v)
  same_end (End.Number n) (by path reads) f = agree f.path f.finishes path (number_finishes at_the_length)
  same_end End.Throw (by path reads) f = agree f.path f.finishes path throw_finishes

  comes_to : {placing : Placing} {v : End} (d : Gives e i v) → Reads placing 0 (bits d [])
      → (of_expression e placing i).outcome ≡ Ok v
  comes_to {placing} {v} d reads =
      let f : Finish placing = finish placing in
      ap (λ a. a.outcome) (answered f) ∙ same_end v (arrives small d compiled_held [] (omega arith) [] (by done reads)) f

  meets : (v : End) → Gives e i v
      → (placing : Placing) × AsksNothingFrom (most_reached e) placing × ((of_expression e placing i).outcome ≡ Ok v)
  unfolding most_reached
  meets v d =
      let row : List Bool = bits d [] in
      (placed row, placed_ends row (most_reached e) (omega (arith, length_bits d [])), comes_to d (placed_reads row))

  only_permitted : (v : End) (placing : Placing) → (of_expression e placing i).outcome ≡ Ok v → Gives e i v
  only_permitted v placing p =
      let f : Ends e i (of_expression e placing i) = ends placing in
      let same : f.end ≡ v = cc f.ended in
      rw same at f.permitted

  short : code_length e ≤ most_reached e
  unfolding most_reached
  short = omega (arith, code_length_nodes e)

  pub demand : Demand e i
  demand =
      let q : Quietly e i (quiet e) = quietly_gives e i in
      record {
        ends = ends;
        meets = meets;
        exactly = λ v. ((λ p. only_permitted v p.0 p.1), λ d. ((meets v d).0, (meets v d).2));
        items = λ placing k s at.
            let f : Finish placing = finish placing in
            met_fits f.path f.finishes (omega arith) (state_met (compile 0 e) placing i k s at);
        column = length_compile 0 e;
        short = short;
        quietly = comes_to q.gives (silent_reads (q.silently [] empty) 0);
        quiet_given = q.gives;
      }
