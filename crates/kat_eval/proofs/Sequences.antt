-- The parts of a `seq`, one after another.
use Rattle.std.proofs.Common.{◌≡◌, ◌∙◌, ℕ, suc, ◌+◌, ◌<◌, ◌≤◌, List, [], ◌∷◌, length, map, take, drop, get_or, Option, refl, ap, sym, subst, arith}
use Rattle.std.proofs.Math.Seq.{drop-cons}
use Rattle.std.proofs.lemmas.List.Sums.{sum-map, sum_by_more, sum_by_more_le}
use Rattle.std.specs.Prelude.{sum, sum_by}
use Rattle.kat_value.specs.declared.value.Value.{Value}
use Rattle.kat_ast.specs.Spec.{Spec}
use Rattle.kat_ast.specs.declared.stm.Stm.{Stm}
use Rattle.kat_ast.specs.declared.stm.Stm.TheOpen.{Seq}
use Rattle.kat_ast.specs.declared.stm.Stm.TheVariants.{Seq as SeqStm}
use Rattle.kat_ast.specs.declared.stm.Stm.TheViews.{outs-Seq}
use Rattle.kat_ast.specs.Statements.{trees_of_stm, trees_of_stms}
use Rattle.kat_syntax.specs.Machine.{Progress}
use Rattle.kat_syntax.specs.Evaluation.{Locals}
use Rattle.kat_syntax.specs.Outcomes.{Outcome, Done, StmSite, then_do, inside}
use Rattle.kat_syntax.specs.Meaning.{Calls, Part, part_of_stm, in_sequence, meaning}
use Rattle.kat_syntax.specs.MeaningLaws.{StatementsByParts}
use Rattle.kat_syntax.specs.Cycle.{call_of}
use Rattle.kat_eval.specs.declared.running.Running.{Running}
use Rattle.kat_eval.specs.declared.running.StmEnd.{StmEnd}
use Rattle.kat_eval.specs.declared.running.StmEnd.TheVariants.{Done as DoneEnd, Stuck as StuckEnd}
use Rattle.kat_eval.specs.Running.{progress_of, as_outcome, IsBelow, HasRun, IsInside}
use Rattle.kat_eval.proofs.Parts.{IsNotDone, meaning_of_layer, trees_of_layer, below_more, stopped}

-- a part stands in its place in a `seq`
pub seq_trees : (parts : List Stm) (k : ℕ) (s : Stm) → k < length parts → s ≡ get_or parts k s →
    2 + trees_of_stms (take k parts) + trees_of_stm s ≤ trees_of_stm (SeqStm parts)
seq_trees parts k s within is =
    let most : sum_by trees_of_stm (take k parts) + trees_of_stm (get_or parts k s) ≤ sum_by trees_of_stm parts = sum_by_more_le trees_of_stm parts k s within in
    omega (
      arith,
      most,
      ap trees_of_stm is,
      sum-map trees_of_stm (take k parts),
      sum-map trees_of_stm parts,
      trees_of_layer (SeqStm parts) (Seq parts) (outs-Seq parts),
    )

module _ (spec : Spec) (locals : Locals) (old : Running) (parts : List Stm) where
  abbrev part : ℕ → Stm → Part
  part depth = part_of_stm spec.decls (call_of spec.decls depth)

  -- what is left to do: the parts that are left, or nothing behind the last
  abbrev pub rest_does : ℕ → List Stm → ℕ → StmEnd → Running → Outcome StmSite
  rest_does depth [] at last now = as_outcome last (progress_of now)
  rest_does depth (s ∷ rest) at last now = in_sequence at (map (part depth) (s ∷ rest)) locals (progress_of now)

  -- the trees up to a place
  abbrev pub trees_to : ℕ → ℕ
  trees_to k = 2 + trees_of_stms (take k parts)

  -- how far a `seq` has come: it does what is left
  pub record SoFar (last : StmEnd) (now : Running) (k : ℕ) : Type 0 where
    pub meaning :
        (depth : ℕ) → old.left ≤ depth →
        meaning spec.decls (call_of spec.decls depth) (SeqStm parts) locals (progress_of old)
        ≡ rest_does depth (drop k parts) (trees_to k) last now
    pub left : now.left ≤ old.left
    pub quiet : IsBelow 0 0 last

  all_left : (depth : ℕ) (ss : List Stm) (now : Running) → in_sequence 2 (map (part depth) ss) locals (progress_of now) ≡ rest_does depth ss 2 StuckEnd now
  all_left depth [] now = refl
  all_left depth (s ∷ ss) now = refl

  pub begins : SoFar StuckEnd old 0
  begins = record {
    meaning = λ depth enough.
        meaning_of_layer spec.decls (call_of spec.decls depth) (SeqStm parts) (Seq parts) (outs-Seq parts) locals (progress_of old)
        ∙ all_left depth parts old;
    left = omega arith;
    quiet = tt;
  }

  -- the part at a place, and those behind it
  pub part_here : (items : List Stm) (k : ℕ) (s : Stm) → items ≡ parts → k < length items → s ≡ get_or items k s → drop k parts ≡ s ∷ drop (suc k) parts
  part_here items k s same within is =
      ap (drop k) (sym same) ∙ drop-cons items k s within ∙ ap (λ f. f ∷ drop (suc k) items) (sym is) ∙ ap (λ fs. s ∷ drop (suc k) fs) same

  module _ (law : StatementsByParts) (last : StmEnd) (now : Running) (k : ℕ) (so : SoFar last now k) (s : Stm) (here : drop k parts ≡ s ∷ drop (suc k) parts) (within : k < length parts) (is : s ≡ get_or parts k s) where
    unrolled : (depth : ℕ) → old.left ≤ depth →
        meaning spec.decls (call_of spec.decls depth) (SeqStm parts) locals (progress_of old)
        ≡ in_sequence (trees_to k) (map (part depth) (s ∷ drop (suc k) parts)) locals (progress_of now)
    unrolled depth enough = so.meaning depth enough ∙ ap (λ rest. rest_does depth rest (trees_to k) last now) here

    one_done : (depth : ℕ) (rest : List Stm) (at : ℕ) (v : Value) (next : Running) → meaning spec.decls (call_of spec.decls depth) s locals (progress_of now) ≡ Done v (progress_of next) →
        in_sequence at (map (part depth) (s ∷ rest)) locals (progress_of now) ≡ rest_does depth rest (at + (part depth s).trees) (DoneEnd v) next
    one_done depth [] at v next done = ap (inside at) done
    one_done depth (t ∷ rest) at v next done =
        ap (λ o. then_do (inside at o) (λ value after. in_sequence (at + (part depth s).trees) (map (part depth) (t ∷ rest)) locals after)) done

    one_stopped : (depth : ℕ) (rest : List Stm) (at : ℕ) (end : StmEnd) (next : Running) → meaning spec.decls (call_of spec.decls depth) s locals (progress_of now) ≡ as_outcome end (progress_of next) →
        IsNotDone end → in_sequence at (map (part depth) (s ∷ rest)) locals (progress_of now) ≡ inside at (as_outcome end (progress_of next))
    one_stopped depth [] at end next ended not_done = ap (inside at) ended
    one_stopped depth (t ∷ rest) at end next ended not_done =
        ap (λ o. then_do (inside at o) (λ value after. in_sequence (at + (part depth s).trees) (map (part depth) (t ∷ rest)) locals after)) ended
        ∙ stopped end (progress_of next) at (λ value after. in_sequence (at + (part depth s).trees) (map (part depth) (t ∷ rest)) locals after) not_done

    longer : trees_of_stms (take (suc k) parts) ≡ trees_of_stms (take k parts) + trees_of_stm s
    longer =
        let one : suc k ≡ k + 1 = omega arith in
        ap (λ j. trees_of_stms (take j parts)) one
        ∙ sum-map trees_of_stm (take (k + 1) parts)
        ∙ sum_by_more trees_of_stm parts k s within
        ∙ ap (λ n. sum_by trees_of_stm (take k parts) + n) (ap trees_of_stm (sym is))
        ∙ ap (λ n. n + trees_of_stm s) (sym (sum-map trees_of_stm (take k parts)))

    pub goes_on : (v : Value) (next : Running) → HasRun spec s locals now next (DoneEnd v) → SoFar (DoneEnd v) next (suc k)
    goes_on v next ran = record {
      meaning = λ depth enough.
          unrolled depth enough
          ∙ one_done depth (drop (suc k) parts) (trees_to k) v next (ran.meaning depth (omega (arith, so.left, enough)))
          ∙ ap (λ n. rest_does depth (drop (suc k) parts) n (DoneEnd v) next)
          (let trees : (part depth s).trees ≡ trees_of_stm s = law.count spec.decls (call_of spec.decls depth) s in omega (arith, trees, longer));
      left = omega (arith, so.left, ran.left);
      quiet = tt;
    }

    pub stops : (end result : StmEnd) (next : Running) → HasRun spec s locals now next end → IsNotDone end → IsInside (trees_to k) end result →
        HasRun spec (SeqStm parts) locals old next result
    stops end result next ran not_done at = record {
      meaning = λ depth enough.
          unrolled depth enough
          ∙ one_stopped depth (drop (suc k) parts) (trees_to k) end next (ran.meaning depth (omega (arith, so.left, enough))) not_done
          ∙ sym (at.outcome (progress_of next));
      left = omega (arith, so.left, ran.left);
      within = below_more (trees_to k + trees_of_stm s) (trees_of_stm (SeqStm parts)) 0 result
          (seq_trees parts k s within is)
          (at.within (trees_of_stm s) ran.within);
    }

  -- no part is left
  pub ends : (last : StmEnd) (now : Running) (k : ℕ) → SoFar last now k → drop k parts ≡ [] → HasRun spec (SeqStm parts) locals old now last
  ends last now k so none = record {
    meaning = λ depth enough. so.meaning depth enough ∙ ap (λ rest. rest_does depth rest (trees_to k) last now) none;
    left = so.left;
    within = below_more 0 (trees_of_stm (SeqStm parts)) 0 last (omega arith) so.quiet;
  }
