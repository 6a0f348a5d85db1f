-- What the pieces of a run's text tell.
use Rattle.std.proofs.Common.{◌≡◌, ◌≢◌, ℕ, ◌+◌, ◌-◌, List, [], ◌∷◌, ◌++◌, length, get_or, drop, refl, sym, ap, ◌∙◌, arith, append_assoc}
use Rattle.std.specs.List.{All}
use Rattle.std.specs.Prelude.{codes}
use Rattle.std.specs.Fmt.{decimal}
use Rattle.std.proofs.lemmas.List.{append_cancel_left}
use Rattle.std.proofs.lemmas.List.Elements.{All-head, All-tail}
use Rattle.kat_value.specs.Equality.{TestsEquality}
use Rattle.kat_ast.specs.declared.decl.DeclForm.{DeclForm}
use Rattle.kat_ast.specs.declared.place.Place.{Place}
use Rattle.kat_ast.specs.Spec.{Spec}
use Rattle.kat_syntax.specs.Machine.{MachineState}
use Rattle.kat_syntax.specs.Run.{Run, RunEnd, Ended, OutIn, FailedIn}
use Rattle.kat_syntax.specs.States.{IsState}
use Rattle.kat_runner.specs.StateText.{newline, first_lines, later_lines, boundary_piece, later_pieces, boundary_pieces, end_piece, joined, state_text_of}
use Rattle.kat_laws.specs.TextLaw.{HasNames, IsWithinWords, IsOfMachine, TextTellsRun, BeginningTellsRun}
use Rattle.kat_laws.proofs.TextNumbers.{decimal_told}
use Rattle.kat_laws.proofs.TextStates.{Behind, first_told, later_told}

-- the end tells itself, where its number of boundaries is known
end_told : (last : ℕ) (a b : RunEnd) (r s : List ℕ) → IsWithinWords a → IsWithinWords b →
    end_piece last a ++ r ≡ end_piece last b ++ s → a ≡ b
end_told last Ended Ended r s p q e = refl
end_told last Ended (OutIn cycle) r s p q e = let first : 101 ≡ 111 = ap (λ l. get_or l 0 0) e in
    absurd (omega (arith, first))
end_told last Ended (FailedIn cycle place) r s p q e = let first : 101 ≡ 102 =
    ap (λ l. get_or l 0 0) e in absurd (omega (arith, first))
end_told last (OutIn cycle) Ended r s p q e = let first : 111 ≡ 101 = ap (λ l. get_or l 0 0) e in
    absurd (omega (arith, first))
end_told last (OutIn m) (OutIn n) r s p q e =
    let words : (k : ℕ) (t : List ℕ) → end_piece last (OutIn k) ++ t ≡ 111 ∷ 117 ∷ 116 ∷ 32 ∷
    (decimal k ++ 10 ∷ t) = λ k t. simp append_assoc refl in
    ap OutIn (decimal_told m n (10 ∷ r) (10 ∷ s) p q (omega arith) (omega arith)
    (ap (drop 4) (sym (words m r) ∙ e ∙ words n s))).0
end_told last (OutIn cycle) (FailedIn other place) r s p q e = let first : 111 ≡ 102 =
    ap (λ l. get_or l 0 0) e in absurd (omega (arith, first))
end_told last (FailedIn cycle place) Ended r s p q e = let first : 102 ≡ 101 =
    ap (λ l. get_or l 0 0) e in absurd (omega (arith, first))
end_told last (FailedIn cycle place) (OutIn other) r s p q e = let first : 102 ≡ 111 =
    ap (λ l. get_or l 0 0) e in absurd (omega (arith, first))
end_told last (FailedIn m at) (FailedIn n to) r s p q e =
    let words : (k : ℕ) (place : Place) (t : List ℕ) → end_piece last (FailedIn k place) ++ t
    ≡ 102 ∷ 97 ∷ 105 ∷ 108 ∷ 101 ∷ 100 ∷ 32 ∷ (decimal k ++ 32 ∷
    (decimal place.decl ++ 32 ∷ (decimal place.tree ++ 10 ∷ t))) = λ k place t. simp
    append_assoc refl in
    let tree : Place → List ℕ → List ℕ = λ place t. 32 ∷ (decimal place.tree ++ 10 ∷ t) in
    let decl : Place → List ℕ → List ℕ = λ place t. 32 ∷ (decimal place.decl ++ tree place t) in
    let cycles = decimal_told m n (decl at r) (decl to s) p.0 q.0 (omega arith) (omega arith)
    (ap (drop 7) (sym (words m at r) ∙ e ∙ words n to s)) in
    let decls = decimal_told at.decl to.decl (tree at r) (tree to s) p.1 q.1 (omega arith)
    (omega arith) (ap (drop 1) cycles.1) in
    let trees = decimal_told at.tree to.tree (10 ∷ r) (10 ∷ s) p.2 q.2 (omega arith) (omega arith)
    (ap (drop 1) decls.1) in
    let place_of : ℕ → ℕ → Place = λ decl tree. record { decl = decl; tree = tree } in
    ap (λ cycle. FailedIn cycle at) cycles.0
    ∙ ap (λ decl. FailedIn n (place_of decl at.tree)) decls.0
    ∙ ap (λ tree. FailedIn n (place_of to.decl tree)) trees.0

-- an end begins neither as a boundary, nor as a register or a cell does
pub record EndsText (text : List ℕ) : Type 0 where
  pub boundary : get_or text 0 0 ≢ 97
  pub lines : Behind text

end_ends : (last : ℕ) (end : RunEnd) (r : List ℕ) → EndsText (end_piece last end ++ r)
end_ends last Ended r = record {
  boundary = λ e. omega (arith, e);
  lines = record { register = λ e. omega (arith, e); cell = λ e. omega (arith, e) };
}
end_ends last (OutIn cycle) r = record {
  boundary = λ e. omega (arith, e);
  lines = record { register = λ e. omega (arith, e); cell = λ e. omega (arith, e) };
}
end_ends last (FailedIn cycle place) r = record {
  boundary = λ e. omega (arith, e);
  lines = record { register = λ e. omega (arith, e); cell = λ e. omega (arith, e) };
}

-- boundaries begin neither as a register nor as a cell does
pieces_behind : (decls : List DeclForm) (k : ℕ) (before : MachineState)
    (states : List MachineState) (r : List ℕ) → Behind r →
    Behind (joined (later_pieces decls k before states) ++ r)
pieces_behind decls k before [] r h = h
pieces_behind decls k before (state ∷ states) r h =
    record { register = λ e. omega (arith, e); cell = λ e. omega (arith, e) }

-- a boundary and what follows it
piece_parts : (k : ℕ) (lines more r : List ℕ) → (boundary_piece k lines ++ more) ++ r ≡
    (codes "at " ++ decimal k ++ newline) ++ (lines ++ (more ++ r))
piece_parts k lines more r = simp append_assoc refl

module _ (tests : TestsEquality) (spec : Spec) (names : HasNames spec) where
  -- a state of the machine
  abbrev IsOne : MachineState → Type 0
  IsOne = IsState spec.decls

  -- the text of the boundaries behind one
  abbrev rest_of : ℕ → MachineState → List MachineState → List ℕ
  rest_of k from more = joined (later_pieces spec.decls k from more)

  -- the later boundaries are told, where the state before is known
  later_states : (k : ℕ) (before : MachineState) (states others : List MachineState)
      (r s : List ℕ) → IsOne before → All IsOne states → All IsOne others → EndsText r →
      EndsText s → rest_of k before states ++ r ≡ rest_of k before others ++ s →
      (states ≡ others) × (r ≡ s)
  later_states k before [] [] r s o p q f g e = (refl, e)
  later_states k before [] (other ∷ others) r s o p q f g e =
      absurd (f.boundary (ap (λ l. get_or l 0 0) e))
  later_states k before (state ∷ states) [] r s o p q f g e =
      absurd (g.boundary (ap (λ l. get_or l 0 0) (sym e)))
  later_states k before (state ∷ states) (other ∷ others) r s o p q f g e =
      let left : List ℕ = later_lines spec.decls before state in
      let right : List ℕ = later_lines spec.decls before other in
      let here : List ℕ = rest_of (k + 1) state states in
      let there : List ℕ = rest_of (k + 1) other others in
      let first : IsOne state = All-head IsOne state states p in
      let second : IsOne other = All-head IsOne other others q in
      let lines = append_cancel_left (codes "at " ++ decimal k ++ newline) (left ++ (here ++ r))
      (right ++ (there ++ s))
      (sym (piece_parts k left here r) ∙ e ∙ piece_parts k right there s) in
      let parts = later_told tests spec names before state other (here ++ r) (there ++ s) o first
      second (pieces_behind spec.decls (k + 1) state states r f.lines)
      (pieces_behind spec.decls (k + 1) other others s g.lines) lines in
      let same : state ≡ other = parts.0 in
      let below = later_states (k + 1) state states others r s first
      (All-tail IsOne state states p) (All-tail IsOne other others q) f g
      (parts.1 ∙ ap (λ from. rest_of (k + 1) from others ++ s) (sym same)) in
      let tail : states ≡ others = below.0 in
      (cc, below.1)

  -- the boundaries are told
  states_told : (states others : List MachineState) (r s : List ℕ) → All IsOne states →
      All IsOne others → EndsText r → EndsText s →
      joined (boundary_pieces spec.decls states) ++ r
      ≡ joined (boundary_pieces spec.decls others) ++ s →
      (states ≡ others) × (r ≡ s)
  states_told [] [] r s p q f g e = (refl, e)
  states_told [] (other ∷ others) r s p q f g e =
      absurd (f.boundary (ap (λ l. get_or l 0 0) e))
  states_told (state ∷ states) [] r s p q f g e =
      absurd (g.boundary (ap (λ l. get_or l 0 0) (sym e)))
  states_told (state ∷ states) (other ∷ others) r s p q f g e =
      let left : List ℕ = first_lines spec.decls state in
      let right : List ℕ = first_lines spec.decls other in
      let here : List ℕ = rest_of 1 state states in
      let there : List ℕ = rest_of 1 other others in
      let first : IsOne state = All-head IsOne state states p in
      let second : IsOne other = All-head IsOne other others q in
      let lines = append_cancel_left (codes "at " ++ decimal 0 ++ newline) (left ++ (here ++ r))
      (right ++ (there ++ s))
      (sym (piece_parts 0 left here r) ∙ e ∙ piece_parts 0 right there s) in
      let parts = first_told tests spec names state other (here ++ r) (there ++ s) first second
      (pieces_behind spec.decls 1 state states r f.lines)
      (pieces_behind spec.decls 1 other others s g.lines) lines in
      let same : state ≡ other = parts.0 in
      let below = later_states 1 state states others r s first (All-tail IsOne state states p)
      (All-tail IsOne other others q) f g
      (parts.1 ∙ ap (λ from. rest_of 1 from others ++ s) (sym same)) in
      let tail : states ≡ others = below.0 in
      (cc, below.1)

  -- a text that begins with the texts of two runs tells that they are the same
  run_told : (a b : Run) (r s : List ℕ) → IsOfMachine spec a → IsOfMachine spec b →
      state_text_of spec a ++ r ≡ state_text_of spec b ++ s → a ≡ b
  run_told a b r s p q e =
      let last : Run → ℕ = λ run. length run.boundaries - 1 in
      let boundaries_of : Run → List ℕ = λ run. joined
      (boundary_pieces spec.decls run.boundaries) in
      let parts = states_told a.boundaries b.boundaries (end_piece (last a) a.end ++ r)
      (end_piece (last b) b.end ++ s) p.states q.states (end_ends (last a) a.end r)
      (end_ends (last b) b.end s)
      (sym (append_assoc (boundaries_of a) (end_piece (last a) a.end) r) ∙ e
      ∙ append_assoc (boundaries_of b) (end_piece (last b) b.end) s) in
      let boundaries : a.boundaries ≡ b.boundaries = parts.0 in
      let ends : end_piece (last a) a.end ++ r ≡ end_piece (last a) b.end ++ s =
      parts.1 ∙ ap (λ (states : List MachineState). end_piece (length states - 1) b.end ++ s)
      (sym boundaries) in
      let run_with : List MachineState → RunEnd → Run = λ boundaries end. record
      { boundaries = boundaries; end = end } in
      ap (λ states. run_with states a.end) boundaries ∙ ap (run_with b.boundaries)
      (end_told (last a) a.end b.end r s p.end q.end ends)

pub beginning_tells_run : TestsEquality → BeginningTellsRun
beginning_tells_run tests spec a b r s names p q e =
    let same : a ≡ b = run_told tests spec names a b r s p q e in (
      same,
      append_cancel_left (state_text_of spec a) r s
          (e ∙ ap (λ run. state_text_of spec run ++ s) (sym same)),
    )

pub text_tells_run : TestsEquality → TextTellsRun
text_tells_run tests spec a b names p q e = run_told tests spec names a b [] [] p q
    (ap (λ text. text ++ []) e)
