-- What expressions read where they stand is of the types that typing finds.
use Rattle.std.proofs.Common.{◌≡◌, ◌∙◌, ℕ, ◌+◌, ◌&&◌, is_some, not, Bool, true, false, List, [], slice_get, refl, ap}
use Rattle.std.specs.Prelude.{IsTrue, option_and_then}
use Rattle.std.proofs.lemmas.Bool.{false≢true}
use Rattle.kat_value.specs.declared.value.Value.{Value}
use Rattle.kat_value.specs.TypeLaws.{BitsAreNumbers}
use Rattle.kat_ast.specs.declared.decl.DeclForm.{DeclForm}
use Rattle.kat_ast.specs.declared.decl.RegisterKind.{RegisterKind}
use Rattle.kat_syntax.specs.declared.type_rule.TypeRule.TheVariants.{NameUnknown, NotHere}
use Rattle.kat_syntax.specs.Around.{Around, a_register, meant}
use Rattle.kat_syntax.specs.Evaluation.{Reads, Nothing, Registers, KeptValues, BothEnds, value_read}
use Rattle.kat_syntax.specs.States.{are_of_types, register_types}
use Rattle.kat_syntax.specs.Tables.{Name}
use Rattle.kat_syntax.specs.TypeRules.{unless}
use Rattle.kat_syntax.specs.TypeTable.{types_of_decls}
use Rattle.kat_syntax.specs.TypingExpressions.{Standing, Plain, InDispatch, WithKept, InChange, cell_faults, is_of_kind, is_outside_kind, is_protected_kind, register_faults, type_of_register, unknown}
use Rattle.kat_safety.specs.Typed.{AreReadsOf}
use Rattle.kat_safety.proofs.Clean.{AreClean, empty_first, empty_second, met}
use Rattle.kat_safety.proofs.KeptReads.{kept_cell_given, kept_register_given}
use Rattle.kat_safety.proofs.RegisterTables.{registers_placed, value_typed}
use Rattle.kat_safety.proofs.TypedExpressions.{IsGiven, ReadsAlike}

module _ (numbers : BitsAreNumbers) (decls : List DeclForm) (k : ℕ)
    (clean : AreClean decls 0 decls) where
  abbrev around : Around
  around = record { decls = decls; number = k }

  -- what may not stand here has a fault
  no_register : (kind : RegisterKind → Bool) (at : ℕ) (r : Name) →
      register_faults around false kind at r ≡ [] → ⊥
  no_register kind at r none = false≢true (met false at NotHere
      (empty_first (unless false at NotHere) (unknown (at + 2) (meant a_register around r)) none))

  no_cell : (at n : ℕ) → cell_faults around false at n ≡ [] → ⊥
  no_cell at n none = false≢true (met false at NotHere none)

  -- a register that is known has a value of its type
  register_given : (registers : List Value) →
      IsTrue (are_of_types (types_of_decls decls) (register_types decls) registers) →
      (kind : RegisterKind → Bool) (at : ℕ) (r : Name) →
      register_faults around true kind at r ≡ [] →
      IsGiven (types_of_decls decls) (type_of_register around r)
      (value_read decls r (Registers registers))
  register_given registers are kind at r none =
      let some : is_some (meant a_register around r) ≡ true =
      met (is_some (meant a_register around r)) (at + 2) NameUnknown
      (empty_second (unless (true && is_of_kind kind (meant a_register around r)) at NotHere)
      (unknown (at + 2) (meant a_register around r)) none) in
      let placed = registers_placed decls r 0 0 decls clean (meant a_register around r) refl some in
      let v = value_typed (types_of_decls decls) (register_types decls) registers placed.at
      placed.type are placed.typed in
      record {
        type = placed.type;
        fixed = placed.fixed;
        value = v.0;
        there = ap (option_and_then (slice_get registers)) placed.place ∙ v.1;
        typed = v.2;
      }

  -- what is read is given, wherever an expression stands
  pub reads_alike : (standing : Standing) (reads : Reads) → AreReadsOf decls standing reads →
      ReadsAlike decls k standing reads
  reads_alike Plain Nothing are = record {
    register = λ r at none. absurd (no_register (λ kind. not (is_outside_kind kind)) at r none);
    kept = λ r at none. absurd (no_register is_protected_kind at r none);
    before = λ r at none. absurd (no_register is_protected_kind at r none);
    after = λ r at none. absurd (no_register is_protected_kind at r none);
    kept_cell = λ n at none. absurd (no_cell at n none);
    before_cell = λ n at none. absurd (no_cell at n none);
    after_cell = λ n at none. absurd (no_cell at n none);
  }
  reads_alike InDispatch (Registers registers) are = record {
    register = λ r at none.
        register_given registers are (λ kind. not (is_outside_kind kind)) at r none;
    kept = λ r at none. absurd (no_register is_protected_kind at r none);
    before = λ r at none. absurd (no_register is_protected_kind at r none);
    after = λ r at none. absurd (no_register is_protected_kind at r none);
    kept_cell = λ n at none. absurd (no_cell at n none);
    before_cell = λ n at none. absurd (no_cell at n none);
    after_cell = λ n at none. absurd (no_cell at n none);
  }
  reads_alike WithKept (KeptValues kept) are = record {
    register = λ r at none. absurd (no_register (λ kind. not (is_outside_kind kind)) at r none);
    kept = λ r at none. kept_register_given numbers decls k clean kept are at r none;
    before = λ r at none. absurd (no_register is_protected_kind at r none);
    after = λ r at none. absurd (no_register is_protected_kind at r none);
    kept_cell = λ n at none. kept_cell_given numbers decls k clean kept are n at none;
    before_cell = λ n at none. absurd (no_cell at n none);
    after_cell = λ n at none. absurd (no_cell at n none);
  }
  reads_alike InChange (BothEnds before after) are = record {
    register = λ r at none. absurd (no_register (λ kind. not (is_outside_kind kind)) at r none);
    kept = λ r at none. absurd (no_register is_protected_kind at r none);
    before = λ r at none. kept_register_given numbers decls k clean before are.0 at r none;
    after = λ r at none. kept_register_given numbers decls k clean after are.1 at r none;
    kept_cell = λ n at none. absurd (no_cell at n none);
    before_cell = λ n at none. kept_cell_given numbers decls k clean before are.0 n at none;
    after_cell = λ n at none. kept_cell_given numbers decls k clean after are.1 n at none;
  }
  reads_alike Plain (Registers registers) are = absurd are
  reads_alike Plain (KeptValues kept) are = absurd are
  reads_alike Plain (BothEnds before after) are = absurd are
  reads_alike InDispatch Nothing are = absurd are
  reads_alike InDispatch (KeptValues kept) are = absurd are
  reads_alike InDispatch (BothEnds before after) are = absurd are
  reads_alike WithKept Nothing are = absurd are
  reads_alike WithKept (Registers registers) are = absurd are
  reads_alike WithKept (BothEnds before after) are = absurd are
  reads_alike InChange Nothing are = absurd are
  reads_alike InChange (Registers registers) are = absurd are
  reads_alike InChange (KeptValues kept) are = absurd are
