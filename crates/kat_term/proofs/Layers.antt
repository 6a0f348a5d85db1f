-- The value and the type of a term, from those of its parts.
use Rattle.std.proofs.Common.{◌≡◌, ◌∙◌, ℕ, List, map, Option, ap, sym}
use Rattle.std.specs.Prelude.{option_and_then, slice_get}
use Rattle.std.specs.Option.{option_map}
use Rattle.kat_value.specs.declared.op.Op.{Op}
use Rattle.kat_value.specs.declared.types.Ty.{Ty}
use Rattle.kat_value.specs.declared.types.TypeDecl.{TypeDecl}
use Rattle.kat_value.specs.declared.value.Value.{Value}
use Rattle.kat_term.specs.declared.term.Term.{Term}
use Rattle.kat_term.specs.declared.term.Term.TheOpen.{Term-F, Var, Lit, Apply, Make, Rec}
use Rattle.kat_term.specs.declared.term.Term.TheViews.{roll-Term}
use Rattle.kat_term.specs.declared.term.Term.TheVariants.{Var as VarTerm, Lit as LitTerm, Apply as ApplyTerm, Make as MakeTerm, Rec as RecTerm, rolls-Var, rolls-Lit, rolls-Apply, rolls-Make, rolls-Rec}
use Rattle.kat_term.specs.declared.term.Term.TheFolds.{map-Term, fold-roll-Term}
use Rattle.kat_value.specs.Operations.{value_of_op}
use Rattle.kat_value.specs.Shown.{type_of_value}
use Rattle.kat_term.specs.Parts.{TermsByParts}
use Rattle.kat_value.specs.OperationTypes.{type_of_application, type_of_making, type_of_record}
use Rattle.kat_term.specs.Types.{type_layer, type_of}
use Rattle.kat_value.specs.Making.{all_there, value_of_making, value_of_record}
use Rattle.kat_term.specs.Values.{Valuation, literal_value, value_layer, value_of}

module _ (types : List TypeDecl) (v : Valuation) where
  pub value_roll : (y : Term-F Term) → value_of types v (roll-Term y) ≡ value_layer types v (map-Term Term (Option Value) (value_of types v) y)
  value_roll y = fold-roll-Term (Option Value) (value_layer types v) y

  pub value_of-Var : (i : ℕ) → value_of types v (VarTerm i) ≡ slice_get v i
  value_of-Var i = ap (value_of types v) (sym (rolls-Var i)) ∙ value_roll (Var i)

  pub value_of-Lit : (x : Value) → value_of types v (LitTerm x) ≡ literal_value types x
  value_of-Lit x = ap (value_of types v) (sym (rolls-Lit x)) ∙ value_roll (Lit x)

  pub value_of-Apply : (op : Op) (ts : List Term) → value_of types v (ApplyTerm op ts) ≡ option_and_then (value_of_op op) (all_there (map (value_of types v) ts))
  value_of-Apply op ts = ap (value_of types v) (sym (rolls-Apply op ts)) ∙ value_roll (Apply op ts)

  pub value_of-Make : (of ctor : ℕ) (t : Term) → value_of types v (MakeTerm of ctor t) ≡ option_and_then (value_of_making types of ctor) (value_of types v t)
  value_of-Make of ctor t = ap (value_of types v) (sym (rolls-Make of ctor t)) ∙ value_roll (Make of ctor t)

  pub value_of-Rec : (of : ℕ) (ts : List Term) → value_of types v (RecTerm of ts) ≡ option_and_then (value_of_record types of) (all_there (map (value_of types v) ts))
  value_of-Rec of ts = ap (value_of types v) (sym (rolls-Rec of ts)) ∙ value_roll (Rec of ts)

module _ (types : List TypeDecl) (vars : List Ty) where
  pub type_roll : (y : Term-F Term) → type_of types vars (roll-Term y) ≡ type_layer types vars (map-Term Term (Option Ty) (type_of types vars) y)
  type_roll y = fold-roll-Term (Option Ty) (type_layer types vars) y

  pub type_of-Var : (i : ℕ) → type_of types vars (VarTerm i) ≡ slice_get vars i
  type_of-Var i = ap (type_of types vars) (sym (rolls-Var i)) ∙ type_roll (Var i)

  pub type_of-Lit : (x : Value) → type_of types vars (LitTerm x) ≡ option_map type_of_value (literal_value types x)
  type_of-Lit x = ap (type_of types vars) (sym (rolls-Lit x)) ∙ type_roll (Lit x)

  pub type_of-Apply : (op : Op) (ts : List Term) → type_of types vars (ApplyTerm op ts) ≡ option_and_then (type_of_application types op) (all_there (map (type_of types vars) ts))
  type_of-Apply op ts = ap (type_of types vars) (sym (rolls-Apply op ts)) ∙ type_roll (Apply op ts)

  pub type_of-Make : (of ctor : ℕ) (t : Term) → type_of types vars (MakeTerm of ctor t) ≡ option_and_then (type_of_making types of ctor) (type_of types vars t)
  type_of-Make of ctor t = ap (type_of types vars) (sym (rolls-Make of ctor t)) ∙ type_roll (Make of ctor t)

  pub type_of-Rec : (of : ℕ) (ts : List Term) → type_of types vars (RecTerm of ts) ≡ option_and_then (type_of_record types of) (all_there (map (type_of types vars) ts))
  type_of-Rec of ts = ap (type_of types vars) (sym (rolls-Rec of ts)) ∙ type_roll (Rec of ts)

pub terms_by_parts : TermsByParts
terms_by_parts = (
  λ types v. record {
    variable = value_of-Var types v;
    literal = value_of-Lit types v;
    application = value_of-Apply types v;
    making = value_of-Make types v;
    fields = value_of-Rec types v;
  },
  λ types vars. record {
    variable = type_of-Var types vars;
    literal = type_of-Lit types vars;
    application = type_of-Apply types vars;
    making = type_of-Make types vars;
    fields = type_of-Rec types vars;
  },
)
