-- The term of an expression: its names and what else it reads stand for terms.
use Rattle.std.specs.Prelude.{Bool, List, [], ◌∷◌, position, Option, None, Some, option_and_then, slice_get}
use Rattle.std.specs.Option.{option_map}
use Rattle.kat_names.specs.Names.{position_of}
use Rattle.kat_value.specs.Making.{all_there}
use Rattle.kat_value.specs.declared.op.Op.TheVariants as op
use Rattle.kat_value.specs.declared.types.TypeDecl.{TypeDecl}
use Rattle.kat_ast.specs.declared.decl.DeclForm.{DeclForm}
use Rattle.kat_ast.specs.declared.expr.Expr.{Expr}
use Rattle.kat_ast.specs.declared.expr.Expr.TheOpen.{Expr-F, Name as Named, Unit, Truth, Bits, Of, Make, Rec, Register, Kept as KeptForm, KeptCell, Before, After, BeforeCell, AfterCell, Apply, Get}
use Rattle.kat_ast.specs.declared.expr.Expr.TheFolds.{fold-Expr}
use Rattle.kat_ast.specs.declared.type_name.Param.{Param}
use Rattle.kat_syntax.specs.NamedValues.{ctor_from, field_names_of, members_of, names_at, type_position}
use Rattle.kat_syntax.specs.States.{KeptPlace, is_kept_cell, is_kept_register, kept_places}
use Rattle.kat_syntax.specs.Tables.{Name}
use Rattle.kat_syntax.specs.TypeTable.{types_of_decls}
use Rattle.kat_syntax.specs.declared.run_tables.CtorPlace.{CtorPlace}
use Rattle.kat_term.specs.declared.term.Term.{Term}
use Rattle.kat_term.specs.declared.term.Term.TheVariants.{Apply as ApplyTerm, Make as MakeTerm, Rec as RecTerm}
use Rattle.kat_term.specs.Views.{bits, member, one, truth, unit}
use Rattle.kat_heap.specs.Walks.{Names, Reading, Plain, Kept, AtBothEnds, named}

-- what an expression reads: names, registers, and kept values; none where it may not read it
pub record Sources : Type 0 where
  pub names : Names Term
  pub register : Name → Option Term
  pub kept : (KeptPlace → Bool) → Option Term
  pub before : (KeptPlace → Bool) → Option Term
  pub after : (KeptPlace → Bool) → Option Term

-- the term that a list of kept values has for a place
abbrev pub kept_term : List DeclForm → List Term → (KeptPlace → Bool) → Option Term
kept_term decls kept is_it =
    option_and_then (slice_get kept) (position is_it (kept_places decls))

-- names alone
abbrev pub plainly : Names Term → Sources
plainly names = record {
  names = names;
  register = λ r. None;
  kept = λ is_it. None;
  before = λ is_it. None;
  after = λ is_it. None;
}

-- names, and what else is read
abbrev pub sources_of : List DeclForm → Names Term → Reading Term → Sources
sources_of decls names Plain = plainly names
sources_of decls names (Kept kept) = record (plainly names) { kept = kept_term decls kept }
sources_of decls names (AtBothEnds before after) =
    record (plainly names) { before = kept_term decls before; after = kept_term decls after }

-- `(of E A)`
abbrev pub member_term : List TypeDecl → Name → Name → Option Term
member_term types e a =
    option_and_then (λ p. option_map (member p) (position_of (names_at members_of types p) a))
    (type_position types e)

-- `(make K t)`
abbrev pub made_term : List TypeDecl → Name → Term → Option Term
made_term types k payload =
    option_map (λ (place : CtorPlace). MakeTerm place.of place.ctor payload) (ctor_from 0 types k)

-- `(rec R t ..)`
abbrev pub rec_term : List TypeDecl → Name → List Term → Option Term
rec_term types r fields = option_map (λ p. RecTerm p fields) (type_position types r)

-- `(get R f t)`
abbrev pub got_term : List TypeDecl → Name → Name → Term → Option Term
got_term types r f t =
    option_and_then (λ p.
    option_map (λ at. one (op.Get p at) t) (position_of (names_at field_names_of types p) f))
    (type_position types r)

-- one layer of an expression, with the term of each part in its place
abbrev pub expr_term : List DeclForm → Sources → Expr-F (Option Term) → Option Term
expr_term decls sources (Named x) = named sources.names x
expr_term decls sources Unit = Some unit
expr_term decls sources (Truth b) = Some (truth b)
expr_term decls sources (Bits width number) = Some (bits width number)
expr_term decls sources (Of e a) = member_term (types_of_decls decls) e a
expr_term decls sources (Make k payload) =
    option_and_then (made_term (types_of_decls decls) k) payload
expr_term decls sources (Rec r fields) =
    option_and_then (rec_term (types_of_decls decls) r) (all_there fields)
expr_term decls sources (Register r) = sources.register r
expr_term decls sources (KeptForm r) = sources.kept (is_kept_register r)
expr_term decls sources (KeptCell n) = sources.kept (is_kept_cell n)
expr_term decls sources (Before r) = sources.before (is_kept_register r)
expr_term decls sources (After r) = sources.after (is_kept_register r)
expr_term decls sources (BeforeCell n) = sources.before (is_kept_cell n)
expr_term decls sources (AfterCell n) = sources.after (is_kept_cell n)
expr_term decls sources (Apply op args) = option_map (ApplyTerm op) (all_there args)
expr_term decls sources (Get r f part) =
    option_and_then (got_term (types_of_decls decls) r f) part

-- the term of an expression, none where a name in it is unbound
abbrev pub term_of_expr : List DeclForm → Sources → Expr → Option Term
term_of_expr decls sources = fold-Expr (Option Term) (expr_term decls sources)

-- each parameter with its argument, where there are as many
abbrev pub binding : {T : Type 0} → List Param → List T → Option (Names T)
binding [] [] = Some []
binding [] (t ∷ ts) = None
binding (param ∷ params) [] = None
binding (param ∷ params) (t ∷ ts) =
    option_map (λ names. (param.name, t) ∷ names) (binding params ts)
