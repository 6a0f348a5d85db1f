-- The value of an expression, in each place where expressions stand. It has none where a name is
-- unbound, an operation does not take its values, a literal does not fit, or a form stands where it
-- may not.
use Rattle.std.specs.Prelude.{ℕ, Bool, if◌then◌else◌, List, [], ◌∷◌, map, Option, None, Some, option_and_then}
use Rattle.std.specs.Str.{bytes_eq}
use Rattle.kat_value.specs.declared.value.Value.{Value}
use Rattle.kat_value.specs.declared.value.Value.TheVariants.{Unit as UnitValue, Bool as TruthValue, Bits as Number}
use Rattle.kat_value.specs.Making.{all_there}
use Rattle.kat_value.specs.Operations.{value_of_op}
use Rattle.kat_value.specs.Widths.{is_number}
use Rattle.kat_ast.specs.declared.decl.DeclForm.{DeclForm}
use Rattle.kat_ast.specs.declared.expr.Expr.{Expr}
use Rattle.kat_ast.specs.declared.expr.Expr.TheOpen.{Expr-F, Name as Named, Unit, Truth, Bits, Of, Make, Rec, Register, Kept, KeptCell, Before, After, BeforeCell, AfterCell, Apply, Get}
use Rattle.kat_ast.specs.declared.expr.Expr.TheFolds.{fold-Expr}
use Rattle.kat_syntax.specs.Tables.{Name}
use Rattle.kat_syntax.specs.NamedValues.{member_value, made_value, rec_value, got_value}
use Rattle.kat_syntax.specs.TypeTable.{types_of_decls}
use Rattle.kat_syntax.specs.States.{KeptPlace, register_value, kept_value, is_kept_register, is_kept_cell}

-- names with their values, the newest first
abbrev pub Locals : Type 0
Locals = List (Name × Value)

-- the value of the newest local of this name
abbrev pub value_of_name : Locals → Name → Option Value
value_of_name [] x = None
value_of_name (local ∷ locals) x =
    if bytes_eq local.0 x then Some local.1 else value_of_name locals x

-- what an expression may read beside its locals
pub data Reads : Type 0 where
  -- in a statement, a guard, or an assertion of a predicate, a contract or a lemma
  Nothing : Reads
  -- in a condition of the dispatch: the values of the registers
  Registers : (registers : List Value) → Reads
  -- in the untrusted assertion, and in entries: the kept values
  KeptValues : (kept : List Value) → Reads
  -- in the change of a block: the kept values before it and behind it
  BothEnds : (before after : List Value) → Reads

-- where an expression is evaluated
pub record Environment : Type 0 where
  pub decls : List DeclForm
  pub reads : Reads
  pub locals : Locals

-- the value of a register, in the dispatch
abbrev pub value_read : List DeclForm → Name → Reads → Option Value
value_read decls r (Registers registers) = register_value decls r registers
value_read decls r _ = None

-- the value that is kept of a place
abbrev pub value_kept : List DeclForm → (KeptPlace → Bool) → Reads → Option Value
value_kept decls is_it (KeptValues kept) = kept_value decls is_it kept
value_kept decls is_it _ = None

-- the value of a place before a block
abbrev pub value_before : List DeclForm → (KeptPlace → Bool) → Reads → Option Value
value_before decls is_it (BothEnds before after) = kept_value decls is_it before
value_before decls is_it _ = None

-- the value of a place behind a block
abbrev pub value_after : List DeclForm → (KeptPlace → Bool) → Reads → Option Value
value_after decls is_it (BothEnds before after) = kept_value decls is_it after
value_after decls is_it _ = None

-- the value of a literal that fits
abbrev pub literal_value : ℕ → ℕ → Option Value
literal_value width number = if is_number width number then Some (Number width number) else None

-- one layer of an expression, with the value of each part in its place
abbrev pub expr_value : Environment → Expr-F (Option Value) → Option Value
expr_value env (Named x) = value_of_name env.locals x
expr_value env Unit = Some UnitValue
expr_value env (Truth b) = Some (TruthValue b)
expr_value env (Bits width number) = literal_value width number
expr_value env (Of e a) = member_value (types_of_decls env.decls) e a
expr_value env (Make k payload) = option_and_then (made_value (types_of_decls env.decls) k) payload
expr_value env (Rec r fields) =
    option_and_then (rec_value (types_of_decls env.decls) r) (all_there fields)
expr_value env (Register r) = value_read env.decls r env.reads
expr_value env (Kept r) = value_kept env.decls (is_kept_register r) env.reads
expr_value env (KeptCell n) = value_kept env.decls (is_kept_cell n) env.reads
expr_value env (Before r) = value_before env.decls (is_kept_register r) env.reads
expr_value env (After r) = value_after env.decls (is_kept_register r) env.reads
expr_value env (BeforeCell n) = value_before env.decls (is_kept_cell n) env.reads
expr_value env (AfterCell n) = value_after env.decls (is_kept_cell n) env.reads
expr_value env (Apply op args) = option_and_then (value_of_op op) (all_there args)
expr_value env (Get r f part) = option_and_then (got_value (types_of_decls env.decls) r f) part

-- the value of an expression
abbrev pub value_of_expr : Environment → Expr → Option Value
value_of_expr env = fold-Expr (Option Value) (expr_value env)

-- the values of expressions, where each has one
abbrev pub values_of_exprs : Environment → List Expr → Option (List Value)
values_of_exprs env exprs = all_there (map (value_of_expr env) exprs)
