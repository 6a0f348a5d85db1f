-- What a tree is read as: what takes the tree of a form back to the form.
use Rattle.std.proofs.Common.{◌≡◌, ℕ, List, [], ◌∷◌, map, cond, true, false, sym, ap, ◌∙◌}
use Rattle.std.specs.Prelude.{codes, bytes_eq, Option, None, Some}
use Rattle.kat_tree.specs.declared.tree.Token.TheVariants.{Number as NumberToken, Name as NameToken}
use Rattle.kat_tree.specs.declared.tree.Tree.{Tree}
use Rattle.kat_tree.specs.declared.tree.Tree.TheVariants as tree
use Rattle.kat_tree.specs.declared.tree.Tree.TheVariants.{rolls-Atom, rolls-List}
use Rattle.kat_tree.specs.declared.tree.Tree.TheOpen.{Tree-F}
use Rattle.kat_tree.specs.declared.tree.Tree.TheFolds.{fold-Tree, fold-roll-Tree}
use Rattle.kat_value.specs.declared.op.Op.{Op}
use Rattle.kat_value.specs.declared.op.Op.TheVariants as op
use Rattle.kat_value.specs.Words.{numbers_of_op, with_numbers, op_of_word}
use Rattle.kat_ast.specs.declared.expr.Expr.{Expr}
use Rattle.kat_ast.specs.declared.expr.Expr.TheOpen as e
use Rattle.kat_ast.specs.declared.expr.Expr.TheViews.{roll-Expr}
use Rattle.kat_ast.specs.declared.stm.Stm.{Stm}
use Rattle.kat_ast.specs.declared.stm.CaseArm.{CaseArm}
use Rattle.kat_ast.specs.declared.stm.MatchArm.{MatchArm}
use Rattle.kat_ast.specs.declared.stm.Stm.TheOpen as s
use Rattle.kat_ast.specs.declared.stm.Stm.TheViews.{roll-Stm}
use Rattle.kat_ast.specs.declared.assertion.Assertion.{Assertion}
use Rattle.kat_ast.specs.declared.assertion.Assertion.TheOpen as a
use Rattle.kat_ast.specs.declared.assertion.Assertion.TheViews.{roll-Assertion}
use Rattle.kat_ast.specs.declared.type_name.TypeName.{TypeName}
use Rattle.kat_ast.specs.declared.type_name.TypeName.TheVariants as t
use Rattle.kat_ast.specs.declared.type_name.Param.{Param}
use Rattle.kat_ast.specs.declared.decl.RegisterKind.{RegisterKind}
use Rattle.kat_ast.specs.declared.decl.RegisterKind.TheVariants as r
use Rattle.kat_ast.specs.declared.decl.CellsKind.{CellsKind}
use Rattle.kat_ast.specs.declared.decl.CellsKind.TheVariants as c
use Rattle.kat_ast.specs.declared.decl.Phase.{Phase}
use Rattle.kat_ast.specs.declared.decl.Phase.TheVariants as p
use Rattle.kat_ast.specs.declared.decl.When.{When}
use Rattle.kat_ast.specs.declared.decl.DeclForm.{DeclForm}
use Rattle.kat_ast.specs.declared.decl.DeclForm.TheVariants as d
use Rattle.kat_ast.specs.Parts.{word, number, form}

-- a tree as each thing that it may be
pub record Decoded : Type 0 where
  pub word : List ℕ
  pub number : ℕ
  pub type : TypeName
  pub param : Param
  pub params : List Param
  pub words : List (List ℕ)
  pub expr : Expr
  pub case_arm : CaseArm Stm
  pub match_arm : MatchArm Stm
  pub stm : Stm
  pub assertion : Assertion
  pub phase : Phase
  pub when : When
  pub holds : Assertion
  pub says : List ℕ
  pub counts : ℕ
  pub changes : Expr
  pub goes : Phase
  pub steps : List Stm
  pub decl : DeclForm
  pub version : ℕ
  pub decls : List DeclForm

-- where nothing fits
abbrev nothing : Decoded
nothing = record {
  word = [];
  number = 0;
  type = t.Unit;
  param = record { name = []; ty = t.Unit };
  params = [];
  words = [];
  expr = roll-Expr e.Unit;
  case_arm = record { member = []; body = roll-Stm s.Fail };
  match_arm = record { ctor = []; payload = []; body = roll-Stm s.Fail };
  stm = roll-Stm s.Fail;
  assertion = roll-Assertion (a.Star []);
  phase = p.Inside;
  when = record { test = roll-Expr e.Unit; phase = p.Inside };
  holds = roll-Assertion (a.Star []);
  says = [];
  counts = 0;
  changes = roll-Expr e.Unit;
  goes = p.Inside;
  steps = [];
  decl = d.Boot [];
  version = 0;
  decls = [];
}

abbrev first : List Decoded → Decoded
first [] = nothing
first (d ∷ ds) = d

abbrev rest : List Decoded → List Decoded
rest [] = []
rest (d ∷ ds) = ds

abbrev second : List Decoded → Decoded
second ds = first (rest ds)

abbrev third : List Decoded → Decoded
third ds = first (rest (rest ds))

abbrev fourth : List Decoded → Decoded
fourth ds = first (rest (rest (rest ds)))

abbrev fifth : List Decoded → Decoded
fifth ds = first (rest (rest (rest (rest ds))))

abbrev sixth : List Decoded → Decoded
sixth ds = first (rest (rest (rest (rest (rest ds)))))

abbrev pub last : List Decoded → Decoded
last [] = nothing
last (d ∷ []) = d
last (d ∷ e ∷ ds) = last (e ∷ ds)

-- those of all but the last
abbrev pub whens : List Decoded → List When
whens [] = []
whens (d ∷ []) = []
whens (d ∷ e ∷ ds) = d.when ∷ whens (e ∷ ds)

abbrev exprs : List Decoded → List Expr
exprs ds = map (λ d. d.expr) ds

abbrev stms : List Decoded → List Stm
stms ds = map (λ d. d.stm) ds

-- the value beside a word, of words with their values
abbrev choose : {A : Type 0} → List ℕ → List (List ℕ × A) → A → A
choose w [] otherwise = otherwise
choose w (row ∷ rows) otherwise = cond (bytes_eq w row.0) row.1 (choose w rows otherwise)

unfoldable pub type_named : List ℕ → TypeName
type_named w = cond (bytes_eq w (codes "unit")) t.Unit (cond (bytes_eq w (codes "bool")) t.Bool (t.Named w))

unfoldable pub expr_named : List ℕ → Expr
expr_named w =
    cond (bytes_eq w (codes "true")) (roll-Expr (e.Truth true))
    (cond (bytes_eq w (codes "false")) (roll-Expr (e.Truth false))
    (cond (bytes_eq w (codes "unit")) (roll-Expr e.Unit) (roll-Expr (e.Name w))))

unfoldable pub phase_named : List ℕ → Phase
phase_named w = cond (bytes_eq w (codes "untrusted")) p.Untrusted p.Inside

abbrev pub register_kind_by : List ℕ → RegisterKind
register_kind_by w = choose w ((codes "plain", r.Plain) ∷ (codes "protected", r.Protected) ∷ []) r.Outside

abbrev pub cells_kind_by : List ℕ → CellsKind
cells_kind_by w = choose w ((codes "protected", c.Protected) ∷ []) c.Outside

abbrev or_not : Option Op → Op
or_not None = op.Not
or_not (Some o) = o

-- as many numbers as these, from the first parts on
abbrev numbers_from : List ℕ → List Decoded → List ℕ
numbers_from [] ds = []
numbers_from (n ∷ ns) ds = (first ds).number ∷ numbers_from ns (rest ds)

-- what stands behind as many parts
abbrev behind : List ℕ → List Decoded → List Decoded
behind [] ds = ds
behind (n ∷ ns) ds = behind ns (rest ds)

-- the arguments stand behind the numbers
abbrev applied : Op → List Decoded → Expr
applied o ds = roll-Expr (e.Apply (with_numbers o (numbers_from (numbers_of_op o) ds)) (exprs (behind (numbers_of_op o) ds)))

unfoldable pub applied_by : List ℕ → List Decoded → Expr
applied_by w ds = applied (or_not (op_of_word w)) ds

unfoldable pub expr_by : List ℕ → List Decoded → Expr
expr_by w ds = choose w
    ((codes "bits", roll-Expr (e.Bits (first ds).number (second ds).number))
    ∷ (codes "of", roll-Expr (e.Of (first ds).word (second ds).word))
    ∷ (codes "make", roll-Expr (e.Make (first ds).word (second ds).expr))
    ∷ (codes "rec", roll-Expr (e.Rec (first ds).word (exprs (rest ds))))
    ∷ (codes "reg", roll-Expr (e.Register (first ds).word))
    ∷ (codes "kept", roll-Expr (e.Kept (first ds).word))
    ∷ (codes "kept_cell", roll-Expr (e.KeptCell (first ds).number))
    ∷ (codes "before", roll-Expr (e.Before (first ds).word))
    ∷ (codes "after", roll-Expr (e.After (first ds).word))
    ∷ (codes "before_cell", roll-Expr (e.BeforeCell (first ds).number))
    ∷ (codes "after_cell", roll-Expr (e.AfterCell (first ds).number))
    ∷ (codes "get", roll-Expr (e.Get (first ds).word (second ds).word (third ds).expr))
    ∷ []) (applied_by w ds)

unfoldable pub stm_by : List ℕ → List Decoded → Stm
stm_by w ds = choose w
    ((codes "ret", roll-Stm (s.Ret (first ds).expr))
    ∷ (codes "let", roll-Stm (s.Let (first ds).word (second ds).stm (third ds).stm))
    ∷ (codes "seq", roll-Stm (s.Seq (stms ds)))
    ∷ (codes "if", roll-Stm (s.If (first ds).expr (second ds).stm (third ds).stm))
    ∷ (codes "case", roll-Stm (s.Case (first ds).expr (map (λ d. d.case_arm) (rest ds))))
    ∷ (codes "match", roll-Stm (s.Match (first ds).expr (map (λ d. d.match_arm) (rest ds))))
    ∷ (codes "read", roll-Stm (s.Read (first ds).word))
    ∷ (codes "write", roll-Stm (s.Write (first ds).word (second ds).expr))
    ∷ (codes "load", roll-Stm (s.Load (first ds).expr))
    ∷ (codes "store", roll-Stm (s.Store (first ds).expr (second ds).expr))
    ∷ (codes "call", roll-Stm (s.Call (first ds).word (exprs (rest ds))))
    ∷ (codes "check", roll-Stm (s.Check (first ds).expr))
    ∷ (codes "open", roll-Stm (s.Open (first ds).word (exprs (rest ds))))
    ∷ (codes "close", roll-Stm (s.Close (first ds).word (exprs (rest ds))))
    ∷ (codes "lemma", roll-Stm (s.Lemma (first ds).word (exprs (rest ds))))
    ∷ []) (roll-Stm s.Fail)

unfoldable pub assertion_by : List ℕ → List Decoded → Assertion
assertion_by w ds = choose w
    ((codes "pure", roll-Assertion (a.Pure (first ds).expr))
    ∷ (codes "reg", roll-Assertion (a.Register (first ds).word (second ds).expr))
    ∷ (codes "cell", roll-Assertion (a.Cell (first ds).expr (second ds).expr))
    ∷ (codes "star", roll-Assertion (a.Star (map (λ d. d.assertion) ds)))
    ∷ (codes "if", roll-Assertion (a.If (first ds).expr (second ds).assertion (third ds).assertion))
    ∷ (codes "exists", roll-Assertion (a.Exists (first ds).param.name (first ds).param.ty (second ds).assertion))
    ∷ (codes "pred", roll-Assertion (a.Predicate (first ds).word (exprs (rest ds))))
    ∷ (codes "region", roll-Assertion (a.Region (first ds).word (exprs (rest ds))))
    ∷ []) (roll-Assertion (a.Star []))

unfoldable pub decl_by : List ℕ → List Decoded → DeclForm
decl_by w ds = choose w
    ((codes "enum", d.Enum (first ds).word (second ds).words)
    ∷ (codes "union", d.Union (first ds).word (second ds).params)
    ∷ (codes "record", d.Record (first ds).word (second ds).params)
    ∷ (codes "register", d.Register (first ds).word (second ds).type (register_kind_by (third ds).word))
    ∷ (codes "memory", d.Memory (first ds).number (second ds).number (third ds).number (fourth ds).number)
    ∷ (codes "cells", d.Cells (cells_kind_by (first ds).word) (second ds).number (third ds).number)
    ∷ (codes "code", d.Code (first ds).number (map (λ d. d.number) (rest ds)))
    ∷ (codes "region", d.Region (first ds).word (second ds).params (third ds).word (fourth ds).expr)
    ∷ (codes "pred", d.Predicate (first ds).word (second ds).params (third ds).params (fourth ds).assertion)
    ∷ (codes "fun", d.Fun (first ds).word (second ds).params (third ds).type (fourth ds).stm)
    ∷ (codes "contract", d.Contract (first ds).word (second ds).params (third ds).holds (fourth ds).says (fifth ds).holds)
    ∷ (codes "lemma", d.Lemma (first ds).word (second ds).params (third ds).params (fourth ds).holds (fifth ds).holds (sixth ds).steps)
    ∷ (codes "step", d.Step (first ds).word)
    ∷ (codes "dispatch", d.Dispatch (whens ds) (last ds).goes)
    ∷ (codes "untrusted", d.Untrusted (first ds).assertion)
    ∷ (codes "block", d.Block (record { name = (first ds).word; entry = (second ds).holds; within = (third ds).counts; change = (fourth ds).changes }))
    ∷ []) (d.Boot (first ds).word)

abbrev of_word : List ℕ → Decoded
of_word w = record nothing { word = w; type = type_named w; expr = expr_named w; phase = phase_named w }

abbrev of_number : ℕ → Decoded
of_number n = record nothing { number = n }

abbrev of_list : List Decoded → Decoded
of_list ds = record {
  word = [];
  number = 0;
  type = t.Bits (second ds).number;
  param = record { name = (first ds).word; ty = (second ds).type };
  params = map (λ d. d.param) ds;
  words = map (λ d. d.word) ds;
  expr = expr_by (first ds).word (rest ds);
  case_arm = record { member = (first ds).word; body = (second ds).stm };
  match_arm = record { ctor = (first ds).word; payload = (second ds).word; body = (third ds).stm };
  stm = stm_by (first ds).word (rest ds);
  assertion = assertion_by (first ds).word (rest ds);
  phase = p.Block (second ds).word;
  when = record { test = (second ds).expr; phase = (third ds).phase };
  holds = (second ds).assertion;
  says = (second ds).word;
  counts = (second ds).number;
  changes = (second ds).expr;
  goes = (second ds).phase;
  steps = stms (rest ds);
  decl = decl_by (first ds).word (rest ds);
  version = (second ds).number;
  decls = map (λ d. d.decl) (rest (rest ds));
}

-- one layer of a tree
abbrev decoded_in : Tree-F Decoded → Decoded
decoded_in (Tree-F.Atom (NameToken w)) = of_word w
decoded_in (Tree-F.Atom (NumberToken n)) = of_number n
decoded_in (Tree-F.List ds) = of_list ds

abbrev pub decoded : Tree → Decoded
decoded = fold-Tree Decoded decoded_in

-- words, numbers and lists
decoded-Name : (w : List ℕ) → decoded (word w) ≡ of_word w
decoded-Name w = ap decoded (sym (rolls-Atom (NameToken w))) ∙ fold-roll-Tree Decoded decoded_in (Tree-F.Atom (NameToken w))

decoded-Number : (n : ℕ) → decoded (number n) ≡ of_number n
decoded-Number n = ap decoded (sym (rolls-Atom (NumberToken n))) ∙ fold-roll-Tree Decoded decoded_in (Tree-F.Atom (NumberToken n))

pub decoded-List : (parts : List Tree) → decoded (tree.List parts) ≡ of_list (map decoded parts)
decoded-List parts = ap decoded (sym (rolls-List parts)) ∙ fold-roll-Tree Decoded decoded_in (Tree-F.List parts)

pub decoded-form : (head : List ℕ) (parts : List Tree) → decoded (form head parts) ≡ of_list (of_word head ∷ map decoded parts)
decoded-form head parts = decoded-List (word head ∷ parts) ∙ ap (λ d. of_list (d ∷ map decoded parts)) (decoded-Name head)

pub word_back : (w : List ℕ) → (decoded (word w)).word ≡ w
word_back w = ap (λ d. d.word) (decoded-Name w)

pub number_back : (n : ℕ) → (decoded (number n)).number ≡ n
number_back n = ap (λ d. d.number) (decoded-Number n)

pub named_type : (w : List ℕ) → (decoded (word w)).type ≡ type_named w
named_type w = ap (λ d. d.type) (decoded-Name w)

pub named_expr : (w : List ℕ) → (decoded (word w)).expr ≡ expr_named w
named_expr w = ap (λ d. d.expr) (decoded-Name w)

pub named_phase : (w : List ℕ) → (decoded (word w)).phase ≡ phase_named w
named_phase w = ap (λ d. d.phase) (decoded-Name w)

pub expr_form : (head : List ℕ) (parts : List Tree) → (decoded (form head parts)).expr ≡ expr_by head (map decoded parts)
expr_form head parts = ap (λ d. d.expr) (decoded-form head parts)

pub stm_form : (head : List ℕ) (parts : List Tree) → (decoded (form head parts)).stm ≡ stm_by head (map decoded parts)
stm_form head parts = ap (λ d. d.stm) (decoded-form head parts)

pub assertion_form : (head : List ℕ) (parts : List Tree) → (decoded (form head parts)).assertion ≡ assertion_by head (map decoded parts)
assertion_form head parts = ap (λ d. d.assertion) (decoded-form head parts)

pub decl_form : (head : List ℕ) (parts : List Tree) → (decoded (form head parts)).decl ≡ decl_by head (map decoded parts)
decl_form head parts = ap (λ d. d.decl) (decoded-form head parts)
