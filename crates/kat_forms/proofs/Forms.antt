-- Declarations and their parts from what was read, and one more of the parts that are read.
use Rattle.std.proofs.Common.{◌≡◌, ℕ, Bool, true, ◌+◌, ◌<◌, List, [], ◌∷◌, ◌++◌, length, map, refl, ap, sym, subst, ◌∙◌}
use Rattle.std.specs.Prelude.{codes, Result, Ok, Err, IfOk}
use Rattle.std.proofs.lemmas.List.{map-append}
use Rattle.kat_tree.specs.declared.tree.Tree.{Tree}
use Rattle.kat_tree.specs.declared.tree.Tree.TheVariants as variant
use Rattle.kat_ast.specs.declared.expr.Expr.{Expr}
use Rattle.kat_ast.specs.declared.type_name.TypeName.{TypeName}
use Rattle.kat_ast.specs.declared.type_name.Param.{Param}
use Rattle.kat_ast.specs.declared.stm.Stm.{Stm}
use Rattle.kat_ast.specs.declared.assertion.Assertion.{Assertion}
use Rattle.kat_ast.specs.declared.decl.Phase.{Phase}
use Rattle.kat_ast.specs.declared.decl.When.{When}
use Rattle.kat_ast.specs.declared.decl.DeclForm.{DeclForm}
use Rattle.kat_ast.specs.declared.decl.DeclForm.TheVariants as decl
use Rattle.kat_ast.specs.Parts.{word, number, form, is_name, every}
use Rattle.kat_ast.specs.Types.{tree_of_type, tree_of_params, is_formed_type, are_formed_params}
use Rattle.kat_ast.specs.Expressions.{tree_of_expr, is_formed_expr}
use Rattle.kat_ast.specs.Statements.{tree_of_stm, is_formed_stm}
use Rattle.kat_ast.specs.Assertions.{tree_of_assertion, is_formed_assertion}
use Rattle.kat_ast.specs.Declarations.{holding, tree_of_phase, tree_of_when, is_formed_phase, is_formed_when}
use Rattle.kat_grammar.specs.Parts.{At, SoFar}
use Rattle.kat_grammar.specs.Forms.{IsAssertion, IsHolding, IsWhen, IsDeclForm}
use Rattle.kat_grammar.specs.Laws.{FormLaws}

pub Region-is : (parts : List Tree) (x : List ℕ) (ps : List Param) (i : List ℕ) (e : Expr) → word x ∷ tree_of_params ps ∷ word i ∷ tree_of_expr e ∷ [] ≡ parts →
    is_name x ≡ true → are_formed_params ps ≡ true → is_name i ≡ true → is_formed_expr e ≡ true → IsDeclForm (form (codes "region") parts) (decl.Region x ps i e)
Region-is parts x ps i e same f0 f1 f2 f3 = (ap (form (codes "region")) same, rw (f0, f1, f2, f3) refl)

pub Predicate-is : (parts : List Tree) (x : List ℕ) (ps qs : List Param) (a : Assertion) → word x ∷ tree_of_params ps ∷ tree_of_params qs ∷ tree_of_assertion a ∷ [] ≡ parts →
    is_name x ≡ true → are_formed_params ps ≡ true → are_formed_params qs ≡ true → is_formed_assertion a ≡ true → IsDeclForm (form (codes "pred") parts) (decl.Predicate x ps qs a)
Predicate-is parts x ps qs a same f0 f1 f2 f3 = (ap (form (codes "pred")) same, rw (f0, f1, f2, f3) refl)

pub Fun-is : (parts : List Tree) (x : List ℕ) (ps : List Param) (t : TypeName) (s : Stm) → word x ∷ tree_of_params ps ∷ tree_of_type t ∷ tree_of_stm s ∷ [] ≡ parts →
    is_name x ≡ true → are_formed_params ps ≡ true → is_formed_type t ≡ true → is_formed_stm s ≡ true → IsDeclForm (form (codes "fun") parts) (decl.Fun x ps t s)
Fun-is parts x ps t s same f0 f1 f2 f3 = (ap (form (codes "fun")) same, rw (f0, f1, f2, f3) refl)

pub Contract-is : (parts : List Tree) (x : List ℕ) (ps : List Param) (a : Assertion) (r : List ℕ) (b : Assertion) → word x ∷ tree_of_params ps ∷ holding (codes "pre") a ∷ form (codes "res") (word r ∷ []) ∷ holding (codes "post") b ∷ [] ≡ parts →
    is_name x ≡ true → are_formed_params ps ≡ true → is_formed_assertion a ≡ true → is_name r ≡ true → is_formed_assertion b ≡ true → IsDeclForm (form (codes "contract") parts) (decl.Contract x ps a r b)
Contract-is parts x ps a r b same f0 f1 f2 f3 f4 = (ap (form (codes "contract")) same, rw (f0, f1, f2, f3, f4) refl)

pub Dispatch-is : (parts : List Tree) (ws : List When) (p : Phase) → map tree_of_when ws ++ form (codes "else") (tree_of_phase p ∷ []) ∷ [] ≡ parts →
    every (map is_formed_when ws) ≡ true → is_formed_phase p ≡ true → IsDeclForm (form (codes "dispatch") parts) (decl.Dispatch ws p)
Dispatch-is parts ws p same f0 f1 = (ap (form (codes "dispatch")) same, rw (f0, f1) refl)

pub Block-is : (parts : List Tree) (x : List ℕ) (a : Assertion) (n : ℕ) (e : Expr) →
    word x ∷ holding (codes "entry") a ∷ form (codes "within") (number n ∷ []) ∷ form (codes "change") (tree_of_expr e ∷ []) ∷ [] ≡ parts →
    is_name x ≡ true → is_formed_assertion a ≡ true → is_formed_expr e ≡ true →
    IsDeclForm (form (codes "block") parts) (decl.Block (record { name = x; entry = a; within = n; change = e }))
Block-is parts x a n e same f0 f1 f2 = (ap (form (codes "block")) same, rw (f0, f1, f2) refl)

pub When-is : (parts : List Tree) (e : Expr) (p : Phase) → tree_of_expr e ∷ tree_of_phase p ∷ [] ≡ parts → is_formed_expr e ≡ true → is_formed_phase p ≡ true →
    IsWhen (form (codes "when") parts) (record { test = e; phase = p })
When-is parts e p same f0 f1 = (ap (form (codes "when")) same, rw (f0, f1) refl)

-- the whole list is what its parts behind its word are in the form of that word
pub arm_is : {E : Type 0} (tree : Tree) (all parts behind : List Tree) (x w : List ℕ) (result : Result DeclForm E) → tree ≡ variant.List all → parts ≡ all → word x ∷ behind ≡ parts → x ≡ w →
    IfOk result (IsDeclForm (form w behind)) → IfOk result (IsDeclForm tree)
arm_is tree all parts behind x w result is slice split same =
    subst (λ t. IfOk result (IsDeclForm t)) (ap (λ u. form u behind) (sym same) ∙ ap variant.List (split ∙ slice) ∙ sym is)

-- a list of a word and an assertion, from that assertion
pub holding_is : (w : List ℕ) (tree part : Tree) (a : Assertion) → form w (part ∷ []) ≡ tree → IsAssertion part a → IsHolding w tree a
holding_is w tree part a same is = (ap (λ t. form w (t ∷ [])) is.0 ∙ same, is.1)

-- what a thing is, and what was read behind it, of the two together
pub paired_are : {A B E : Type 0} (P : A → Type 0) (Q : B → Type 0) (result : Result (A × B) E) (first : A) (second : Result B E) →
    IfOk result (λ r. (r.0 ≡ first) × (second ≡ Ok r.1)) → P first → IfOk second Q → IfOk result (λ r. P r.0 × Q r.1)
paired_are P Q (Ok r) first second is one other = (subst P (sym is.0) one, subst (λ s. IfOk s Q) is.1 other)
paired_are P Q (Err e) first second is one other = tt

-- what was read is also what follows from it
pub read_as : {A E : Type 0} (P Q : A → Type 0) → ((a : A) → P a → Q a) → (result : Result A E) → IfOk result P → IfOk result Q
read_as P Q follows (Ok a) is = follows a is
read_as P Q follows (Err e) is = tt

-- one more of the parts was read
pub one_more : {A : Type 0} (laws : FormLaws) (written : A → Tree) (formed : A → Bool)
    (parts : List Tree) (made now : List A) (at : ℕ) (one : A) (part : Tree) → now ≡ made ++ one ∷ [] →
    SoFar written formed parts made at → at < length parts → At parts at part → written one ≡ part →
    formed one ≡ true → SoFar written formed parts now (at + 1)
one_more laws written formed parts made now at one part pushed so_far within here is well =
    let more = laws.more_made parts (map written made) (map formed made) at (written one) part (formed one) so_far.same so_far.well within here is well in
    subst (λ made. SoFar written formed parts made (at + 1)) (sym pushed) (record {
      same = map-append written made (one ∷ []) ∙ more.0;
      well = ap every (map-append formed made (one ∷ [])) ∙ more.1;
    })
