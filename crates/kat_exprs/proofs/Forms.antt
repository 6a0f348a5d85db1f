-- A record from its fields, and one more of the parts that are read.
use Rattle.std.proofs.Common.{◌≡◌, ℕ, Bool, true, ◌+◌, ◌<◌, List, [], ◌∷◌, ◌++◌, length, map, refl, ap, sym, subst, ◌∙◌}
use Rattle.std.specs.Prelude.{codes}
use Rattle.std.proofs.lemmas.List.{map-append}
use Rattle.kat_tree.specs.declared.tree.Tree.{Tree}
use Rattle.kat_ast.specs.declared.expr.Expr.{Expr}
use Rattle.kat_ast.specs.declared.expr.Expr.TheVariants as made
use Rattle.kat_ast.specs.declared.expr.Expr.TheVariants.{rolls-Rec}
use Rattle.kat_ast.specs.declared.expr.Expr.TheOpen as layer
use Rattle.kat_ast.specs.declared.expr.Expr.TheFolds.{fold-roll-Expr}
use Rattle.kat_ast.specs.Parts.{word, form, is_name, every}
use Rattle.kat_ast.specs.Expressions.{expr_tree, tree_of_expr, expr_formed, is_formed_expr, are_formed_exprs}
use Rattle.kat_grammar.specs.Parts.{At, SoFar}
use Rattle.kat_grammar.specs.Forms.{IsExpr}
use Rattle.kat_grammar.specs.Laws.{FormLaws}

pub same_first : {A : Type 0} {a x : A} {as_ xs : List A} → a ≡ x → as_ ≡ xs → a ∷ as_ ≡ x ∷ xs
same_first p q = cc

pub Rec-is : (parts : List Tree) (r : List ℕ) (es : List Expr) → word r ∷ map tree_of_expr es ≡ parts → is_name r ≡ true → are_formed_exprs es ≡ true → IsExpr (form (codes "rec") parts) (made.Rec r es)
Rec-is parts r es same f0 f1 = (
  ap tree_of_expr (sym (rolls-Rec r es)) ∙ fold-roll-Expr Tree expr_tree (layer.Rec r es) ∙ ap (form (codes "rec")) same,
  ap is_formed_expr (sym (rolls-Rec r es)) ∙ fold-roll-Expr Bool expr_formed (layer.Rec r es) ∙ rw (f0, f1) refl,
)

-- one more of the parts was read
pub one_more : {A : Type 0} (laws : FormLaws) (written : A → Tree) (formed : A → Bool)
    (parts : List Tree) (made now : List A) (at : ℕ) (one : A) (part : Tree) → now ≡ made ++ one ∷ [] →
    SoFar written formed parts made at → at < length parts → At parts at part → written one ≡ part →
    formed one ≡ true → SoFar written formed parts now (at + 1)
one_more laws written formed parts made now at one part pushed so_far within here is well =
    let more = laws.more_made parts (map written made) (map formed made) at (written one) part (formed one) so_far.same so_far.well within here is well in
    subst (λ made. SoFar written formed parts made (at + 1)) (sym pushed) (record {
      same = map-append written made (one ∷ []) ∙ more.0;
      well = ap every (map-append formed made (one ∷ [])) ∙ more.1;
    })
