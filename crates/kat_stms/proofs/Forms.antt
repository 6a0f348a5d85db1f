-- Forms from their parts, and one more of the parts that are read.
use Rattle.std.proofs.Common.{◌≡◌, ℕ, Bool, true, false, ◌+◌, ◌<◌, ◌&&◌, List, [], ◌∷◌, ◌++◌, length, map, refl, ap, sym, subst, ◌∙◌, arith}
use Rattle.std.specs.Prelude.{codes, Result, IfOk}
use Rattle.std.proofs.lemmas.List.{map-append}
use Rattle.kat_tree.specs.declared.tree.Tree.{Tree}
use Rattle.kat_tree.specs.declared.tree.Tree.TheVariants as variant
use Rattle.kat_ast.specs.declared.expr.Expr.{Expr}
use Rattle.kat_ast.specs.declared.type_name.TypeName.{TypeName}
use Rattle.kat_ast.specs.declared.assertion.Assertion.{Assertion}
use Rattle.kat_ast.specs.declared.assertion.Assertion.TheVariants as holds
use Rattle.kat_ast.specs.declared.assertion.Assertion.TheVariants.{rolls-Exists}
use Rattle.kat_ast.specs.declared.assertion.Assertion.TheOpen as assertion
use Rattle.kat_ast.specs.declared.assertion.Assertion.TheFolds.{fold-roll-Assertion}
use Rattle.kat_ast.specs.declared.stm.Stm.{Stm}
use Rattle.kat_ast.specs.declared.stm.CaseArm.{CaseArm}
use Rattle.kat_ast.specs.declared.stm.MatchArm.{MatchArm}
use Rattle.kat_ast.specs.declared.stm.Stm.TheVariants as made
use Rattle.kat_ast.specs.declared.stm.Stm.TheVariants.{rolls-Seq, rolls-Case, rolls-Match, rolls-Fail}
use Rattle.kat_ast.specs.declared.stm.Stm.TheOpen as layer
use Rattle.kat_ast.specs.declared.stm.Stm.TheShapes.{former-Stm-Case-1-at-2 as case_arm, former-Stm-Match-1-at-3 as match_arm}
use Rattle.kat_ast.specs.declared.stm.Stm.TheFolds.{fold-roll-Stm}
use Rattle.kat_ast.specs.Parts.{word, form, is_name, every, is_nonempty}
use Rattle.kat_ast.specs.Types.{tree_of_param, is_formed_type, is_formed_param}
use Rattle.kat_ast.specs.Expressions.{tree_of_expr, is_formed_expr}
use Rattle.kat_ast.specs.Assertions.{assertion_tree, tree_of_assertion, assertion_formed, is_formed_assertion}
use Rattle.kat_ast.specs.Statements.{tree_of_case_arm, tree_of_match_arm, stm_tree, tree_of_stm, is_formed_case_arm, is_formed_match_arm, stm_formed, is_formed_stm}
use Rattle.kat_grammar.specs.Parts.{At, SoFar}
use Rattle.kat_grammar.specs.Forms.{IsAssertion, IsStm, AreStms, AreCaseArms, AreMatchArms}
use Rattle.kat_grammar.specs.Laws.{FormLaws}

pub some_made : {A : Type 0} → (written : A → Tree) (made : List A) (parts : List Tree) → map written made ≡ parts → (n : ℕ) → length parts ≡ n + 1 → is_nonempty made ≡ true
some_made written [] parts same n some = absurd (omega (arith, ap length same))
some_made written (one ∷ made) parts same n some = refl

pub apart : (a b : Bool) → a && b ≡ true → (a ≡ true) × (b ≡ true)
apart true b e = (refl, e)
apart false b e = absurd (cc)

pub both : (a b : Bool) → a ≡ true → b ≡ true → a && b ≡ true
both a b p q = rw (p, q) refl

pub Exists-is : (parts : List Tree) (x : List ℕ) (t : TypeName) (body : Assertion) → tree_of_param (record { name = x; ty = t }) ∷ tree_of_assertion body ∷ [] ≡ parts →
    is_formed_param (record { name = x; ty = t }) ≡ true → is_formed_assertion body ≡ true → IsAssertion (form (codes "exists") parts) (holds.Exists x t body)
Exists-is parts x t body same f0 f1 =
    let f = apart (is_name x) (is_formed_type t) f0 in (
      ap tree_of_assertion (sym (rolls-Exists x t body)) ∙ fold-roll-Assertion Tree assertion_tree (assertion.Exists x t body) ∙ ap (form (codes "exists")) same,
      ap is_formed_assertion (sym (rolls-Exists x t body)) ∙ fold-roll-Assertion Bool assertion_formed (assertion.Exists x t body) ∙ rw (f.0, f.1, f1) refl,
    )

pub Fail-is : (parts : List Tree) → [] ≡ parts → IsStm (form (codes "fail") parts) made.Fail
Fail-is parts same = (
  ap tree_of_stm (sym rolls-Fail) ∙ fold-roll-Stm Tree stm_tree layer.Fail ∙ ap (form (codes "fail")) same,
  ap is_formed_stm (sym rolls-Fail) ∙ fold-roll-Stm Bool stm_formed layer.Fail,
)

some_mapped : {A B : Type 0} → (f : A → B) (xs : List A) → is_nonempty (map f xs) ≡ is_nonempty xs
some_mapped f [] = refl
some_mapped f (x ∷ xs) = refl

pub Seq-is : (parts : List Tree) (ss : List Stm) → AreStms parts ss → (n : ℕ) → length parts ≡ n + 1 → IsStm (form (codes "seq") parts) (made.Seq ss)
Seq-is parts ss are n long = (
  ap tree_of_stm (sym (rolls-Seq ss)) ∙ fold-roll-Stm Tree stm_tree (layer.Seq ss) ∙ ap (form (codes "seq")) are.0,
  ap is_formed_stm (sym (rolls-Seq ss)) ∙ fold-roll-Stm Bool stm_formed (layer.Seq ss)
      ∙ both (is_nonempty (map is_formed_stm ss)) (every (map is_formed_stm ss)) (some_mapped is_formed_stm ss ∙ some_made tree_of_stm ss parts are.0 n long) are.1,
)

map_map : {A B C : Type 0} (f : B → C) (g : A → B) (xs : List A) → map f (map g xs) ≡ map (λ x. f (g x)) xs
map_map f g [] = refl
map_map f g (x ∷ xs) = ap (λ ys. f (g x) ∷ ys) (map_map f g xs)

pub Case-is : (parts rest : List Tree) (e : Expr) (arms : List (CaseArm Stm)) → tree_of_expr e ∷ rest ≡ parts → is_formed_expr e ≡ true → AreCaseArms rest arms →
    IsStm (form (codes "case") parts) (made.Case e arms)
Case-is parts rest e arms same f0 are = (
  ap tree_of_stm (sym (rolls-Case e arms)) ∙ fold-roll-Stm Tree stm_tree (layer.Case e arms)
      ∙ ap (λ ts. form (codes "case") (tree_of_expr e ∷ ts)) (map_map tree_of_case_arm (case_arm.map Stm Tree tree_of_stm) arms ∙ are.0)
      ∙ ap (form (codes "case")) same,
  ap is_formed_stm (sym (rolls-Case e arms)) ∙ fold-roll-Stm Bool stm_formed (layer.Case e arms)
      ∙ both (is_formed_expr e) (every (map is_formed_case_arm (map (case_arm.map Stm Bool is_formed_stm) arms))) f0
      (ap every (map_map is_formed_case_arm (case_arm.map Stm Bool is_formed_stm) arms) ∙ are.1),
)

pub Match-is : (parts rest : List Tree) (e : Expr) (arms : List (MatchArm Stm)) → tree_of_expr e ∷ rest ≡ parts → is_formed_expr e ≡ true → AreMatchArms rest arms →
    IsStm (form (codes "match") parts) (made.Match e arms)
Match-is parts rest e arms same f0 are = (
  ap tree_of_stm (sym (rolls-Match e arms)) ∙ fold-roll-Stm Tree stm_tree (layer.Match e arms)
      ∙ ap (λ ts. form (codes "match") (tree_of_expr e ∷ ts)) (map_map tree_of_match_arm (match_arm.map Stm Tree tree_of_stm) arms ∙ are.0)
      ∙ ap (form (codes "match")) same,
  ap is_formed_stm (sym (rolls-Match e arms)) ∙ fold-roll-Stm Bool stm_formed (layer.Match e arms)
      ∙ both (is_formed_expr e) (every (map is_formed_match_arm (map (match_arm.map Stm Bool is_formed_stm) arms))) f0
      (ap every (map_map is_formed_match_arm (match_arm.map Stm Bool is_formed_stm) arms) ∙ are.1),
)

-- the whole list is what its parts behind its word are in the form of that word
pub arm_is : {A E : Type 0} (Is : Tree → A → Type 0) (tree : Tree) (all parts behind : List Tree) (x w : List ℕ) (result : Result A E) → tree ≡ variant.List all → parts ≡ all → word x ∷ behind ≡ parts → x ≡ w →
    IfOk result (Is (form w behind)) → IfOk result (Is tree)
arm_is Is tree all parts behind x w result is slice split same =
    subst (λ t. IfOk result (Is t)) (ap (λ u. form u behind) (sym same) ∙ ap variant.List (split ∙ slice) ∙ sym is)

-- one more of the parts was read
pub one_more : {A : Type 0} (laws : FormLaws) (written : A → Tree) (formed : A → Bool)
    (parts : List Tree) (made now : List A) (at : ℕ) (one : A) (part : Tree) → now ≡ made ++ one ∷ [] →
    SoFar written formed parts made at → at < length parts → At parts at part → written one ≡ part →
    formed one ≡ true → SoFar written formed parts now (at + 1)
one_more laws written formed parts made now at one part pushed so_far within here is well =
    let more = laws.more_made parts (map written made) (map formed made) at (written one) part (formed one) so_far.same so_far.well within here is well in
    subst (λ made. SoFar written formed parts made (at + 1)) (sym pushed) (record {
      same = map-append written made (one ∷ []) ∙ more.0;
      well = ap every (map-append formed made (one ∷ [])) ∙ more.1;
    })
