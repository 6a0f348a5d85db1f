-- Expressions, statements and assertions that a declaration may have.
use Rattle.std.proofs.Common.{◌≡◌, ◌∙◌, ℕ, ◌+◌, ◌<◌, ◌^◌, max, Bool, true, List, [], ◌∷◌, ◌++◌}
use Rattle.std.proofs.Common.{map, ap, refl, sym, subst, codes, lit<}
use Rattle.std.proofs.lemmas.Bool.{and_from}
use Rattle.kat_tree.specs.declared.tree.Tree.{Tree}
use Rattle.kat_tree.specs.Written.{IsNameToken}
use Rattle.kat_value.specs.declared.op.Op.{Op}
use Rattle.kat_value.specs.Words.{word_of_op}
use Rattle.kat_ast.specs.declared.assertion.Assertion.{Assertion}
use Rattle.kat_ast.specs.declared.assertion.Assertion.TheFolds.{map-Assertion, fold-roll-Assertion}
use Rattle.kat_ast.specs.declared.assertion.Assertion.TheViews.{roll-Assertion}
use Rattle.kat_ast.specs.declared.assertion.Assertion.TheOpen as ao
use Rattle.kat_ast.specs.declared.assertion.Assertion.TheVariants as a
use Rattle.kat_ast.specs.declared.expr.Expr.{Expr}
use Rattle.kat_ast.specs.declared.expr.Expr.TheFolds.{map-Expr, fold-roll-Expr}
use Rattle.kat_ast.specs.declared.expr.Expr.TheViews.{roll-Expr}
use Rattle.kat_ast.specs.declared.expr.Expr.TheOpen as eo
use Rattle.kat_ast.specs.declared.expr.Expr.TheVariants as e
use Rattle.kat_ast.specs.declared.stm.Stm.{Stm}
use Rattle.kat_ast.specs.declared.stm.Stm.TheFolds.{map-Stm, fold-roll-Stm}
use Rattle.kat_ast.specs.declared.stm.Stm.TheViews.{roll-Stm}
use Rattle.kat_ast.specs.declared.stm.Stm.TheOpen as so
use Rattle.kat_ast.specs.declared.stm.Stm.TheVariants as s
use Rattle.kat_ast.specs.Assertions.{assertion_formed, assertion_tree, is_formed_assertion}
use Rattle.kat_ast.specs.Assertions.{tree_of_assertion}
use Rattle.kat_ast.specs.Expressions.{expr_formed, expr_tree, is_formed_expr, numbers_before}
use Rattle.kat_ast.specs.Expressions.{tree_of_expr}
use Rattle.kat_ast.specs.Parts.{every, form, is_nonempty}
use Rattle.kat_ast.specs.Types.{tree_of_type}
use Rattle.kat_ast.specs.Statements.{is_formed_stm, stm_formed, stm_tree, tree_of_stm}
use Rattle.kat_gen.specs.Generated.{holding_some, sixteen_bits}
use Rattle.kat_gen.proofs.Trees.{AreSound, IsSound, form_sound, list_sound, more, none}
use Rattle.kat_gen.proofs.Trees.{number_sound, word_sound}
use Rattle.kat_gen.proofs.Words.{IsWord, word_is_token}

-- an expression has its form, and its tree such bounds
pub record ExprIs (x : Expr) (depth count : ℕ) : Type 0 where
  pub formed : is_formed_expr x ≡ true
  pub sound : IsSound (tree_of_expr x) depth count

pub record StmIs (x : Stm) (depth count : ℕ) : Type 0 where
  pub formed : is_formed_stm x ≡ true
  pub sound : IsSound (tree_of_stm x) depth count

pub record AssertionIs (x : Assertion) (depth count : ℕ) : Type 0 where
  pub formed : is_formed_assertion x ≡ true
  pub sound : IsSound (tree_of_assertion x) depth count

-- by its layer
expr_is : (y : eo.Expr-F Expr) (x : Expr) {d c : ℕ} → roll-Expr y ≡ x
    → expr_formed (map-Expr Expr Bool is_formed_expr y) ≡ true
    → IsSound (expr_tree (map-Expr Expr Tree tree_of_expr y)) d c → ExprIs x d c
expr_is y x {d = d} {c = c} is formed sound = record {
  formed = ap is_formed_expr (sym is) ∙ fold-roll-Expr Bool expr_formed y ∙ formed;
  sound = subst (λ t. IsSound t d c)
      (sym (ap tree_of_expr (sym is) ∙ fold-roll-Expr Tree expr_tree y)) sound;
}

stm_is : (y : so.Stm-F Stm) (x : Stm) {d c : ℕ} → roll-Stm y ≡ x
    → stm_formed (map-Stm Stm Bool is_formed_stm y) ≡ true
    → IsSound (stm_tree (map-Stm Stm Tree tree_of_stm y)) d c → StmIs x d c
stm_is y x {d = d} {c = c} is formed sound = record {
  formed = ap is_formed_stm (sym is) ∙ fold-roll-Stm Bool stm_formed y ∙ formed;
  sound = subst (λ t. IsSound t d c)
      (sym (ap tree_of_stm (sym is) ∙ fold-roll-Stm Tree stm_tree y)) sound;
}

assertion_is : (y : ao.Assertion-F Assertion) (x : Assertion) {d c : ℕ} → roll-Assertion y ≡ x
    → assertion_formed (map-Assertion Assertion Bool is_formed_assertion y) ≡ true
    → IsSound (assertion_tree (map-Assertion Assertion Tree tree_of_assertion y)) d c
    → AssertionIs x d c
assertion_is y x {d = d} {c = c} is formed sound = record {
  formed = ap is_formed_assertion (sym is) ∙ fold-roll-Assertion Bool assertion_formed y ∙ formed;
  sound = subst (λ t. IsSound t d c)
      (sym (ap tree_of_assertion (sym is) ∙ fold-roll-Assertion Tree assertion_tree y)) sound;
}

pub name_is : (w : List ℕ) → IsWord w → ExprIs (e.Name w) 0 1
name_is w is = expr_is (eo.Name w) (e.Name w) (e.rolls-Name w) is.named (word_sound w is.token)

pub unit_is : ExprIs e.Unit 0 1
unit_is = expr_is eo.Unit e.Unit e.rolls-Unit refl
    (word_sound (codes "unit") (word_is_token (codes "unit") refl))

pub bits_is : (w n : ℕ) → w < 2 ^ 64 → n < 2 ^ 64 → ExprIs (e.Bits w n) 1 4
bits_is w n lt small = expr_is (eo.Bits w n) (e.Bits w n) (e.rolls-Bits w n) refl
    (form_sound (codes "bits") _ (word_is_token (codes "bits") refl)
    (more _ _ (number_sound w lt) (more _ _ (number_sound n small) none)))

pub register_is : (r : List ℕ) → IsWord r → ExprIs (e.Register r) 1 3
register_is r is = expr_is (eo.Register r) (e.Register r) (e.rolls-Register r) is.named
    (form_sound (codes "reg") _ (word_is_token (codes "reg") refl)
    (more _ _ (word_sound r is.token) none))

pub before_is : (r : List ℕ) → IsWord r → ExprIs (e.Before r) 1 3
before_is r is = expr_is (eo.Before r) (e.Before r) (e.rolls-Before r) is.named
    (form_sound (codes "before") _ (word_is_token (codes "before") refl)
    (more _ _ (word_sound r is.token) none))

pub after_is : (r : List ℕ) → IsWord r → ExprIs (e.After r) 1 3
after_is r is = expr_is (eo.After r) (e.After r) (e.rolls-After r) is.named
    (form_sound (codes "after") _ (word_is_token (codes "after") refl)
    (more _ _ (word_sound r is.token) none))

-- an operation of two arguments that is written without a number
pub record IsPlainOp (o : Op) : Type 0 where
  pub formed : (x y : Bool) → x ≡ true → y ≡ true
      → expr_formed (eo.Apply o (x ∷ y ∷ [])) ≡ true
  pub numbers : numbers_before o ≡ []
  pub token : IsNameToken (word_of_op o)

pub two_is : (o : Op) (x y : Expr) {d c k m : ℕ} → IsPlainOp o → ExprIs x d c → ExprIs y k m
    → ExprIs (e.Apply o (x ∷ y ∷ [])) (max 0 (max d (max k 0)) + 1) (1 + (c + (m + 0)) + 1)
two_is o x y {d = d} {c = c} {k = k} {m = m} is first second =
    expr_is (eo.Apply o (x ∷ y ∷ [])) (e.Apply o (x ∷ y ∷ [])) (e.rolls-Apply o (x ∷ y ∷ []))
    (is.formed (is_formed_expr x) (is_formed_expr y) first.formed second.formed)
    (subst (λ (ns : List Tree).
    IsSound (form (word_of_op o) (ns ++ tree_of_expr x ∷ tree_of_expr y ∷ []))
    (max 0 (max d (max k 0)) + 1) (1 + (c + (m + 0)) + 1)) (sym is.numbers)
    (form_sound (word_of_op o) _ is.token
    (more _ _ first.sound (more _ _ second.sound none))))

pub ret_is : (x : Expr) {d c : ℕ} → ExprIs x d c
    → StmIs (s.Ret x) (max 0 (max d 0) + 1) (1 + (c + 0) + 1)
ret_is x is = stm_is (so.Ret x) (s.Ret x) (s.rolls-Ret x) is.formed
    (form_sound (codes "ret") _ (word_is_token (codes "ret") refl) (more _ _ is.sound none))

pub read_is : (r : List ℕ) → IsWord r → StmIs (s.Read r) 1 3
read_is r is = stm_is (so.Read r) (s.Read r) (s.rolls-Read r) is.named
    (form_sound (codes "read") _ (word_is_token (codes "read") refl)
    (more _ _ (word_sound r is.token) none))

pub write_is : (r : List ℕ) (x : Expr) {d c : ℕ} → IsWord r → ExprIs x d c
    → StmIs (s.Write r x) (max 0 (max 0 (max d 0)) + 1) (1 + (1 + (c + 0)) + 1)
write_is r x is value = stm_is (so.Write r x) (s.Write r x) (s.rolls-Write r x)
    (and_from _ _ is.named value.formed)
    (form_sound (codes "write") _ (word_is_token (codes "write") refl)
    (more _ _ (word_sound r is.token) (more _ _ value.sound none)))

pub call_is : (f : List ℕ) → IsWord f → StmIs (s.Call f []) 1 3
call_is f is = stm_is (so.Call f []) (s.Call f []) (s.rolls-Call f [])
    (and_from _ _ is.named refl)
    (form_sound (codes "call") _ (word_is_token (codes "call") refl)
    (more _ _ (word_sound f is.token) none))

pub let_is : (x : List ℕ) (p q : Stm) {d c k m : ℕ} → IsWord x → StmIs p d c → StmIs q k m
    → StmIs (s.Let x p q) (max 0 (max 0 (max d (max k 0))) + 1) (1 + (1 + (c + (m + 0))) + 1)
let_is x p q is first second = stm_is (so.Let x p q) (s.Let x p q) (s.rolls-Let x p q)
    (and_from _ _ is.named (and_from _ _ first.formed second.formed))
    (form_sound (codes "let") _ (word_is_token (codes "let") refl)
    (more _ _ (word_sound x is.token) (more _ _ first.sound (more _ _ second.sound none))))

pub if_is : (x : Expr) (p q : Stm) {d c k m i n : ℕ} → ExprIs x d c → StmIs p k m → StmIs q i n
    → StmIs (s.If x p q) (max 0 (max d (max k (max i 0))) + 1) (1 + (c + (m + (n + 0))) + 1)
if_is x p q test first second = stm_is (so.If x p q) (s.If x p q) (s.rolls-If x p q)
    (and_from _ _ test.formed (and_from _ _ first.formed second.formed))
    (form_sound (codes "if") _ (word_is_token (codes "if") refl)
    (more _ _ test.sound (more _ _ first.sound (more _ _ second.sound none))))

some_mapped : (ss : List Stm) → is_nonempty ss ≡ true → is_nonempty (map is_formed_stm ss) ≡ true
some_mapped [] some = some
some_mapped (x ∷ xs) some = refl

-- at least one statement
pub seq_is : (ss : List Stm) {d c : ℕ} → is_nonempty ss ≡ true → every (map is_formed_stm ss) ≡ true
    → AreSound (map tree_of_stm ss) d c → StmIs (s.Seq ss) (max 0 d + 1) (1 + c + 1)
seq_is ss some formed are = stm_is (so.Seq ss) (s.Seq ss) (s.rolls-Seq ss)
    (and_from _ _ (some_mapped ss some) formed)
    (form_sound (codes "seq") _ (word_is_token (codes "seq") refl) are)

pub holds_is : (r : List ℕ) (x : Expr) {d c : ℕ} → IsWord r → ExprIs x d c
    → AssertionIs (a.Register r x) (max 0 (max 0 (max d 0)) + 1) (1 + (1 + (c + 0)) + 1)
holds_is r x is value = assertion_is (ao.Register r x) (a.Register r x) (a.rolls-Register r x)
    (and_from _ _ is.named value.formed)
    (form_sound (codes "reg") _ (word_is_token (codes "reg") refl)
    (more _ _ (word_sound r is.token) (more _ _ value.sound none)))

pub star_is : (xs : List Assertion) {d c : ℕ} → every (map is_formed_assertion xs) ≡ true
    → AreSound (map tree_of_assertion xs) d c → AssertionIs (a.Star xs) (max 0 d + 1) (1 + c + 1)
star_is xs formed are = assertion_is (ao.Star xs) (a.Star xs) (a.rolls-Star xs) formed
    (form_sound (codes "star") _ (word_is_token (codes "star") refl) are)

pub sixteen_sound : IsSound (tree_of_type sixteen_bits) 1 3
sixteen_sound = form_sound (codes "bits") _ (word_is_token (codes "bits") refl)
    (more _ _ (number_sound 16 (lit< tt)) none)

-- `(exists (x (bits 16)) (reg r x))`
pub some_is : (x r : List ℕ) → IsWord x → IsWord r → AssertionIs (holding_some x r) 3 11
some_is x r is at =
    let value = holds_is r (e.Name x) at (name_is x is) in
    assertion_is (ao.Exists x sixteen_bits (a.Register r (e.Name x))) (holding_some x r)
    (a.rolls-Exists x sixteen_bits (a.Register r (e.Name x)))
    (and_from _ _ is.named (and_from _ _ refl value.formed))
    (form_sound (codes "exists") _ (word_is_token (codes "exists") refl)
    (more _ _ (list_sound _ (more _ _ (word_sound x is.token) (more _ _ sixteen_sound none)))
    (more _ _ value.sound none)))
