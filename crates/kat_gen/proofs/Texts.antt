-- The canonical text of the generated specification is its text piece by piece.
use Rattle.std.proofs.Common.{◌≡◌, ◌∙◌, ℕ, zero, suc, ◌+◌, List, [], ◌∷◌, ◌++◌, map, codes, decimal}
use Rattle.std.proofs.Common.{ap, refl, sym, subst, append_assoc}
use Rattle.std.proofs.lemmas.List.{map-append}
use Rattle.std.specs.Fmt.{digits}
use Rattle.kat_tree.specs.declared.tree.Token.{Token}
use Rattle.kat_tree.specs.declared.tree.Token.TheVariants.{Number as NumberToken, Name as NameToken}
use Rattle.kat_tree.specs.declared.tree.Tree.{Tree}
use Rattle.kat_tree.specs.declared.tree.Tree.TheFolds.{fold-roll-Tree}
use Rattle.kat_tree.specs.declared.tree.Tree.TheOpen.{Tree-F}
use Rattle.kat_tree.specs.declared.tree.Tree.TheVariants as tree
use Rattle.kat_tree.specs.declared.tree.Tree.TheVariants.{rolls-Atom, rolls-List}
use Rattle.kat_tree.specs.Lexeme.{joined}
use Rattle.kat_tree.specs.Written.{behind_spaces, spaced, text_in, text_of_token, text_of_tree}
use Rattle.kat_value.specs.declared.op.Op.{Op}
use Rattle.kat_value.specs.declared.op.Op.TheVariants.{Eq, Ult, Add}
use Rattle.kat_value.specs.Words.{word_of_op}
use Rattle.kat_ast.specs.declared.assertion.Assertion.{Assertion}
use Rattle.kat_ast.specs.declared.assertion.Assertion.TheFolds.{map-Assertion, fold-roll-Assertion}
use Rattle.kat_ast.specs.declared.assertion.Assertion.TheViews.{roll-Assertion}
use Rattle.kat_ast.specs.declared.assertion.Assertion.TheOpen as ao
use Rattle.kat_ast.specs.declared.assertion.Assertion.TheVariants as a
use Rattle.kat_ast.specs.declared.decl.DeclForm.{DeclForm}
use Rattle.kat_ast.specs.declared.expr.Expr.{Expr}
use Rattle.kat_ast.specs.declared.expr.Expr.TheFolds.{map-Expr, fold-roll-Expr}
use Rattle.kat_ast.specs.declared.expr.Expr.TheViews.{roll-Expr}
use Rattle.kat_ast.specs.declared.expr.Expr.TheOpen as eo
use Rattle.kat_ast.specs.declared.expr.Expr.TheVariants as e
use Rattle.kat_ast.specs.declared.stm.Stm.{Stm}
use Rattle.kat_ast.specs.declared.stm.Stm.TheFolds.{map-Stm, fold-roll-Stm}
use Rattle.kat_ast.specs.declared.stm.Stm.TheViews.{roll-Stm}
use Rattle.kat_ast.specs.declared.stm.Stm.TheOpen as so
use Rattle.kat_ast.specs.declared.stm.Stm.TheVariants as s
use Rattle.kat_ast.specs.Assertions.{assertion_tree, tree_of_assertion}
use Rattle.kat_ast.specs.Declarations.{tree_of_decl}
use Rattle.kat_ast.specs.Expressions.{expr_tree, numbers_before, tree_of_expr}
use Rattle.kat_ast.specs.Parts.{form, number, word}
use Rattle.kat_ast.specs.Specifications.{canonical_text}
use Rattle.kat_ast.specs.Statements.{stm_tree, tree_of_stm}
use Rattle.kat_gen.specs.Generated.{all_parts, boot_block, boundary_decls, calls, contract_of}
use Rattle.kat_gen.specs.Generated.{counter_of, counting, cycle_decls, decls_of, first_decls}
use Rattle.kat_gen.specs.Generated.{for_each, function_name, function_of, generated_of}
use Rattle.kat_gen.specs.Generated.{holding_some, holds_still, is_one}
use Rattle.kat_gen.specs.Generated.{numbered, parts, register_name, register_of}
use Rattle.kat_gen.specs.Generated.{sixteen_bits, step_function, the_dispatch}
use Rattle.kat_gen.specs.Generated.{the_untrusted, the_value, value_name}
use Rattle.kat_gen.specs.Pieces.{all_parts_pieces, block_pieces, boundary_pieces, call_pieces}
use Rattle.kat_gen.specs.Pieces.{calls_text, contract_pieces, counter_pieces, counters_text}
use Rattle.kat_gen.specs.Pieces.{cycle_pieces, decls_pieces, first_text, function_pieces}
use Rattle.kat_gen.specs.Pieces.{generated_pieces, part_pieces, parts_text, register_pieces}
use Rattle.kat_gen.specs.Pieces.{step_function_pieces, untrusted_pieces}

-- a tree's text with any text behind it
pub record Says (t : Tree) (w : List ℕ → List ℕ) : Type 0 where
  pub says : (rest : List ℕ) → text_of_tree t ++ rest ≡ w rest

-- the texts of trees, each behind a space, with any text behind them
pub record AllSay (ts : List Tree) (w : List ℕ → List ℕ) : Type 0 where
  pub says : (rest : List ℕ) → behind_spaces (map text_of_tree ts) ++ rest ≡ w rest

text-Atom : (token : Token) → text_of_tree (tree.Atom token) ≡ text_of_token token
text-Atom token =
    ap text_of_tree (sym (rolls-Atom token))
    ∙ fold-roll-Tree (List ℕ) text_in (Tree-F.Atom token)

text-List : (ts : List Tree)
    → text_of_tree (tree.List ts) ≡ 40 ∷ (spaced (map text_of_tree ts) ++ 41 ∷ [])
text-List ts =
    ap text_of_tree (sym (rolls-List ts))
    ∙ fold-roll-Tree (List ℕ) text_in (Tree-F.List ts)

word_says : (w : List ℕ) → Says (word w) (λ rest. w ++ rest)
word_says w = record { says = λ rest. ap (λ t. t ++ rest) (text-Atom (NameToken w)) }

-- a number, as it is written
number_says : (n : ℕ) (w : List ℕ) → decimal n ≡ w → Says (number n) (λ rest. w ++ rest)
number_says n w is =
    record { says = λ rest. ap (λ t. t ++ rest) (text-Atom (NumberToken n) ∙ is) }

zero_is : decimal 0 ≡ codes "0"
unfolding digits
zero_is = refl

one_is : decimal 1 ≡ codes "1"
unfolding digits
one_is = refl

sixteen_is : decimal 16 ≡ codes "16"
unfolding digits
sixteen_is = refl

none : AllSay [] (λ rest. rest)
none = record { says = λ rest. refl }

more : (t : Tree) (ts : List Tree) {w v : List ℕ → List ℕ} → Says t w → AllSay ts v
    → AllSay (t ∷ ts) (λ rest. 32 ∷ w (v rest))
more t ts {w = w} {v = v} first others = record {
  says = λ rest.
      ap (λ l. 32 ∷ l) (append_assoc (text_of_tree t) (behind_spaces (map text_of_tree ts)) rest
      ∙ first.says (behind_spaces (map text_of_tree ts) ++ rest) ∙ ap w (others.says rest));
}

-- a list with its first word
form_says : (head : List ℕ) (ts : List Tree) {v : List ℕ → List ℕ} → AllSay ts v
    → Says (form head ts) (λ rest. 40 ∷ (head ++ v (41 ∷ rest)))
form_says head ts others = record {
  says = λ rest.
      let texts = behind_spaces (map text_of_tree ts) in
      ap (λ l. l ++ rest) (text-List (word head ∷ ts)
      ∙ ap (λ l. 40 ∷ ((l ++ texts) ++ 41 ∷ [])) (text-Atom (NameToken head)))
      ∙ ap (λ l. 40 ∷ l) (append_assoc (head ++ texts) (41 ∷ []) rest
      ∙ append_assoc head texts (41 ∷ rest)
      ∙ ap (λ l. head ++ l) (others.says (41 ∷ rest)));
}

-- `()`
empty_says : Says (tree.List []) (λ rest. 40 ∷ 41 ∷ rest)
empty_says = record { says = λ rest. ap (λ l. l ++ rest) (text-List []) }

both_texts : (ts us : List Tree) (rest : List ℕ)
    → behind_spaces (map text_of_tree (ts ++ us)) ++ rest
    ≡ behind_spaces (map text_of_tree ts) ++ (behind_spaces (map text_of_tree us) ++ rest)
both_texts [] us rest = refl
both_texts (t ∷ ts) us rest =
    ap (λ l. 32 ∷ l)
    (append_assoc (text_of_tree t) (behind_spaces (map text_of_tree (ts ++ us))) rest
    ∙ ap (λ l. text_of_tree t ++ l) (both_texts ts us rest)
    ∙ sym (append_assoc (text_of_tree t) (behind_spaces (map text_of_tree ts))
    (behind_spaces (map text_of_tree us) ++ rest)))

-- trees and further trees
both : (ts us : List Tree) {w v : List ℕ → List ℕ} → AllSay ts w → AllSay us v
    → AllSay (ts ++ us) (λ rest. w (v rest))
both ts us {w = w} {v = v} first others = record {
  says = λ rest.
      both_texts ts us rest ∙ first.says (behind_spaces (map text_of_tree us) ++ rest)
      ∙ ap w (others.says rest);
}

-- what each number gives, where what it gives has that text
each : (give : ℕ → List Tree) (text : ℕ → List ℕ)
    → ((i : ℕ) → AllSay (give i) (λ rest. text i ++ rest)) → (n : ℕ)
    → AllSay (for_each give n) (λ rest. for_each text n ++ rest)
each give text are zero = none
each give text are (suc n) =
    let all = both (for_each give n) (give n) (each give text are n) (are n) in
    record { says = λ rest. all.says rest ∙ sym (append_assoc (for_each text n) (text n) rest) }

-- a function of all is what the numbers give with it
map_each : {A B : Type 0} (f : A → B) (give : ℕ → List A) (n : ℕ)
    → map f (for_each give n) ≡ for_each (λ i. map f (give i)) n
map_each f give zero = refl
map_each f give (suc n) =
    map-append f (for_each give n) (give n) ∙ ap (λ ys. ys ++ map f (give n)) (map_each f give n)

-- pieces with a text behind them
abbrev before : List (List ℕ) → List ℕ → List ℕ
before [] rest = rest
before (p ∷ ps) rest = p ++ before ps rest

joined_before : (ps : List (List ℕ)) (rest : List ℕ) → joined ps ++ rest ≡ before ps rest
joined_before [] rest = refl
joined_before (p ∷ ps) rest =
    append_assoc p (joined ps) rest ∙ ap (λ l. p ++ l) (joined_before ps rest)

say_pieces : (ts : List Tree) (ps : List (List ℕ)) → AllSay ts (λ rest. before ps rest)
    → AllSay ts (λ rest. joined ps ++ rest)
say_pieces ts ps say =
    record { says = λ rest. say.says rest ∙ sym (joined_before ps rest) }

-- by the layer
expr_says : (y : eo.Expr-F Expr) (x : Expr) {w : List ℕ → List ℕ} → roll-Expr y ≡ x
    → Says (expr_tree (map-Expr Expr Tree tree_of_expr y)) w → Says (tree_of_expr x) w
expr_says y x {w = w} is says = subst (λ t. Says t w)
    (sym (ap tree_of_expr (sym is) ∙ fold-roll-Expr Tree expr_tree y)) says

stm_says : (y : so.Stm-F Stm) (x : Stm) {w : List ℕ → List ℕ} → roll-Stm y ≡ x
    → Says (stm_tree (map-Stm Stm Tree tree_of_stm y)) w → Says (tree_of_stm x) w
stm_says y x {w = w} is says = subst (λ t. Says t w)
    (sym (ap tree_of_stm (sym is) ∙ fold-roll-Stm Tree stm_tree y)) says

assertion_says : (y : ao.Assertion-F Assertion) (x : Assertion) {w : List ℕ → List ℕ}
    → roll-Assertion y ≡ x
    → Says (assertion_tree (map-Assertion Assertion Tree tree_of_assertion y)) w
    → Says (tree_of_assertion x) w
assertion_says y x {w = w} is says = subst (λ t. Says t w)
    (sym (ap tree_of_assertion (sym is) ∙ fold-roll-Assertion Tree assertion_tree y)) says

name_says : (x : List ℕ) → Says (tree_of_expr (e.Name x)) (λ rest. x ++ rest)
name_says x = expr_says (eo.Name x) (e.Name x) (e.rolls-Name x) (word_says x)

unit_says : Says (tree_of_expr e.Unit) (λ rest. codes "unit" ++ rest)
unit_says = expr_says eo.Unit e.Unit e.rolls-Unit (word_says (codes "unit"))

bits_says : (w n : ℕ) (v u : List ℕ) → decimal w ≡ v → decimal n ≡ u
    → Says (tree_of_expr (e.Bits w n))
    (λ rest. codes "(bits " ++ (v ++ 32 ∷ (u ++ 41 ∷ rest)))
bits_says w n v u width number_is = expr_says (eo.Bits w n) (e.Bits w n) (e.rolls-Bits w n)
    (form_says (codes "bits") _
    (more _ _ (number_says w v width) (more _ _ (number_says n u number_is) none)))

register_says : (r : List ℕ)
    → Says (tree_of_expr (e.Register r)) (λ rest. codes "(reg " ++ (r ++ 41 ∷ rest))
register_says r = expr_says (eo.Register r) (e.Register r) (e.rolls-Register r)
    (form_says (codes "reg") _ (more _ _ (word_says r) none))

before_says : (r : List ℕ)
    → Says (tree_of_expr (e.Before r)) (λ rest. codes "(before " ++ (r ++ 41 ∷ rest))
before_says r = expr_says (eo.Before r) (e.Before r) (e.rolls-Before r)
    (form_says (codes "before") _ (more _ _ (word_says r) none))

after_says : (r : List ℕ)
    → Says (tree_of_expr (e.After r)) (λ rest. codes "(after " ++ (r ++ 41 ∷ rest))
after_says r = expr_says (eo.After r) (e.After r) (e.rolls-After r)
    (form_says (codes "after") _ (more _ _ (word_says r) none))

-- an operation that is written without a number
two_says : (o : Op) (x y : Expr) {w v : List ℕ → List ℕ} → numbers_before o ≡ []
    → Says (tree_of_expr x) w → Says (tree_of_expr y) v
    → Says (tree_of_expr (e.Apply o (x ∷ y ∷ [])))
    (λ rest. 40 ∷ (word_of_op o ++ 32 ∷ w (32 ∷ v (41 ∷ rest))))
two_says o x y {w = w} {v = v} numbers first second =
    expr_says (eo.Apply o (x ∷ y ∷ [])) (e.Apply o (x ∷ y ∷ [])) (e.rolls-Apply o (x ∷ y ∷ []))
    (subst (λ (ns : List Tree).
    Says (form (word_of_op o) (ns ++ tree_of_expr x ∷ tree_of_expr y ∷ []))
    (λ rest. 40 ∷ (word_of_op o ++ 32 ∷ w (32 ∷ v (41 ∷ rest))))) (sym numbers)
    (form_says (word_of_op o) _ (more _ _ first (more _ _ second none))))

ret_says : (x : Expr) {w : List ℕ → List ℕ} → Says (tree_of_expr x) w
    → Says (tree_of_stm (s.Ret x)) (λ rest. codes "(ret " ++ w (41 ∷ rest))
ret_says x says = stm_says (so.Ret x) (s.Ret x) (s.rolls-Ret x)
    (form_says (codes "ret") _ (more _ _ says none))

read_says : (r : List ℕ)
    → Says (tree_of_stm (s.Read r)) (λ rest. codes "(read " ++ (r ++ 41 ∷ rest))
read_says r = stm_says (so.Read r) (s.Read r) (s.rolls-Read r)
    (form_says (codes "read") _ (more _ _ (word_says r) none))

write_says : (r : List ℕ) (x : Expr) {w : List ℕ → List ℕ} → Says (tree_of_expr x) w
    → Says (tree_of_stm (s.Write r x)) (λ rest. codes "(write " ++ (r ++ 32 ∷ w (41 ∷ rest)))
write_says r x says = stm_says (so.Write r x) (s.Write r x) (s.rolls-Write r x)
    (form_says (codes "write") _ (more _ _ (word_says r) (more _ _ says none)))

call_says : (f : List ℕ)
    → Says (tree_of_stm (s.Call f [])) (λ rest. codes "(call " ++ (f ++ 41 ∷ rest))
call_says f = stm_says (so.Call f []) (s.Call f []) (s.rolls-Call f [])
    (form_says (codes "call") _ (more _ _ (word_says f) none))

let_says : (x : List ℕ) (p q : Stm) {w v : List ℕ → List ℕ} → Says (tree_of_stm p) w
    → Says (tree_of_stm q) v
    → Says (tree_of_stm (s.Let x p q))
    (λ rest. codes "(let " ++ (x ++ 32 ∷ w (32 ∷ v (41 ∷ rest))))
let_says x p q first second = stm_says (so.Let x p q) (s.Let x p q) (s.rolls-Let x p q)
    (form_says (codes "let") _
    (more _ _ (word_says x) (more _ _ first (more _ _ second none))))

if_says : (x : Expr) (p q : Stm) {w v u : List ℕ → List ℕ} → Says (tree_of_expr x) w
    → Says (tree_of_stm p) v → Says (tree_of_stm q) u
    → Says (tree_of_stm (s.If x p q))
    (λ rest. codes "(if " ++ w (32 ∷ v (32 ∷ u (41 ∷ rest))))
if_says x p q test first second = stm_says (so.If x p q) (s.If x p q) (s.rolls-If x p q)
    (form_says (codes "if") _ (more _ _ test (more _ _ first (more _ _ second none))))

seq_says : (ss : List Stm) {w : List ℕ → List ℕ} → AllSay (map tree_of_stm ss) w
    → Says (tree_of_stm (s.Seq ss)) (λ rest. codes "(seq" ++ w (41 ∷ rest))
seq_says ss say = stm_says (so.Seq ss) (s.Seq ss) (s.rolls-Seq ss)
    (form_says (codes "seq") _ say)

holds_says : (r : List ℕ) (x : Expr) {w : List ℕ → List ℕ} → Says (tree_of_expr x) w
    → Says (tree_of_assertion (a.Register r x))
    (λ rest. codes "(reg " ++ (r ++ 32 ∷ w (41 ∷ rest)))
holds_says r x says = assertion_says (ao.Register r x) (a.Register r x) (a.rolls-Register r x)
    (form_says (codes "reg") _ (more _ _ (word_says r) (more _ _ says none)))

star_says : (xs : List Assertion) {w : List ℕ → List ℕ} → AllSay (map tree_of_assertion xs) w
    → Says (tree_of_assertion (a.Star xs)) (λ rest. codes "(star" ++ w (41 ∷ rest))
star_says xs say = assertion_says (ao.Star xs) (a.Star xs) (a.rolls-Star xs)
    (form_says (codes "star") _ say)

sixteen_says : Says (form (codes "bits") (number 16 ∷ [])) (λ rest. codes "(bits 16)" ++ rest)
sixteen_says = form_says (codes "bits") _ (more _ _ (number_says 16 (codes "16") sixteen_is) none)

-- `(exists (x (bits 16)) (reg r x))`
some_says : (x r : List ℕ)
    → Says (tree_of_assertion (holding_some x r))
    (λ rest. codes "(exists (" ++ (x ++ (codes " (bits 16)) (reg " ++ (r ++ 32 ∷ (x ++
    (codes "))" ++ rest))))))
some_says x r =
    assertion_says (ao.Exists x sixteen_bits (a.Register r (e.Name x))) (holding_some x r)
    (a.rolls-Exists x sixteen_bits (a.Register r (e.Name x)))
    (form_says (codes "exists") _
    (more _ _ (form_says x _ (more _ _ sixteen_says none))
    (more _ _ (holds_says r (e.Name x) (name_says x)) none)))

one_says : (x : Expr) {w : List ℕ → List ℕ} → Says (tree_of_expr x) w
    → Says (tree_of_expr (is_one x)) (λ rest. codes "(eq " ++ w (codes " (bits 1 1))" ++ rest))
one_says x says =
    two_says Eq x (e.Bits 1 1) refl says (bits_says 1 1 (codes "1") (codes "1") one_is one_is)

counting_says : (i : ℕ)
    → Says (tree_of_stm (counting i))
    (λ rest. codes "(let a (read r" ++ (decimal i ++ (codes ") (if (ult a (bits 16 "
    ++ (decimal (i + 1) ++ (codes ")) (write r" ++ (decimal i
    ++ (codes " (add a (bits 16 1))) (ret unit)))" ++ rest)))))))
unfolding numbered
counting_says i =
    let_says (codes "a") _ _ (read_says (register_name i))
    (if_says _ _ _
    (two_says Ult the_value (e.Bits 16 (i + 1)) refl (name_says (codes "a"))
    (bits_says 16 (i + 1) (codes "16") (decimal (i + 1)) sixteen_is refl))
    (write_says (register_name i) _
    (two_says Add the_value (e.Bits 16 1) refl (name_says (codes "a"))
    (bits_says 16 1 (codes "16") (codes "1") sixteen_is one_is)))
    (ret_says e.Unit unit_says))

register_decl : (i : ℕ)
    → Says (tree_of_decl (register_of i))
    (λ rest. codes "(register r" ++ (decimal i ++ (codes " (bits 16) plain)" ++ rest)))
unfolding numbered
register_decl i =
    form_says (codes "register") _
    (more _ _ (word_says (register_name i)) (more _ _ sixteen_says
    (more _ _ (word_says (codes "plain")) none)))

function_decl : (i : ℕ)
    → Says (tree_of_decl (function_of i))
    (λ rest. codes "(fun f" ++ (decimal i ++ (codes " () unit (let a (read r"
    ++ (decimal i ++ (codes ") (if (ult a (bits 16 " ++ (decimal (i + 1) ++ (codes ")) (write r"
    ++ (decimal i ++ (codes " (add a (bits 16 1))) (ret unit))))" ++ rest)))))))))
unfolding numbered
function_decl i =
    form_says (codes "fun") _
    (more _ _ (word_says (function_name i)) (more _ _ empty_says
    (more _ _ (word_says (codes "unit")) (more _ _ (counting_says i) none))))

contract_decl : (i : ℕ)
    → Says (tree_of_decl (contract_of i))
    (λ rest. codes "(contract f" ++ (decimal i ++ (codes " () (pre (exists (a (bits 16)) (reg r"
    ++ (decimal i ++ (codes " a))) (res z) (post (exists (b (bits 16)) (reg r"
    ++ (decimal i ++ (codes " b))))" ++ rest)))))))
unfolding numbered
contract_decl i =
    form_says (codes "contract") _
    (more _ _ (word_says (function_name i)) (more _ _ empty_says
    (more _ _ (form_says (codes "pre") _
    (more _ _ (some_says (codes "a") (register_name i)) none))
    (more _ _ (form_says (codes "res") _ (more _ _ (word_says (codes "z")) none))
    (more _ _ (form_says (codes "post") _
    (more _ _ (some_says (codes "b") (register_name i)) none)) none)))))

register_behind : (i : ℕ)
    → AllSay (tree_of_decl (register_of i) ∷ []) (λ rest. joined (register_pieces i) ++ rest)
unfolding numbered
register_behind i = say_pieces _ (register_pieces i) (more _ [] (register_decl i) none)

function_behind : (i : ℕ)
    → AllSay (tree_of_decl (function_of i) ∷ []) (λ rest. joined (function_pieces i) ++ rest)
unfolding numbered
function_behind i = say_pieces _ (function_pieces i) (more _ [] (function_decl i) none)

contract_behind : (i : ℕ)
    → AllSay (tree_of_decl (contract_of i) ∷ []) (λ rest. joined (contract_pieces i) ++ rest)
unfolding numbered
contract_behind i = say_pieces _ (contract_pieces i) (more _ [] (contract_decl i) none)

-- the declarations of a number
counter_says : (i : ℕ)
    → AllSay (map tree_of_decl (counter_of i)) (λ rest. joined (counter_pieces i) ++ rest)
counter_says i = say_pieces _ (counter_pieces i)
    (both (tree_of_decl (register_of i) ∷ []) _ (register_behind i)
    (both (tree_of_decl (function_of i) ∷ []) _ (function_behind i) (contract_behind i)))

counters_say : (n : ℕ)
    → AllSay (map tree_of_decl (for_each counter_of n)) (λ rest. counters_text n ++ rest)
counters_say n = subst (λ ts. AllSay ts (λ rest. counters_text n ++ rest))
    (sym (map_each tree_of_decl counter_of n))
    (each (λ i. map tree_of_decl (counter_of i)) (λ i. joined (counter_pieces i)) counter_says n)

call_part : (i : ℕ)
    → AllSay (tree_of_stm (s.Call (function_name i) []) ∷ [])
    (λ rest. joined (call_pieces i) ++ rest)
unfolding numbered
call_part i = say_pieces _ (call_pieces i) (more _ [] (call_says (function_name i)) none)

calls_say : (n : ℕ) → AllSay (map tree_of_stm (calls n)) (λ rest. calls_text n ++ rest)
calls_say n = subst (λ ts. AllSay ts (λ rest. calls_text n ++ rest))
    (sym (map_each tree_of_stm (λ i. s.Call (function_name i) [] ∷ []) n))
    (each (λ i. tree_of_stm (s.Call (function_name i) []) ∷ []) (λ i. joined (call_pieces i))
    call_part n)

part_says : (i : ℕ)
    → AllSay (tree_of_assertion (holding_some (value_name i) (register_name i)) ∷ [])
    (λ rest. joined (part_pieces i) ++ rest)
unfolding numbered
part_says i =
    say_pieces _ (part_pieces i) (more _ [] (some_says (value_name i) (register_name i)) none)

parts_say : (n : ℕ)
    → AllSay (map tree_of_assertion (parts n)) (λ rest. parts_text n ++ rest)
parts_say n = subst (λ ts. AllSay ts (λ rest. parts_text n ++ rest))
    (sym (map_each tree_of_assertion (λ i. holding_some (value_name i) (register_name i) ∷ []) n))
    (each (λ i. tree_of_assertion (holding_some (value_name i) (register_name i)) ∷ [])
    (λ i. joined (part_pieces i)) part_says n)

all_parts_say : (mode n : ℕ)
    → Says (tree_of_assertion (all_parts mode n))
    (λ rest. joined (all_parts_pieces mode n) ++ rest)
unfolding numbered
all_parts_say mode n =
    let all = star_says _
    (more _ _ (holds_says (codes "mode") (e.Bits 1 mode)
    (bits_says 1 mode (codes "1") (decimal mode) one_is refl)) (parts_say n)) in
    record { says = λ rest. all.says rest ∙ sym (joined_before (all_parts_pieces mode n) rest) }

-- the registers of every specification
first_say : AllSay (map tree_of_decl first_decls) (λ rest. first_text ++ rest)
first_say =
    more _ _ (form_says (codes "register") _
    (more _ _ (word_says (codes "mode"))
    (more _ _ (form_says (codes "bits") _ (more _ _ (number_says 1 (codes "1") one_is) none))
    (more _ _ (word_says (codes "plain")) none))))
    (more _ _ (form_says (codes "register") _
    (more _ _ (word_says (codes "hold")) (more _ _ sixteen_says
    (more _ _ (word_says (codes "protected")) none)))) none)

step_function_says : (n : ℕ)
    → AllSay (tree_of_decl (step_function n) ∷ [])
    (λ rest. joined (step_function_pieces n) ++ rest)
step_function_says n = say_pieces _ (step_function_pieces n)
    (more _ [] (form_says (codes "fun") _
    (more _ _ (word_says (codes "step")) (more _ _ empty_says
    (more _ _ (word_says (codes "unit"))
    (more _ _ (let_says (codes "m") _ _ (read_says (codes "mode"))
    (if_says _ _ _ (one_says (e.Name (codes "m")) (name_says (codes "m")))
    (write_says (codes "mode") _ (bits_says 1 0 (codes "1") (codes "0") one_is zero_is))
    (seq_says (calls n) (calls_say n)))) none))))) none)

dispatch_says : Says (tree_of_decl the_dispatch)
    (λ rest. codes "(dispatch (when (eq (reg mode) (bits 1 1)) (block boot_block))"
    ++ (codes " (else untrusted))" ++ rest))
dispatch_says =
    form_says (codes "dispatch") _
    (more _ _ (form_says (codes "when") _
    (more _ _ (one_says (e.Register (codes "mode")) (register_says (codes "mode")))
    (more _ _ (form_says (codes "block") _ (more _ _ (word_says (codes "boot_block")) none))
    none)))
    (more _ _ (form_says (codes "else") _ (more _ _ (word_says (codes "untrusted")) none)) none))

cycle_says : (n : ℕ)
    → AllSay (map tree_of_decl (cycle_decls n)) (λ rest. joined (cycle_pieces n) ++ rest)
cycle_says n = say_pieces _ (cycle_pieces n)
    (both (tree_of_decl (step_function n) ∷ []) _ (step_function_says n)
    (more _ _ (form_says (codes "step") _ (more _ _ (word_says (codes "step")) none))
    (more _ _ dispatch_says none)))

still_says : Says (tree_of_expr holds_still)
    (λ rest. codes "(eq (after hold) (before hold))" ++ rest)
still_says = two_says Eq (e.After (codes "hold")) (e.Before (codes "hold")) refl
    (after_says (codes "hold")) (before_says (codes "hold"))

untrusted_says : (n : ℕ)
    → AllSay (tree_of_decl (the_untrusted n) ∷ []) (λ rest. joined (untrusted_pieces n) ++ rest)
untrusted_says n = say_pieces _ (untrusted_pieces n)
    (more _ [] (form_says (codes "untrusted") _ (more _ _ (all_parts_say 0 n) none)) none)

block_says : (n : ℕ)
    → AllSay (tree_of_decl (boot_block n) ∷ []) (λ rest. joined (block_pieces n) ++ rest)
block_says n = say_pieces _ (block_pieces n)
    (more _ [] (form_says (codes "block") _
    (more _ _ (word_says (codes "boot_block"))
    (more _ _ (form_says (codes "entry") _ (more _ _ (all_parts_say 1 n) none))
    (more _ _ (form_says (codes "within") _
    (more _ _ (number_says 1 (codes "1") one_is) none))
    (more _ _ (form_says (codes "change") _ (more _ _ still_says none)) none))))) none)

boundary_says : (n : ℕ)
    → AllSay (map tree_of_decl (boundary_decls n)) (λ rest. joined (boundary_pieces n) ++ rest)
boundary_says n = say_pieces _ (boundary_pieces n)
    (both (tree_of_decl (the_untrusted n) ∷ []) _ (untrusted_says n)
    (both (tree_of_decl (boot_block n) ∷ []) _ (block_says n)
    (more _ [] (form_says (codes "boot") _ (more _ _ (word_says (codes "boot_block")) none))
    none)))

-- declarations and further ones
both_decls : (xs ys : List DeclForm) {w v : List ℕ → List ℕ} → AllSay (map tree_of_decl xs) w
    → AllSay (map tree_of_decl ys) v → AllSay (map tree_of_decl (xs ++ ys)) (λ rest. w (v rest))
both_decls xs ys {w = w} {v = v} first others =
    subst (λ ts. AllSay ts (λ rest. w (v rest))) (sym (map-append tree_of_decl xs ys))
    (both (map tree_of_decl xs) (map tree_of_decl ys) first others)

decls_say : (n : ℕ)
    → AllSay (map tree_of_decl (decls_of n)) (λ rest. joined (decls_pieces n) ++ rest)
unfolding decls_of
decls_say n = say_pieces _ (decls_pieces n)
    (both_decls (first_decls ++ for_each counter_of n ++ cycle_decls n) (boundary_decls n)
    (both_decls (first_decls ++ for_each counter_of n) (cycle_decls n)
    (both_decls first_decls (for_each counter_of n) first_say (counters_say n)) (cycle_says n))
    (boundary_says n))

pub text_is : (n : ℕ) → canonical_text (generated_of n) ≡ joined (generated_pieces n)
text_is n =
    let all = form_says (codes "spec") (number 1 ∷ map tree_of_decl (decls_of n))
    (more _ _ (number_says 1 (codes "1") one_is) (decls_say n)) in
    all.says (10 ∷ [])
