-- Each declaration has its form.
use Rattle.std.proofs.Common.{◌≡◌, ◌∙◌, ℕ, ◌+◌, ◌*◌, ◌≤◌, ◌<◌, ◌^◌, ◌&&◌, max, zero, suc, true}
use Rattle.std.proofs.Common.{List, [], ◌∷◌, ◌++◌}
use Rattle.std.proofs.Common.{map, ap, refl, sym, subst, arith, codes, lit<}
use Rattle.std.proofs.lemmas.Bool.{and_from}
use Rattle.kat_tree.specs.declared.tree.Tree.TheVariants as tree
use Rattle.kat_tree.specs.Written.{IsNameToken}
use Rattle.kat_value.specs.declared.op.Op.TheVariants.{Eq, Ult, Add}
use Rattle.kat_ast.specs.declared.assertion.Assertion.{Assertion}
use Rattle.kat_ast.specs.declared.decl.DeclForm.{DeclForm}
use Rattle.kat_ast.specs.declared.expr.Expr.{Expr}
use Rattle.kat_ast.specs.declared.expr.Expr.TheVariants as e
use Rattle.kat_ast.specs.declared.stm.Stm.{Stm}
use Rattle.kat_ast.specs.declared.stm.Stm.TheVariants as s
use Rattle.kat_ast.specs.Assertions.{is_formed_assertion, tree_of_assertion}
use Rattle.kat_ast.specs.Declarations.{IsDecl, holding, is_formed_decl, tree_of_decl}
use Rattle.kat_ast.specs.Parts.{every, is_nonempty, word}
use Rattle.kat_ast.specs.Statements.{is_formed_stm, tree_of_stm}
use Rattle.kat_gen.specs.Generated.{IsAsked, all_parts, boot_block, calls, contract_of, counting}
use Rattle.kat_gen.specs.Generated.{function_name, function_of, hold_register, holding_some}
use Rattle.kat_gen.specs.Generated.{holds_still, is_one, mode_register, parts, register_name}
use Rattle.kat_gen.specs.Generated.{register_of, step_function, the_boot, the_dispatch}
use Rattle.kat_gen.specs.Generated.{the_step, the_untrusted, the_value, value_name}
use Rattle.kat_gen.proofs.Each.{each_sound, every_each, map_each}
use Rattle.kat_gen.proofs.Formed.{AssertionIs, ExprIs, IsPlainOp, StmIs, after_is, before_is}
use Rattle.kat_gen.proofs.Formed.{bits_is}
use Rattle.kat_gen.proofs.Formed.{call_is, holds_is, if_is, let_is, name_is, read_is, register_is}
use Rattle.kat_gen.proofs.Formed.{ret_is, seq_is, sixteen_sound, some_is, star_is, two_is, unit_is}
use Rattle.kat_gen.proofs.Formed.{write_is}
use Rattle.kat_gen.proofs.Trees.{AreSound, IsSound, form_sound, list_sound, more, none}
use Rattle.kat_gen.proofs.Trees.{number_sound, word_sound}
use Rattle.kat_gen.proofs.Words.{IsWord, constant, function_word, register_word, value_word}
use Rattle.kat_gen.proofs.Words.{word_is_token}

decl_is : (decl : DeclForm) {d c : ℕ} → is_formed_decl decl ≡ true → IsSound (tree_of_decl decl) d c
    → d ≤ 63 → c < 2 ^ 32 → IsDecl decl
decl_is decl formed sound deep many =
    let depth = sound.nested in
    let count = sound.count in
    record { formed = formed; tokens = sound.tokens; nesting = omega arith; small = omega arith }

-- the operations that are used
eq_plain : IsPlainOp Eq
eq_plain = record {
  formed = λ x y p q. and_from x (y && true) p (and_from y true q refl);
  numbers = refl;
  token = word_is_token (codes "eq") refl;
}

ult_plain : IsPlainOp Ult
ult_plain = record {
  formed = λ x y p q. and_from x (y && true) p (and_from y true q refl);
  numbers = refl;
  token = word_is_token (codes "ult") refl;
}

add_plain : IsPlainOp Add
add_plain = record {
  formed = λ x y p q. and_from x (y && true) p (and_from y true q refl);
  numbers = refl;
  token = word_is_token (codes "add") refl;
}

a_word : IsWord (codes "a")
a_word = constant (codes "a") refl refl

mode_word : IsWord (codes "mode")
mode_word = constant (codes "mode") refl refl

hold_word : IsWord (codes "hold")
hold_word = constant (codes "hold") refl refl

boot_word : IsWord (codes "boot_block")
boot_word = constant (codes "boot_block") refl refl

no_params : IsSound (tree.List []) 1 1
no_params = list_sound [] none

unit_type : IsSound (word (codes "unit")) 0 1
unit_type = word_sound (codes "unit") (word_is_token (codes "unit") refl)

pub register_declared : (i : ℕ) → i < 500 → IsDecl (register_of i)
register_declared i lt =
    let r = register_word i lt in
    decl_is (register_of i) (and_from _ _ r.named refl)
    (form_sound (codes "register") _ (word_is_token (codes "register") refl)
    (more _ _ (word_sound _ r.token) (more _ _ sixteen_sound
    (more _ _ (word_sound (codes "plain") (word_is_token (codes "plain") refl)) none))))
    (omega arith) (omega arith)

counting_is : (i : ℕ) → i < 500 → StmIs (counting i) 5 28
counting_is i lt =
    let r = register_word i lt in
    let_is (codes "a") _ _ a_word (read_is (register_name i) r)
    (if_is _ _ _
    (two_is Ult the_value (e.Bits 16 (i + 1)) ult_plain (name_is (codes "a") a_word)
    (bits_is 16 (i + 1) (lit< tt) (omega arith)))
    (write_is (register_name i) _ r
    (two_is Add the_value (e.Bits 16 1) add_plain (name_is (codes "a") a_word)
    (bits_is 16 1 (lit< tt) (lit< tt))))
    (ret_is e.Unit unit_is))

pub function_declared : (i : ℕ) → i < 500 → IsDecl (function_of i)
function_declared i lt =
    let f = function_word i lt in
    let body = counting_is i lt in
    decl_is (function_of i)
    (and_from _ _ f.named (and_from _ _ refl (and_from _ _ refl body.formed)))
    (form_sound (codes "fun") _ (word_is_token (codes "fun") refl)
    (more _ _ (word_sound _ f.token) (more _ _ no_params (more _ _ unit_type
    (more _ _ body.sound none)))))
    (omega arith) (omega arith)

-- `(pre A)` and its kin
held : (head : List ℕ) (x : Assertion) {d c : ℕ} → IsNameToken head → AssertionIs x d c
    → IsSound (holding head x) (max 0 (max d 0) + 1) (1 + (c + 0) + 1)
held head x is holds = form_sound head _ is (more _ _ holds.sound none)

pub contract_declared : (i : ℕ) → i < 500 → IsDecl (contract_of i)
contract_declared i lt =
    let f = function_word i lt in
    let r = register_word i lt in
    let z = constant (codes "z") refl refl in
    let pre_is = some_is (codes "a") (register_name i) a_word r in
    let post_is = some_is (codes "b") (register_name i) (constant (codes "b") refl refl) r in
    decl_is (contract_of i)
    (and_from _ _ f.named (and_from _ _ refl
    (and_from _ _ pre_is.formed (and_from _ _ z.named post_is.formed))))
    (form_sound (codes "contract") _ (word_is_token (codes "contract") refl)
    (more _ _ (word_sound _ f.token) (more _ _ no_params
    (more _ _ (held (codes "pre") _ (word_is_token (codes "pre") refl) pre_is)
    (more _ _ (form_sound (codes "res") _ (word_is_token (codes "res") refl)
    (more _ _ (word_sound (codes "z") z.token) none))
    (more _ _ (held (codes "post") _ (word_is_token (codes "post") refl) post_is) none))))))
    (omega arith) (omega arith)

pub mode_declared : IsDecl mode_register
mode_declared = decl_is mode_register refl
    (form_sound (codes "register") _ (word_is_token (codes "register") refl)
    (more _ _ (word_sound (codes "mode") mode_word.token)
    (more _ _ (form_sound (codes "bits") _ (word_is_token (codes "bits") refl)
    (more _ _ (number_sound 1 (lit< tt)) none))
    (more _ _ (word_sound (codes "plain") (word_is_token (codes "plain") refl)) none))))
    (omega arith) (omega arith)

pub hold_declared : IsDecl hold_register
hold_declared = decl_is hold_register refl
    (form_sound (codes "register") _ (word_is_token (codes "register") refl)
    (more _ _ (word_sound (codes "hold") hold_word.token) (more _ _ sixteen_sound
    (more _ _ (word_sound (codes "protected") (word_is_token (codes "protected") refl)) none))))
    (omega arith) (omega arith)

-- `(eq E (bits 1 1))`
one_is : (x : Expr) {d c : ℕ} → ExprIs x d c
    → ExprIs (is_one x) (max 0 (max d (max 1 0)) + 1) (1 + (c + (4 + 0)) + 1)
one_is x is = two_is Eq x (e.Bits 1 1) eq_plain is (bits_is 1 1 (lit< tt) (lit< tt))

some_more : (xs : List Stm) (x : Stm) → is_nonempty (xs ++ x ∷ []) ≡ true
some_more [] x = refl
some_more (y ∷ ys) x = refl

calls_some : (n : ℕ) → 1 ≤ n → is_nonempty (calls n) ≡ true
calls_some zero some = absurd (omega arith)
calls_some (suc n) some = some_more (calls n) (s.Call (function_name n) [])

calls_sound : (n : ℕ) → n ≤ 500 → AreSound (map tree_of_stm (calls n)) 1 (3 * n)
calls_sound n few = subst (λ ts. AreSound ts 1 (3 * n))
    (sym (map_each tree_of_stm (λ i. s.Call (function_name i) []) n))
    (each_sound (λ i. tree_of_stm (s.Call (function_name i) [])) 1 3 n
    (λ i lt. let is = call_is (function_name i) (function_word i (omega arith)) in is.sound))

calls_formed : (n : ℕ) → n ≤ 500 → every (map is_formed_stm (calls n)) ≡ true
calls_formed n few =
    ap every (map_each is_formed_stm (λ i. s.Call (function_name i) []) n)
    ∙ every_each (λ i. is_formed_stm (s.Call (function_name i) [])) n
    (λ i lt. let is = call_is (function_name i) (function_word i (omega arith)) in is.formed)

part_is : (i : ℕ) → i < 500
    → AssertionIs (holding_some (value_name i) (register_name i)) 3 11
part_is i lt = some_is (value_name i) (register_name i) (value_word i lt) (register_word i lt)

parts_sound : (n : ℕ) → n ≤ 500 → AreSound (map tree_of_assertion (parts n)) 3 (11 * n)
parts_sound n few = subst (λ ts. AreSound ts 3 (11 * n))
    (sym (map_each tree_of_assertion (λ i. holding_some (value_name i) (register_name i)) n))
    (each_sound (λ i. tree_of_assertion (holding_some (value_name i) (register_name i))) 3 11 n
    (λ i lt. let is = part_is i (omega arith) in is.sound))

parts_formed : (n : ℕ) → n ≤ 500 → every (map is_formed_assertion (parts n)) ≡ true
parts_formed n few =
    ap every (map_each is_formed_assertion (λ i. holding_some (value_name i) (register_name i)) n)
    ∙ every_each (λ i. is_formed_assertion (holding_some (value_name i) (register_name i))) n
    (λ i lt. let is = part_is i (omega arith) in is.formed)

-- the mode and the parts
all_is : (mode n : ℕ) → mode < 2 ^ 64 → n ≤ 500
    → AssertionIs (all_parts mode n) 4 (1 + (7 + 11 * n) + 1)
all_is mode n lt few =
    let first = holds_is (codes "mode") (e.Bits 1 mode) mode_word (bits_is 1 mode (lit< tt) lt) in
    star_is _ (and_from _ _ first.formed (parts_formed n few))
    (more _ _ first.sound (parts_sound n few))

pub step_function_declared : (n : ℕ) → IsAsked n → IsDecl (step_function n)
step_function_declared n asked =
    let step = constant (codes "step") refl refl in
    let m = constant (codes "m") refl refl in
    let body = let_is (codes "m") _ _ m (read_is (codes "mode") mode_word)
    (if_is _ _ _ (one_is (e.Name (codes "m")) (name_is (codes "m") m))
    (write_is (codes "mode") _ mode_word (bits_is 1 0 (lit< tt) (lit< tt)))
    (seq_is (calls n) (calls_some n asked.some) (calls_formed n asked.few)
    (calls_sound n asked.few))) in
    let few = asked.few in
    decl_is (step_function n)
    (and_from _ _ step.named (and_from _ _ refl (and_from _ _ refl body.formed)))
    (form_sound (codes "fun") _ (word_is_token (codes "fun") refl)
    (more _ _ (word_sound (codes "step") step.token) (more _ _ no_params (more _ _ unit_type
    (more _ _ body.sound none)))))
    (omega arith) (omega arith)

pub step_declared : IsDecl the_step
step_declared =
    let step = constant (codes "step") refl refl in
    decl_is the_step refl
    (form_sound (codes "step") _ step.token (more _ _ (word_sound (codes "step") step.token) none))
    (omega arith) (omega arith)

pub dispatch_declared : IsDecl the_dispatch
dispatch_declared =
    let test = one_is (e.Register (codes "mode")) (register_is (codes "mode") mode_word) in
    decl_is the_dispatch
    (and_from _ _ (and_from _ _ (and_from _ _ test.formed refl) refl) refl)
    (form_sound (codes "dispatch") _ (word_is_token (codes "dispatch") refl)
    (more _ _ (form_sound (codes "when") _ (word_is_token (codes "when") refl)
    (more _ _ test.sound
    (more _ _ (form_sound (codes "block") _ (word_is_token (codes "block") refl)
    (more _ _ (word_sound (codes "boot_block") boot_word.token) none)) none)))
    (more _ _ (form_sound (codes "else") _ (word_is_token (codes "else") refl)
    (more _ _ (word_sound (codes "untrusted") (word_is_token (codes "untrusted") refl)) none))
    none)))
    (omega arith) (omega arith)

pub untrusted_declared : (n : ℕ) → n ≤ 500 → IsDecl (the_untrusted n)
untrusted_declared n few =
    let all = all_is 0 n (lit< tt) few in
    decl_is (the_untrusted n) all.formed
    (form_sound (codes "untrusted") _ (word_is_token (codes "untrusted") refl)
    (more _ _ all.sound none))
    (omega arith) (omega arith)

-- `(eq (after hold) (before hold))`
still_is : ExprIs holds_still 2 8
still_is = two_is Eq (e.After (codes "hold")) (e.Before (codes "hold")) eq_plain
    (after_is (codes "hold") hold_word) (before_is (codes "hold") hold_word)

pub block_declared : (n : ℕ) → n ≤ 500 → IsDecl (boot_block n)
block_declared n few =
    let all = all_is 1 n (lit< tt) few in
    decl_is (boot_block n)
    (and_from _ _ boot_word.named (and_from _ _ all.formed still_is.formed))
    (form_sound (codes "block") _ (word_is_token (codes "block") refl)
    (more _ _ (word_sound (codes "boot_block") boot_word.token)
    (more _ _ (held (codes "entry") _ (word_is_token (codes "entry") refl) all)
    (more _ _ (form_sound (codes "within") _ (word_is_token (codes "within") refl)
    (more _ _ (number_sound 1 (lit< tt)) none))
    (more _ _ (form_sound (codes "change") _ (word_is_token (codes "change") refl)
    (more _ _ still_is.sound none)) none)))))
    (omega arith) (omega arith)

pub boot_declared : IsDecl the_boot
boot_declared = decl_is the_boot refl
    (form_sound (codes "boot") _ (word_is_token (codes "boot") refl)
    (more _ _ (word_sound (codes "boot_block") boot_word.token) none))
    (omega arith) (omega arith)
