-- Declarations: the tree of each is read back as it, and has as many trees as it is said to have.
use Rattle.std.proofs.Common.{◌≡◌, ℕ, true, ◌&&◌, List, [], ◌∷◌, ◌++◌, map, ap, ◌∙◌, refl, ◌+◌, sum, sym, arith}
use Rattle.std.specs.Prelude.{codes}
use Rattle.std.proofs.lemmas.Bool.{and_parts}
use Rattle.kat_tree.specs.declared.tree.Tree.{Tree}
use Rattle.kat_tree.specs.declared.tree.Tree.TheVariants as tree
use Rattle.kat_tree.specs.Preorder.{count_of}
use Rattle.kat_ast.specs.declared.expr.Expr.{Expr}
use Rattle.kat_ast.specs.declared.stm.Stm.{Stm}
use Rattle.kat_ast.specs.declared.assertion.Assertion.{Assertion}
use Rattle.kat_ast.specs.declared.decl.RegisterKind.{RegisterKind}
use Rattle.kat_ast.specs.declared.decl.RegisterKind.TheVariants as r
use Rattle.kat_ast.specs.declared.decl.CellsKind.{CellsKind}
use Rattle.kat_ast.specs.declared.decl.CellsKind.TheVariants as c
use Rattle.kat_ast.specs.declared.decl.Phase.{Phase}
use Rattle.kat_ast.specs.declared.decl.Phase.TheVariants as p
use Rattle.kat_ast.specs.declared.decl.When.{When}
use Rattle.kat_ast.specs.declared.decl.DeclForm.{DeclForm}
use Rattle.kat_ast.specs.declared.decl.DeclForm.TheVariants as d
use Rattle.kat_ast.specs.Parts.{word, number, form, is_name, every, is_nonempty}
use Rattle.kat_ast.specs.Types.{tree_of_type, tree_of_params, is_formed_type, are_formed_params}
use Rattle.kat_ast.specs.Expressions.{tree_of_expr, is_formed_expr}
use Rattle.kat_ast.specs.Statements.{tree_of_stm, is_formed_stm}
use Rattle.kat_ast.specs.Assertions.{tree_of_assertion, is_formed_assertion}
use Rattle.kat_ast.specs.Declarations.{tree_of_phase, tree_of_when, word_of_register_kind, word_of_cells_kind, holding, tree_of_decl, is_formed_phase, is_formed_when, is_formed_decl, trees_of_phase, trees_of_when, trees_of_decl}
use Rattle.kat_ast.specs.Laws.{IsToldByTree}
use Rattle.kat_ast.proofs.Decoded.{Decoded, decoded, decoded-List, decoded-form, register_kind_by, cells_kind_by, whens, last, decl_by, phase_named, word_back, number_back, named_phase, decl_form}
use Rattle.kat_ast.proofs.Expressions.{expr_back, expr_counted}
use Rattle.kat_ast.proofs.Types.{type_back, params_back, words_back, numbers_back, type_counted, params_counted}
use Rattle.kat_ast.proofs.Statements.{stm_back, stms_back, stm_counted, stms_counted}
use Rattle.kat_ast.proofs.Assertions.{assertion_back, assertion_counted}
use Rattle.kat_ast.proofs.Counting.{sum-cons, sum_by-map, count_of-List, of_word, of_number, of_words, of_numbers, of_form, of_one, of_two, of_three, of_four, of_more}

pub phase_back : (phase : Phase) → (decoded (tree_of_phase phase)).phase ≡ phase
unfolding phase_named
phase_back p.Untrusted = named_phase (codes "untrusted")
phase_back p.Inside = named_phase (codes "inside")
phase_back (p.Block x) = ap (λ d. d.phase) (decoded-form (codes "block") (word x ∷ [])) ∙ ap p.Block (word_back x)

when_back : (w : When) → is_formed_when w ≡ true → (decoded (tree_of_when w)).when ≡ w
when_back w formed =
    let both = and_parts (is_formed_expr w.test) (is_formed_phase w.phase) formed in
    ap (λ d. d.when) (decoded-form (codes "when") (tree_of_expr w.test ∷ tree_of_phase w.phase ∷ []))
    ∙ ap (λ e. record { test = e; phase = (decoded (tree_of_phase w.phase)).phase }) (expr_back w.test both.0)
    ∙ ap (λ p. record { test = w.test; phase = p }) (phase_back w.phase)

whens-more : (x : Decoded) (ws : List When) (t : Tree) → whens (x ∷ map decoded (map tree_of_when ws ++ t ∷ [])) ≡ x.when ∷ whens (map decoded (map tree_of_when ws ++ t ∷ []))
whens-more x [] t = refl
whens-more x (w ∷ ws) t = refl

last-more : (x : Decoded) (ws : List When) (t : Tree) → last (x ∷ map decoded (map tree_of_when ws ++ t ∷ [])) ≡ last (map decoded (map tree_of_when ws ++ t ∷ []))
last-more x [] t = refl
last-more x (w ∷ ws) t = refl

whens_back : (ws : List When) (t : Tree) → every (map is_formed_when ws) ≡ true → whens (map decoded (map tree_of_when ws ++ t ∷ [])) ≡ ws
whens_back [] t formed = refl
whens_back (w ∷ ws) t formed =
    let both = and_parts (is_formed_when w) (every (map is_formed_when ws)) formed in
    let here = when_back w both.0 in
    let more = whens_back ws t both.1 in
    cc (whens-more (decoded (tree_of_when w)) ws t)

last_back : (ws : List When) (t : Tree) → last (map decoded (map tree_of_when ws ++ t ∷ [])) ≡ decoded t
last_back [] t = refl
last_back (w ∷ ws) t = last-more (decoded (tree_of_when w)) ws t ∙ last_back ws t

holds_back : (head : List ℕ) (a : Assertion) → is_formed_assertion a ≡ true → (decoded (holding head a)).holds ≡ a
holds_back head a formed = ap (λ d. d.holds) (decoded-form head (tree_of_assertion a ∷ [])) ∙ assertion_back a formed

says_back : (head x : List ℕ) → (decoded (form head (word x ∷ []))).says ≡ x
says_back head x = ap (λ d. d.says) (decoded-form head (word x ∷ [])) ∙ word_back x

counts_back : (head : List ℕ) (n : ℕ) → (decoded (form head (number n ∷ []))).counts ≡ n
counts_back head n = ap (λ d. d.counts) (decoded-form head (number n ∷ [])) ∙ number_back n

changes_back : (head : List ℕ) (e : Expr) → is_formed_expr e ≡ true → (decoded (form head (tree_of_expr e ∷ []))).changes ≡ e
changes_back head e formed = ap (λ d. d.changes) (decoded-form head (tree_of_expr e ∷ [])) ∙ expr_back e formed

goes_back : (head : List ℕ) (phase : Phase) → (decoded (form head (tree_of_phase phase ∷ []))).goes ≡ phase
goes_back head phase = ap (λ d. d.goes) (decoded-form head (tree_of_phase phase ∷ [])) ∙ phase_back phase

steps_back : (head : List ℕ) (ss : List Stm) → every (map is_formed_stm ss) ≡ true → (decoded (form head (map tree_of_stm ss))).steps ≡ ss
steps_back head ss formed = ap (λ d. d.steps) (decoded-form head (map tree_of_stm ss)) ∙ stms_back ss formed

members_back : (xs : List (List ℕ)) → (decoded (tree.List (map word xs))).words ≡ xs
members_back xs = ap (λ d. d.words) (decoded-List (map word xs)) ∙ words_back xs

register_kind_back : (kind : RegisterKind) → register_kind_by (decoded (word (word_of_register_kind kind))).word ≡ kind
register_kind_back r.Plain = ap register_kind_by (word_back (codes "plain"))
register_kind_back r.Protected = ap register_kind_by (word_back (codes "protected"))
register_kind_back r.Outside = ap register_kind_by (word_back (codes "outside"))

cells_kind_back : (kind : CellsKind) → cells_kind_by (decoded (word (word_of_cells_kind kind))).word ≡ kind
cells_kind_back c.Protected = ap cells_kind_by (word_back (codes "protected"))
cells_kind_back c.Outside = ap cells_kind_by (word_back (codes "outside"))

-- the tree of a declaration that has its form is read back as the declaration
pub decl_back : (decl : DeclForm) → is_formed_decl decl ≡ true → (decoded (tree_of_decl decl)).decl ≡ decl
unfolding decl_by
decl_back (d.Enum x members) formed =
    cc (decl_form (codes "enum") (word x ∷ tree.List (map word members) ∷ []), word_back x, members_back members)
decl_back (d.Union x ctors) formed =
    let parts = and_parts (is_name x) (is_nonempty ctors && are_formed_params ctors) formed in
    let more = and_parts (is_nonempty ctors) (are_formed_params ctors) parts.1 in
    cc (decl_form (codes "union") (word x ∷ tree_of_params ctors ∷ []), word_back x, params_back ctors more.1)
decl_back (d.Record x fields) formed =
    let parts = and_parts (is_name x) (is_nonempty fields && are_formed_params fields) formed in
    let more = and_parts (is_nonempty fields) (are_formed_params fields) parts.1 in
    cc (decl_form (codes "record") (word x ∷ tree_of_params fields ∷ []), word_back x, params_back fields more.1)
decl_back (d.Register x type kind) formed =
    let both = and_parts (is_name x) (is_formed_type type) formed in
    cc (decl_form (codes "register") (word x ∷ tree_of_type type ∷ word (word_of_register_kind kind) ∷ []), word_back x, type_back type both.1, register_kind_back kind)
decl_back (d.Memory i c lo hi) formed =
    cc (decl_form (codes "memory") (number i ∷ number c ∷ number lo ∷ number hi ∷ []), number_back i, number_back c, number_back lo, number_back hi)
decl_back (d.Cells kind lo hi) formed =
    cc (decl_form (codes "cells") (word (word_of_cells_kind kind) ∷ number lo ∷ number hi ∷ []), cells_kind_back kind, number_back lo, number_back hi)
decl_back (d.Code lo values) formed = cc (decl_form (codes "code") (number lo ∷ map number values), number_back lo, numbers_back values)
decl_back (d.Region x params i e) formed =
    let parts = and_parts (is_name x) (are_formed_params params && (is_name i && is_formed_expr e)) formed in
    let more = and_parts (are_formed_params params) (is_name i && is_formed_expr e) parts.1 in
    let last = and_parts (is_name i) (is_formed_expr e) more.1 in
    cc (
      decl_form (codes "region") (word x ∷ tree_of_params params ∷ word i ∷ tree_of_expr e ∷ []),
      word_back x,
      params_back params more.0,
      word_back i,
      expr_back e last.1,
    )
decl_back (d.Predicate x inputs outputs definition) formed =
    let parts = and_parts (is_name x) (are_formed_params inputs && (are_formed_params outputs && is_formed_assertion definition)) formed in
    let more = and_parts (are_formed_params inputs) (are_formed_params outputs && is_formed_assertion definition) parts.1 in
    let end = and_parts (are_formed_params outputs) (is_formed_assertion definition) more.1 in
    cc (
      decl_form (codes "pred") (word x ∷ tree_of_params inputs ∷ tree_of_params outputs ∷ tree_of_assertion definition ∷ []),
      word_back x,
      params_back inputs more.0,
      params_back outputs end.0,
      assertion_back definition end.1,
    )
decl_back (d.Fun x params result body) formed =
    let parts = and_parts (is_name x) (are_formed_params params && (is_formed_type result && is_formed_stm body)) formed in
    let more = and_parts (are_formed_params params) (is_formed_type result && is_formed_stm body) parts.1 in
    let end = and_parts (is_formed_type result) (is_formed_stm body) more.1 in
    cc (
      decl_form (codes "fun") (word x ∷ tree_of_params params ∷ tree_of_type result ∷ tree_of_stm body ∷ []),
      word_back x,
      params_back params more.0,
      type_back result end.0,
      stm_back body end.1,
    )
decl_back (d.Contract f names pre x post) formed =
    let parts = and_parts (is_name f) (are_formed_params names && (is_formed_assertion pre && (is_name x && is_formed_assertion post))) formed in
    let more = and_parts (are_formed_params names) (is_formed_assertion pre && (is_name x && is_formed_assertion post)) parts.1 in
    let third = and_parts (is_formed_assertion pre) (is_name x && is_formed_assertion post) more.1 in
    let end = and_parts (is_name x) (is_formed_assertion post) third.1 in
    cc (
      decl_form (codes "contract")
          (word f ∷ tree_of_params names ∷ holding (codes "pre") pre ∷ form (codes "res") (word x ∷ []) ∷ holding (codes "post") post ∷ []),
      word_back f,
      params_back names more.0,
      holds_back (codes "pre") pre third.0,
      says_back (codes "res") x,
      holds_back (codes "post") post end.1,
    )
decl_back (d.Lemma x params names pre post steps) formed =
    let parts = and_parts (is_name x) (are_formed_params params && (are_formed_params names
    && (is_formed_assertion pre && (is_formed_assertion post && every (map is_formed_stm steps))))) formed in
    let more = and_parts (are_formed_params params) (are_formed_params names
    && (is_formed_assertion pre && (is_formed_assertion post && every (map is_formed_stm steps)))) parts.1 in
    let third = and_parts (are_formed_params names) (is_formed_assertion pre && (is_formed_assertion post && every (map is_formed_stm steps))) more.1 in
    let fourth = and_parts (is_formed_assertion pre) (is_formed_assertion post && every (map is_formed_stm steps)) third.1 in
    let end = and_parts (is_formed_assertion post) (every (map is_formed_stm steps)) fourth.1 in
    cc (
      decl_form (codes "lemma")
          (word x ∷ tree_of_params params ∷ tree_of_params names ∷ holding (codes "pre") pre ∷ holding (codes "post") post
          ∷ form (codes "steps") (map tree_of_stm steps) ∷ []),
      word_back x,
      params_back params more.0,
      params_back names third.0,
      holds_back (codes "pre") pre fourth.0,
      holds_back (codes "post") post end.0,
      steps_back (codes "steps") steps end.1,
    )
decl_back (d.Step f) formed = cc (decl_form (codes "step") (word f ∷ []), word_back f)
decl_back (d.Dispatch cases otherwise) formed =
    let both = and_parts (every (map is_formed_when cases)) (is_formed_phase otherwise) formed in
    let end = form (codes "else") (tree_of_phase otherwise ∷ []) in
    cc (
      decl_form (codes "dispatch") (map tree_of_when cases ++ end ∷ []),
      whens_back cases end both.0,
      ap (λ d. d.goes) (last_back cases end),
      goes_back (codes "else") otherwise,
    )
decl_back (d.Untrusted holds) formed = cc (decl_form (codes "untrusted") (tree_of_assertion holds ∷ []), assertion_back holds formed)
decl_back (d.Block block) formed =
    let parts = and_parts (is_name block.name) (is_formed_assertion block.entry && is_formed_expr block.change) formed in
    let more = and_parts (is_formed_assertion block.entry) (is_formed_expr block.change) parts.1 in
    let entry = holding (codes "entry") block.entry in
    let within = form (codes "within") (number block.within ∷ []) in
    let change = form (codes "change") (tree_of_expr block.change ∷ []) in
    decl_form (codes "block") (word block.name ∷ entry ∷ within ∷ change ∷ [])
    ∙ ap (λ x. d.Block (record { name = x; entry = (decoded entry).holds; within = (decoded within).counts; change = (decoded change).changes })) (word_back block.name)
    ∙ ap (λ a. d.Block (record { name = block.name; entry = a; within = (decoded within).counts; change = (decoded change).changes })) (holds_back (codes "entry") block.entry more.0)
    ∙ ap (λ n. d.Block (record { name = block.name; entry = block.entry; within = n; change = (decoded change).changes })) (counts_back (codes "within") block.within)
    ∙ ap (λ e. d.Block (record { name = block.name; entry = block.entry; within = block.within; change = e })) (changes_back (codes "change") block.change more.1)
decl_back (d.Boot x) formed = cc (decl_form (codes "boot") (word x ∷ []), word_back x)

-- its tree tells it
pub one_decl : IsToldByTree is_formed_decl tree_of_decl
one_decl a b first second same = sym (decl_back a first) ∙ ap (λ t. (decoded t).decl) same ∙ decl_back b second

pub phase_counted : (phase : Phase) → trees_of_phase phase ≡ count_of (tree_of_phase phase)
phase_counted p.Untrusted = sym (of_word (codes "untrusted"))
phase_counted p.Inside = sym (of_word (codes "inside"))
phase_counted (p.Block x) = omega (arith, of_one (codes "block") (word x), of_word x)

pub when_counted : (w : When) → trees_of_when w ≡ count_of (tree_of_when w)
when_counted w = omega (arith, of_two (codes "when") (tree_of_expr w.test) (tree_of_phase w.phase), expr_counted w.test, phase_counted w.phase)

whens_counted : (ws : List When) (t : Tree) → sum (map count_of (map tree_of_when ws ++ t ∷ [])) ≡ sum (map trees_of_when ws) + count_of t
whens_counted [] t = omega arith
whens_counted (w ∷ ws) t =
    omega (
      arith,
      sum-cons (count_of (tree_of_when w)) (map count_of (map tree_of_when ws ++ t ∷ [])),
      sum-cons (trees_of_when w) (map trees_of_when ws),
      when_counted w,
      whens_counted ws t,
    )

pub decl_counted : (decl : DeclForm) → trees_of_decl decl ≡ count_of (tree_of_decl decl)
decl_counted (d.Enum x members) =
    omega (arith, of_two (codes "enum") (word x) (tree.List (map word members)), of_word x, count_of-List (map word members), of_words members)
decl_counted (d.Union x ctors) = omega (arith, of_two (codes "union") (word x) (tree_of_params ctors), of_word x, params_counted ctors)
decl_counted (d.Record x fields) = omega (arith, of_two (codes "record") (word x) (tree_of_params fields), of_word x, params_counted fields)
decl_counted (d.Register x type kind) =
    omega (arith, of_three (codes "register") (word x) (tree_of_type type) (word (word_of_register_kind kind)), of_word x, type_counted type, of_word (word_of_register_kind kind))
decl_counted (d.Memory a c lo hi) =
    omega (arith, of_four (codes "memory") (number a) (number c) (number lo) (number hi), of_number a, of_number c, of_number lo, of_number hi)
decl_counted (d.Cells kind lo hi) =
    omega (arith, of_three (codes "cells") (word (word_of_cells_kind kind)) (number lo) (number hi), of_word (word_of_cells_kind kind), of_number lo, of_number hi)
decl_counted (d.Code lo values) = omega (arith, of_more (codes "code") (number lo) (map number values), of_number lo, of_numbers values)
decl_counted (d.Region x params i e) =
    omega (arith, of_four (codes "region") (word x) (tree_of_params params) (word i) (tree_of_expr e), of_word x, params_counted params, of_word i, expr_counted e)
decl_counted (d.Predicate x inputs outputs definition) =
    omega (
      arith,
      of_four (codes "pred") (word x) (tree_of_params inputs) (tree_of_params outputs) (tree_of_assertion definition),
      of_word x,
      params_counted inputs,
      params_counted outputs,
      assertion_counted definition,
    )
decl_counted (d.Fun x params result body) =
    omega (
      arith,
      of_four (codes "fun") (word x) (tree_of_params params) (tree_of_type result) (tree_of_stm body),
      of_word x,
      params_counted params,
      type_counted result,
      stm_counted body,
    )
decl_counted (d.Contract f names pre x post) =
    let before = holding (codes "pre") pre in
    let result = form (codes "res") (word x ∷ []) in
    let behind = holding (codes "post") post in
    omega (
      arith,
      of_form (codes "contract") (word f ∷ tree_of_params names ∷ before ∷ result ∷ behind ∷ []),
      of_one (codes "pre") (tree_of_assertion pre),
      of_one (codes "res") (word x),
      of_one (codes "post") (tree_of_assertion post),
      of_word f,
      params_counted names,
      assertion_counted pre,
      of_word x,
      assertion_counted post,
    )
decl_counted (d.Lemma x params names pre post steps) =
    let before = holding (codes "pre") pre in
    let behind = holding (codes "post") post in
    let by = form (codes "steps") (map tree_of_stm steps) in
    omega (
      arith,
      of_form (codes "lemma") (word x ∷ tree_of_params params ∷ tree_of_params names ∷ before ∷ behind ∷ by ∷ []),
      of_one (codes "pre") (tree_of_assertion pre),
      of_one (codes "post") (tree_of_assertion post),
      of_form (codes "steps") (map tree_of_stm steps),
      of_word x,
      params_counted params,
      params_counted names,
      assertion_counted pre,
      assertion_counted post,
      stms_counted steps,
    )
decl_counted (d.Step f) = omega (arith, of_one (codes "step") (word f), of_word f)
decl_counted (d.Dispatch cases otherwise) =
    let end = form (codes "else") (tree_of_phase otherwise ∷ []) in
    omega (
      arith,
      of_form (codes "dispatch") (map tree_of_when cases ++ end ∷ []),
      whens_counted cases end,
      of_one (codes "else") (tree_of_phase otherwise),
      phase_counted otherwise,
      sum_by-map trees_of_when cases,
    )
decl_counted (d.Untrusted holds) = omega (arith, of_one (codes "untrusted") (tree_of_assertion holds), assertion_counted holds)
decl_counted (d.Block block) =
    let entry = holding (codes "entry") block.entry in
    let within = form (codes "within") (number block.within ∷ []) in
    let change = form (codes "change") (tree_of_expr block.change ∷ []) in
    omega (
      arith,
      of_four (codes "block") (word block.name) entry within change,
      of_one (codes "entry") (tree_of_assertion block.entry),
      of_one (codes "within") (number block.within),
      of_one (codes "change") (tree_of_expr block.change),
      of_word block.name,
      assertion_counted block.entry,
      of_number block.within,
      expr_counted block.change,
    )
decl_counted (d.Boot x) = omega (arith, of_one (codes "boot") (word x), of_word x)
