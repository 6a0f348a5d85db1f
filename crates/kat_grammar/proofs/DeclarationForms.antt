-- Declarations and their parts: what fits is one, form by form, and the tree of one fits.
use Rattle.std.proofs.Common.{◌≡◌, ℕ, ◌+◌, ◌-◌, List, [], ◌∷◌, ◌++◌, length, take, map, true, Option, Some, None, refl, ap, sym, subst, ◌∙◌, arith, length-append}
use Rattle.std.specs.Prelude.{codes, replicate}
use Rattle.std.specs.List.{AllByRecursion}
use Rattle.std.specs.Option.{option_and_then}
use Rattle.std.proofs.lemmas.List.{length-replicate}
use Rattle.kat_tree.specs.declared.tree.Token.{Token}
use Rattle.kat_tree.specs.declared.tree.Token.TheVariants as token
use Rattle.kat_tree.specs.declared.tree.Tree.{Tree}
use Rattle.kat_tree.specs.declared.tree.Tree.TheVariants as variant
use Rattle.kat_shapes.specs.declared.sort.Sort.{Sort}
use Rattle.kat_shapes.specs.declared.sort.Sort.TheVariants as sort
use Rattle.kat_ast.specs.declared.stm.Stm.{Stm}
use Rattle.kat_ast.specs.declared.decl.Phase.{Phase}
use Rattle.kat_ast.specs.declared.decl.Phase.TheVariants as phase
use Rattle.kat_ast.specs.declared.decl.When.{When}
use Rattle.kat_ast.specs.declared.decl.RegisterKind.{RegisterKind}
use Rattle.kat_ast.specs.declared.decl.RegisterKind.TheVariants as register_kind
use Rattle.kat_ast.specs.declared.decl.CellsKind.{CellsKind}
use Rattle.kat_ast.specs.declared.decl.CellsKind.TheVariants as cells_kind
use Rattle.kat_ast.specs.declared.assertion.Assertion.{Assertion}
use Rattle.kat_ast.specs.declared.decl.DeclForm.{DeclForm}
use Rattle.kat_ast.specs.declared.decl.DeclForm.TheVariants as decl
use Rattle.kat_ast.specs.Parts.{word, number, form, is_name, every, is_nonempty}
use Rattle.kat_ast.specs.Types.{is_formed_type, are_formed_params}
use Rattle.kat_ast.specs.Expressions.{is_formed_expr}
use Rattle.kat_ast.specs.Statements.{tree_of_stm, is_formed_stm}
use Rattle.kat_ast.specs.Assertions.{is_formed_assertion}
use Rattle.kat_ast.specs.Declarations.{tree_of_phase, tree_of_when, word_of_register_kind, word_of_cells_kind, holding, tree_of_decl, is_formed_phase, is_formed_when, is_formed_decl}
use Rattle.kat_shapes.specs.Forms.{Form, between, many, form_in, newest, row_of, words_of, is_since, declarations}
use Rattle.kat_shapes.specs.Fits.{fits}
use Rattle.kat_grammar.specs.Parts.{FitsSort, HasParts, HoldsOne, HasNoAtoms}
use Rattle.kat_grammar.specs.Forms.{IsPhase, IsWhen, IsHolding, IsDeclForm, AreWhens}
use Rattle.kat_grammar.proofs.Lists.{both, and2, and3, and4, and5, and6, same1, same2, same3, same4, same5, same6, same_first}
use Rattle.kat_grammar.proofs.Fitting.{by_layer, fits_of_token, no_list, no_form, headed, is_list, exact_parts, many_parts, between_parts, rest_fits, some_fit, before_fits, one_last, one_form, held_list, token_fits, form_fits, many_sorts, between_sorts, all_of_one, all_then_one}
use Rattle.kat_grammar.proofs.SmallForms.{apart, some_made, name_of, number_of, numbers_of, type_of, params_of, fields_of, members_of, small, no_register_list, no_cells_list, name_fits, number_fits, only_many, type_fits, params_fit, fields_fit, members_fit, each_number}
use Rattle.kat_grammar.proofs.ExpressionForms.{found_holds, expr_of, expr_fits}
use Rattle.kat_grammar.proofs.StatementForms.{stm_of, stms_of, stm_fits, stms_fit}
use Rattle.kat_grammar.proofs.AssertionForms.{assertion_of, assertion_fits}

-- phases and the cases of a dispatch
phase_fits : (p : Phase) → is_formed_phase p ≡ true → fits sort.Phase (tree_of_phase p) ≡ true
phase_fits phase.Untrusted f = token_fits sort.Phase (token.Name (codes "untrusted")) refl
phase_fits phase.Inside f = token_fits sort.Phase (token.Name (codes "inside")) refl
phase_fits (phase.Block x) f = form_fits sort.Phase (codes "block") _ _ (sort.Name ∷ []) refl refl (name_fits x f, tt)

when_fits : (w : When) → is_formed_when w ≡ true → fits sort.When (tree_of_when w) ≡ true
when_fits w f = let h = apart (is_formed_expr w.test) (is_formed_phase w.phase) f in
    form_fits sort.When (codes "when") _ _ (sort.Expression ∷ sort.Phase ∷ []) refl refl (expr_fits w.test h.0, (phase_fits w.phase h.1, tt))

each_when : (ws : List When) → every (map is_formed_when ws) ≡ true → AllByRecursion (FitsSort sort.When) (map tree_of_when ws)
each_when [] f = tt
each_when (w ∷ ws) f = let h = apart (is_formed_when w) (every (map is_formed_when ws)) f in (when_fits w h.0, each_when ws h.1)

register_kind_fits : (k : RegisterKind) → fits sort.RegisterPlace (word (word_of_register_kind k)) ≡ true
register_kind_fits register_kind.Plain = token_fits sort.RegisterPlace (token.Name (codes "plain")) refl
register_kind_fits register_kind.Protected = token_fits sort.RegisterPlace (token.Name (codes "protected")) refl
register_kind_fits register_kind.Outside = token_fits sort.RegisterPlace (token.Name (codes "outside")) refl

cells_kind_fits : (k : CellsKind) → fits sort.CellsPlace (word (word_of_cells_kind k)) ≡ true
cells_kind_fits cells_kind.Protected = token_fits sort.CellsPlace (token.Name (codes "protected")) refl
cells_kind_fits cells_kind.Outside = token_fits sort.CellsPlace (token.Name (codes "outside")) refl

code_fits : (lo : ℕ) (ns : List ℕ) → is_nonempty ns ≡ true → fits sort.Declaration (form (codes "code") (number lo ∷ map number ns)) ≡ true
code_fits lo [] some = absurd (cc)
code_fits lo (n ∷ ns) some =
    form_fits sort.Declaration (codes "code") (number lo ∷ number n ∷ map number ns) (many (sort.Word ∷ sort.Number ∷ sort.Number ∷ []) sort.Number)
    (sort.Number ∷ sort.Number ∷ replicate (length (map number ns)) sort.Number) refl
    (many_sorts (sort.Word ∷ sort.Number ∷ sort.Number ∷ []) sort.Number (length (map number ns)) (length (number lo ∷ number n ∷ map number ns) + 1) (omega arith))
    (number_fits lo, (number_fits n, all_of_one sort.Number (map number ns) (each_number ns)))

dispatch_fits : (trees : List Tree) (otherwise : Tree) → AllByRecursion (FitsSort sort.When) trees → fits sort.Else otherwise ≡ true → fits sort.Declaration (form (codes "dispatch") (trees ++ otherwise ∷ [])) ≡ true
dispatch_fits trees otherwise all last =
    form_fits sort.Declaration (codes "dispatch") (trees ++ otherwise ∷ []) (between (sort.Word ∷ []) sort.When (sort.Else ∷ []))
    (replicate (length trees) sort.When ++ sort.Else ∷ []) refl
    (between_sorts sort.Word sort.When sort.Else (length trees) (length (trees ++ otherwise ∷ []) + 1) (let e = length-append trees (otherwise ∷ []) in omega arith))
    (all_then_one sort.When sort.Else trees otherwise all last)

pre_fits : (a : Assertion) → is_formed_assertion a ≡ true → fits sort.Pre (holding (codes "pre") a) ≡ true
pre_fits a f = form_fits sort.Pre (codes "pre") _ _ (sort.Assertion ∷ []) refl refl (assertion_fits a f, tt)

post_fits : (a : Assertion) → is_formed_assertion a ≡ true → fits sort.Post (holding (codes "post") a) ≡ true
post_fits a f = form_fits sort.Post (codes "post") _ _ (sort.Assertion ∷ []) refl refl (assertion_fits a f, tt)

entry_fits : (a : Assertion) → is_formed_assertion a ≡ true → fits sort.Entry (holding (codes "entry") a) ≡ true
entry_fits a f = form_fits sort.Entry (codes "entry") _ _ (sort.Assertion ∷ []) refl refl (assertion_fits a f, tt)

pub decl_fits : (decl : DeclForm) → is_formed_decl decl ≡ true → fits sort.Declaration (tree_of_decl decl) ≡ true
decl_fits (decl.Enum x members) f = let h = apart (is_name x) _ f in let i = apart (is_nonempty members) _ h.1 in
    form_fits sort.Declaration (codes "enum") _ _ (sort.Name ∷ sort.Members ∷ []) refl refl (name_fits x h.0, (members_fit members i.0 i.1, tt))
decl_fits (decl.Union x ctors) f = let h = apart (is_name x) _ f in let i = apart (is_nonempty ctors) _ h.1 in
    form_fits sort.Declaration (codes "union") _ _ (sort.Name ∷ sort.Fields ∷ []) refl refl (name_fits x h.0, (fields_fit ctors i.0 i.1, tt))
decl_fits (decl.Record x fields) f = let h = apart (is_name x) _ f in let i = apart (is_nonempty fields) _ h.1 in
    form_fits sort.Declaration (codes "record") _ _ (sort.Name ∷ sort.Fields ∷ []) refl refl (name_fits x h.0, (fields_fit fields i.0 i.1, tt))
decl_fits (decl.Register x t kind) f = let h = apart (is_name x) (is_formed_type t) f in
    form_fits sort.Declaration (codes "register") _ _ (sort.Name ∷ sort.TypeName ∷ sort.RegisterPlace ∷ []) refl refl (name_fits x h.0, (type_fits t h.1, (register_kind_fits kind, tt)))
decl_fits (decl.Memory a c lo hi) f =
    form_fits sort.Declaration (codes "memory") _ _ (sort.Number ∷ sort.Number ∷ sort.Number ∷ sort.Number ∷ []) refl refl (number_fits a, (number_fits c, (number_fits lo, (number_fits hi, tt))))
decl_fits (decl.Cells kind lo hi) f =
    form_fits sort.Declaration (codes "cells") _ _ (sort.CellsPlace ∷ sort.Number ∷ sort.Number ∷ []) refl refl (cells_kind_fits kind, (number_fits lo, (number_fits hi, tt)))
decl_fits (decl.Code lo ns) f = code_fits lo ns f
decl_fits (decl.Region x params i e) f = let h = apart (is_name x) _ f in let j = apart (are_formed_params params) _ h.1 in let k = apart (is_name i) (is_formed_expr e) j.1 in
    form_fits sort.Declaration (codes "region") _ _ (sort.Name ∷ sort.Params ∷ sort.Name ∷ sort.Expression ∷ []) refl refl (name_fits x h.0, (params_fit params j.0, (name_fits i k.0, (expr_fits e k.1, tt))))
decl_fits (decl.Predicate x inputs outputs definition) f = let h = apart (is_name x) _ f in let j = apart (are_formed_params inputs) _ h.1 in let k = apart (are_formed_params outputs) (is_formed_assertion definition) j.1 in
    form_fits sort.Declaration (codes "pred") _ _ (sort.Name ∷ sort.Params ∷ sort.Params ∷ sort.Assertion ∷ []) refl refl (name_fits x h.0, (params_fit inputs j.0, (params_fit outputs k.0, (assertion_fits definition k.1, tt))))
decl_fits (decl.Fun x params result body) f = let h = apart (is_name x) _ f in let j = apart (are_formed_params params) _ h.1 in let k = apart (is_formed_type result) (is_formed_stm body) j.1 in
    form_fits sort.Declaration (codes "fun") _ _ (sort.Name ∷ sort.Params ∷ sort.TypeName ∷ sort.Statement ∷ []) refl refl (name_fits x h.0, (params_fit params j.0, (type_fits result k.0, (stm_fits body k.1, tt))))
decl_fits (decl.Contract g names pre x post) f =
    let h = apart (is_name g) _ f in let j = apart (are_formed_params names) _ h.1 in let k = apart (is_formed_assertion pre) _ j.1 in let l = apart (is_name x) (is_formed_assertion post) k.1 in
    form_fits sort.Declaration (codes "contract") _ _ (sort.Name ∷ sort.Params ∷ sort.Pre ∷ sort.Res ∷ sort.Post ∷ []) refl refl
    (name_fits g h.0, (params_fit names j.0, (pre_fits pre k.0, (form_fits sort.Res (codes "res") _ _ (sort.Name ∷ []) refl refl (name_fits x l.0, tt), (post_fits post l.1, tt)))))
decl_fits (decl.Lemma x params names pre post steps) f =
    let h = apart (is_name x) _ f in let j = apart (are_formed_params params) _ h.1 in let k = apart (are_formed_params names) _ j.1 in let l = apart (is_formed_assertion pre) _ k.1 in let m = apart (is_formed_assertion post) _ l.1 in
    form_fits sort.Declaration (codes "lemma") _ _ (sort.Name ∷ sort.Params ∷ sort.Params ∷ sort.Pre ∷ sort.Post ∷ sort.Steps ∷ []) refl refl
    (name_fits x h.0, (params_fit params j.0, (params_fit names k.0, (pre_fits pre l.0, (post_fits post m.0, (only_many sort.Steps sort.Statement (codes "steps") (map tree_of_stm steps) refl (stms_fit steps m.1), tt))))))
decl_fits (decl.Step x) f = form_fits sort.Declaration (codes "step") _ _ (sort.Name ∷ []) refl refl (name_fits x f, tt)
decl_fits (decl.Dispatch cases otherwise) f = let h = apart (every (map is_formed_when cases)) (is_formed_phase otherwise) f in
    dispatch_fits (map tree_of_when cases) _ (each_when cases h.0) (form_fits sort.Else (codes "else") _ _ (sort.Phase ∷ []) refl refl (phase_fits otherwise h.1, tt))
decl_fits (decl.Untrusted a) f = form_fits sort.Declaration (codes "untrusted") _ _ (sort.Assertion ∷ []) refl refl (assertion_fits a f, tt)
decl_fits (decl.Block block) f = let h = apart (is_name block.name) _ f in let j = apart (is_formed_assertion block.entry) (is_formed_expr block.change) h.1 in
    form_fits sort.Declaration (codes "block") _ _ (sort.Name ∷ sort.Entry ∷ sort.Within ∷ sort.Change ∷ []) refl refl (
      name_fits block.name h.0,
      (
        entry_fits block.entry j.0,
        (
          form_fits sort.Within (codes "within") _ _ (sort.Number ∷ []) refl refl (number_fits block.within, tt),
          (form_fits sort.Change (codes "change") _ _ (sort.Expression ∷ []) refl refl (expr_fits block.change j.1, tt), tt),
        ),
      ),
    )
decl_fits (decl.Boot x) f = form_fits sort.Declaration (codes "boot") _ _ (sort.Name ∷ []) refl refl (name_fits x f, tt)

-- What fits is a declaration, or a part of one.

-- a word that stands alone for a sort
since_some : (found : Option ℕ) → is_since newest found ≡ true → (n : ℕ) × (found ≡ Some n)
since_some None e = absurd (cc)
since_some (Some n) e = (n, refl)

abbrev RegisterKindOf : Tree → Type 0
RegisterKindOf t = FitsSort sort.RegisterPlace t → (k : RegisterKind) × (word (word_of_register_kind k) ≡ t)

register_kind_atom : (t : Token) → RegisterKindOf (variant.Atom t)
register_kind_atom (token.Name x) fit =
    let row = since_some (row_of (words_of sort.RegisterPlace) x) (fits_of_token sort.RegisterPlace (token.Name x) fit) in
    let found = found_holds (λ w (n : ℕ). (k : RegisterKind) × (word_of_register_kind k ≡ w)) (words_of sort.RegisterPlace) x row.0
    ((register_kind.Plain, refl), ((register_kind.Protected, refl), ((register_kind.Outside, refl), tt))) row.1 in
    (found.0, ap word found.1)
register_kind_atom (token.Number n) fit = absurd (let e = fits_of_token sort.RegisterPlace (token.Number n) fit in cc)

pub register_kind_of : (t : Tree) → FitsSort sort.RegisterPlace t → (k : RegisterKind) × (word (word_of_register_kind k) ≡ t)
register_kind_of = by_layer RegisterKindOf register_kind_atom (λ parts fit. absurd (no_list sort.RegisterPlace parts no_register_list fit))

abbrev CellsKindOf : Tree → Type 0
CellsKindOf t = FitsSort sort.CellsPlace t → (k : CellsKind) × (word (word_of_cells_kind k) ≡ t)

cells_kind_atom : (t : Token) → CellsKindOf (variant.Atom t)
cells_kind_atom (token.Name x) fit =
    let row = since_some (row_of (words_of sort.CellsPlace) x) (fits_of_token sort.CellsPlace (token.Name x) fit) in
    let found = found_holds (λ w (n : ℕ). (k : CellsKind) × (word_of_cells_kind k ≡ w)) (words_of sort.CellsPlace) x row.0
    ((cells_kind.Protected, refl), ((cells_kind.Outside, refl), tt)) row.1 in
    (found.0, ap word found.1)
cells_kind_atom (token.Number n) fit = absurd (let e = fits_of_token sort.CellsPlace (token.Number n) fit in cc)

pub cells_kind_of : (t : Tree) → FitsSort sort.CellsPlace t → (k : CellsKind) × (word (word_of_cells_kind k) ≡ t)
cells_kind_of = by_layer CellsKindOf cells_kind_atom (λ parts fit. absurd (no_list sort.CellsPlace parts no_cells_list fit))

-- a phase
abbrev PhaseOf : Tree → Type 0
PhaseOf t = FitsSort sort.Phase t → (p : Phase) × IsPhase t p

phase_atom : (t : Token) → PhaseOf (variant.Atom t)
phase_atom (token.Name x) fit =
    let row = since_some (row_of (words_of sort.Phase) x) (fits_of_token sort.Phase (token.Name x) fit) in
    found_holds (λ w (n : ℕ). (p : Phase) × IsPhase (word w) p) (words_of sort.Phase) x row.0
    ((phase.Untrusted, (refl, refl)), ((phase.Inside, (refl, refl)), tt)) row.1
phase_atom (token.Number n) fit = absurd (let e = fits_of_token sort.Phase (token.Number n) fit in cc)

phase_list : (parts : List Tree) → PhaseOf (variant.List parts)
phase_list parts fit =
    let one = held_list sort.Phase (codes "block") sort.Name small.one_block parts fit in
    let x = name_of one.0 one.2 in
    (phase.Block x.0, (ap (λ t. form (codes "block") (t ∷ [])) x.1.0 ∙ ap variant.List (sym one.1), x.1.1))

pub phase_of : (t : Tree) → FitsSort sort.Phase t → (p : Phase) × IsPhase t p
phase_of = by_layer PhaseOf phase_atom phase_list

-- the one part of a small list
held_in : (s : Sort) (w : List ℕ) (inner : Sort) (tree : Tree) → HoldsOne s w inner → HasNoAtoms s → FitsSort s tree →
    (part : Tree) × (form w (part ∷ []) ≡ tree) × FitsSort inner part
held_in s w inner tree has lacks fit =
    let list = is_list s tree lacks fit in
    let one = held_list s w inner has list.0 (subst (FitsSort s) list.1 fit) in
    (one.0, sym (list.1 ∙ ap variant.List one.1), one.2)

holding_of : (s : Sort) (w : List ℕ) (tree : Tree) → HoldsOne s w sort.Assertion → HasNoAtoms s → FitsSort s tree → (a : Assertion) × IsHolding w tree a
holding_of s w tree has lacks fit =
    let part = held_in s w sort.Assertion tree has lacks fit in let a = assertion_of part.0 part.2 in
    (a.0, (ap (λ t. form w (t ∷ [])) a.1.0 ∙ part.1, a.1.1))

-- a case of a dispatch, and steps
when-from : (ts : List Tree) → HasParts (sort.Expression ∷ sort.Phase ∷ []) ts → (w : When) × IsWhen (form (codes "when") ts) w
when-from (t0 ∷ t1 ∷ []) h =
    let e = expr_of t0 h.fit.0 in let p = phase_of t1 h.fit.1.0 in
    (record { test = e.0; phase = p.0 }, (ap (form (codes "when")) (same2 e.1.0 p.1.0), and2 e.1.1 p.1.1))
when-from _ h = absurd (omega (arith, h.count))

when_of : (t : Tree) → FitsSort sort.When t → (w : When) × IsWhen t w
when_of t fit =
    let list = is_list sort.When t (record { numbers = λ n. refl; names = λ x. refl }) fit in
    let one = one_form sort.When (codes "when") _ small.one_when list.0 (subst (FitsSort sort.When) list.1 fit) in
    subst (λ u. (w : When) × IsWhen u w) (sym (list.1 ∙ ap variant.List one.1))
    (when-from one.0 (exact_parts sort.When (codes "when") (sort.Expression ∷ sort.Phase ∷ []) one.0 refl one.2))

whens_of : (ts : List Tree) → AllByRecursion (FitsSort sort.When) ts → (ws : List When) × AreWhens ts ws
whens_of [] all = ([], (refl, refl))
whens_of (t ∷ ts) all =
    let w = when_of t all.0 in let ws = whens_of ts all.1 in
    (w.0 ∷ ws.0, (same_first w.1.0 ws.1.0, both (is_formed_when w.0) (every (map is_formed_when ws.0)) w.1.1 ws.1.1))

steps_of : (t : Tree) → FitsSort sort.Steps t → (ss : List Stm) × (form (codes "steps") (map tree_of_stm ss) ≡ t) × (every (map is_formed_stm ss) ≡ true)
steps_of t fit =
    let list = is_list sort.Steps t (record { numbers = λ n. refl; names = λ x. refl }) fit in
    let one = one_form sort.Steps (codes "steps") _ small.one_steps list.0 (subst (FitsSort sort.Steps) list.1 fit) in
    let has = many_parts sort.Steps (codes "steps") [] sort.Statement one.0 refl one.2 in
    let ss = stms_of one.0 (rest_fits [] sort.Statement (length one.0 - 0) one.0 has) in
    (ss.0, ap (form (codes "steps")) ss.1.0 ∙ sym (list.1 ∙ ap variant.List one.1), ss.1.1)

-- each form from its parts
abbrev FromParts : List Sort → List ℕ → List Tree → Type 0
FromParts sorts w ts = HasParts sorts ts → (d : DeclForm) × IsDeclForm (form w ts) d

enum-from : (ts : List Tree) → FromParts (sort.Name ∷ sort.Members ∷ []) (codes "enum") ts
enum-from (t0 ∷ t1 ∷ []) h =
    let v0 = name_of t0 h.fit.0 in
    let v1 = members_of t1 h.fit.1.0 in
    (decl.Enum v0.0 v1.0, (ap (form (codes "enum")) (same2 v0.1.0 v1.1), (and3 v0.1.1 v1.2 v1.3)))
enum-from _ h = absurd (omega (arith, h.count))

union-from : (ts : List Tree) → FromParts (sort.Name ∷ sort.Fields ∷ []) (codes "union") ts
union-from (t0 ∷ t1 ∷ []) h =
    let v0 = name_of t0 h.fit.0 in
    let v1 = fields_of t1 h.fit.1.0 in
    (decl.Union v0.0 v1.0, (ap (form (codes "union")) (same2 v0.1.0 v1.1), (and3 v0.1.1 v1.2 v1.3)))
union-from _ h = absurd (omega (arith, h.count))

record-from : (ts : List Tree) → FromParts (sort.Name ∷ sort.Fields ∷ []) (codes "record") ts
record-from (t0 ∷ t1 ∷ []) h =
    let v0 = name_of t0 h.fit.0 in
    let v1 = fields_of t1 h.fit.1.0 in
    (decl.Record v0.0 v1.0, (ap (form (codes "record")) (same2 v0.1.0 v1.1), (and3 v0.1.1 v1.2 v1.3)))
record-from _ h = absurd (omega (arith, h.count))

register-from : (ts : List Tree) → FromParts (sort.Name ∷ sort.TypeName ∷ sort.RegisterPlace ∷ []) (codes "register") ts
register-from (t0 ∷ t1 ∷ t2 ∷ []) h =
    let v0 = name_of t0 h.fit.0 in
    let v1 = type_of t1 h.fit.1.0 in
    let v2 = register_kind_of t2 h.fit.1.1.0 in
    (decl.Register v0.0 v1.0 v2.0, (ap (form (codes "register")) (same3 v0.1.0 v1.1.0 v2.1), (and2 v0.1.1 v1.1.1)))
register-from _ h = absurd (omega (arith, h.count))

memory-from : (ts : List Tree) → FromParts (sort.Number ∷ sort.Number ∷ sort.Number ∷ sort.Number ∷ []) (codes "memory") ts
memory-from (t0 ∷ t1 ∷ t2 ∷ t3 ∷ []) h =
    let v0 = number_of t0 h.fit.0 in
    let v1 = number_of t1 h.fit.1.0 in
    let v2 = number_of t2 h.fit.1.1.0 in
    let v3 = number_of t3 h.fit.1.1.1.0 in
    (decl.Memory v0.0 v1.0 v2.0 v3.0, (ap (form (codes "memory")) (same4 v0.1 v1.1 v2.1 v3.1), refl))
memory-from _ h = absurd (omega (arith, h.count))

cells-from : (ts : List Tree) → FromParts (sort.CellsPlace ∷ sort.Number ∷ sort.Number ∷ []) (codes "cells") ts
cells-from (t0 ∷ t1 ∷ t2 ∷ []) h =
    let v0 = cells_kind_of t0 h.fit.0 in
    let v1 = number_of t1 h.fit.1.0 in
    let v2 = number_of t2 h.fit.1.1.0 in
    (decl.Cells v0.0 v1.0 v2.0, (ap (form (codes "cells")) (same3 v0.1 v1.1 v2.1), refl))
cells-from _ h = absurd (omega (arith, h.count))

region-from : (ts : List Tree) → FromParts (sort.Name ∷ sort.Params ∷ sort.Name ∷ sort.Expression ∷ []) (codes "region") ts
region-from (t0 ∷ t1 ∷ t2 ∷ t3 ∷ []) h =
    let v0 = name_of t0 h.fit.0 in
    let v1 = params_of t1 h.fit.1.0 in
    let v2 = name_of t2 h.fit.1.1.0 in
    let v3 = expr_of t3 h.fit.1.1.1.0 in
    (decl.Region v0.0 v1.0 v2.0 v3.0, (ap (form (codes "region")) (same4 v0.1.0 v1.1 v2.1.0 v3.1.0), (and4 v0.1.1 v1.2 v2.1.1 v3.1.1)))
region-from _ h = absurd (omega (arith, h.count))

pred-from : (ts : List Tree) → FromParts (sort.Name ∷ sort.Params ∷ sort.Params ∷ sort.Assertion ∷ []) (codes "pred") ts
pred-from (t0 ∷ t1 ∷ t2 ∷ t3 ∷ []) h =
    let v0 = name_of t0 h.fit.0 in
    let v1 = params_of t1 h.fit.1.0 in
    let v2 = params_of t2 h.fit.1.1.0 in
    let v3 = assertion_of t3 h.fit.1.1.1.0 in
    (decl.Predicate v0.0 v1.0 v2.0 v3.0, (ap (form (codes "pred")) (same4 v0.1.0 v1.1 v2.1 v3.1.0), (and4 v0.1.1 v1.2 v2.2 v3.1.1)))
pred-from _ h = absurd (omega (arith, h.count))

fun-from : (ts : List Tree) → FromParts (sort.Name ∷ sort.Params ∷ sort.TypeName ∷ sort.Statement ∷ []) (codes "fun") ts
fun-from (t0 ∷ t1 ∷ t2 ∷ t3 ∷ []) h =
    let v0 = name_of t0 h.fit.0 in
    let v1 = params_of t1 h.fit.1.0 in
    let v2 = type_of t2 h.fit.1.1.0 in
    let v3 = stm_of t3 h.fit.1.1.1.0 in
    (decl.Fun v0.0 v1.0 v2.0 v3.0, (ap (form (codes "fun")) (same4 v0.1.0 v1.1 v2.1.0 v3.1.0), (and4 v0.1.1 v1.2 v2.1.1 v3.1.1)))
fun-from _ h = absurd (omega (arith, h.count))

contract-from : (ts : List Tree) → FromParts (sort.Name ∷ sort.Params ∷ sort.Pre ∷ sort.Res ∷ sort.Post ∷ []) (codes "contract") ts
contract-from (t0 ∷ t1 ∷ t2 ∷ t3 ∷ t4 ∷ []) h =
    let v0 = name_of t0 h.fit.0 in
    let v1 = params_of t1 h.fit.1.0 in
    let v2 = holding_of sort.Pre (codes "pre") t2 small.one_pre small.no_pre h.fit.1.1.0 in
    let q3 = held_in sort.Res (codes "res") sort.Name t3 small.one_res small.no_res h.fit.1.1.1.0 in let v3 = name_of q3.0 q3.2 in
    let v4 = holding_of sort.Post (codes "post") t4 small.one_post small.no_post h.fit.1.1.1.1.0 in
    (decl.Contract v0.0 v1.0 v2.0 v3.0 v4.0, (ap (form (codes "contract")) (same5 v0.1.0 v1.1 v2.1.0 (ap (λ t. form (codes "res") (t ∷ [])) v3.1.0 ∙ q3.1) v4.1.0), (and5 v0.1.1 v1.2 v2.1.1 v3.1.1 v4.1.1)))
contract-from _ h = absurd (omega (arith, h.count))

lemma-from : (ts : List Tree) → FromParts (sort.Name ∷ sort.Params ∷ sort.Params ∷ sort.Pre ∷ sort.Post ∷ sort.Steps ∷ []) (codes "lemma") ts
lemma-from (t0 ∷ t1 ∷ t2 ∷ t3 ∷ t4 ∷ t5 ∷ []) h =
    let v0 = name_of t0 h.fit.0 in
    let v1 = params_of t1 h.fit.1.0 in
    let v2 = params_of t2 h.fit.1.1.0 in
    let v3 = holding_of sort.Pre (codes "pre") t3 small.one_pre small.no_pre h.fit.1.1.1.0 in
    let v4 = holding_of sort.Post (codes "post") t4 small.one_post small.no_post h.fit.1.1.1.1.0 in
    let v5 = steps_of t5 h.fit.1.1.1.1.1.0 in
    (decl.Lemma v0.0 v1.0 v2.0 v3.0 v4.0 v5.0, (ap (form (codes "lemma")) (same6 v0.1.0 v1.1 v2.1 v3.1.0 v4.1.0 v5.1), (and6 v0.1.1 v1.2 v2.2 v3.1.1 v4.1.1 v5.2)))
lemma-from _ h = absurd (omega (arith, h.count))

step-from : (ts : List Tree) → FromParts (sort.Name ∷ []) (codes "step") ts
step-from (t0 ∷ []) h =
    let v0 = name_of t0 h.fit.0 in
    (decl.Step v0.0, (ap (form (codes "step")) (same1 v0.1.0), v0.1.1))
step-from _ h = absurd (omega (arith, h.count))

untrusted-from : (ts : List Tree) → FromParts (sort.Assertion ∷ []) (codes "untrusted") ts
untrusted-from (t0 ∷ []) h =
    let v0 = assertion_of t0 h.fit.0 in
    (decl.Untrusted v0.0, (ap (form (codes "untrusted")) (same1 v0.1.0), v0.1.1))
untrusted-from _ h = absurd (omega (arith, h.count))

block-from : (ts : List Tree) → FromParts (sort.Name ∷ sort.Entry ∷ sort.Within ∷ sort.Change ∷ []) (codes "block") ts
block-from (t0 ∷ t1 ∷ t2 ∷ t3 ∷ []) h =
    let v0 = name_of t0 h.fit.0 in
    let v1 = holding_of sort.Entry (codes "entry") t1 small.one_entry small.no_entry h.fit.1.0 in
    let q2 = held_in sort.Within (codes "within") sort.Number t2 small.one_within small.no_within h.fit.1.1.0 in let v2 = number_of q2.0 q2.2 in
    let q3 = held_in sort.Change (codes "change") sort.Expression t3 small.one_change small.no_change h.fit.1.1.1.0 in let v3 = expr_of q3.0 q3.2 in
    (decl.Block (record { name = v0.0; entry = v1.0; within = v2.0; change = v3.0 }), (ap (form (codes "block")) (same4 v0.1.0 v1.1.0 (ap (λ t. form (codes "within") (t ∷ [])) v2.1 ∙ q2.1) (ap (λ t. form (codes "change") (t ∷ [])) v3.1.0 ∙ q3.1)), and3 v0.1.1 v1.1.1 v3.1.1))
block-from _ h = absurd (omega (arith, h.count))

boot-from : (ts : List Tree) → FromParts (sort.Name ∷ []) (codes "boot") ts
boot-from (t0 ∷ []) h =
    let v0 = name_of t0 h.fit.0 in
    (decl.Boot v0.0, (ap (form (codes "boot")) (same1 v0.1.0), v0.1.1))
boot-from _ h = absurd (omega (arith, h.count))

code-from : (ts : List Tree) → FromParts (sort.Number ∷ sort.Number ∷ replicate (length ts - 2) sort.Number) (codes "code") ts
code-from [] h = absurd h.fit
code-from (t ∷ ts) h =
    let lo = number_of t h.fit.0 in
    let ns = numbers_of ts (some_fit sort.Number (length (t ∷ ts) - 2) ts (record { count = let e = h.count in omega arith; fit = h.fit.1 })) in (
      decl.Code lo.0 ns.0,
      (
        ap (form (codes "code")) (same_first lo.1 ns.1),
        some_made number ns.0 ts ns.1 (length (t ∷ ts) - 2) (omega (arith, h.count, length-replicate (length (t ∷ ts) - 2) sort.Number)),
      ),
    )

dispatch-from : (ts : List Tree) → FromParts (replicate (length ts - 1) sort.When ++ sort.Else ∷ []) (codes "dispatch") ts
dispatch-from ts h =
    let n = length ts - 1 in
    let ws = whens_of (take n ts) (before_fits sort.When sort.Else n ts h) in
    let last = one_last sort.When sort.Else n ts h in
    let q = held_in sort.Else (codes "else") sort.Phase last.0 small.one_else small.no_else last.2 in
    let p = phase_of q.0 q.2 in (
      decl.Dispatch ws.0 p.0,
      (
        ap (form (codes "dispatch"))
            (ap (λ us. us ++ form (codes "else") (tree_of_phase p.0 ∷ []) ∷ []) ws.1.0
            ∙ ap (λ t. take n ts ++ t ∷ []) (ap (λ t. form (codes "else") (t ∷ [])) p.1.0 ∙ q.1) ∙ last.1),
        and2 ws.1.1 p.1.1,
      ),
    )

-- the form of a word
abbrev DeclOf : List ℕ → Form → Type 0
DeclOf w f = (ts : List Tree) → FitsSort sort.Declaration (form w ts) → (d : DeclForm) × IsDeclForm (form w ts) d

decl_rows : AllByRecursion (λ (row : List ℕ × Form). DeclOf row.0 row.1) declarations
decl_rows = (
  λ ts fit. enum-from ts (exact_parts sort.Declaration (codes "enum") (sort.Name ∷ sort.Members ∷ []) ts refl fit),
  (
    λ ts fit. union-from ts (exact_parts sort.Declaration (codes "union") (sort.Name ∷ sort.Fields ∷ []) ts refl fit),
    (
      λ ts fit. record-from ts (exact_parts sort.Declaration (codes "record") (sort.Name ∷ sort.Fields ∷ []) ts refl fit),
      (
        λ ts fit. register-from ts (exact_parts sort.Declaration (codes "register") (sort.Name ∷ sort.TypeName ∷ sort.RegisterPlace ∷ []) ts refl fit),
        (
          λ ts fit. memory-from ts (exact_parts sort.Declaration (codes "memory") (sort.Number ∷ sort.Number ∷ sort.Number ∷ sort.Number ∷ []) ts refl fit),
          (
            λ ts fit. cells-from ts (exact_parts sort.Declaration (codes "cells") (sort.CellsPlace ∷ sort.Number ∷ sort.Number ∷ []) ts refl fit),
            (
              λ ts fit. code-from ts (many_parts sort.Declaration (codes "code") (sort.Number ∷ sort.Number ∷ []) sort.Number ts refl fit),
              (
                λ ts fit. region-from ts (exact_parts sort.Declaration (codes "region") (sort.Name ∷ sort.Params ∷ sort.Name ∷ sort.Expression ∷ []) ts refl fit),
                (
                  λ ts fit. pred-from ts (exact_parts sort.Declaration (codes "pred") (sort.Name ∷ sort.Params ∷ sort.Params ∷ sort.Assertion ∷ []) ts refl fit),
                  (
                    λ ts fit. fun-from ts (exact_parts sort.Declaration (codes "fun") (sort.Name ∷ sort.Params ∷ sort.TypeName ∷ sort.Statement ∷ []) ts refl fit),
                    (
                      λ ts fit. contract-from ts (exact_parts sort.Declaration (codes "contract") (sort.Name ∷ sort.Params ∷ sort.Pre ∷ sort.Res ∷ sort.Post ∷ []) ts refl fit),
                      (
                        λ ts fit. lemma-from ts (exact_parts sort.Declaration (codes "lemma") (sort.Name ∷ sort.Params ∷ sort.Params ∷ sort.Pre ∷ sort.Post ∷ sort.Steps ∷ []) ts refl fit),
                        (
                          λ ts fit. step-from ts (exact_parts sort.Declaration (codes "step") (sort.Name ∷ []) ts refl fit),
                          (
                            λ ts fit. dispatch-from ts (between_parts sort.Declaration (codes "dispatch") sort.When sort.Else ts refl fit),
                            (
                              λ ts fit. untrusted-from ts (exact_parts sort.Declaration (codes "untrusted") (sort.Assertion ∷ []) ts refl fit),
                              (
                                λ ts fit. block-from ts (exact_parts sort.Declaration (codes "block") (sort.Name ∷ sort.Entry ∷ sort.Within ∷ sort.Change ∷ []) ts refl fit),
                                (λ ts fit. boot-from ts (exact_parts sort.Declaration (codes "boot") (sort.Name ∷ []) ts refl fit), tt),
                              ),
                            ),
                          ),
                        ),
                      ),
                    ),
                  ),
                ),
              ),
            ),
          ),
        ),
      ),
    ),
  ),
)

decl_by : (w : List ℕ) (ts : List Tree) (found : Option Form) → row_of declarations w ≡ found → FitsSort sort.Declaration (form w ts) →
    (d : DeclForm) × IsDeclForm (form w ts) d
decl_by w ts None none fit = absurd (no_form sort.Declaration w ts (ap (option_and_then (form_in newest)) none) fit)
decl_by w ts (Some f) found fit = found_holds DeclOf declarations w f decl_rows found ts fit

pub decl_of : (t : Tree) → FitsSort sort.Declaration t → (d : DeclForm) × IsDeclForm t d
decl_of t fit =
    let list = is_list sort.Declaration t (record { numbers = λ n. refl; names = λ x. refl }) fit in
    let fits = subst (FitsSort sort.Declaration) list.1 fit in
    let h = headed sort.Declaration list.0 refl fits in
    let is = list.1 ∙ ap variant.List h.is in
    subst (λ u. (d : DeclForm) × IsDeclForm u d) (sym is)
    (decl_by h.head h.behind (row_of declarations h.head) refl (subst (FitsSort sort.Declaration) is fit))
