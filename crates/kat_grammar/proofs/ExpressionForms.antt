-- Expressions: what fits is one, form by form, and the tree of one fits.
use Rattle.std.proofs.Common.{◌≡◌, ℕ, Bool, ◌+◌, ◌-◌, ◌==◌, List, [], ◌∷◌, ◌++◌, ◌&&◌, length, take, drop, map, true, false, if◌then◌else◌, Option, Some, None, refl, ap, sym, subst, ◌∙◌, arith}
use Rattle.std.specs.Str.{bytes_eq}
use Rattle.std.proofs.lemmas.Bool.{eqb-true, eq-eqb}
use Rattle.std.proofs.lemmas.List.{length-map, length-replicate}
use Rattle.std.proofs.lemmas.Slice.Eq.{bytes_eq-Decides}
use Rattle.std.specs.Prelude.{codes, replicate}
use Rattle.std.specs.List.{AllByRecursion}
use Rattle.kat_tree.specs.declared.tree.Token.{Token}
use Rattle.kat_tree.specs.declared.tree.Tree.TheVariants.{rolls-Atom, rolls-List}
use Rattle.kat_tree.specs.declared.tree.Tree.TheOpen.{Tree-F}
use Rattle.kat_tree.specs.declared.tree.Tree.TheViews.{roll-Tree}
use Rattle.kat_tree.specs.declared.tree.Tree.TheFolds.{map-Tree, ind-Tree}
use Rattle.kat_tree.specs.declared.tree.Token.TheVariants as token
use Rattle.kat_tree.specs.declared.tree.Tree.{Tree}
use Rattle.kat_tree.specs.declared.tree.Tree.TheVariants as variant
use Rattle.kat_shapes.specs.declared.sort.Sort.TheVariants as sort
use Rattle.kat_value.specs.declared.op.Op.{Op}
use Rattle.kat_value.specs.declared.op.Op.TheVariants as op
use Rattle.kat_ast.specs.declared.expr.Expr.{Expr}
use Rattle.kat_ast.specs.declared.expr.Expr.TheVariants as made
use Rattle.kat_ast.specs.declared.expr.Expr.TheVariants.{rolls-Apply}
use Rattle.kat_ast.specs.declared.expr.Expr.TheOpen as layer
use Rattle.kat_ast.specs.declared.expr.Expr.TheViews.{roll-Expr}
use Rattle.kat_ast.specs.declared.expr.Expr.TheFolds.{map-Expr, fold-roll-Expr, ind-Expr}
use Rattle.kat_value.specs.Words.{word_of_op, op_among, op_of_word, written_ops}
use Rattle.kat_ast.specs.Parts.{word, number, form}
use Rattle.kat_ast.specs.Expressions.{numbers_before, expr_tree, tree_of_expr}
use Rattle.std.specs.Prelude.{IsSome}
use Rattle.std.specs.Option.{option_and_then}
use Rattle.kat_value.specs.Words.{arity_of, is_written}
use Rattle.kat_ast.specs.Parts.{is_name, every}
use Rattle.kat_ast.specs.Expressions.{expr_formed, is_formed_expr, are_formed_exprs}
use Rattle.kat_shapes.specs.Forms.{Form, Rows, exactly, form_of, form_in, newest, row_of, expressions}
use Rattle.kat_shapes.specs.Fits.{fits}
use Rattle.kat_grammar.specs.Parts.{told_expressions, FitsSort, AllFit, HasParts, IsPlain}
use Rattle.kat_grammar.specs.Forms.{IsExpr, AreExprs}
use Rattle.kat_grammar.proofs.Lists.{both, and2, and3, same1, same2, same3, same_first}
use Rattle.kat_grammar.proofs.Fitting.{token_fits, fits_of_token, headed, all_same, rest_fits, form_fits, exactly_sorts, all_of_one, exact_parts, many_parts, no_form}
use Rattle.kat_grammar.proofs.SmallForms.{apart, name_of, number_of, name_fits, number_fits, named_many}

-- a form from the trees of its parts
pub expr_is : (y : layer.Expr-F Expr) (t : Tree) → expr_tree (map-Expr Expr Tree tree_of_expr y) ≡ t →
    expr_formed (map-Expr Expr Bool is_formed_expr y) ≡ true → (e : Expr) × IsExpr t e
expr_is y t same formed = (roll-Expr y, (fold-roll-Expr Tree expr_tree y ∙ same, fold-roll-Expr Bool expr_formed y ∙ formed))

-- an operation with its arguments
pub Apply-is : (o : Op) (es : List Expr) (w : List ℕ) (args parts : List Tree) → word_of_op o ≡ w → is_written o ≡ true → length args ≡ arity_of o →
    map tree_of_expr es ≡ args → are_formed_exprs es ≡ true → numbers_before o ++ args ≡ parts → IsExpr (form w parts) (made.Apply o es)
Apply-is o es w args parts w_is written count same well made_is =
    let long : length (map is_formed_expr es) ≡ arity_of o =
    length-map es is_formed_expr ∙ sym (length-map es tree_of_expr) ∙ ap length same ∙ count in (
      ap tree_of_expr (sym (rolls-Apply o es)) ∙ fold-roll-Expr Tree expr_tree (layer.Apply o es)
          ∙ ap (λ ts. form (word_of_op o) (numbers_before o ++ ts)) same ∙ ap (form (word_of_op o)) made_is ∙ ap (λ v. form v parts) w_is,
      ap is_formed_expr (sym (rolls-Apply o es)) ∙ fold-roll-Expr Bool expr_formed (layer.Apply o es)
          ∙ both (is_written o) ((length (map is_formed_expr es) == arity_of o) && are_formed_exprs es) written
          (both (length (map is_formed_expr es) == arity_of o) (are_formed_exprs es) (eq-eqb (length (map is_formed_expr es)) (arity_of o) long) well),
    )

-- what is so of each row of a table is so of the row that is found
module _ {A : Type 0} (P : List ℕ → A → Type 0) where
  here : (row : List ℕ × A) (rows : Rows A) (w : List ℕ) (a : A) (b : Bool) → bytes_eq w row.0 ≡ b → P row.0 row.1 →
      (row_of rows w ≡ Some a → P w a) → (if b then Some row.1 else row_of rows w) ≡ Some a → P w a
  here row rows w a true e holds left found =
      let same : row.1 ≡ a = cc in
      subst (λ v. P v a) (sym ((bytes_eq-Decides w row.0).0 e)) (subst (P row.0) same holds)
  here row rows w a false e holds left found = left found

  pub found_holds : (rows : Rows A) (w : List ℕ) (a : A) → AllByRecursion (λ row. P row.0 row.1) rows → row_of rows w ≡ Some a → P w a
  found_holds [] w a all found = absurd (cc)
  found_holds (row ∷ rows) w a all found =
      here row rows w a (bytes_eq w row.0) refl all.0 (found_holds rows w a all.1) found

-- an operation that is written with its arguments alone
pub record IsBare (w : List ℕ) (o : Op) : Type 0 where
  pub word_is : word_of_op o ≡ w
  pub alone : numbers_before o ≡ []
  pub written : is_written o ≡ true
  pub formed : form_of newest sort.Expression (Some w) ≡ Some (exactly (sort.Word ∷ replicate (arity_of o) sort.Expression))

-- a word is none of those that tell an expression of their own
abbrev pub IsNoValue : List ℕ → Type 0
IsNoValue w = row_of told_expressions w ≡ None

-- operations by their words
abbrev rows : List Op → Rows Op
rows ops = map (λ (o : Op). (word_of_op o, o)) ops

among_rows : (ops : List Op) (w : List ℕ) → op_among ops w ≡ row_of (rows ops) w
among_rows [] w = refl
among_rows (o ∷ ops) w = ap (λ found. if bytes_eq w (word_of_op o) then Some o else found) (among_rows ops w)

abbrev BareUnlessValue : List ℕ → Op → Type 0
BareUnlessValue w o = IsNoValue w → IsBare w o

pub bare_found : (w : List ℕ) (o : Op) → IsNoValue w → op_of_word w ≡ Some o → IsBare w o
bare_found w o no_value found = found_holds BareUnlessValue (rows written_ops) w o
    (λ none. record { word_is = refl; alone = refl; written = refl; formed = refl }, (λ none. record { word_is = refl; alone = refl; written = refl; formed = refl }, (λ none. record { word_is = refl; alone = refl; written = refl; formed = refl }, (λ none. record { word_is = refl; alone = refl; written = refl; formed = refl }, (λ none. record { word_is = refl; alone = refl; written = refl; formed = refl }, (λ none. record { word_is = refl; alone = refl; written = refl; formed = refl }, (λ none. record { word_is = refl; alone = refl; written = refl; formed = refl }, (λ none. record { word_is = refl; alone = refl; written = refl; formed = refl }, (λ none. record { word_is = refl; alone = refl; written = refl; formed = refl }, (λ none. record { word_is = refl; alone = refl; written = refl; formed = refl }, (λ none. record { word_is = refl; alone = refl; written = refl; formed = refl }, (λ none. record { word_is = refl; alone = refl; written = refl; formed = refl }, (λ none. record { word_is = refl; alone = refl; written = refl; formed = refl }, (λ none. record { word_is = refl; alone = refl; written = refl; formed = refl }, (λ none. record { word_is = refl; alone = refl; written = refl; formed = refl }, (λ none. record { word_is = refl; alone = refl; written = refl; formed = refl }, (λ none. record { word_is = refl; alone = refl; written = refl; formed = refl }, (λ none. record { word_is = refl; alone = refl; written = refl; formed = refl }, (λ none. absurd (cc), (λ none. record { word_is = refl; alone = refl; written = refl; formed = refl }, (λ none. absurd (cc), (λ none. absurd (cc), (λ none. record { word_is = refl; alone = refl; written = refl; formed = refl }, tt))))))))))))))))))))))) (sym (among_rows written_ops w) ∙ found) no_value

-- a word that no row has, though the rows have each word of other rows, is not theirs
none_by : {A B : Type 0} (as_ : Rows A) (b : List ℕ × B) (bs : Rows B) (w : List ℕ) (t : Bool) → bytes_eq w b.0 ≡ t → IsSome (row_of as_ b.0) → row_of as_ w ≡ None →
    row_of bs w ≡ None → (if t then Some b.1 else row_of bs w) ≡ None
none_by as_ b bs w true e some none rest = absurd (let h = subst IsSome (ap (row_of as_) (sym ((bytes_eq-Decides w b.0).0 e)) ∙ none) some in cc)
none_by as_ b bs w false e some none rest = rest

none_either : {A B : Type 0} (as_ : Rows A) (bs : Rows B) (w : List ℕ) → AllByRecursion (λ (b : List ℕ × B). IsSome (row_of as_ b.0)) bs → row_of as_ w ≡ None → row_of bs w ≡ None
none_either as_ [] w all none = refl
none_either as_ (b ∷ bs) w all none = none_by as_ b bs w (bytes_eq w b.0) refl all.0 none (none_either as_ bs w all.1 none)

-- a row stands among the first or behind them
behind_by : {A : Type 0} (a : A) (o p q : Option A) (t : Bool) → (if t then Some a else o) ≡ None → (o ≡ None → p ≡ q) → (if t then Some a else p) ≡ q
behind_by a o p q true e left = absurd (cc)
behind_by a o p q false e left = left e

row_behind : {A : Type 0} (first rest : Rows A) (w : List ℕ) → row_of first w ≡ None → row_of (first ++ rest) w ≡ row_of rest w
row_behind [] rest w none = refl
row_behind (a ∷ first) rest w none = behind_by a.1 (row_of first w) (row_of (first ++ rest) w) (row_of rest w) (bytes_eq w a.0) none (row_behind first rest w)

-- a list of an expression begins with the word of an operation, or with one of the first words
pub no_row : (w : List ℕ) → IsNoValue w → op_of_word w ≡ None → row_of expressions w ≡ None
no_row w no_value none =
    row_behind (take 12 expressions) (drop 12 expressions) w
    (none_either told_expressions (take 12 expressions) w (refl, (refl, (refl, (refl, (refl, (refl, (refl, (refl, (refl, (refl, (refl, (refl, tt)))))))))))) no_value)
    ∙ none_either (rows written_ops) (drop 12 expressions) w
    (refl, (refl, (refl, (refl, (refl, (refl, (refl, (refl, (refl, (refl, (refl, (refl, (refl, (refl, (refl, (refl, (refl, (refl, (refl, (refl, (refl, (refl, (refl, tt)))))))))))))))))))))))
    (sym (among_rows written_ops w) ∙ none)

-- and so its parts are those of the operation
pub row_wanted : (w : List ℕ) (parts : List Tree) → row_of expressions w ≡ None → FitsSort sort.Expression (form w parts) → ⊥
row_wanted w parts none fit = no_form sort.Expression w parts (ap (option_and_then (form_in newest)) none) fit

-- an operation with its arguments alone
plain_fits : (o : Op) (trees : List Tree) → form_of newest sort.Expression (Some (word_of_op o)) ≡ Some (exactly (sort.Word ∷ replicate (arity_of o) sort.Expression)) →
    length trees ≡ arity_of o → AllByRecursion (FitsSort sort.Expression) trees → fits sort.Expression (form (word_of_op o) trees) ≡ true
plain_fits o trees shaped count all =
    form_fits sort.Expression (word_of_op o) trees (exactly (sort.Word ∷ replicate (arity_of o) sort.Expression)) (replicate (arity_of o) sort.Expression) shaped
    (exactly_sorts (sort.Word ∷ replicate (arity_of o) sort.Expression) (length trees + 1) (let e : length (replicate (arity_of o) sort.Expression) ≡ arity_of o = length-replicate (arity_of o) sort.Expression in omega arith))
    (subst (λ n. AllFit (replicate n sort.Expression) trees) count (all_of_one sort.Expression trees all))

one_tree : (trees : List Tree) → length trees ≡ 1 → AllByRecursion (FitsSort sort.Expression) trees → (t : Tree) × (trees ≡ t ∷ []) × (fits sort.Expression t ≡ true)
one_tree [] e all = absurd (omega arith)
one_tree (t ∷ []) e all = (t, refl, all.0)
one_tree (t ∷ u ∷ more) e all = absurd (omega arith)

op_fits : (o : Op) (trees : List Tree) → is_written o ≡ true → length trees ≡ arity_of o → AllByRecursion (FitsSort sort.Expression) trees →
    fits sort.Expression (form (word_of_op o) (numbers_before o ++ trees)) ≡ true
op_fits (op.Slice hi lo) trees written count all = let one = one_tree trees count all in
    rw one.1 (form_fits sort.Expression (codes "slice") (number hi ∷ number lo ∷ one.0 ∷ []) _ (sort.Number ∷ sort.Number ∷ sort.Expression ∷ []) refl refl (number_fits hi, (number_fits lo, (one.2, tt))))
op_fits (op.Zext w) trees written count all = let one = one_tree trees count all in
    rw one.1 (form_fits sort.Expression (codes "zext") (number w ∷ one.0 ∷ []) _ (sort.Number ∷ sort.Expression ∷ []) refl refl (number_fits w, (one.2, tt)))
op_fits (op.Sext w) trees written count all = let one = one_tree trees count all in
    rw one.1 (form_fits sort.Expression (codes "sext") (number w ∷ one.0 ∷ []) _ (sort.Number ∷ sort.Expression ∷ []) refl refl (number_fits w, (one.2, tt)))
op_fits (op.Get r f) trees written count all = absurd (cc)
op_fits o trees written count all = plain_fits o trees refl count all

-- the arguments of an operation
arguments_fit : (w : List ℕ) (o : Op) (parts : List Tree) → IsNoValue w → op_of_word w ≡ Some o → FitsSort sort.Expression (form w parts) →
    HasParts (replicate (arity_of o) sort.Expression) parts
arguments_fit w o parts no_value found fit =
    exact_parts sort.Expression w (replicate (arity_of o) sort.Expression) parts (bare_found w o no_value found).formed fit

pub plain_word : (w : List ℕ) (o : Op) → IsNoValue w → op_of_word w ≡ Some o → word_of_op o ≡ w
plain_word w o no_value found = (bare_found w o no_value found).word_is

pub plain_op : (w : List ℕ) (o : Op) (parts : List Tree) → IsNoValue w → op_of_word w ≡ Some o → FitsSort sort.Expression (form w parts) → IsPlain parts o
plain_op w o parts no_value found fit =
    let bare = bare_found w o no_value found in
    record { alone = bare.alone; written = bare.written; args = arguments_fit w o parts no_value found fit }

pub plain_is : (o : Op) (parts : List Tree) (es : List Expr) → IsPlain parts o → AreExprs parts es → IsExpr (form (word_of_op o) parts) (made.Apply o es)
plain_is o parts es plain are =
    Apply-is o es (word_of_op o) parts parts refl plain.written (plain.args.count ∙ length-replicate (arity_of o) sort.Expression) are.0 are.1
    (ap (λ ns. ns ++ parts) plain.alone)

-- an expression of right form fits
abbrev ExprFits : Expr → Type 0
ExprFits e = is_formed_expr e ≡ true → fits sort.Expression (tree_of_expr e) ≡ true

fitting_exprs : (es : List ((e : Expr) × ExprFits e)) → every (map is_formed_expr (map (λ e. e.0) es)) ≡ true → AllByRecursion (FitsSort sort.Expression) (map tree_of_expr (map (λ e. e.0) es))
fitting_exprs [] f = tt
fitting_exprs (e ∷ es) f = let h = apart (is_formed_expr e.0) (every (map is_formed_expr (map (λ e. e.0) es))) f in (e.1 h.0, fitting_exprs es h.1)

expr_layer : (y : layer.Expr-F ((e : Expr) × ExprFits e)) →
    expr_formed (map-Expr Expr Bool is_formed_expr (map-Expr ((e : Expr) × ExprFits e) Expr (λ e. e.0) y)) ≡ true →
    fits sort.Expression (expr_tree (map-Expr Expr Tree tree_of_expr (map-Expr ((e : Expr) × ExprFits e) Expr (λ e. e.0) y))) ≡ true
expr_layer (layer.Name x) f = token_fits sort.Expression (token.Name x) refl
expr_layer layer.Unit f = token_fits sort.Expression (token.Name (codes "unit")) refl
expr_layer (layer.Truth true) f = token_fits sort.Expression (token.Name (codes "true")) refl
expr_layer (layer.Truth false) f = token_fits sort.Expression (token.Name (codes "false")) refl
expr_layer (layer.Bits w n) f = form_fits sort.Expression (codes "bits") _ _ (sort.Number ∷ sort.Number ∷ []) refl refl (number_fits w, (number_fits n, tt))
expr_layer (layer.Of e a) f = let h = apart (is_name e) (is_name a) f in
    form_fits sort.Expression (codes "of") _ _ (sort.Name ∷ sort.Name ∷ []) refl refl (name_fits e h.0, (name_fits a h.1, tt))
expr_layer (layer.Make k p) f = let h = apart (is_name k) (is_formed_expr p.0) f in
    form_fits sort.Expression (codes "make") _ _ (sort.Name ∷ sort.Expression ∷ []) refl refl (name_fits k h.0, (p.1 h.1, tt))
expr_layer (layer.Rec r fields) f = let h = apart (is_name r) (every (map is_formed_expr (map (λ e. e.0) fields))) f in
    named_many sort.Expression sort.Expression (codes "rec") r (map tree_of_expr (map (λ e. e.0) fields)) refl h.0 (fitting_exprs fields h.1)
expr_layer (layer.Register r) f = form_fits sort.Expression (codes "reg") _ _ (sort.Name ∷ []) refl refl (name_fits r f, tt)
expr_layer (layer.Kept r) f = form_fits sort.Expression (codes "kept") _ _ (sort.Name ∷ []) refl refl (name_fits r f, tt)
expr_layer (layer.Before r) f = form_fits sort.Expression (codes "before") _ _ (sort.Name ∷ []) refl refl (name_fits r f, tt)
expr_layer (layer.After r) f = form_fits sort.Expression (codes "after") _ _ (sort.Name ∷ []) refl refl (name_fits r f, tt)
expr_layer (layer.KeptCell i) f = form_fits sort.Expression (codes "kept_cell") _ _ (sort.Number ∷ []) refl refl (number_fits i, tt)
expr_layer (layer.BeforeCell i) f = form_fits sort.Expression (codes "before_cell") _ _ (sort.Number ∷ []) refl refl (number_fits i, tt)
expr_layer (layer.AfterCell i) f = form_fits sort.Expression (codes "after_cell") _ _ (sort.Number ∷ []) refl refl (number_fits i, tt)
expr_layer (layer.Apply o args) f =
    let trees = map tree_of_expr (map (λ e. e.0) args) in
    let written = apart (is_written o) _ f in
    let counted = apart (length (map is_formed_expr (map (λ (e : (e : Expr) × ExprFits e). e.0) args)) == arity_of o) (every (map is_formed_expr (map (λ e. e.0) args))) written.1 in
    op_fits o trees written.0
    (let a = eqb-true _ _ counted.0 in let b = length-map (map (λ (e : (e : Expr) × ExprFits e). e.0) args) is_formed_expr in let c = length-map (map (λ (e : (e : Expr) × ExprFits e). e.0) args) tree_of_expr in omega arith)
    (fitting_exprs args counted.1)
expr_layer (layer.Get r f value) g = let h = apart (is_name r) (is_name f && is_formed_expr value.0) g in let i = apart (is_name f) (is_formed_expr value.0) h.1 in
    form_fits sort.Expression (codes "get") _ _ (sort.Name ∷ sort.Name ∷ sort.Expression ∷ []) refl refl (name_fits r h.0, (name_fits f i.0, (value.1 i.1, tt)))

pub expr_fits : (e : Expr) → is_formed_expr e ≡ true → fits sort.Expression (tree_of_expr e) ≡ true
expr_fits = ind-Expr ExprFits (λ x y is f.
    ap (fits sort.Expression) (fold-roll-Expr Tree expr_tree x)
    ∙ subst (λ z. expr_formed (map-Expr Expr Bool is_formed_expr z) ≡ true → fits sort.Expression (expr_tree (map-Expr Expr Tree tree_of_expr z)) ≡ true) is (expr_layer y)
    (sym (fold-roll-Expr Bool expr_formed x) ∙ f))

pub exprs_fit : (es : List Expr) → are_formed_exprs es ≡ true → AllByRecursion (FitsSort sort.Expression) (map tree_of_expr es)
exprs_fit [] f = tt
exprs_fit (e ∷ es) f = let h = apart (is_formed_expr e) (are_formed_exprs es) f in (expr_fits e h.0, exprs_fit es h.1)

-- the words of values
word_named : (x w : List ℕ) → bytes_eq x w ≡ true → word w ≡ word x
word_named x w e = ap word (sym ((bytes_eq-Decides x w).0 e))

no_value_name : (x : List ℕ) → bytes_eq x (codes "true") ≡ false → bytes_eq x (codes "false") ≡ false → bytes_eq x (codes "unit") ≡ false → is_name x ≡ true
no_value_name x p q r = rw (p, q, r) refl

pub named_expr : (x : List ℕ) (a b c : Bool) → bytes_eq x (codes "true") ≡ a → bytes_eq x (codes "false") ≡ b → bytes_eq x (codes "unit") ≡ c → (e : Expr) × IsExpr (word x) e
named_expr x true b c p q r = expr_is (layer.Truth true) _ (word_named x (codes "true") p) refl
named_expr x false true c p q r = expr_is (layer.Truth false) _ (word_named x (codes "false") q) refl
named_expr x false false true p q r = expr_is layer.Unit _ (word_named x (codes "unit") r) refl
named_expr x false false false p q r = expr_is (layer.Name x) _ refl (no_value_name x p q r)

-- What fits is an expression.
abbrev ExprOf : Tree → Type 0
ExprOf t = FitsSort sort.Expression t → (e : Expr) × IsExpr t e

abbrev Known : Type 0
Known = (t : Tree) × ExprOf t

abbrev trees : List Known → List Tree
trees ps = map (λ p. p.0) ps

exprs_from : (ps : List Known) → AllByRecursion (FitsSort sort.Expression) (trees ps) → (es : List Expr) × AreExprs (trees ps) es
exprs_from [] all = ([], (refl, refl))
exprs_from (p ∷ ps) all =
    let e = p.1 all.0 in let es = exprs_from ps all.1 in
    (e.0 ∷ es.0, (same_first e.1.0 es.1.0, both (is_formed_expr e.0) (are_formed_exprs es.0) e.1.1 es.1.1))

bits-from : (ps : List Known) → HasParts (sort.Number ∷ sort.Number ∷ []) (trees ps) → (x : Expr) × IsExpr (form (codes "bits") (trees ps)) x
bits-from (p0 ∷ p1 ∷ []) h =
    let v0 = number_of p0.0 h.fit.0 in
    let v1 = number_of p1.0 h.fit.1.0 in
    expr_is (layer.Bits v0.0 v1.0) _ (ap (form (codes "bits")) (same2 v0.1 v1.1)) refl
bits-from _ h = absurd (omega (arith, h.count))

of-from : (ps : List Known) → HasParts (sort.Name ∷ sort.Name ∷ []) (trees ps) → (x : Expr) × IsExpr (form (codes "of") (trees ps)) x
of-from (p0 ∷ p1 ∷ []) h =
    let v0 = name_of p0.0 h.fit.0 in
    let v1 = name_of p1.0 h.fit.1.0 in
    expr_is (layer.Of v0.0 v1.0) _ (ap (form (codes "of")) (same2 v0.1.0 v1.1.0)) (and2 v0.1.1 v1.1.1)
of-from _ h = absurd (omega (arith, h.count))

make-from : (ps : List Known) → HasParts (sort.Name ∷ sort.Expression ∷ []) (trees ps) → (x : Expr) × IsExpr (form (codes "make") (trees ps)) x
make-from (p0 ∷ p1 ∷ []) h =
    let v0 = name_of p0.0 h.fit.0 in
    let v1 = p1.1 h.fit.1.0 in
    expr_is (layer.Make v0.0 v1.0) _ (ap (form (codes "make")) (same2 v0.1.0 v1.1.0)) (and2 v0.1.1 v1.1.1)
make-from _ h = absurd (omega (arith, h.count))

rec-from : (ps : List Known) → HasParts (sort.Name ∷ replicate (length (trees ps) - 1) sort.Expression) (trees ps) → (x : Expr) × IsExpr (form (codes "rec") (trees ps)) x
rec-from [] h = absurd h.fit
rec-from (p ∷ ps) h =
    let k = name_of p.0 h.fit.0 in
    let es = exprs_from ps (rest_fits (sort.Name ∷ []) sort.Expression (length (trees (p ∷ ps)) - 1) (trees (p ∷ ps)) h) in
    expr_is (layer.Rec k.0 es.0) _ (ap (form (codes "rec")) (same_first k.1.0 es.1.0)) (and2 k.1.1 es.1.1)

register-from : (ps : List Known) → HasParts (sort.Name ∷ []) (trees ps) → (x : Expr) × IsExpr (form (codes "reg") (trees ps)) x
register-from (p0 ∷ []) h =
    let v0 = name_of p0.0 h.fit.0 in
    expr_is (layer.Register v0.0) _ (ap (form (codes "reg")) (same1 v0.1.0)) v0.1.1
register-from _ h = absurd (omega (arith, h.count))

kept-from : (ps : List Known) → HasParts (sort.Name ∷ []) (trees ps) → (x : Expr) × IsExpr (form (codes "kept") (trees ps)) x
kept-from (p0 ∷ []) h =
    let v0 = name_of p0.0 h.fit.0 in
    expr_is (layer.Kept v0.0) _ (ap (form (codes "kept")) (same1 v0.1.0)) v0.1.1
kept-from _ h = absurd (omega (arith, h.count))

before-from : (ps : List Known) → HasParts (sort.Name ∷ []) (trees ps) → (x : Expr) × IsExpr (form (codes "before") (trees ps)) x
before-from (p0 ∷ []) h =
    let v0 = name_of p0.0 h.fit.0 in
    expr_is (layer.Before v0.0) _ (ap (form (codes "before")) (same1 v0.1.0)) v0.1.1
before-from _ h = absurd (omega (arith, h.count))

after-from : (ps : List Known) → HasParts (sort.Name ∷ []) (trees ps) → (x : Expr) × IsExpr (form (codes "after") (trees ps)) x
after-from (p0 ∷ []) h =
    let v0 = name_of p0.0 h.fit.0 in
    expr_is (layer.After v0.0) _ (ap (form (codes "after")) (same1 v0.1.0)) v0.1.1
after-from _ h = absurd (omega (arith, h.count))

keptCell-from : (ps : List Known) → HasParts (sort.Number ∷ []) (trees ps) → (x : Expr) × IsExpr (form (codes "kept_cell") (trees ps)) x
keptCell-from (p0 ∷ []) h =
    let v0 = number_of p0.0 h.fit.0 in
    expr_is (layer.KeptCell v0.0) _ (ap (form (codes "kept_cell")) (same1 v0.1)) refl
keptCell-from _ h = absurd (omega (arith, h.count))

beforeCell-from : (ps : List Known) → HasParts (sort.Number ∷ []) (trees ps) → (x : Expr) × IsExpr (form (codes "before_cell") (trees ps)) x
beforeCell-from (p0 ∷ []) h =
    let v0 = number_of p0.0 h.fit.0 in
    expr_is (layer.BeforeCell v0.0) _ (ap (form (codes "before_cell")) (same1 v0.1)) refl
beforeCell-from _ h = absurd (omega (arith, h.count))

afterCell-from : (ps : List Known) → HasParts (sort.Number ∷ []) (trees ps) → (x : Expr) × IsExpr (form (codes "after_cell") (trees ps)) x
afterCell-from (p0 ∷ []) h =
    let v0 = number_of p0.0 h.fit.0 in
    expr_is (layer.AfterCell v0.0) _ (ap (form (codes "after_cell")) (same1 v0.1)) refl
afterCell-from _ h = absurd (omega (arith, h.count))

get-from : (ps : List Known) → HasParts (sort.Name ∷ sort.Name ∷ sort.Expression ∷ []) (trees ps) → (x : Expr) × IsExpr (form (codes "get") (trees ps)) x
get-from (p0 ∷ p1 ∷ p2 ∷ []) h =
    let v0 = name_of p0.0 h.fit.0 in
    let v1 = name_of p1.0 h.fit.1.0 in
    let v2 = p2.1 h.fit.1.1.0 in
    expr_is (layer.Get v0.0 v1.0 v2.0) _ (ap (form (codes "get")) (same3 v0.1.0 v1.1.0 v2.1.0)) (and3 v0.1.1 v1.1.1 v2.1.1)
get-from _ h = absurd (omega (arith, h.count))

slice-from : (ps : List Known) → HasParts (sort.Number ∷ sort.Number ∷ sort.Expression ∷ []) (trees ps) → (x : Expr) × IsExpr (form (codes "slice") (trees ps)) x
slice-from (p0 ∷ p1 ∷ p2 ∷ []) h =
    let v0 = number_of p0.0 h.fit.0 in
    let v1 = number_of p1.0 h.fit.1.0 in
    let e = p2.1 h.fit.1.1.0 in
    (made.Apply (op.Slice v0.0 v1.0) (e.0 ∷ []), Apply-is (op.Slice v0.0 v1.0) (e.0 ∷ []) (codes "slice") (p2.0 ∷ []) _ refl refl refl (same1 e.1.0) (both (is_formed_expr e.0) true e.1.1 refl) (same3 v0.1 v1.1 refl))
slice-from _ h = absurd (omega (arith, h.count))

zext-from : (ps : List Known) → HasParts (sort.Number ∷ sort.Expression ∷ []) (trees ps) → (x : Expr) × IsExpr (form (codes "zext") (trees ps)) x
zext-from (p0 ∷ p1 ∷ []) h =
    let v0 = number_of p0.0 h.fit.0 in
    let e = p1.1 h.fit.1.0 in
    (made.Apply (op.Zext v0.0) (e.0 ∷ []), Apply-is (op.Zext v0.0) (e.0 ∷ []) (codes "zext") (p1.0 ∷ []) _ refl refl refl (same1 e.1.0) (both (is_formed_expr e.0) true e.1.1 refl) (same2 v0.1 refl))
zext-from _ h = absurd (omega (arith, h.count))

sext-from : (ps : List Known) → HasParts (sort.Number ∷ sort.Expression ∷ []) (trees ps) → (x : Expr) × IsExpr (form (codes "sext") (trees ps)) x
sext-from (p0 ∷ p1 ∷ []) h =
    let v0 = number_of p0.0 h.fit.0 in
    let e = p1.1 h.fit.1.0 in
    (made.Apply (op.Sext v0.0) (e.0 ∷ []), Apply-is (op.Sext v0.0) (e.0 ∷ []) (codes "sext") (p1.0 ∷ []) _ refl refl refl (same1 e.1.0) (both (is_formed_expr e.0) true e.1.1 refl) (same2 v0.1 refl))
sext-from _ h = absurd (omega (arith, h.count))

bare-from : (w : List ℕ) (o : Op) → IsBare w o → (ps : List Known) → HasParts (replicate (arity_of o) sort.Expression) (trees ps) → (x : Expr) × IsExpr (form w (trees ps)) x
bare-from w o bare ps h =
    let es = exprs_from ps (all_same sort.Expression (arity_of o) (trees ps) h.fit) in (
      made.Apply o es.0,
      Apply-is o es.0 w (trees ps) (trees ps) bare.word_is bare.written
          (h.count ∙ length-replicate (arity_of o) sort.Expression) es.1.0 es.1.1 (ap (λ ns. ns ++ trees ps) bare.alone),
    )

-- the form of a word
abbrev ListOf : List ℕ → Form → Type 0
ListOf w f = (ps : List Known) → FitsSort sort.Expression (form w (trees ps)) → (x : Expr) × IsExpr (form w (trees ps)) x

bare_list : (o : Op) → IsBare (word_of_op o) o → (ps : List Known) → FitsSort sort.Expression (form (word_of_op o) (trees ps)) →
    (x : Expr) × IsExpr (form (word_of_op o) (trees ps)) x
bare_list o bare ps fit =
    bare-from (word_of_op o) o bare ps (exact_parts sort.Expression (word_of_op o) (replicate (arity_of o) sort.Expression) (trees ps) bare.formed fit)

list_rows : AllByRecursion (λ (row : List ℕ × Form). ListOf row.0 row.1) expressions
list_rows = (
  λ ps fit. bits-from ps (exact_parts sort.Expression (codes "bits") (sort.Number ∷ sort.Number ∷ []) (trees ps) refl fit),
  (
    λ ps fit. of-from ps (exact_parts sort.Expression (codes "of") (sort.Name ∷ sort.Name ∷ []) (trees ps) refl fit),
    (
      λ ps fit. make-from ps (exact_parts sort.Expression (codes "make") (sort.Name ∷ sort.Expression ∷ []) (trees ps) refl fit),
      (
        λ ps fit. rec-from ps (many_parts sort.Expression (codes "rec") (sort.Name ∷ []) sort.Expression (trees ps) refl fit),
        (
          λ ps fit. register-from ps (exact_parts sort.Expression (codes "reg") (sort.Name ∷ []) (trees ps) refl fit),
          (
            λ ps fit. kept-from ps (exact_parts sort.Expression (codes "kept") (sort.Name ∷ []) (trees ps) refl fit),
            (
              λ ps fit. keptCell-from ps (exact_parts sort.Expression (codes "kept_cell") (sort.Number ∷ []) (trees ps) refl fit),
              (
                λ ps fit. before-from ps (exact_parts sort.Expression (codes "before") (sort.Name ∷ []) (trees ps) refl fit),
                (
                  λ ps fit. after-from ps (exact_parts sort.Expression (codes "after") (sort.Name ∷ []) (trees ps) refl fit),
                  (
                    λ ps fit. beforeCell-from ps (exact_parts sort.Expression (codes "before_cell") (sort.Number ∷ []) (trees ps) refl fit),
                    (
                      λ ps fit. afterCell-from ps (exact_parts sort.Expression (codes "after_cell") (sort.Number ∷ []) (trees ps) refl fit),
                      (
                        λ ps fit. get-from ps (exact_parts sort.Expression (codes "get") (sort.Name ∷ sort.Name ∷ sort.Expression ∷ []) (trees ps) refl fit),
                        (
                          bare_list op.Not (record { word_is = refl; alone = refl; written = refl; formed = refl }),
                          (
                            bare_list op.And (record { word_is = refl; alone = refl; written = refl; formed = refl }),
                            (
                              bare_list op.Or (record { word_is = refl; alone = refl; written = refl; formed = refl }),
                              (
                                bare_list op.Eq (record { word_is = refl; alone = refl; written = refl; formed = refl }),
                                (
                                  bare_list op.Ult (record { word_is = refl; alone = refl; written = refl; formed = refl }),
                                  (
                                    bare_list op.Ule (record { word_is = refl; alone = refl; written = refl; formed = refl }),
                                    (
                                      bare_list op.Slt (record { word_is = refl; alone = refl; written = refl; formed = refl }),
                                      (
                                        bare_list op.Sle (record { word_is = refl; alone = refl; written = refl; formed = refl }),
                                        (
                                          bare_list op.Add (record { word_is = refl; alone = refl; written = refl; formed = refl }),
                                          (
                                            bare_list op.Sub (record { word_is = refl; alone = refl; written = refl; formed = refl }),
                                            (
                                              bare_list op.Mul (record { word_is = refl; alone = refl; written = refl; formed = refl }),
                                              (
                                                bare_list op.Band (record { word_is = refl; alone = refl; written = refl; formed = refl }),
                                                (
                                                  bare_list op.Bor (record { word_is = refl; alone = refl; written = refl; formed = refl }),
                                                  (
                                                    bare_list op.Bxor (record { word_is = refl; alone = refl; written = refl; formed = refl }),
                                                    (
                                                      bare_list op.Bnot (record { word_is = refl; alone = refl; written = refl; formed = refl }),
                                                      (
                                                        bare_list op.Shl (record { word_is = refl; alone = refl; written = refl; formed = refl }),
                                                        (
                                                          bare_list op.Shr (record { word_is = refl; alone = refl; written = refl; formed = refl }),
                                                          (
                                                            bare_list op.Sar (record { word_is = refl; alone = refl; written = refl; formed = refl }),
                                                            (
                                                              λ ps fit. slice-from ps (exact_parts sort.Expression (codes "slice") (sort.Number ∷ sort.Number ∷ sort.Expression ∷ []) (trees ps) refl fit),
                                                              (
                                                                bare_list op.Cat (record { word_is = refl; alone = refl; written = refl; formed = refl }),
                                                                (
                                                                  λ ps fit. zext-from ps (exact_parts sort.Expression (codes "zext") (sort.Number ∷ sort.Expression ∷ []) (trees ps) refl fit),
                                                                  (
                                                                    λ ps fit. sext-from ps (exact_parts sort.Expression (codes "sext") (sort.Number ∷ sort.Expression ∷ []) (trees ps) refl fit),
                                                                    (
                                                                      bare_list op.Ite (record { word_is = refl; alone = refl; written = refl; formed = refl }),
                                                                      tt,
                                                                    ),
                                                                  ),
                                                                ),
                                                              ),
                                                            ),
                                                          ),
                                                        ),
                                                      ),
                                                    ),
                                                  ),
                                                ),
                                              ),
                                            ),
                                          ),
                                        ),
                                      ),
                                    ),
                                  ),
                                ),
                              ),
                            ),
                          ),
                        ),
                      ),
                    ),
                  ),
                ),
              ),
            ),
          ),
        ),
      ),
    ),
  ),
)

list_by : (w : List ℕ) (ps : List Known) (found : Option Form) → row_of expressions w ≡ found → FitsSort sort.Expression (form w (trees ps)) →
    (x : Expr) × IsExpr (form w (trees ps)) x
list_by w ps None none fit = absurd (row_wanted w (trees ps) none fit)
list_by w ps (Some f) found fit = found_holds ListOf expressions w f list_rows found ps fit

list_of : (ps : List Known) → ExprOf (variant.List (trees ps))
list_of [] fit = absurd (let h = headed sort.Expression [] refl fit in omega (arith, ap length h.is))
list_of (p ∷ ps) fit =
    let h = headed sort.Expression (trees (p ∷ ps)) refl fit in
    let first : p.0 ≡ word h.head = let e = h.is in cc in
    let is : variant.List (trees (p ∷ ps)) ≡ form h.head (trees ps) = ap (λ t. variant.List (t ∷ trees ps)) first in
    subst (λ t. (x : Expr) × IsExpr t x) (sym is)
    (list_by h.head ps (row_of expressions h.head) refl (subst (FitsSort sort.Expression) is fit))

expr_atom : (t : Token) → ExprOf (variant.Atom t)
expr_atom (token.Number n) fit = absurd (let e = fits_of_token sort.Expression (token.Number n) fit in cc)
expr_atom (token.Name x) fit = named_expr x (bytes_eq x (codes "true")) (bytes_eq x (codes "false")) (bytes_eq x (codes "unit")) refl refl refl

expr_layer_of : (y : Tree-F Known) → ExprOf (roll-Tree (map-Tree Known Tree (λ p. p.0) y))
expr_layer_of (Tree-F.Atom t) = subst ExprOf (sym (rolls-Atom t)) (expr_atom t)
expr_layer_of (Tree-F.List ps) = subst ExprOf (sym (rolls-List (trees ps))) (list_of ps)

pub expr_of : (t : Tree) → FitsSort sort.Expression t → (e : Expr) × IsExpr t e
expr_of = ind-Tree ExprOf (λ x y is. subst (λ z. ExprOf (roll-Tree z)) is (expr_layer_of y))

pub exprs_of : (ts : List Tree) → AllByRecursion (FitsSort sort.Expression) ts → (es : List Expr) × AreExprs ts es
exprs_of [] all = ([], (refl, refl))
exprs_of (t ∷ ts) all =
    let e = expr_of t all.0 in let es = exprs_of ts all.1 in
    (e.0 ∷ es.0, (same_first e.1.0 es.1.0, both (is_formed_expr e.0) (are_formed_exprs es.0) e.1.1 es.1.1))
