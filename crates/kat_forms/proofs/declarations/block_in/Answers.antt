use Rattle.std.proofs.Common.{[], ◌∷◌, ap, sym, subst, ◌∙◌, arith}
use Rattle.std.specs.Prelude.{codes, IfOk}
use Rattle.kat_shapes.specs.declared.sort.Sort.TheVariants as sort
use Rattle.kat_ast.specs.Parts.{form}
use Rattle.kat_grammar.specs.Forms.{IsAssertion, IsExpr}
use Rattle.kat_forms.proofs.Forms.{Block-is, holding_is}
use Rattle.kat_forms.proofs.declarations.block_in.Goals as goal

pub part_of-requires : goal.part_of-requires
part_of-requires c = c.form_laws.ensures.holder sort.Within (codes "within") sort.Number c.within-item.result c.small_lists.ensures.one_within c.small_lists.ensures.no_within (c.form_laws.ensures.part_fits (sort.Name ∷ sort.Entry ∷ sort.Within ∷ sort.Change ∷ []) c.args.parts.now 2 c.within-item.result c.requires (omega arith) c.within-item.is)

pub number_in-within-requires : goal.number_in-within-requires
number_in-within-requires c = (c.form_laws.ensures.held_part sort.Within (codes "within") sort.Number c.small_lists.ensures.one_within c.part_of.ensures.0 c.within-item.result c.part_of.result.now c.part_of.ensures.1 (c.form_laws.ensures.part_fits (sort.Name ∷ sort.Entry ∷ sort.Within ∷ sort.Change ∷ []) c.args.parts.now 2 c.within-item.result c.requires (omega arith) c.within-item.is)).1

pub part_of-requires-2 : goal.part_of-requires-2
part_of-requires-2 c = c.form_laws.ensures.holder sort.Entry (codes "entry") sort.Assertion c.entry-item.result c.small_lists.ensures.one_entry c.small_lists.ensures.no_entry (c.form_laws.ensures.part_fits (sort.Name ∷ sort.Entry ∷ sort.Within ∷ sort.Change ∷ []) c.args.parts.now 1 c.entry-item.result c.requires (omega arith) c.entry-item.is)

pub assertion_in-requires : goal.assertion_in-requires
assertion_in-requires c = (c.form_laws.ensures.held_part sort.Entry (codes "entry") sort.Assertion c.small_lists.ensures.one_entry c.part_of-2.ensures.0 c.entry-item.result c.part_of-2.result.now c.part_of-2.ensures.1 (c.form_laws.ensures.part_fits (sort.Name ∷ sort.Entry ∷ sort.Within ∷ sort.Change ∷ []) c.args.parts.now 1 c.entry-item.result c.requires (omega arith) c.entry-item.is)).1

pub part_of-requires-3 : goal.part_of-requires-3
part_of-requires-3 c = c.form_laws.ensures.holder sort.Change (codes "change") sort.Expression c.change-item.result c.small_lists.ensures.one_change c.small_lists.ensures.no_change (c.form_laws.ensures.part_fits (sort.Name ∷ sort.Entry ∷ sort.Within ∷ sort.Change ∷ []) c.args.parts.now 3 c.change-item.result c.requires (omega arith) c.change-item.is)

pub expr_in-requires : goal.expr_in-requires
expr_in-requires c = (c.form_laws.ensures.held_part sort.Change (codes "change") sort.Expression c.small_lists.ensures.one_change c.part_of-3.ensures.0 c.change-item.result c.part_of-3.result.now c.part_of-3.ensures.1 (c.form_laws.ensures.part_fits (sort.Name ∷ sort.Entry ∷ sort.Within ∷ sort.Change ∷ []) c.args.parts.now 3 c.change-item.result c.requires (omega arith) c.change-item.is)).1

pub returns : goal.returns
returns c =
    let parts = c.args.parts.now in
    let within = c.form_laws.ensures.held_part sort.Within (codes "within") sort.Number c.small_lists.ensures.one_within c.part_of.ensures.0 c.within-item.result c.part_of.result.now c.part_of.ensures.1 (c.form_laws.ensures.part_fits (sort.Name ∷ sort.Entry ∷ sort.Within ∷ sort.Change ∷ []) parts 2 c.within-item.result c.requires (omega arith) c.within-item.is) in
    let entry = c.form_laws.ensures.held_part sort.Entry (codes "entry") sort.Assertion c.small_lists.ensures.one_entry c.part_of-2.ensures.0 c.entry-item.result c.part_of-2.result.now c.part_of-2.ensures.1 (c.form_laws.ensures.part_fits (sort.Name ∷ sort.Entry ∷ sort.Within ∷ sort.Change ∷ []) parts 1 c.entry-item.result c.requires (omega arith) c.entry-item.is) in
    let change = c.form_laws.ensures.held_part sort.Change (codes "change") sort.Expression c.small_lists.ensures.one_change c.part_of-3.ensures.0 c.change-item.result c.part_of-3.result.now c.part_of-3.ensures.1 (c.form_laws.ensures.part_fits (sort.Name ∷ sort.Entry ∷ sort.Within ∷ sort.Change ∷ []) parts 3 c.change-item.result c.requires (omega arith) c.change-item.is) in
    let both = c.in_ok-entry-2.ensures in
    let holds = subst (IsAssertion c.part_of-2.result.now) (sym both.0) c.in_ok-entry.ensures in
    let entry_is = holding_is (codes "entry") c.entry-item.result c.part_of-2.result.now c.in_ok-entry-2.entry entry.0 holds in
    let change_is = subst (λ r. IfOk r (IsExpr c.part_of-3.result.now)) both.1 c.expr_in.ensures in
    Block-is parts c.in_ok-name.name c.in_ok-entry-2.entry c.number_in-within.result c.in_ok-entry-2.change
    (c.form_laws.ensures.four_are parts c.name-item.result c.entry-item.result c.within-item.result c.change-item.result _ _ _ _ c.requires.count
    c.name-item.is c.entry-item.is c.within-item.is c.change-item.is
    c.in_ok-name.ensures.0 entry_is.0
    (ap (λ t. form (codes "within") (t ∷ [])) c.number_in-within.ensures ∙ within.0)
    (ap (λ t. form (codes "change") (t ∷ [])) change_is.0 ∙ change.0))
    c.in_ok-name.ensures.1 entry_is.1 change_is.1
