-- The parts of each form fit, and what they are is what the whole is.
use Rattle.std.proofs.Common.{[], ◌∷◌, refl, ap, sym, subst, ◌∙◌}
use Rattle.std.specs.Prelude.{codes}
use Rattle.kat_tree.specs.declared.tree.Tree.TheVariants as variant
use Rattle.kat_shapes.specs.declared.sort.Sort.TheVariants as sort
use Rattle.kat_grammar.specs.Parts.{FitsSort}
use Rattle.kat_forms.proofs.Forms.{arm_is}
use Rattle.kat_forms.proofs.declarations.decl_in.Goals as goal

pub split-requires : goal.split-requires
split-requires c = c.form_laws.ensures.headed sort.Declaration c.as_slice.result.now refl (subst (FitsSort sort.Declaration) (c.in-List.is ∙ ap variant.List (sym c.as_slice.ensures)) c.requires)

pub enum_in-requires : goal.enum_in-requires
enum_in-requires c = c.form_laws.ensures.exact_parts sort.Declaration (codes "enum") (sort.Name ∷ sort.Members ∷ []) _ refl (c.form_laws.ensures.arm_fits sort.Declaration (codes "enum") _ _ _ c.split.ensures c.in-enum.is (subst (FitsSort sort.Declaration) (c.in-List.is ∙ ap variant.List (sym c.as_slice.ensures)) c.requires))

pub union_in-requires : goal.union_in-requires
union_in-requires c = c.form_laws.ensures.exact_parts sort.Declaration (codes "union") (sort.Name ∷ sort.Fields ∷ []) _ refl (c.form_laws.ensures.arm_fits sort.Declaration (codes "union") _ _ _ c.split.ensures c.in-union.is (subst (FitsSort sort.Declaration) (c.in-List.is ∙ ap variant.List (sym c.as_slice.ensures)) c.requires))

pub record_in-requires : goal.record_in-requires
record_in-requires c = c.form_laws.ensures.exact_parts sort.Declaration (codes "record") (sort.Name ∷ sort.Fields ∷ []) _ refl (c.form_laws.ensures.arm_fits sort.Declaration (codes "record") _ _ _ c.split.ensures c.in-record.is (subst (FitsSort sort.Declaration) (c.in-List.is ∙ ap variant.List (sym c.as_slice.ensures)) c.requires))

pub register_in-requires : goal.register_in-requires
register_in-requires c = c.form_laws.ensures.exact_parts sort.Declaration (codes "register") (sort.Name ∷ sort.TypeName ∷ sort.RegisterPlace ∷ []) _ refl (c.form_laws.ensures.arm_fits sort.Declaration (codes "register") _ _ _ c.split.ensures c.in-register.is (subst (FitsSort sort.Declaration) (c.in-List.is ∙ ap variant.List (sym c.as_slice.ensures)) c.requires))

pub memory_in-requires : goal.memory_in-requires
memory_in-requires c = c.form_laws.ensures.exact_parts sort.Declaration (codes "memory") (sort.Number ∷ sort.Number ∷ sort.Number ∷ sort.Number ∷ []) _ refl (c.form_laws.ensures.arm_fits sort.Declaration (codes "memory") _ _ _ c.split.ensures c.in-memory.is (subst (FitsSort sort.Declaration) (c.in-List.is ∙ ap variant.List (sym c.as_slice.ensures)) c.requires))

pub cells_in-requires : goal.cells_in-requires
cells_in-requires c = c.form_laws.ensures.exact_parts sort.Declaration (codes "cells") (sort.CellsPlace ∷ sort.Number ∷ sort.Number ∷ []) _ refl (c.form_laws.ensures.arm_fits sort.Declaration (codes "cells") _ _ _ c.split.ensures c.in-cells.is (subst (FitsSort sort.Declaration) (c.in-List.is ∙ ap variant.List (sym c.as_slice.ensures)) c.requires))

pub code_in-requires : goal.code_in-requires
code_in-requires c = c.form_laws.ensures.many_parts sort.Declaration (codes "code") (sort.Number ∷ sort.Number ∷ []) sort.Number _ refl (c.form_laws.ensures.arm_fits sort.Declaration (codes "code") _ _ _ c.split.ensures c.in-code.is (subst (FitsSort sort.Declaration) (c.in-List.is ∙ ap variant.List (sym c.as_slice.ensures)) c.requires))

pub region_in-requires : goal.region_in-requires
region_in-requires c = c.form_laws.ensures.exact_parts sort.Declaration (codes "region") (sort.Name ∷ sort.Params ∷ sort.Name ∷ sort.Expression ∷ []) _ refl (c.form_laws.ensures.arm_fits sort.Declaration (codes "region") _ _ _ c.split.ensures c.in-region.is (subst (FitsSort sort.Declaration) (c.in-List.is ∙ ap variant.List (sym c.as_slice.ensures)) c.requires))

pub predicate_in-requires : goal.predicate_in-requires
predicate_in-requires c = c.form_laws.ensures.exact_parts sort.Declaration (codes "pred") (sort.Name ∷ sort.Params ∷ sort.Params ∷ sort.Assertion ∷ []) _ refl (c.form_laws.ensures.arm_fits sort.Declaration (codes "pred") _ _ _ c.split.ensures c.in-pred.is (subst (FitsSort sort.Declaration) (c.in-List.is ∙ ap variant.List (sym c.as_slice.ensures)) c.requires))

pub fun_in-requires : goal.fun_in-requires
fun_in-requires c = c.form_laws.ensures.exact_parts sort.Declaration (codes "fun") (sort.Name ∷ sort.Params ∷ sort.TypeName ∷ sort.Statement ∷ []) _ refl (c.form_laws.ensures.arm_fits sort.Declaration (codes "fun") _ _ _ c.split.ensures c.in-fun.is (subst (FitsSort sort.Declaration) (c.in-List.is ∙ ap variant.List (sym c.as_slice.ensures)) c.requires))

pub contract_in-requires : goal.contract_in-requires
contract_in-requires c = c.form_laws.ensures.exact_parts sort.Declaration (codes "contract") (sort.Name ∷ sort.Params ∷ sort.Pre ∷ sort.Res ∷ sort.Post ∷ []) _ refl (c.form_laws.ensures.arm_fits sort.Declaration (codes "contract") _ _ _ c.split.ensures c.in-contract.is (subst (FitsSort sort.Declaration) (c.in-List.is ∙ ap variant.List (sym c.as_slice.ensures)) c.requires))

pub lemma_in-requires : goal.lemma_in-requires
lemma_in-requires c = c.form_laws.ensures.exact_parts sort.Declaration (codes "lemma") (sort.Name ∷ sort.Params ∷ sort.Params ∷ sort.Pre ∷ sort.Post ∷ sort.Steps ∷ []) _ refl (c.form_laws.ensures.arm_fits sort.Declaration (codes "lemma") _ _ _ c.split.ensures c.in-lemma.is (subst (FitsSort sort.Declaration) (c.in-List.is ∙ ap variant.List (sym c.as_slice.ensures)) c.requires))

pub step_in-requires : goal.step_in-requires
step_in-requires c = c.form_laws.ensures.exact_parts sort.Declaration (codes "step") (sort.Name ∷ []) _ refl (c.form_laws.ensures.arm_fits sort.Declaration (codes "step") _ _ _ c.split.ensures c.in-step.is (subst (FitsSort sort.Declaration) (c.in-List.is ∙ ap variant.List (sym c.as_slice.ensures)) c.requires))

pub dispatch_in-requires : goal.dispatch_in-requires
dispatch_in-requires c = c.form_laws.ensures.between_parts sort.Declaration (codes "dispatch") sort.When sort.Else _ refl (c.form_laws.ensures.arm_fits sort.Declaration (codes "dispatch") _ _ _ c.split.ensures c.in-dispatch.is (subst (FitsSort sort.Declaration) (c.in-List.is ∙ ap variant.List (sym c.as_slice.ensures)) c.requires))

pub untrusted_in-requires : goal.untrusted_in-requires
untrusted_in-requires c = c.form_laws.ensures.exact_parts sort.Declaration (codes "untrusted") (sort.Assertion ∷ []) _ refl (c.form_laws.ensures.arm_fits sort.Declaration (codes "untrusted") _ _ _ c.split.ensures c.in-untrusted.is (subst (FitsSort sort.Declaration) (c.in-List.is ∙ ap variant.List (sym c.as_slice.ensures)) c.requires))

pub block_in-requires : goal.block_in-requires
block_in-requires c = c.form_laws.ensures.exact_parts sort.Declaration (codes "block") (sort.Name ∷ sort.Entry ∷ sort.Within ∷ sort.Change ∷ []) _ refl (c.form_laws.ensures.arm_fits sort.Declaration (codes "block") _ _ _ c.split.ensures c.in-block.is (subst (FitsSort sort.Declaration) (c.in-List.is ∙ ap variant.List (sym c.as_slice.ensures)) c.requires))

pub boot_in-requires : goal.boot_in-requires
boot_in-requires c = c.form_laws.ensures.exact_parts sort.Declaration (codes "boot") (sort.Name ∷ []) _ refl (c.form_laws.ensures.arm_fits sort.Declaration (codes "boot") _ _ _ c.split.ensures c.in-boot.is (subst (FitsSort sort.Declaration) (c.in-List.is ∙ ap variant.List (sym c.as_slice.ensures)) c.requires))

pub returns-in-enum : goal.returns-in-enum
returns-in-enum c = arm_is _ _ _ _ _ (codes "enum") _ c.in-List.is c.as_slice.ensures c.split.ensures c.in-enum.is c.enum_in.ensures

pub returns-in-union : goal.returns-in-union
returns-in-union c = arm_is _ _ _ _ _ (codes "union") _ c.in-List.is c.as_slice.ensures c.split.ensures c.in-union.is c.union_in.ensures

pub returns-in-record : goal.returns-in-record
returns-in-record c = arm_is _ _ _ _ _ (codes "record") _ c.in-List.is c.as_slice.ensures c.split.ensures c.in-record.is c.record_in.ensures

pub returns-in-register : goal.returns-in-register
returns-in-register c = arm_is _ _ _ _ _ (codes "register") _ c.in-List.is c.as_slice.ensures c.split.ensures c.in-register.is c.register_in.ensures

pub returns-in-code : goal.returns-in-code
returns-in-code c = arm_is _ _ _ _ _ (codes "code") _ c.in-List.is c.as_slice.ensures c.split.ensures c.in-code.is c.code_in.ensures

pub returns-in-region : goal.returns-in-region
returns-in-region c = arm_is _ _ _ _ _ (codes "region") _ c.in-List.is c.as_slice.ensures c.split.ensures c.in-region.is c.region_in.ensures

pub returns-in-pred : goal.returns-in-pred
returns-in-pred c = arm_is _ _ _ _ _ (codes "pred") _ c.in-List.is c.as_slice.ensures c.split.ensures c.in-pred.is c.predicate_in.ensures

pub returns-in-fun : goal.returns-in-fun
returns-in-fun c = arm_is _ _ _ _ _ (codes "fun") _ c.in-List.is c.as_slice.ensures c.split.ensures c.in-fun.is c.fun_in.ensures

pub returns-in-contract : goal.returns-in-contract
returns-in-contract c = arm_is _ _ _ _ _ (codes "contract") _ c.in-List.is c.as_slice.ensures c.split.ensures c.in-contract.is c.contract_in.ensures

pub returns-in-lemma : goal.returns-in-lemma
returns-in-lemma c = arm_is _ _ _ _ _ (codes "lemma") _ c.in-List.is c.as_slice.ensures c.split.ensures c.in-lemma.is c.lemma_in.ensures

pub returns-in-step : goal.returns-in-step
returns-in-step c = arm_is _ _ _ _ _ (codes "step") _ c.in-List.is c.as_slice.ensures c.split.ensures c.in-step.is c.step_in.ensures

pub returns-in-dispatch : goal.returns-in-dispatch
returns-in-dispatch c = arm_is _ _ _ _ _ (codes "dispatch") _ c.in-List.is c.as_slice.ensures c.split.ensures c.in-dispatch.is c.dispatch_in.ensures

pub returns-in-untrusted : goal.returns-in-untrusted
returns-in-untrusted c = arm_is _ _ _ _ _ (codes "untrusted") _ c.in-List.is c.as_slice.ensures c.split.ensures c.in-untrusted.is c.untrusted_in.ensures

pub returns-in-block : goal.returns-in-block
returns-in-block c = arm_is _ _ _ _ _ (codes "block") _ c.in-List.is c.as_slice.ensures c.split.ensures c.in-block.is c.block_in.ensures

pub returns-in-boot : goal.returns-in-boot
returns-in-boot c = arm_is _ _ _ _ _ (codes "boot") _ c.in-List.is c.as_slice.ensures c.split.ensures c.in-boot.is c.boot_in.ensures
