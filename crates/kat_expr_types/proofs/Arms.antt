-- What is told of an expression, by what its parts tell.
use Rattle.std.proofs.Common.{◌≡◌, ℕ, ◌+◌, Bool, List, ◌++◌, map, refl, sym, ap, ◌∙◌, Option, Some, None}
use Rattle.std.specs.Prelude.{is_some, option_and_then}
use Rattle.std.specs.Option.{option_map, option_flatten}
use Rattle.kat_value.specs.declared.types.Ty.{Ty}
use Rattle.kat_value.specs.declared.types.Ty.TheVariants as ty
use Rattle.kat_ast.specs.declared.expr.Expr.{Expr}
use Rattle.kat_ast.specs.declared.expr.Expr.TheOpen.{Of, Make, Rec, Get}
use Rattle.kat_ast.specs.Expressions.{trees_of_exprs}
use Rattle.kat_syntax.specs.declared.type_rule.TypeRule.TheVariants.{NameUnknown}
use Rattle.kat_syntax.specs.Tables.{Name}
use Rattle.kat_syntax.specs.TypeRules.{Fault, least_with, unless}
use Rattle.kat_syntax.specs.Declares.{TypedName}
use Rattle.kat_syntax.specs.Around.{Around, CtorSeen, RecordSeen, a_member, a_ctor, meant, type_called, record_called, enum_called}
use Rattle.kat_syntax.specs.TypesWritten.{Scope, local_type}
use Rattle.kat_syntax.specs.TypingExpressions.{Standing, Known, wanting, given_faults, unknown, unknown_type, member_fault, field_fault, known_of_expr}
use Rattle.kat_expr_types.specs.declared.setting.Known.{Known as KnownHere}
use Rattle.kat_expr_types.specs.Judging.{Tells}
use Rattle.kat_expr_types.specs.Uses.{unknown_named}
use Rattle.kat_expr_types.proofs.Noting.{noted_both, all_trees_known}
use Rattle.kat_expr_types.proofs.Layers.{layered}

-- a name that is to be a type, by whether one of the kind wanted is found
named_is : {A : Type 0} (at : ℕ) (type : Option Ty) (wanted : Option A) →
    unknown_named at type (is_some wanted) ≡ unknown_type at type wanted
named_is at None wanted = refl
named_is at (Some type) wanted = refl

abbrev noted_name : {A : Type 0} (at : ℕ) (type : Option Ty) (is_found : Bool)
    (found wanted : Option A) (old mid : Option Fault) →
    is_found ≡ is_some found → found ≡ wanted → mid
    ≡ least_with old (unknown_named at type is_found) →
    mid ≡ least_with old (unknown_type at type wanted)
noted_name at type is_found found wanted old mid is_some_is found_is noted =
    noted ∙ ap (λ b. least_with old (unknown_named at type b)) (is_some_is ∙ ap is_some found_is)
    ∙ ap (least_with old) (named_is at type wanted)

-- the payload, the union, the fields, the record type and the type of a field of what is found
abbrev pub payload_of : Option CtorSeen → Option Ty
payload_of found = option_and_then (λ (seen : CtorSeen). seen.payload) found

abbrev pub union_of : Option CtorSeen → Option Ty
union_of found = option_map (λ (seen : CtorSeen). ty.Union seen.of) found

abbrev pub fields_of : Option RecordSeen → Option (List TypedName)
fields_of found = option_map (λ (seen : RecordSeen). seen.fields) found

abbrev pub record_of : Option RecordSeen → Option Ty
record_of found = option_map (λ (seen : RecordSeen). ty.Rec seen.of) found

abbrev pub field_of : Name → Option RecordSeen → Option Ty
field_of f found = option_and_then
    (λ (seen : RecordSeen). option_flatten (local_type seen.fields f)) found

module _ (around : Around) (standing : Standing) (scope : Scope) where
  abbrev known : Expr → Known
  known = known_of_expr around standing scope

  pub of_told : (e a : Name) (at : ℕ) (found : Option ℕ) (is_found : Bool) (told : KnownHere)
      (old mid new : Option Fault) →
      is_found ≡ is_some found → found ≡ enum_called around e →
      mid ≡ least_with old (unknown_named (at + 2) (type_called around e) is_found) →
      new ≡ least_with mid (member_fault found (at + 3) (meant a_member around a)) →
      told ≡ record { trees = 4; ty = option_map ty.Enum found } →
      Tells (layered around standing scope (Of e a)) at told old new
  of_told e a at found is_found told old mid new is_some_is found_is named noted told_is = record {
    trees = ap (λ t. t.trees) told_is;
    type = ap (λ t. t.ty) told_is ∙ ap (option_map ty.Enum) found_is;
    faults = noted_both old (unknown_type (at + 2) (type_called around e) (enum_called around e))
        (member_fault (enum_called around e) (at + 3) (meant a_member around a))
        (noted_name (at + 2) (type_called around e) is_found found
        (enum_called around e) old mid is_some_is found_is named)
        (noted ∙ ap (λ f. least_with mid (member_fault f (at + 3) (meant a_member around a)))
        found_is);
  }

  pub make_told : (k : Name) (e : Expr) (at : ℕ) (found : Option CtorSeen) (is_found : Bool)
      (part told : KnownHere) (old first second new : Option Fault) →
      is_found ≡ is_some found → found ≡ meant a_ctor around k →
      first ≡ least_with old (unless is_found (at + 2) NameUnknown) →
      Tells (known e) (at + 3) part first second →
      new ≡ least_with second (wanting (payload_of found) (at + 3) part.ty) →
      told ≡ record { trees = 3 + part.trees; ty = union_of found } →
      Tells (layered around standing scope (Make k e)) at told old new
  make_told k e at found is_found part told old first second new is_some_is found_is named tells
      noted told_is =
      let ctor : Option CtorSeen = meant a_ctor around k in
      record {
        trees = ap (λ t. t.trees) told_is ∙ ap (λ n. 3 + n) tells.trees;
        type = ap (λ t. t.ty) told_is ∙ ap union_of found_is;
        faults = noted_both old (unknown (at + 2) ctor)
            ((known e).faults (at + 3) ++ wanting (payload_of ctor) (at + 3) (known e).type)
            (named ∙ ap (λ b. least_with old (unless b (at + 2) NameUnknown)) (is_some_is
            ∙ ap is_some found_is))
            (noted_both first ((known e).faults (at + 3))
            (wanting (payload_of ctor) (at + 3) (known e).type) tells.faults
            (noted ∙ ap (λ f. least_with second (wanting (payload_of f) (at + 3) part.ty)) found_is
            ∙ ap (λ t. least_with second (wanting (payload_of ctor) (at + 3) t)) tells.type));
      }

  pub rec_told : (r : Name) (es : List Expr) (at : ℕ) (found : Option RecordSeen)
      (is_found : Bool) (trees : ℕ) (told : KnownHere) (old mid new : Option Fault) →
      is_found ≡ is_some found → found ≡ record_called around r →
      mid ≡ least_with old (unknown_named (at + 2) (type_called around r) is_found) →
      new ≡ least_with mid (given_faults (fields_of found) at (map known es)) →
      trees ≡ 3 + trees_of_exprs es →
      told ≡ record { trees = trees; ty = record_of found } →
      Tells (layered around standing scope (Rec r es)) at told old new
  rec_told r es at found is_found trees told old mid new is_some_is found_is named noted trees_are
      told_is =
      let seen : Option RecordSeen = record_called around r in
      record {
        trees = ap (λ t. t.trees) told_is ∙ trees_are
            ∙ ap (λ n. 3 + n) (sym (all_trees_known around standing scope es));
        type = ap (λ t. t.ty) told_is ∙ ap record_of found_is;
        faults = noted_both old (unknown_type (at + 2) (type_called around r) seen)
            (given_faults (fields_of seen) at (map known es))
            (noted_name (at + 2) (type_called around r) is_found found seen old mid is_some_is
            found_is named)
            (noted ∙ ap (λ f. least_with mid (given_faults (fields_of f) at (map known es)))
            found_is);
      }

  pub get_told : (r f : Name) (e : Expr) (at : ℕ) (found : Option RecordSeen) (is_found : Bool)
      (part told : KnownHere) (old first second third new : Option Fault) →
      is_found ≡ is_some found → found ≡ record_called around r →
      first ≡ least_with old (unknown_named (at + 2) (type_called around r) is_found) →
      second ≡ least_with first (field_fault found (at + 3) f) →
      Tells (known e) (at + 4) part second third →
      new ≡ least_with third (wanting (record_of found) (at + 4) part.ty) →
      told ≡ record { trees = 4 + part.trees; ty = field_of f found } →
      Tells (layered around standing scope (Get r f e)) at told old new
  get_told r f e at found is_found part told old first second third new is_some_is found_is named
      field tells noted told_is =
      let seen : Option RecordSeen = record_called around r in
      let last : List Fault = wanting (record_of seen) (at + 4) (known e).type in
      record {
        trees = ap (λ t. t.trees) told_is ∙ ap (λ n. 4 + n) tells.trees;
        type = ap (λ t. t.ty) told_is ∙ ap (field_of f) found_is;
        faults = noted_both old (unknown_type (at + 2) (type_called around r) seen)
            (field_fault seen (at + 3) f ++ ((known e).faults (at + 4) ++ last))
            (noted_name (at + 2) (type_called around r) is_found found seen old first is_some_is
            found_is named)
            (noted_both first (field_fault seen (at + 3) f) ((known e).faults (at + 4) ++ last)
            (field ∙ ap (λ s. least_with first (field_fault s (at + 3) f)) found_is)
            (noted_both second ((known e).faults (at + 4)) last tells.faults
            (noted ∙ ap (λ s. least_with third (wanting (record_of s) (at + 4) part.ty)) found_is
            ∙ ap (λ t. least_with third (wanting (record_of seen) (at + 4) t)) tells.type)));
      }
