use Rattle.std.proofs.Common.{List, Some, Option, Bor, refl, sym, ap, ◌∙◌, arith}
use Rattle.std.specs.Option.{option_copied}
use Rattle.kat_ast.specs.declared.decl.DeclForm.{DeclForm}
use Rattle.kat_syntax.specs.Tables.{Name}
use Rattle.kat_syntax.specs.Modes.{decl_reading, inputs_among, mode_fault_from, stop_of}
use Rattle.kat_mode.proofs.Loops.{fault_step, fault_found, fault_none}
use Rattle.kat_mode.proofs.first.first_mode_fault.Goals as goal

-- at first all declarations are left
pub loop-number-init : goal.loop-number-init
loop-number-init c = refl

-- a declaration at which the reading stops
pub returns-in-Some : goal.returns-in-Some
returns-in-Some c =
    let decls = c.decls-decls.result.now in
    let decl = c.index-decls-number.result in
    let x = c.in-Some.name.now in
    sym (ap (λ (ds : List DeclForm). mode_fault_from (inputs_among ds) 0 ds)
    (sym c.decls-decls.ensures.decls)
    ∙ fault_found (inputs_among decls) decls c.loop-number.number decl x c.loop-number-test.true
    c.index-decls-number.is
    (ap (λ (ds : List DeclForm). stop_of (decl_reading (inputs_among ds) decl))
    (sym c.in_ok-inputs.ensures)
    ∙ sym c.in_ok-name.ensures ∙ ap (λ (o : Option (Bor Name)). option_copied o) c.in-Some.is)
    c.loop-number.invariant
    ∙ ap (λ (y : Name). Some (record { decl = c.loop-number.number; name = y }))
    (sym c.in_ok-copy.ensures))

-- a declaration that is read to its end
pub loop-number-preserved : goal.loop-number-preserved
loop-number-preserved c =
    let decls = c.decls-decls.result.now in
    let decl = c.index-decls-number.result in
    fault_step (inputs_among decls) decls c.loop-number.number decl c.loop-number-test.true
    c.index-decls-number.is
    (ap (λ (ds : List DeclForm). stop_of (decl_reading (inputs_among ds) decl))
    (sym c.in_ok-inputs.ensures)
    ∙ sym c.in_ok-name.ensures ∙ ap (λ (o : Option (Bor Name)). option_copied o) c.in_default.is)
    c.loop-number.invariant

-- no declaration is left
pub returns : goal.returns
returns c =
    let decls = c.decls-decls.result.now in
    sym (ap (λ (ds : List DeclForm). mode_fault_from (inputs_among ds) 0 ds)
    (sym c.decls-decls.ensures.decls)
    ∙ fault_none (inputs_among decls) decls c.loop-number.number
    (omega (arith, c.loop-number-test.false)) c.loop-number.invariant)
