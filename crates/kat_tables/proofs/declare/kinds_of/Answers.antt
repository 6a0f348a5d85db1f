use Rattle.std.proofs.Common.{Bool, ◌+◌, [], ◌++◌, map, drop, if◌then◌else◌, ap, arith, sym, ◌∙◌}
use Rattle.std.proofs.lemmas.List.{at_drop_all}
use Rattle.kat_syntax.specs.Declares.{declared_in, declared_from}
use Rattle.kat_tables.specs.Meanings.{noted}
use Rattle.kat_tables.proofs.Declaring.{noted_more, noted_all, next_declared}
use Rattle.kat_tables.proofs.declare.kinds_of.Goals.{then-is_type_decl, else-is_type_decl}
use Rattle.kat_tables.proofs.declare.kinds_of.Goals as goal

-- one more declaration, of a type or of something else
pub loop-decl-preserved : goal.loop-decl-preserved
loop-decl-preserved c =
    let next = next_declared c.args.decls.now c.loop-decl.decl c.loop-decl.position
    c.index-decls-decl.result c.form-form.result.now c.loop-decl-test.true
    c.index-decls-decl.is c.form-form.ensures.form in
    let here = map noted (declared_in c.args.decls.now c.loop-decl.decl c.loop-decl.position
    c.form-form.result.now) in
    let after = (λ (b : Bool). here ++ map noted (declared_from c.args.decls.now
    (c.loop-decl.decl + 1) (if b then c.loop-decl.position + 1 else c.loop-decl.position)
    (drop (c.loop-decl.decl + 1) c.args.decls.now))) in
    elim c.if-is_type_decl.branch [
      | then-is_type_decl w ↦ rw w.position-is record {
        few = omega (arith, c.loop-decl.invariant.few);
        so_far = noted_more _ _ _ _ _ _ _ c.loop-decl.invariant.so_far
            (next ∙ ap after (sym c.is_type_decl.ensures ∙ w.if-is_type_decl.true))
            (λ all is. c.in_ok-declare.ensures all c.args.decls.now is c.requires.heads);
      }
      | else-is_type_decl w ↦ rw w.position-is record {
        few = omega (arith, c.loop-decl.invariant.few);
        so_far = noted_more _ _ _ _ _ _ _ c.loop-decl.invariant.so_far
            (next ∙ ap after (sym c.is_type_decl.ensures ∙ w.if-is_type_decl.false))
            (λ all is. c.in_ok-declare.ensures all c.args.decls.now is c.requires.heads);
      }
    ]

-- all declarations are noted
pub returns : goal.returns
returns c =
    noted_all _ _ _ _ c.loop-decl.invariant.so_far
    (at_drop_all (λ decls. map noted
    (declared_from c.args.decls.now c.loop-decl.decl c.loop-decl.position decls))
    c.args.decls.now c.loop-decl.decl c.loop-decl-test.false)
    [] c.new-kinds.ensures
