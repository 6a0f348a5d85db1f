use Rattle.std.proofs.Common.{ℕ, List, sym, ap, ◌∙◌, arith, [], ◌∷◌, length-append, Bor}
use Rattle.std.specs.Option.{option_map}
use Rattle.kat_value.specs.declared.types.Ty.{Ty}
use Rattle.kat_syntax.proofs.Heading.{next_none, next_some}
use Rattle.kat_syntax.proofs.declared_types.DeclaredTypes.of.Goals.{in-Some+in_ok-add-in-Some+in_ok-push-in-Some, in-None}
use Rattle.kat_syntax.proofs.declared_types.DeclaredTypes.of.Goals as goal

-- a declaration that declares a type, or none
pub loop-decl-preserved : goal.loop-decl-preserved
loop-decl-preserved c =
    elim c.match-type_declared.branch [
      | in-Some+in_ok-add-in-Some+in_ok-push-in-Some w ↦
          rw (
            w.named-is,
            w.numbers-is,
            w.in_ok-add-in-Some.ensures,
            w.in_ok-push-in-Some.ensures.ok,
          )
          record {
            so_far = next_some c.args.decls.now c.loop-decl.decl c.len-position.result
                c.index-decls-decl.result c.form.result.now w.in-Some.name.now w.in-Some.ty
                c.loop-decl.named c.loop-decl.numbers c.loop-decl.invariant.so_far (omega arith)
                c.index-decls-decl.is c.form.ensures.form c.len-position.ensures
                (sym c.type_declared.ensures
                ∙ ap (option_map (λ (found : Bor (List ℕ) × Ty). (found.0.now, found.1)))
                w.in-Some.is);
            few = omega (
              arith,
              c.loop-decl.invariant.few,
              length-append c.loop-decl.numbers (c.loop-decl.decl ∷ []),
            );
          }
      | in-None w ↦ rw (w.named-is, w.numbers-is) record {
        so_far = next_none c.args.decls.now c.loop-decl.decl c.len-position.result
            c.index-decls-decl.result c.form.result.now c.loop-decl.named c.loop-decl.numbers
            c.loop-decl.invariant.so_far (omega arith) c.index-decls-decl.is c.form.ensures.form
            c.len-position.ensures
            (sym c.type_declared.ensures
            ∙ ap (option_map (λ (found : Bor (List ℕ) × Ty). (found.0.now, found.1))) w.in-None.is);
        few = omega (arith, c.loop-decl.invariant.few);
      }
    ]
