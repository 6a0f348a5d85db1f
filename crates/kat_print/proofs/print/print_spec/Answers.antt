use Rattle.std.proofs.Common.{◌≡◌, List, ℕ, sym, subst, arith}
use Rattle.std.proofs.lemmas.Grind.{common_steps}
use Rattle.std.specs.String.{string_bytes}
use Rattle.kat_ast.specs.Specifications.{Reads, canonical_text}
use Rattle.kat_print.proofs.DeclarationTexts.{spec_text}
use Rattle.kat_print.proofs.print.print_spec.Goals as goal

-- what was pushed is the text of the tree, and a newline
pub returns-clause-canonical : goal.returns-clause-canonical
returns-clause-canonical c =
    grind (arith, common_steps, spec_text c.args.spec.now c.version.result c.decls.result.now c.version.ensures.version c.decls.ensures.decls)

-- the canonical text is read back
pub returns-clause-read_back : goal.returns-clause-read_back
returns-clause-read_back c =
    let text = spec_text c.args.spec.now c.version.result c.decls.result.now c.version.ensures.version c.decls.ensures.decls in
    let whole : string_bytes c.into_string.result ≡ canonical_text c.args.spec.now = grind (arith, common_steps, text) in
    subst (λ (bytes : List ℕ). Reads bytes c.args.spec.now) (sym whole) (c.reads_back.ensures c.args.spec.now c.decls.ensures.kept)
