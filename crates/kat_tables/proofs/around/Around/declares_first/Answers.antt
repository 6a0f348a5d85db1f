use Rattle.std.proofs.Common.{◌≡◌, ◌==◌, ◌&&◌, true, false, sym, ap, ◌∙◌, arith}
use Rattle.std.proofs.lemmas.Bool.Decides.{nat_tests}
use Rattle.kat_syntax.specs.Declares.{declared_by}
use Rattle.kat_syntax.specs.Around.{first_named}
use Rattle.kat_syntax.specs.TypingDeclarations.{stands_at}
use Rattle.kat_tables.proofs.Lookups.{stands_as_found}
use Rattle.kat_tables.proofs.around.Around.declares_first.Goals as goal

pub returns-then-stand-self : goal.returns-then-stand-self
returns-then-stand-self c =
    let x = c.args.name.now in
    let here : (c.in-Some.stand.decl == c.self.inside.number) ≡ true = grind (arith, nat_tests) in
    ap (λ b. b && (c.in-Some.stand.tree == c.args.tree)) (sym here)
    ∙ stands_as_found (declared_by c.tables.inside.decls.now) x c.self.inside.number c.args.tree _
    (sym c.in-Some.is ∙ c.place_near.ensures ∙ c.tables.invariant.kinds_are.places x)
    ∙ ap (λ ds. stands_at c.self.inside.number c.args.tree (first_named (declared_by ds) x))
    c.tables.view_is
    ∙ ap (λ a. stands_at a.number c.args.tree (first_named (declared_by a.decls) x))
    c.self.view_is

pub returns-else-stand-self : goal.returns-else-stand-self
returns-else-stand-self c =
    let x = c.args.name.now in
    let other : (c.in-Some.stand.decl == c.self.inside.number) ≡ false = grind (arith, nat_tests) in
    other ∙ ap (λ b. b && (c.in-Some.stand.tree == c.args.tree)) (sym other)
    ∙ stands_as_found (declared_by c.tables.inside.decls.now) x c.self.inside.number c.args.tree _
    (sym c.in-Some.is ∙ c.place_near.ensures ∙ c.tables.invariant.kinds_are.places x)
    ∙ ap (λ ds. stands_at c.self.inside.number c.args.tree (first_named (declared_by ds) x))
    c.tables.view_is
    ∙ ap (λ a. stands_at a.number c.args.tree (first_named (declared_by a.decls) x))
    c.self.view_is

pub returns-in-None : goal.returns-in-None
returns-in-None c =
    let x = c.args.name.now in
    stands_as_found (declared_by c.tables.inside.decls.now) x c.self.inside.number c.args.tree _
    (sym c.in-None.is ∙ c.place_near.ensures ∙ c.tables.invariant.kinds_are.places x)
    ∙ ap (λ ds. stands_at c.self.inside.number c.args.tree (first_named (declared_by ds) x))
    c.tables.view_is
    ∙ ap (λ a. stands_at a.number c.args.tree (first_named (declared_by a.decls) x))
    c.self.view_is
