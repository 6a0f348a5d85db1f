use Rattle.kat_syntax.specs.Memories.{protected_by, code_of_decl}
use Rattle.kat_typing.proofs.Counting.{most_counted}
use Rattle.kat_typing.proofs.limits.Totals.push.Goals as goal

pub returns : goal.returns
returns c =
    let decls = c.args.around.now.decls in
    let k = c.args.around.now.number in
    let decl = c.args.decl.now in
    record {
      protected = most_counted protected_by decls k decl c.args.self.now.protected
          c.protected_by.result c.saturating_add-self.result c.requires.here
          c.requires.totals.protected c.protected_by.ensures c.saturating_add-self.ensures;
      code = most_counted code_of_decl decls k decl c.args.self.now.code
          c.code_of_decl.result c.saturating_add-self-2.result c.requires.here
          c.requires.totals.code c.code_of_decl.ensures c.saturating_add-self-2.ensures;
      sizes = c.in_ok-push_size.ensures;
    }
