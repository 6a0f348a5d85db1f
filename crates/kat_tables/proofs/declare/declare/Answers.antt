use Rattle.std.proofs.Common.{[], ◌∷◌, map, subst, append_assoc}
use Rattle.std.proofs.lemmas.List.{append-nil}
use Rattle.kat_syntax.specs.Declares.{members_from, ctors_from, named_here}
use Rattle.kat_syntax.specs.Declares as meant
use Rattle.kat_tables.specs.Meanings.{noted, IsKinds}
use Rattle.kat_tables.proofs.Noting.{on_ok}
use Rattle.kat_tables.proofs.Declaring.{none_declared}
use Rattle.kat_tables.proofs.declare.declare.Goals as goal

-- an enum, then its members
pub returns-in_ok-add-in-Enum : goal.returns-in_ok-add-in-Enum
returns-in_ok-add-in-Enum c all decls is are =
    rw c.in-Enum.is
    (on_ok c.declare_members.result
    (c.declare_members.ensures _ (c.in_ok-add-in-Enum.ensures all is))
    (λ kinds. subst (λ ns. IsKinds ns c.declare_members.new.kinds)
    (append_assoc all
    (noted (named_here c.args.decl c.in-Enum.name meant.AType) ∷ [])
    (map noted (members_from c.args.decl c.args.position 4 c.in-Enum.members))) kinds))

-- a union, then its constructors
pub returns-in_ok-add-in-Union : goal.returns-in_ok-add-in-Union
returns-in_ok-add-in-Union c all decls is are =
    rw c.in-Union.is
    (on_ok c.declare_ctors.result
    (c.declare_ctors.ensures _ decls (c.in_ok-add-in-Union.ensures all is) are)
    (λ kinds. subst (λ ns. IsKinds ns c.declare_ctors.new.kinds)
    (append_assoc all
    (noted (named_here c.args.decl c.in-Union.name meant.AType) ∷ [])
    (map noted (ctors_from decls c.args.decl c.args.position 4 c.in-Union.ctors))) kinds))

-- a declaration that has no name
pub returns-in_default : goal.returns-in_default
returns-in_default c all decls is are =
    let none = none_declared decls c.args.decl c.args.position c.args.form.now
    c.in_default.not-Enum c.in_default.not-Union c.in_default.not-Record
    c.in_default.not-Register c.in_default.not-Region c.in_default.not-Predicate
    c.in_default.not-Fun c.in_default.not-Lemma c.in_default.not-Block in
    rw (none, append-nil all) is
