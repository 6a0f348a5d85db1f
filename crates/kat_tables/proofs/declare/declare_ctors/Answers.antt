use Rattle.std.proofs.Common.{◌+◌, ◌++◌, [], ◌∷◌, map, ap, arith, refl, subst}
use Rattle.std.specs.List.{sum_by}
use Rattle.std.proofs.lemmas.List.{at_drop_all}
use Rattle.kat_ast.specs.Types.{trees_of_param}
use Rattle.kat_syntax.specs.Declares.{ctors_from}
use Rattle.kat_tables.specs.declared.placed.Meaning.TheVariants.{ACtor}
use Rattle.kat_tables.specs.Meanings.{noted, IsKinds}
use Rattle.kat_tables.proofs.Declaring.{noted_none, noted_more, noted_all, next_ctor, next_trees}
use Rattle.kat_tables.proofs.declare.declare_ctors.Goals as goal

-- nothing is noted at the start
pub loop-ctor-init : goal.loop-ctor-init
loop-ctor-init c = record {
  counted = refl;
  so_far = λ decls are. noted_none
      (map noted (ctors_from decls c.args.decl c.args.of 4 c.as_slice-ctor-items.result.now))
      c.args.kinds.now;
}

-- there are fewer trees than 2^32
pub overflow_add-stand : goal.overflow_add-stand
overflow_add-stand c =
    let next = next_trees c.as_slice-ctor-items.result.now c.loop-ctor.at c.loop-ctor.ctor-index
    c.ctor-item.result c.loop-ctor-test.true c.ctor-item.is c.loop-ctor.invariant.counted in
    omega (arith, c.requires, next, ap (sum_by trees_of_param) c.as_slice-ctor-items.ensures)

-- there are fewer trees than 2^32
pub overflow_add-at-in-loop-ctor : goal.overflow_add-at-in-loop-ctor
overflow_add-at-in-loop-ctor c =
    let next = next_trees c.as_slice-ctor-items.result.now c.loop-ctor.at c.loop-ctor.ctor-index
    c.ctor-item.result c.loop-ctor-test.true c.ctor-item.is c.loop-ctor.invariant.counted in
    omega (
      arith,
      c.requires,
      next,
      c.count_type.ensures,
      ap (sum_by trees_of_param) c.as_slice-ctor-items.ensures,
    )

-- one more constructor
pub loop-ctor-preserved : goal.loop-ctor-preserved
loop-ctor-preserved c = rw c.count_type.ensures record {
  counted = next_trees c.as_slice-ctor-items.result.now c.loop-ctor.at c.loop-ctor.ctor-index
      c.ctor-item.result c.loop-ctor-test.true c.ctor-item.is c.loop-ctor.invariant.counted;
  so_far = λ decls are.
      noted_more _ _ _ _ _ _ _ (c.loop-ctor.invariant.so_far decls are)
      (next_ctor decls c.as_slice-ctor-items.result.now c.args.decl c.args.of
      c.loop-ctor.at c.loop-ctor.ctor-index c.ctor-item.result c.loop-ctor-test.true
      c.ctor-item.is)
      (λ all kinds. subst (λ payload. IsKinds (all ++ record {
        stand = record { decl = c.args.decl; tree = c.loop-ctor.at + 1 };
        name = c.ctor-item.result.name;
        meaning = ACtor (record { of = c.args.of; payload = payload });
      } ∷ []) c.add.new.self)
      (c.type_of_name-payload.ensures decls are) (c.in_ok-add.ensures all kinds));
}

-- all constructors are noted
pub returns : goal.returns
returns c all decls is are =
    subst (λ ctors. IsKinds
    (all ++ map noted (ctors_from decls c.args.decl c.args.of 4 ctors)) c.loop-ctor.kinds)
    c.as_slice-ctor-items.ensures
    (noted_all _ _ _ _ (c.loop-ctor.invariant.so_far decls are)
    (at_drop_all (λ ctors. map noted
    (ctors_from decls c.args.decl c.args.of c.loop-ctor.at ctors))
    c.as_slice-ctor-items.result.now c.loop-ctor.ctor-index c.loop-ctor-test.false)
    all is)
