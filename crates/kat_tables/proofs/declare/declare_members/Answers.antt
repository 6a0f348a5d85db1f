use Rattle.std.proofs.Common.{[], ◌++◌, length, map, ap, arith, refl, sym, subst}
use Rattle.std.proofs.lemmas.List.{append-nil}
use Rattle.std.proofs.lemmas.List.{at_drop_all}
use Rattle.kat_syntax.specs.Declares.{members_from}
use Rattle.kat_tables.specs.Meanings.{noted, IsKinds}
use Rattle.kat_tables.proofs.Declaring.{noted_none, noted_more, noted_all, next_member}
use Rattle.kat_tables.proofs.declare.declare_members.Goals as goal

-- nothing is noted at the start, where there is room
pub loop-member-init : goal.loop-member-init
loop-member-init c = record {
  counted = refl;
  so_far =
      let whole = map noted
      (members_from c.args.decl c.args.position 4 c.as_slice-member-items.result.now) in
      noted_more whole whole [] whole c.args.kinds.now c.args.kinds.now c.reserve.new.self
      (noted_none whole c.args.kinds.now) refl
      (λ all is. subst (λ ns. IsKinds ns c.reserve.new.self) (sym (append-nil all))
      (c.in_ok-reserve.ensures all is));
}

-- there are fewer trees than 2^32
pub overflow_add-tree : goal.overflow_add-tree
overflow_add-tree c =
    omega (
      arith,
      c.requires,
      c.loop-member.invariant.counted,
      c.loop-member-test.true,
      ap length c.as_slice-member-items.ensures,
    )

-- one more member
pub loop-member-preserved : goal.loop-member-preserved
loop-member-preserved c = record {
  counted = omega (arith, c.loop-member.invariant.counted);
  so_far = noted_more _ _ _ _ _ _ _ c.loop-member.invariant.so_far
      (next_member c.as_slice-member-items.result.now c.args.decl c.args.position
      c.loop-member.tree c.loop-member.member-index c.member-item.result c.loop-member-test.true
      c.member-item.is)
      c.in_ok-add.ensures;
}

-- all members are noted
pub returns : goal.returns
returns c all is =
    subst (λ members. IsKinds
    (all ++ map noted (members_from c.args.decl c.args.position 4 members)) c.loop-member.kinds)
    c.as_slice-member-items.ensures
    (noted_all _ _ _ _ c.loop-member.invariant.so_far
    (at_drop_all (λ members. map noted
    (members_from c.args.decl c.args.position c.loop-member.tree members))
    c.as_slice-member-items.result.now c.loop-member.member-index c.loop-member-test.false)
    all is)
