use Rattle.std.proofs.Common.{◌∙◌, ap, sym, slice_set}
use Rattle.kat_term.specs.declared.term.Term.TheVariants.{Apply as ApplyTerm, Make as MakeTerm, Rec as RecTerm}
use Rattle.kat_known.specs.Known.{known_atom}
use Rattle.kat_known.specs.Normal.{norm_in}
use Rattle.kat_known.specs.Picked.{At, picked}
use Rattle.kat_known.specs.Reduce.{news_of, here}
use Rattle.kat_known.proofs.Search.{news_all, picked_map, picks_some, picks_none, picks_map, picks_as, at_term, within_apply, within_make, within_rec, found_at, goes_at}
use Rattle.kat_known.proofs.replace.+replace.Goals as goal

pub replaced-returns-in-Some : goal.replaced-returns-in-Some
replaced-returns-in-Some t c =
    let known =
    known_atom c.args.world.now.vars (norm_in c.args.world.now.vars) c.args.list.now in
    let at = picked (here (known c.args.term.now)) c.args.skip.now in
    at_term known c.args.term.now c.args.skip.now c.in-Some.literal
    (picks_some known c.in_ok-literal.field-0 c.replaced_here.new.skip at c.in-Some.literal
    c.in_ok-literal.ensures c.in-Some.is)

pub replaced-returns-in_ok-term-in-Apply : goal.replaced-returns-in_ok-term-in-Apply
replaced-returns-in_ok-term-in-Apply t c =
    let known =
    known_atom c.args.world.now.vars (norm_in c.args.world.now.vars) c.args.list.now in
    let at = picked (here (known c.args.term.now)) c.args.skip.now in
    let skip = c.replaced_here.new.skip in
    let open_here =
    picks_none known c.in_ok-literal.field-0 skip at c.in_ok-literal.ensures c.in_default.is in
    let found = picked (news_all known c.in-Apply.args.now) skip in
    picks_as c.in_ok-term-in-Apply.term c.replaced_in.new.skip (picked_map (ApplyTerm c.in-Apply.op) found)
    (picked (news_of known c.args.term.now) c.args.skip.now)
    (picks_map (ApplyTerm c.in-Apply.op) c.in_ok-args-in-Apply.args c.replaced_in.new.skip found
    c.in_ok-term-in-Apply.term c.in_ok-args-in-Apply.ensures c.in_ok-term-in-Apply.ensures)
    (within_apply known c.args.term.now c.in-Apply.op c.in-Apply.args.now c.args.skip.now skip
    c.in-Apply.ensures.term open_here)

pub replaced-returns-in_ok-term-in-Make : goal.replaced-returns-in_ok-term-in-Make
replaced-returns-in_ok-term-in-Make t c =
    let known =
    known_atom c.args.world.now.vars (norm_in c.args.world.now.vars) c.args.list.now in
    let at = picked (here (known c.args.term.now)) c.args.skip.now in
    let skip = c.replaced_here.new.skip in
    let open_here =
    picks_none known c.in_ok-literal.field-0 skip at c.in_ok-literal.ensures c.in_default.is in
    let found = picked (news_of known c.in-Make.inner.now) skip in
    picks_as c.in_ok-term-in-Make.term c.replaced.new.skip (picked_map (MakeTerm c.in-Make.of c.in-Make.ctor) found)
    (picked (news_of known c.args.term.now) c.args.skip.now)
    (picks_map (MakeTerm c.in-Make.of c.in-Make.ctor) c.in_ok-inner-in-Make.inner c.replaced.new.skip found
    c.in_ok-term-in-Make.term c.in_ok-inner-in-Make.ensures c.in_ok-term-in-Make.ensures)
    (within_make known c.args.term.now c.in-Make.of c.in-Make.ctor c.in-Make.inner.now c.args.skip.now skip
    c.in-Make.ensures.term open_here)

pub replaced-returns-in_ok-term-in-Rec : goal.replaced-returns-in_ok-term-in-Rec
replaced-returns-in_ok-term-in-Rec t c =
    let known =
    known_atom c.args.world.now.vars (norm_in c.args.world.now.vars) c.args.list.now in
    let at = picked (here (known c.args.term.now)) c.args.skip.now in
    let skip = c.replaced_here.new.skip in
    let open_here =
    picks_none known c.in_ok-literal.field-0 skip at c.in_ok-literal.ensures c.in_default.is in
    let found = picked (news_all known c.in-Rec.fields.now) skip in
    picks_as c.in_ok-term-in-Rec.term c.replaced_in-in-Rec.new.skip (picked_map (RecTerm c.in-Rec.of) found)
    (picked (news_of known c.args.term.now) c.args.skip.now)
    (picks_map (RecTerm c.in-Rec.of) c.in_ok-fields-in-Rec.fields c.replaced_in-in-Rec.new.skip found
    c.in_ok-term-in-Rec.term c.in_ok-fields-in-Rec.ensures c.in_ok-term-in-Rec.ensures)
    (within_rec known c.args.term.now c.in-Rec.of c.in-Rec.fields.now c.args.skip.now skip
    c.in-Rec.ensures.term open_here)

pub replaced_in-returns-in-Some : goal.replaced_in-returns-in-Some
replaced_in-returns-in-Some t c =
    let known =
    known_atom c.args.world.now.vars (norm_in c.args.world.now.vars) c.args.list.now in
    let part = c.index-terms-index.result in
    found_at known c.args.terms.now c.loop-index.index c.args.skip.now c.loop-index.skip part
    c.in-Some.new c.loop-index-test.true c.index-terms-index.is c.loop-index.invariant
    (picks_some known c.in_ok-new.field-0 c.replaced.new.skip
    (picked (news_of known part) c.loop-index.skip) c.in-Some.new c.in_ok-new.ensures c.in-Some.is)
    ∙ ap (λ ts. At (slice_set ts c.loop-index.index c.in-Some.new)) (sym c.in_ok-parts.ensures)
    ∙ ap At (sym c.set.ensures)

pub replaced_in-loop-index-preserved : goal.replaced_in-loop-index-preserved
replaced_in-loop-index-preserved t c =
    let known =
    known_atom c.args.world.now.vars (norm_in c.args.world.now.vars) c.args.list.now in
    let part = c.index-terms-index.result in
    goes_at known c.args.terms.now c.loop-index.index c.args.skip.now c.loop-index.skip
    c.replaced.new.skip part c.loop-index-test.true c.index-terms-index.is c.loop-index.invariant
    (picks_none known c.in_ok-new.field-0 c.replaced.new.skip
    (picked (news_of known part) c.loop-index.skip) c.in_ok-new.ensures c.in_default.is)
