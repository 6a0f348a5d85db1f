use Rattle.std.proofs.Common.{◌≡◌, ◌∙◌, ◌<◌, ◌≤◌, ap, length, drop, get_or, arith}
use Rattle.std.proofs.lemmas.List.{drop_all}
use Rattle.std.specs.Option.{option_map, option_or}
use Rattle.kat_names.specs.Names.{position_of}
use Rattle.kat_syntax.specs.NamedItems.{found}
use Rattle.kat_syntax.specs.NamedValues.{names_of_fields}
use Rattle.kat_syntax.proofs.TableSteps.{in_union, one_union, no_union, all_ctors}
use Rattle.kat_syntax.proofs.run_tables.ctors.Goals.{in-Union+in_ok-add_ctors, in_default}
use Rattle.kat_syntax.proofs.run_tables.ctors.Goals as goal

-- the constructors of a union are added, and another type has none
pub loop-of-preserved : goal.loop-of-preserved
loop-of-preserved c =
    let types = c.args.types.now in
    let p = c.loop-of.of in
    let decl = c.decl-item.result in
    let same = ap length c.as_slice-decl-items.ensures in
    let within : p < length types = omega (arith, same, c.loop-of-test.true) in
    let at = c.decl-item.is ∙ ap (λ ts. get_or ts p decl) c.as_slice-decl-items.ensures in
    elim c.match-decl.branch [
      | in-Union+in_ok-add_ctors w ↦ rw w.named-is (one_union types p decl w.in-Union.name
          w.in-Union.ctors c.loop-of.named _ c.loop-of.invariant within at w.in-Union.is
          (λ k. w.in_ok-add_ctors.ensures k
          ∙ ap (λ fields. option_or (found c.loop-of.named k)
          (option_map (in_union p) (position_of (names_of_fields fields) k))) w.as_slice.ensures))
      | in_default w ↦ rw w.named-is (no_union types p decl c.loop-of.named c.loop-of.invariant
          within at w.in_default.not-Union)
    ]

pub returns : goal.returns
returns c =
    let types = c.args.types.now in
    let same = ap length c.as_slice-decl-items.ensures in
    let past : length types ≤ c.loop-of.of = omega (arith, same, c.loop-of-test.false) in
    all_ctors types (drop c.loop-of.of types) c.loop-of.of c.loop-of.named c.loop-of.invariant
    (drop_all c.loop-of.of types past)
