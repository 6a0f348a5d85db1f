use Rattle.std.proofs.Common.{◌≡◌, ℕ, ◌^◌, Bool, true, List, [], ◌∷◌, None, Some, Option, refl, sym, ap, ◌∙◌}
use Rattle.std.specs.Prelude.{nat_lt}
use Rattle.std.specs.List.{list_all}
use Rattle.kat_syntax.specs.Memories.{Memory, memory_before, is_cell_value}
use Rattle.kat_typing.proofs.cells.are_cell_values.Goals as goal

all_of_none : (values : List ℕ) → true ≡ list_all (λ n. is_cell_value n None) values
all_of_none [] = refl
all_of_none (n ∷ values) = all_of_none values

all_of_some : (result : Bool) (before : Option Memory) (memory : Memory) (values : List ℕ) →
    result ≡ list_all (λ n. nat_lt n (2 ^ memory.cell_width)) values → before ≡ Some memory →
    result ≡ list_all (λ n. is_cell_value n before) values
all_of_some result before memory values is there =
    is ∙ ap (λ seen. list_all (λ n. is_cell_value n seen) values) (sym there)

pub returns-in-Some : goal.returns-in-Some
returns-in-Some c =
    let width : c.memory.inside.cell_width ≡ c.in-Some.memory.cell_width =
    ap (λ (memory : Memory). memory.cell_width) c.memory.view_is in
    all_of_some c.are_below.result (memory_before c.args.around.now) c.in-Some.memory
    c.args.values.now
    (c.are_below.ensures ∙ ap (λ w. list_all (λ n. nat_lt n (2 ^ w)) c.args.values.now) width)
    (sym c.in-Some.ensures)

pub returns-in-None : goal.returns-in-None
returns-in-None c =
    all_of_none c.args.values.now
    ∙ ap (λ memory. list_all (λ n. is_cell_value n memory) c.args.values.now)
    (sym c.in-None.is ∙ c.memory_before.ensures)
