-- Each form of an assertion, by what was read of its parts.
use Rattle.std.proofs.Common.{◌≡◌, ℕ, ◌≤◌, ◌∷◌, List, length, take, drop, Result, Ok, Err, sym, ap, subst, ◌∙◌, arith}
use Rattle.kat_ast.specs.declared.type_name.TypeName.{TypeName}
use Rattle.kat_ast.specs.declared.expr.Expr.{Expr}
use Rattle.kat_ast.specs.declared.assertion.Assertion.{Assertion}
use Rattle.kat_ast.specs.declared.assertion.Assertion.TheVariants as v
use Rattle.kat_ast.specs.declared.assertion.Assertion.TheOpen as layer
use Rattle.kat_ast.specs.declared.assertion.Assertion.TheViews as views
use Rattle.kat_syntax.specs.Tables.{Name}
use Rattle.kat_syntax.specs.Modes.{Reader, join_branch, leave, read_branches, read_names, read_value, reading_of, used_in}
use Rattle.kat_mode.specs.declared.stop.Stop.{Stop}
use Rattle.kat_mode.specs.Turning.{unbound_too, all_bound, bound_among}
use Rattle.kat_mode.specs.Reading.{Follows}
use Rattle.kat_mode.proofs.Going.{both, first_stops}
use Rattle.kat_mode.proofs.Layers.{form_at}
use Rattle.kat_mode.proofs.Parts.{parts_from}
use Rattle.kat_mode.proofs.Branches.{both_branches, goes_on, not_fewer, second_branch_stops, turned_back, within_scope}

module _ (inputs : Name → ℕ) (old new : List Name) where
  -- the index is asked, and the value read
  pub cell_read : (i e : Expr) (result : Result (Unit {0}) Stop) →
      Follows (read_names (used_in i).names) old old (Ok tt) →
      Follows (read_value (used_in e)) old new result →
      Follows (reading_of inputs (v.Cell i e)) old new result
  cell_read i e result asks reads =
      form_at inputs (v.Cell i e) (layer.Cell i e) old new result (views.outs-Cell i e)
      (both (read_names (used_in i).names) (read_value (used_in e)) old old new result asks reads)

  -- or the index stops
  pub cell_stops : (i e : Expr) (error : Stop) →
      Follows (read_names (used_in i).names) old old (Err error) →
      Follows (reading_of inputs (v.Cell i e)) old new (Err error)
  cell_stops i e error stops =
      form_at inputs (v.Cell i e) (layer.Cell i e) old new (Err error) (views.outs-Cell i e)
      (first_stops (read_names (used_in i).names) (λ u. read_value (used_in e)) old old new error
      stops)

  -- parts one behind the other
  pub star_read : (parts : List Assertion) (result : Result (Unit {0}) Stop) →
      Follows (parts_from inputs parts 0) old new result →
      Follows (reading_of inputs (v.Star parts)) old new result
  star_read parts result reads = form_at inputs (v.Star parts) (layer.Star parts) old new result
      (views.outs-Star parts) reads

  -- the test is asked, and both branches are read
  pub if_read : (test : Expr) (a b : Assertion) (result : Result (Unit {0}) Stop) →
      Follows (read_names (used_in test).names) old old (Ok tt) →
      Follows (read_branches (reading_of inputs a) (reading_of inputs b)) old new result →
      Follows (reading_of inputs (v.If test a b)) old new result
  if_read test a b result asks reads =
      form_at inputs (v.If test a b) (layer.If test a b) old new result (views.outs-If test a b)
      (both (read_names (used_in test).names)
      (read_branches (reading_of inputs a) (reading_of inputs b)) old old new result asks reads)

  -- a name is unbound, the body read, and the name asked
  pub exists_read : (x : Name) (ty : TypeName) (body : Assertion) (now : List Name)
      (result : Result (Unit {0}) Stop) → now ≡ unbound_too old x →
      Follows (reading_of inputs body) now new (Ok tt) →
      Follows (leave x) new new result →
      Follows (reading_of inputs (v.Exists x ty body)) old new result
  exists_read x ty body now result turns reads asks =
      form_at inputs (v.Exists x ty body) (layer.Exists x ty body) old new result
      (views.outs-Exists x ty body)
      (both (λ u. reading_of inputs body (x ∷ u)) (leave x) old new new result
      (within_scope (reading_of inputs body) x old new (Ok tt)
      (subst (λ t. Follows (reading_of inputs body) t new (Ok tt)) turns reads))
      asks)

  -- or the body stops
  pub exists_stops : (x : Name) (ty : TypeName) (body : Assertion) (now : List Name)
      (error : Stop) → now ≡ unbound_too old x →
      Follows (reading_of inputs body) now new (Err error) →
      Follows (reading_of inputs (v.Exists x ty body)) old new (Err error)
  exists_stops x ty body now error turns stops =
      form_at inputs (v.Exists x ty body) (layer.Exists x ty body) old new (Err error)
      (views.outs-Exists x ty body)
      (first_stops (λ u. reading_of inputs body (x ∷ u)) (λ u. leave x) old new new error
      (within_scope (reading_of inputs body) x old new (Err error)
      (subst (λ t. Follows (reading_of inputs body) t new (Err error)) turns stops)))

-- the first branch of two, from the names that turned before on, and what is there behind it
module _ (a b : Reader) (n : ℕ) (t0 t1 : List Name) (count : n ≡ length t0)
    (first : Follows a t0 t1 (Ok tt)) where
  -- no fewer names turned behind it
  pub within_first : n ≤ length t1
  within_first = let f = not_fewer t0 t1 (goes_on a t0 t1 first) in omega arith

  -- taken back to what was before
  back_at : (back : List Name) → back ≡ take n t1 → back ≡ t0
  back_at back is = is ∙ ap (λ k. take k t1) count ∙ turned_back t0 t1 (goes_on a t0 t1 first)

  -- nor behind the second
  pub within_second : (back t2 : List Name) → back ≡ take n t1 → Follows b back t2 (Ok tt) →
      n ≤ length t2
  within_second back t2 is second =
      let f = not_fewer back t2 (goes_on b back t2 second) in
      omega (arith, ap length (back_at back is))

  -- the second stops
  pub second_stops : (back t2 end : List Name) (error : Stop) → back ≡ take n t1 →
      Follows b back t2 (Err error) → Follows (read_branches a b) t0 end (Err error)
  second_stops back t2 end error is stops =
      second_branch_stops a b t0 t1 t2 end error first
      (subst (λ t. Follows b t t2 (Err error)) (back_at back is) stops)

  -- both were read: those names are bound that both bind
  pub branches_read : (back t2 again end found kept : List Name) → back ≡ take n t1 →
      Follows b back t2 (Ok tt) → again ≡ take n t2 → found ≡ bound_among t1 (drop n t1) →
      kept ≡ bound_among t2 found → end ≡ all_bound again kept →
      Follows (read_branches a b) t0 end (Ok tt)
  branches_read back t2 again end found kept is second is_again is_found is_kept ends =
      let from_t0 = subst (λ t. Follows b t t2 (Ok tt)) (back_at back is) second in
      let there = is_again ∙ ap (λ k. take k t2) count ∙ turned_back t0 t2 (goes_on b t0 t2 from_t0)
      in
      subst (λ t. Follows (read_branches a b) t0 t (Ok tt))
      (sym (ends ∙ ap (λ t. all_bound t kept) there
      ∙ ap (all_bound t0) (is_kept ∙ ap (bound_among t2)
      (is_found ∙ ap (λ k. bound_among t1 (drop k t1)) count))))
      (both_branches a b t0 t1 t2 first from_t0)

-- the first stops
pub first_branch_stops : (a b : Reader) (t0 t1 end : List Name) (error : Stop) →
    Follows a t0 t1 (Err error) → Follows (read_branches a b) t0 end (Err error)
first_branch_stops a b t0 t1 end error stops = first_stops a
    (λ u behind. join_branch u behind (b u)) t0 t1 end error stops
