-- Arguments, of which so many are asked and the others read.
use Rattle.std.proofs.Common.{◌≡◌, ℕ, ◌-◌, List, length, map, take, take_all, drop, min, Result, Ok, Err, sym, ap, subst, ◌∙◌, arith, length-drop}
use Rattle.kat_ast.specs.declared.expr.Expr.{Expr}
use Rattle.kat_syntax.specs.Tables.{Name}
use Rattle.kat_syntax.specs.Modes.{Reader, and_read, read_args, read_names, read_values, used_in, names_of_parts}
use Rattle.kat_mode.specs.declared.stop.Stop.{Stop}
use Rattle.kat_mode.specs.Reading.{Follows}
use Rattle.kat_mode.proofs.Going.{both, first_stops, follows_as}
use Rattle.kat_mode.proofs.Parts.{args_cut}

-- the first so many expressions are asked
abbrev pub asked_first : ℕ → List Expr → Reader
asked_first k exprs = read_names (names_of_parts (map used_in (take k exprs)))

-- the others are read
abbrev pub read_behind : ℕ → List Expr → Reader
read_behind k exprs = read_values (map used_in (drop k exprs))

module _ (n k : ℕ) (exprs : List Expr) (old new : List Name) (cut : k ≡ min n (length exprs)) where
  cut_there : (u : List Name) →
      read_args n (map used_in exprs) u ≡ and_read (asked_first k exprs u) (read_behind k exprs)
  cut_there u =
      args_cut n exprs u
      ∙ ap (λ m. and_read (asked_first m exprs u) (read_behind m exprs)) (sym cut)

  -- all were read
  pub args_read : (result : Result (Unit {0}) Stop) →
      Follows (asked_first k exprs) old old (Ok tt) →
      Follows (read_values (map used_in (take (length exprs - k) (drop k exprs)))) old new result →
      Follows (read_args n (map used_in exprs)) old new result
  args_read result asks reads =
      follows_as (read_args n (map used_in exprs))
      (λ u. and_read (asked_first k exprs u) (read_behind k exprs)) old new result cut_there
      (both (asked_first k exprs) (read_behind k exprs) old old new result asks
      (subst (λ xs. Follows (read_values (map used_in xs)) old new result)
      (take_all (length exprs - k) (drop k exprs) (omega (arith, length-drop k exprs))) reads))

  -- one that is asked stops
  pub args_stop : (error : Stop) → Follows (asked_first k exprs) old old (Err error) →
      Follows (read_args n (map used_in exprs)) old new (Err error)
  args_stop error stops =
      follows_as (read_args n (map used_in exprs))
      (λ u. and_read (asked_first k exprs u) (read_behind k exprs)) old new (Err error)
      cut_there
      (first_stops (asked_first k exprs) (λ u. read_behind k exprs) old old new error stops)
