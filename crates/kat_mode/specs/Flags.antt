-- Names with a flag each: whether the name is unbound.
use Rattle.std.specs.Prelude.{◌≡◌, Bool, true, false, List, Option, unwrap_or, is_some}
use Rattle.std.specs.Borrow.{Bor}
use Rattle.std.specs.Map.{lookup}
use Rattle.std.specs.Str.{bytes_eq}
use Rattle.kat_syntax.specs.Tables.{Name}
use Rattle.kat_syntax.specs.Modes.{is_in}
use Rattle.kat_mode.specs.Turning.{is_unbound}

-- the flag of a name, if it has one
abbrev pub flag_in : List (Bor Name × Bool) → Name → Option Bool
flag_in entries x = lookup (λ (key : Bor Name). bytes_eq x key.now) entries

-- the flags of names that turned: each of them has one
pub record HasFlags (entries : List (Bor Name × Bool)) (turned : List Name) : Type 0 where
  pub flags_are : (x : Name) → unwrap_or (flag_in entries x) false ≡ is_unbound turned x
  pub has_all : (x : Name) → is_in turned x ≡ true → is_some (flag_in entries x) ≡ true
