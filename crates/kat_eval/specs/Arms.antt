-- The position of the first arm of a name, and what a value is made of.
use Rattle.std.specs.Prelude.{ℕ, ◌+◌, if◌then◌else◌, List, [], ◌∷◌, Option, None, Some}
use Rattle.std.specs.Str.{bytes_eq}
use Rattle.kat_ast.specs.declared.stm.Stm.{Stm}
use Rattle.kat_ast.specs.declared.stm.CaseArm.{CaseArm}
use Rattle.kat_ast.specs.declared.stm.MatchArm.{MatchArm}
use Rattle.kat_syntax.specs.Meaning.{MadeWith}
use Rattle.kat_syntax.specs.Tables.{Name}
use Rattle.kat_eval.specs.declared.arms.MadeSeen.{MadeSeen}

-- the position of the first arm of this member, the first arm having the position k
abbrev pub case_from : ℕ → List (CaseArm Stm) → Name → Option ℕ
case_from k [] member = None
case_from k (arm ∷ arms) member =
    if bytes_eq arm.member member then Some k else case_from (k + 1) arms member

-- the position of the first arm of this constructor, the first arm having the position k
abbrev pub match_from : ℕ → List (MatchArm Stm) → Name → Option ℕ
match_from k [] ctor = None
match_from k (arm ∷ arms) ctor =
    if bytes_eq arm.ctor ctor then Some k else match_from (k + 1) arms ctor

-- what the code sees a value made of, as the meaning sees it
abbrev pub made_seen : MadeSeen → MadeWith
made_seen seen = record { ctor = seen.ctor.now; payload = seen.payload.now }
