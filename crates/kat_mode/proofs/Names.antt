-- Names that all have to be bound, in two parts.
use Rattle.std.proofs.Common.{◌≡◌, Bool, true, false, if◌then◌else◌, List, [], ◌∷◌, ◌++◌, Option, None, Some, refl}
use Rattle.kat_syntax.specs.Tables.{Name}
use Rattle.kat_syntax.specs.Modes.{Reading, Read, Stopped, and_read, first_in, is_in, leave, read_names, unless_stopped, Used, names_of_parts}

if_both : (unbound : List Name) (x : Name) (b : Bool) (all first : Option Name)
    (next : List Name → Reading) →
    unless_stopped all (Read unbound) ≡ and_read (unless_stopped first (Read unbound)) next →
    unless_stopped (if b then Some x else all) (Read unbound) ≡
    and_read (unless_stopped (if b then Some x else first) (Read unbound)) next
if_both unbound x true all first next is = refl
if_both unbound x false all first next is = is

-- names of two lists, one behind the other
pub names_both : (xs ys : List Name) (unbound : List Name) →
    read_names (xs ++ ys) unbound ≡ and_read (read_names xs unbound) (read_names ys)
names_both [] ys unbound = refl
names_both (x ∷ xs) ys unbound =
    if_both unbound x (is_in unbound x) (first_in unbound (xs ++ ys)) (first_in unbound xs)
    (read_names ys) (names_both xs ys unbound)

one_left : (unbound : List Name) (x : Name) (b : Bool) →
    unless_stopped (if b then Some x else None) (Read unbound) ≡
    (if b then Stopped x else Read unbound)
one_left unbound x true = refl
one_left unbound x false = refl

-- a name alone
pub one_name : (x : Name) (unbound : List Name) → read_names (x ∷ []) unbound ≡ leave x unbound
one_name x unbound = one_left unbound x (is_in unbound x)

-- names of parts
pub parts_both : (part : Used) (parts : List Used) (unbound : List Name) →
    read_names (names_of_parts (part ∷ parts)) unbound ≡ and_read (read_names part.names unbound)
    (read_names (names_of_parts parts))
parts_both part parts unbound = names_both part.names (names_of_parts parts) unbound
