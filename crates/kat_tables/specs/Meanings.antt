-- What the tables keep of each declared name.
use Rattle.std.specs.Prelude.{◌≡◌, ℕ, if◌then◌else◌, List, [], ◌∷◌, Option, None, Some, option_and_then}
use Rattle.std.specs.List.{AllByRecursion}
use Rattle.std.specs.Option.{option_map, option_or}
use Rattle.std.specs.Str.{bytes_eq}
use Rattle.kat_syntax.specs.Tables.{Name}
use Rattle.kat_syntax.specs.Around.{CtorSeen, RegisterSeen}
use Rattle.kat_syntax.specs.Declares.{Declared, Meant}
use Rattle.kat_syntax.specs.Declares as meant
use Rattle.kat_tables.specs.declared.seen.Stand.{Stand}
use Rattle.kat_tables.specs.declared.placed.Meaning.{Meaning}
use Rattle.kat_tables.specs.declared.placed.Meaning.TheVariants.{AType, AMember, ACtor, ARegister, ARegion, APredicate, AFunction, ALemma, ABlock}
use Rattle.kat_tables.specs.declared.kinds.Kinds.{Kinds}
pub use Rattle.kat_tables.specs.Entries.{Entries, found_in, IsPut}
use Rattle.kat_tables.specs.declared.placed.Placed.{Placed}
use Rattle.kat_tables.specs.declared.kinds.Firsts.{Firsts}

-- a declared name: where it stands, and what the tables keep of its meaning
pub record Noted : Type 0 where
  pub stand : Stand
  pub name : Name
  pub meaning : Meaning

-- what is kept of a meaning
abbrev pub meaning_of : Meant → Meaning
meaning_of meant.AType = AType
meaning_of (meant.AMember of) = AMember of
meaning_of (meant.ACtor of payload) = ACtor (record { of = of; payload = payload })
meaning_of (meant.ARegister kind type) = ARegister (record { kind = kind; type = type })
meaning_of (meant.ARegion params) = ARegion
meaning_of (meant.APredicate inputs outputs) = APredicate
meaning_of (meant.AFunction params result) = AFunction
meaning_of (meant.ALemma params) = ALemma
meaning_of meant.ABlock = ABlock

-- what is kept of a declared name
abbrev pub noted : Declared → Noted
noted one = record {
  stand = record { decl = one.decl; tree = one.tree };
  name = one.name;
  meaning = meaning_of one.is;
}

-- what is wanted of a name, of its declaration's number and what is kept of its meaning
abbrev pub Wanted : Type 0 → Type 0
Wanted A = Stand → Meaning → Option A

-- the first of this name of which there is what is wanted
abbrev pub first_with : {A : Type 0} → Wanted A → List Noted → Name → Option A
first_with wanted [] x = None
first_with wanted (one ∷ more) x =
    if bytes_eq one.name x
    then option_or (wanted one.stand one.meaning) (first_with wanted more x)
    else first_with wanted more x

-- its place
abbrev pub place_in : Wanted Stand
place_in stand meaning = Some stand

-- the enum of a member
abbrev pub member_in : Wanted ℕ
member_in stand (AMember of) = Some of
member_in stand _ = None

-- a constructor
abbrev pub ctor_in : Wanted CtorSeen
ctor_in stand (ACtor seen) = Some seen
ctor_in stand _ = None

-- a register
abbrev pub register_in : Wanted RegisterSeen
register_in stand (ARegister seen) = Some seen
register_in stand _ = None

-- the declaration of a region
abbrev pub region_in : Wanted ℕ
region_in stand ARegion = Some stand.decl
region_in stand _ = None

-- the declaration of a predicate
abbrev pub predicate_in : Wanted ℕ
predicate_in stand APredicate = Some stand.decl
predicate_in stand _ = None

-- the declaration of a function
abbrev pub function_in : Wanted ℕ
function_in stand AFunction = Some stand.decl
function_in stand _ = None

-- the declaration of a lemma
abbrev pub lemma_in : Wanted ℕ
lemma_in stand ALemma = Some stand.decl
lemma_in stand _ = None

-- the declaration of a block
abbrev pub block_in : Wanted ℕ
block_in stand ABlock = Some stand.decl
block_in stand _ = None

-- what a name is that stands once
abbrev pub firsts_of : Placed → Firsts
firsts_of one = record {
  member = member_in one.at one.meaning;
  ctor = ctor_in one.at one.meaning;
  register = register_in one.at one.meaning;
  region = region_in one.at one.meaning;
  predicate = predicate_in one.at one.meaning;
  function = function_in one.at one.meaning;
  lemma = lemma_in one.at one.meaning;
  block = block_in one.at one.meaning;
}

-- a name that is one thing, and another further on
abbrev pub firsts_both : Firsts → Firsts → Firsts
firsts_both first later = record {
  member = option_or first.member later.member;
  ctor = option_or first.ctor later.ctor;
  register = option_or first.register later.register;
  region = option_or first.region later.region;
  predicate = option_or first.predicate later.predicate;
  function = option_or first.function later.function;
  lemma = option_or first.lemma later.lemma;
  block = option_or first.block later.block;
}

-- what a name is that may be there already, with what it is further on
abbrev pub joined : Option Firsts → Firsts → Firsts
joined None later = later
joined (Some first) later = firsts_both first later

-- what the table of first meanings says of a name
abbrev pub once_in : Entries Placed → Name → Option Firsts
once_in entries x = option_map firsts_of (found_in entries x)

-- what two tables say of a name: that of names that stand twice, then that of first meanings
abbrev pub found_by : Entries Placed → Entries Firsts → Name → Option Firsts
found_by names again x = option_or (found_in again x) (once_in names x)

-- the first place of a name
abbrev pub place_of : Kinds → Name → Option Stand
place_of kinds x = option_map (λ (one : Placed). one.at) (found_in kinds.names x)

-- what is noted of a name
abbrev pub found : Kinds → Name → Option Firsts
found kinds x = found_by kinds.names kinds.again.entries x

-- what is wanted of what a name is
abbrev pub Getter : Type 0 → Type 0
Getter A = Firsts → Option A

-- its first meaning as a member
abbrev pub member_of : Getter ℕ
member_of firsts = firsts.member

-- its first meaning as a constructor
abbrev pub ctor_of : Getter CtorSeen
ctor_of firsts = firsts.ctor

-- its first meaning as a register
abbrev pub register_of : Getter RegisterSeen
register_of firsts = firsts.register

-- its first meaning as a region
abbrev pub region_of : Getter ℕ
region_of firsts = firsts.region

-- its first meaning as a predicate
abbrev pub predicate_of : Getter ℕ
predicate_of firsts = firsts.predicate

-- its first meaning as a function
abbrev pub function_of : Getter ℕ
function_of firsts = firsts.function

-- its first meaning as a lemma
abbrev pub lemma_of : Getter ℕ
lemma_of firsts = firsts.lemma

-- its first meaning as a block
abbrev pub block_of : Getter ℕ
block_of firsts = firsts.block

-- tables that say of each name what is wanted of it
abbrev pub Finds : {A : Type 0} → Getter A → Wanted A → List Noted → Kinds → Type 0
Finds get wanted all kinds =
    (x : Name) → option_and_then get (found kinds x) ≡ first_with wanted all x

-- each of some noted names stands first of its name among all
abbrev pub AreFirst : List Noted → List Noted → Type 0
AreFirst all some =
    AllByRecursion (λ (one : Noted). first_with place_in all one.name ≡ Some one.stand) some

-- tables of all these names, with the first place of each, and its first meaning of each kind
pub record IsKinds (all : List Noted) (kinds : Kinds) : Type 0 where
  pub places : (x : Name) → place_of kinds x ≡ first_with place_in all x
  pub members : Finds member_of member_in all kinds
  pub ctors : Finds ctor_of ctor_in all kinds
  pub registers : Finds register_of register_in all kinds
  pub regions : Finds region_of region_in all kinds
  pub predicates : Finds predicate_of predicate_in all kinds
  pub functions : Finds function_of function_in all kinds
  pub lemmas : Finds lemma_of lemma_in all kinds
  pub blocks : Finds block_of block_in all kinds
  pub among : (x : Name) → found_in kinds.names x ≡ None →
      found_in kinds.again.entries x ≡ None
  pub once : kinds.again.entries ≡ [] → AreFirst all all
