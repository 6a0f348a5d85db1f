-- Known atoms replaced by their literals, one at a time.
use Rattle.std.specs.Prelude.{ℕ, zero, suc, List, [], ◌∷◌, ◌++◌, map, Option, Some, None}
use Rattle.kat_term.specs.declared.term.Term.{Term}
use Rattle.kat_term.specs.declared.term.Term.TheOpen.{Term-F, Var, Lit, Apply, Make, Rec}
use Rattle.kat_term.specs.declared.term.Term.TheVariants.{Apply as ApplyTerm, Make as MakeTerm, Rec as RecTerm}
use Rattle.kat_known.specs.Parts.{Part, found_of}

-- the most replacements in one term, those included whose normal form passes a limit
unfoldable pub max_replacements : ℕ
max_replacements = 65536

-- a part with what one replacement can make of it, each place its own, outermost and leftmost first
abbrev pub News : Type 0
News = Part (List Term)

-- the terms as they stand
abbrev pub wholes : List News → List Term
wholes parts = map (λ (part : News). part.whole) parts

-- what one replacement can make of a list of terms
abbrev pub news_in_all : List News → List (List Term)
news_in_all [] = []
news_in_all (part ∷ parts) =
    map (λ new. new ∷ wholes parts) part.found
    ++ map (λ news. part.whole ∷ news) (news_in_all parts)

-- the replacement at the term itself
abbrev pub here : Option Term → List Term
here None = []
here (Some new) = new ∷ []

-- the replacements within a term
abbrev pub news_within : Term-F News → List Term
news_within (Var i) = []
news_within (Lit x) = []
news_within (Apply op parts) = map (ApplyTerm op) (news_in_all parts)
news_within (Make of ctor part) = map (MakeTerm of ctor) part.found
news_within (Rec of parts) = map (RecTerm of) (news_in_all parts)

-- one layer: the replacement at the term itself, then those within it
abbrev pub news_layer : (Term → Option Term) → Term → Term-F News → List Term
news_layer known t layer = here (known t) ++ news_within layer

-- what one replacement of a known atom can make of a term
abbrev pub news_of : (Term → Option Term) → Term → List Term
news_of known = found_of (news_layer known)

-- goes on with a normal form, where it is there
abbrev pub on_normed : {A : Type 0} → Option Term → (Term → A) → A → A
on_normed (Some normal) go other = go normal
on_normed None go other = other

-- with so many replacements left, a term and what one replacement can make of it: the first whose
-- normal form passes no limit stands for the term, and it begins again; behind one that passes a
-- limit the next follows
abbrev pub reduced_from :
    (Term → Option Term) → (Term → Option Term) → ℕ → Term → List Term → Term
reduced_from known norm zero t news = t
reduced_from known norm (suc left) t [] = t
reduced_from known norm (suc left) t (new ∷ news) =
    on_normed (norm new) (λ normal. reduced_from known norm left normal (news_of known normal))
    (reduced_from known norm left t news)

-- a term reduced: its known atoms are replaced until there is none
abbrev pub reduced : (Term → Option Term) → (Term → Option Term) → Term → Term
reduced known norm t = reduced_from known norm max_replacements t (news_of known t)

-- the same, where a limit that a normal form passes ends it
abbrev pub strictly_from :
    (Term → Option Term) → (Term → Option Term) → ℕ → Term → List Term → Option Term
strictly_from known norm zero t news = Some t
strictly_from known norm (suc left) t [] = Some t
strictly_from known norm (suc left) t (new ∷ news) =
    on_normed (norm new)
    (λ normal. strictly_from known norm left normal (news_of known normal)) None

-- a term reduced strictly: there is none where a normal form passes a limit
abbrev pub reduced_strictly : (Term → Option Term) → (Term → Option Term) → Term → Option Term
reduced_strictly known norm t = strictly_from known norm max_replacements t (news_of known t)
