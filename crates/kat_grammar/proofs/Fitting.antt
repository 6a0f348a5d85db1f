-- What it is to fit a sort: of an atom by the token, and of a list by its parts, both ways.
use Rattle.std.proofs.Common.{◌≡◌, ℕ, zero, suc, Bool, true, false, ◌&&◌, ◌==◌, if◌then◌else◌, ◌+◌, ◌-◌, ◌<◌, ◌≤◌, List, [], ◌∷◌, ◌++◌, length, drop, take, get_or, map, Option, Some, None, refl, ap, sym, subst, ◌∙◌, arith, length-append, append-nil}
use Rattle.std.specs.Prelude.{replicate, nat_le}
use Rattle.std.specs.Option.{option_map, option_and_then}
use Rattle.std.specs.Str.{bytes_eq}
use Rattle.std.specs.List.{AllByRecursion}
use Rattle.std.proofs.lemmas.Bool.{le-leb, leb-true, eqb-true}
use Rattle.std.proofs.lemmas.List.{length-map, length-replicate}
use Rattle.std.proofs.lemmas.Slice.Eq.{bytes_eq-Decides}
use Rattle.kat_tree.specs.declared.tree.Token.{Token}
use Rattle.kat_tree.specs.declared.tree.Token.TheVariants as token
use Rattle.kat_tree.specs.declared.tree.Tree.{Tree}
use Rattle.kat_tree.specs.declared.tree.Tree.TheVariants as variant
use Rattle.kat_tree.specs.declared.tree.Tree.TheVariants.{rolls-Atom, rolls-List}
use Rattle.kat_tree.specs.declared.tree.Tree.TheOpen.{Tree-F}
use Rattle.kat_tree.specs.declared.tree.Tree.TheViews.{roll-Tree, out-Tree, roll-out-Tree}
use Rattle.kat_tree.specs.declared.tree.Tree.TheFolds.{fold-roll-Tree}
use Rattle.kat_ast.specs.Parts.{word, form}
use Rattle.kat_shapes.specs.declared.sort.Sort.{Sort}
use Rattle.kat_shapes.specs.declared.sort.Sort.TheVariants as sort
use Rattle.kat_shapes.specs.Forms.{Form, exactly, many, between, row_of, form_in, form_of, middles, sorts_of, sorts_for, fits_token, newest}
use Rattle.kat_shapes.specs.Fits.{Judged, first_word, all_fit, list_fits, judged_layer, judged}
use Rattle.kat_grammar.specs.Parts.{FitsSort, AllFit, HasParts, IsHeaded, IsHeadedList, IsHolder, At, HasOneForm, HoldsOne, HasNoAtoms}
use Rattle.kat_grammar.proofs.Lists.{left_true, right_true}

judged-Atom : (t : Token) → judged (variant.Atom t) ≡ judged_layer newest (Tree-F.Atom t)
judged-Atom t = ap judged (sym (rolls-Atom t)) ∙ fold-roll-Tree Judged (judged_layer newest) (Tree-F.Atom t)

judged-List : (parts : List Tree) → judged (variant.List parts) ≡ judged_layer newest (Tree-F.List (map judged parts))
judged-List parts = ap judged (sym (rolls-List parts)) ∙ fold-roll-Tree Judged (judged_layer newest) (Tree-F.List parts)

-- what is so of atoms and of lists
by_rolled : (P : Tree → Type 0) → ((t : Token) → P (variant.Atom t)) → ((parts : List Tree) → P (variant.List parts)) → (y : Tree-F Tree) → P (roll-Tree y)
by_rolled P atom list (Tree-F.Atom t) = subst P (sym (rolls-Atom t)) (atom t)
by_rolled P atom list (Tree-F.List parts) = subst P (sym (rolls-List parts)) (list parts)

pub by_layer : (P : Tree → Type 0) → ((t : Token) → P (variant.Atom t)) → ((parts : List Tree) → P (variant.List parts)) → (t : Tree) → P t
by_layer P atom list t = subst P (roll-out-Tree t) (by_rolled P atom list (out-Tree t))

-- atoms
pub token_fits : (s : Sort) (t : Token) → fits_token newest s t ≡ true → FitsSort s (variant.Atom t)
token_fits s t e = ap (λ (j : Judged). j.fits s) (judged-Atom t) ∙ e

pub fits_of_token : (s : Sort) (t : Token) → FitsSort s (variant.Atom t) → fits_token newest s t ≡ true
fits_of_token s t e = sym (ap (λ (j : Judged). j.fits s) (judged-Atom t)) ∙ e

-- a list
list_from : (s : Sort) (parts : List Tree) → FitsSort s (variant.List parts) →
    list_fits (sorts_for newest s (first_word (map judged parts)) (length (map judged parts))) (map judged parts) ≡ true
list_from s parts fit = sym (ap (λ (j : Judged). j.fits s) (judged-List parts)) ∙ fit

-- a sort of which no list is
pub no_list : (s : Sort) (parts : List Tree) → ((found : Option (List ℕ)) → form_of newest s found ≡ None) → FitsSort s (variant.List parts) → ⊥
no_list s parts none fit =
    let e =
    sym (ap (λ found. list_fits (option_and_then (λ f. sorts_of f (length (map judged parts))) found) (map judged parts)) (none (first_word (map judged parts))))
    ∙ list_from s parts fit in absurd (cc)

word_of : (w : List ℕ) → (judged (word w)).word ≡ Some w
word_of w = ap (λ (j : Judged). j.word) (judged-Atom (token.Name w))

-- whether the parts of a list that this word begins fit the sorts of this form
abbrev FitForm : Form → List ℕ → List Tree → Type 0
FitForm f w parts = list_fits (sorts_of f (length parts + 1)) (judged (word w) ∷ map judged parts) ≡ true

same_form : (s : Sort) (w : List ℕ) (parts : List Tree) (f : Form) → form_of newest s (Some w) ≡ Some f →
    list_fits (sorts_for newest s (first_word (map judged (word w ∷ parts))) (length (map judged (word w ∷ parts)))) (map judged (word w ∷ parts))
    ≡ list_fits (sorts_of f (length parts + 1)) (judged (word w) ∷ map judged parts)
same_form s w parts f formed =
    ap (λ first. list_fits (sorts_for newest s first (length (map judged (word w ∷ parts)))) (map judged (word w ∷ parts))) (word_of w)
    ∙ ap (λ found. list_fits (option_and_then (λ g. sorts_of g (length (map judged (word w ∷ parts)))) found) (map judged (word w ∷ parts))) formed
    ∙ ap (λ n. list_fits (sorts_of f n) (map judged (word w ∷ parts))) (let e = length-map parts judged in omega arith)

form_from : (s : Sort) (w : List ℕ) (parts : List Tree) (f : Form) → form_of newest s (Some w) ≡ Some f → FitsSort s (form w parts) → FitForm f w parts
form_from s w parts f formed fit = sym (same_form s w parts f formed) ∙ list_from s (word w ∷ parts) fit

-- a word that begins no form of the sort
pub no_form : (s : Sort) (w : List ℕ) (parts : List Tree) → form_of newest s (Some w) ≡ None → FitsSort s (form w parts) → ⊥
no_form s w parts none fit =
    let e =
    sym (ap (λ first. list_fits (sorts_for newest s first (length (map judged (word w ∷ parts)))) (map judged (word w ∷ parts))) (word_of w)
    ∙ ap (λ found. list_fits (option_and_then (λ g. sorts_of g (length (map judged (word w ∷ parts)))) found) (map judged (word w ∷ parts))) none)
    ∙ list_from s (word w ∷ parts) fit in absurd (cc)

-- as many parts as sorts
all_from : (sorts : List Sort) (parts : List Tree) → length parts ≡ length sorts → all_fit sorts (map judged parts) ≡ true → AllFit sorts parts
all_from [] [] long fit = tt
all_from [] (t ∷ parts) long fit = absurd (omega arith)
all_from (s ∷ sorts) [] long fit = absurd (omega arith)
all_from (s ∷ sorts) (t ∷ parts) long fit = (
  left_true ((judged t).fits s) (all_fit sorts (map judged parts)) fit,
  all_from sorts parts (omega arith) (right_true ((judged t).fits s) (all_fit sorts (map judged parts)) fit),
)

-- these parts alone
exact_found : (sorts : List Sort) (n : ℕ) (parts : List Judged) (b c : Bool) → nat_le (length sorts + 0) n ≡ b → (n - (length sorts + 0) == 0) ≡ c →
    list_fits (if b then option_map (λ inner. sorts ++ inner ++ []) (if c then Some [] else None) else None) parts ≡ true →
    (n ≡ length sorts) × (all_fit sorts parts ≡ true)
exact_found sorts n parts true true e f fit = (
  let le = leb-true (length sorts + 0) n e in let none = eqb-true (n - (length sorts + 0)) 0 f in omega arith,
  sym (ap (λ found. all_fit found parts) (append-nil (sorts ++ []) ∙ append-nil sorts)) ∙ fit,
)
exact_found sorts n parts true false e f fit = absurd (cc)
exact_found sorts n parts false c e f fit = absurd (cc)

exact_fit : (sorts : List Sort) (n : ℕ) (parts : List Judged) → list_fits (sorts_of (exactly sorts) n) parts ≡ true → (n ≡ length sorts) × (all_fit sorts parts ≡ true)
exact_fit sorts n parts fit = exact_found sorts n parts (nat_le (length sorts + 0) n) (n - (length sorts + 0) == 0) refl refl fit

pub exact_parts : (s : Sort) (w : List ℕ) (sorts : List Sort) (parts : List Tree) → form_of newest s (Some w) ≡ Some (exactly (sort.Word ∷ sorts)) →
    FitsSort s (form w parts) → HasParts sorts parts
exact_parts s w sorts parts formed fit =
    let found = exact_fit (sort.Word ∷ sorts) (length parts + 1) (judged (word w) ∷ map judged parts) (form_from s w parts (exactly (sort.Word ∷ sorts)) formed fit) in
    let long : length parts ≡ length sorts = let e = found.0 in omega arith in
    record { count = long; fit = all_from sorts parts long (right_true ((judged (word w)).fits sort.Word) (all_fit sorts (map judged parts)) found.1) }

-- these parts, and then any number of one sort
many_found : (first : List Sort) (s : Sort) (n : ℕ) (parts : List Judged) (b : Bool) → nat_le (length first + 0) n ≡ b →
    list_fits (if b then option_map (λ sorts. first ++ sorts ++ []) (middles (Some s) (n - (length first + 0))) else None) parts ≡ true →
    (length first ≤ n) × (all_fit (first ++ replicate (n - length first) s) parts ≡ true)
many_found first s n parts true e fit = (
  let le = leb-true (length first + 0) n e in omega arith,
  sym (ap (λ sorts. all_fit sorts parts) (append-nil (first ++ replicate (n - length first) s)))
      ∙ ap (λ k. all_fit (first ++ replicate (n - k) s ++ []) parts) (let e : length first ≡ length first + 0 = omega arith in e) ∙ fit,
)
many_found first s n parts false e fit = absurd (cc)

many_fit : (first : List Sort) (s : Sort) (n : ℕ) (parts : List Judged) → list_fits (sorts_of (many first s) n) parts ≡ true →
    (length first ≤ n) × (all_fit (first ++ replicate (n - length first) s) parts ≡ true)
many_fit first s n parts fit = many_found first s n parts (nat_le (length first + 0) n) refl fit

long_sorts : (first : List Sort) (s : Sort) (k n : ℕ) → n ≡ length first + k → n ≡ length (first ++ replicate k s)
long_sorts first s k n e = omega (arith, length-append first (replicate k s), length-replicate k s)

pub many_parts : (s : Sort) (w : List ℕ) (first : List Sort) (more : Sort) (parts : List Tree) → form_of newest s (Some w) ≡ Some (many (sort.Word ∷ first) more) →
    FitsSort s (form w parts) → HasParts (first ++ replicate (length parts - length first) more) parts
many_parts s w first more parts formed fit =
    let found = many_fit (sort.Word ∷ first) more (length parts + 1) (judged (word w) ∷ map judged parts) (form_from s w parts (many (sort.Word ∷ first) more) formed fit) in
    let k : length parts + 1 - length (sort.Word ∷ first) ≡ length parts - length first = omega arith in
    let long = long_sorts first more (length parts - length first) (length parts) (let e = found.0 in omega arith) in
    record {
      count = long;
      fit =
          all_from (first ++ replicate (length parts - length first) more) parts long
          (right_true ((judged (word w)).fits sort.Word) (all_fit (first ++ replicate (length parts - length first) more) (map judged parts))
          (sym (ap (λ n. all_fit (sort.Word ∷ (first ++ replicate n more)) (judged (word w) ∷ map judged parts)) k) ∙ found.1));
    }

-- any number of one sort, and one more
between_found : (more last : Sort) (n : ℕ) (parts : List Judged) (b : Bool) → nat_le 2 n ≡ b →
    list_fits (if b then option_map (λ sorts. (sort.Word ∷ []) ++ sorts ++ (last ∷ [])) (middles (Some more) (n - 2)) else None) parts ≡ true →
    (2 ≤ n) × (all_fit (sort.Word ∷ (replicate (n - 2) more ++ last ∷ [])) parts ≡ true)
between_found more last n parts true e fit = (leb-true 2 n e, fit)
between_found more last n parts false e fit = absurd (cc)

pub between_parts : (s : Sort) (w : List ℕ) (more last : Sort) (parts : List Tree) → form_of newest s (Some w) ≡ Some (between (sort.Word ∷ []) more (last ∷ [])) →
    FitsSort s (form w parts) → HasParts (replicate (length parts - 1) more ++ last ∷ []) parts
between_parts s w more last parts formed fit =
    let found = between_found more last (length parts + 1) (judged (word w) ∷ map judged parts) (nat_le 2 (length parts + 1)) refl
    (form_from s w parts (between (sort.Word ∷ []) more (last ∷ [])) formed fit) in
    let k : length parts + 1 - 2 ≡ length parts - 1 = omega arith in
    let long : length parts ≡ length (replicate (length parts - 1) more ++ last ∷ []) =
    let e = found.0 in omega (arith, length-append (replicate (length parts - 1) more) (last ∷ []), length-replicate (length parts - 1) more) in
    record {
      count = long;
      fit =
          all_from (replicate (length parts - 1) more ++ last ∷ []) parts long
          (right_true ((judged (word w)).fits sort.Word) (all_fit (replicate (length parts - 1) more ++ last ∷ []) (map judged parts))
          (sym (ap (λ n. all_fit (sort.Word ∷ (replicate n more ++ last ∷ [])) (judged (word w) ∷ map judged parts)) k) ∙ found.1));
    }

-- a list that is told by where it stands
place_from : (s : Sort) (parts : List Tree) (f : Form) → ((found : Option (List ℕ)) → form_of newest s found ≡ Some f) → FitsSort s (variant.List parts) →
    list_fits (sorts_of f (length parts)) (map judged parts) ≡ true
place_from s parts f formed fit =
    sym (ap (λ found. list_fits (option_and_then (λ g. sorts_of g (length (map judged parts))) found) (map judged parts)) (formed (first_word (map judged parts)))
    ∙ ap (λ n. list_fits (sorts_of f n) (map judged parts)) (length-map parts judged))
    ∙ list_from s parts fit

pub exact_place : (s : Sort) (sorts : List Sort) (parts : List Tree) → ((found : Option (List ℕ)) → form_of newest s found ≡ Some (exactly sorts)) →
    FitsSort s (variant.List parts) → HasParts sorts parts
exact_place s sorts parts formed fit =
    let found = exact_fit sorts (length parts) (map judged parts) (place_from s parts (exactly sorts) formed fit) in
    record { count = found.0; fit = all_from sorts parts found.0 found.1 }

pub many_place : (s : Sort) (first : List Sort) (more : Sort) (parts : List Tree) → ((found : Option (List ℕ)) → form_of newest s found ≡ Some (many first more)) →
    FitsSort s (variant.List parts) → HasParts (first ++ replicate (length parts - length first) more) parts
many_place s first more parts formed fit =
    let found = many_fit first more (length parts) (map judged parts) (place_from s parts (many first more) formed fit) in
    let long = long_sorts first more (length parts - length first) (length parts) (let e = found.0 in omega arith) in
    record { count = long; fit = all_from (first ++ replicate (length parts - length first) more) parts long found.1 }

-- a list that begins with a word, where the word is known
pub arm_fits : (s : Sort) (w x : List ℕ) (behind parts : List Tree) → word x ∷ behind ≡ parts → x ≡ w → FitsSort s (variant.List parts) → FitsSort s (form w behind)
arm_fits s w x behind parts same is fit = subst (FitsSort s) (ap variant.List (sym same) ∙ ap (λ v. form v behind) is) fit

-- the part at a place
all_at : (sorts : List Sort) (parts : List Tree) (i : ℕ) (part : Tree) → AllFit sorts parts → i < length sorts → At parts i part → FitsSort (get_or sorts i sort.Word) part
all_at [] parts i part fit within at = absurd (omega arith)
all_at (s ∷ sorts) [] i part fit within at = absurd fit
all_at (s ∷ sorts) (t ∷ parts) zero part fit within at = subst (FitsSort s) (sym at) fit.0
all_at (s ∷ sorts) (t ∷ parts) (suc i) part fit within at = all_at sorts parts i part fit.1 (omega arith) at

pub part_fits : (sorts : List Sort) (parts : List Tree) (i : ℕ) (part : Tree) → HasParts sorts parts → i < length sorts → At parts i part → FitsSort (get_or sorts i sort.Word) part
part_fits sorts parts i part has within at = all_at sorts parts i part has.fit within at

-- parts of one sort
pub all_same : (s : Sort) (n : ℕ) (parts : List Tree) → AllFit (replicate n s) parts → AllByRecursion (FitsSort s) parts
all_same s n [] fit = tt
all_same s zero (t ∷ parts) fit = absurd fit
all_same s (suc n) (t ∷ parts) fit = (fit.0, all_same s n parts fit.1)

all_rest : (first : List Sort) (s : Sort) (n : ℕ) (parts : List Tree) → AllFit (first ++ replicate n s) parts → AllByRecursion (FitsSort s) (drop (length first) parts)
all_rest [] s n parts fit = all_same s n parts fit
all_rest (f ∷ first) s n [] fit = absurd fit
all_rest (f ∷ first) s n (t ∷ parts) fit = all_rest first s n parts fit.1

pub rest_fits : (first : List Sort) (s : Sort) (n : ℕ) (parts : List Tree) → HasParts (first ++ replicate n s) parts → AllByRecursion (FitsSort s) (drop (length first) parts)
rest_fits first s n parts has = all_rest first s n parts has.fit

-- at least one part, all of one sort
pub some_fit : (s : Sort) (n : ℕ) (parts : List Tree) → HasParts (s ∷ replicate n s) parts → AllByRecursion (FitsSort s) parts
some_fit s n [] has = absurd has.fit
some_fit s n (t ∷ parts) has = (has.fit.0, all_same s n parts has.fit.1)

-- at least two parts, all of one sort: those behind the first
pub behind_first : (s : Sort) (n : ℕ) (parts : List Tree) → HasParts (s ∷ s ∷ replicate n s) parts → AllByRecursion (FitsSort s) (drop 1 parts)
behind_first s n [] has = absurd has.fit
behind_first s n (t ∷ []) has = absurd has.fit.1
behind_first s n (t ∷ u ∷ parts) has = (has.fit.1.0, all_same s n parts has.fit.1.1)

-- the parts before the last
all_before : (s last : Sort) (n : ℕ) (parts : List Tree) → AllFit (replicate n s ++ last ∷ []) parts → AllByRecursion (FitsSort s) (take n parts)
all_before s last zero parts fit = tt
all_before s last (suc n) [] fit = tt
all_before s last (suc n) (t ∷ parts) fit = (fit.0, all_before s last n parts fit.1)

pub before_fits : (s last : Sort) (n : ℕ) (parts : List Tree) → HasParts (replicate n s ++ last ∷ []) parts → AllByRecursion (FitsSort s) (take n parts)
before_fits s last n parts has = all_before s last n parts has.fit

all_last : (s last : Sort) (n : ℕ) (parts : List Tree) (part : Tree) → AllFit (replicate n s ++ last ∷ []) parts → At parts n part → FitsSort last part
all_last s last zero [] part fit at = absurd fit
all_last s last zero (t ∷ parts) part fit at = subst (FitsSort last) (sym at) fit.0
all_last s last (suc n) [] part fit at = absurd fit
all_last s last (suc n) (t ∷ parts) part fit at = all_last s last n parts part fit.1 at

pub last_fits : (s last : Sort) (n : ℕ) (parts : List Tree) (part : Tree) → HasParts (replicate n s ++ last ∷ []) parts → At parts n part → FitsSort last part
last_fits s last n parts part has at = all_last s last n parts part has.fit at

pub one_last : (s last : Sort) (n : ℕ) (parts : List Tree) → HasParts (replicate n s ++ last ∷ []) parts → (part : Tree) × (take n parts ++ part ∷ [] ≡ parts) × FitsSort last part
one_last s last zero [] has = absurd has.fit
one_last s last zero (t ∷ []) has = (t, refl, has.fit.0)
one_last s last zero (t ∷ u ∷ parts) has = absurd has.fit.1
one_last s last (suc n) [] has = absurd has.fit
one_last s last (suc n) (t ∷ parts) has =
    let found = one_last s last n parts (record { count = let e = has.count in omega arith; fit = has.fit.1 }) in
    (found.0, ap (λ ts. t ∷ ts) found.1, found.2)

-- a tree that is a name
word_of_roll : (y : Tree-F Tree) (w : List ℕ) → (judged (roll-Tree y)).word ≡ Some w → roll-Tree y ≡ word w
word_of_roll (Tree-F.Atom (token.Name x)) w e =
    let f = sym (ap (λ (j : Judged). j.word) (fold-roll-Tree Judged (judged_layer newest) (Tree-F.Atom (token.Name x)))) ∙ e in rolls-Atom (token.Name x) ∙ ap word (cc)
word_of_roll (Tree-F.Atom (token.Number n)) w e =
    let f = sym (ap (λ (j : Judged). j.word) (fold-roll-Tree Judged (judged_layer newest) (Tree-F.Atom (token.Number n)))) ∙ e in absurd (cc)
word_of_roll (Tree-F.List parts) w e =
    let f = sym (ap (λ (j : Judged). j.word) (fold-roll-Tree Judged (judged_layer newest) (Tree-F.List parts))) ∙ e in absurd (cc)

named : (t : Tree) (w : List ℕ) → (judged t).word ≡ Some w → t ≡ word w
named t w e = sym (roll-out-Tree t) ∙ word_of_roll (out-Tree t) w (ap (λ u. (judged u).word) (roll-out-Tree t) ∙ e)

-- a list of a sort whose forms are told by their words begins with a word
no_word : (s : Sort) (parts : List Judged) (n : ℕ) → form_of newest s None ≡ None → list_fits (sorts_for newest s None n) parts ≡ true → ⊥
no_word s parts n none fit = absurd (let e = ap (λ o. list_fits (option_and_then (λ f. sorts_of f n) o) parts) none in cc)

headed_by : (s : Sort) (t : Tree) (parts : List Tree) (found : Option (List ℕ)) → (judged t).word ≡ found → form_of newest s None ≡ None →
    list_fits (sorts_for newest s found (length (map judged (t ∷ parts)))) (map judged (t ∷ parts)) ≡ true → IsHeaded (t ∷ parts)
headed_by s t parts None is none fit = absurd (no_word s (map judged (t ∷ parts)) (length (map judged (t ∷ parts))) none fit)
headed_by s t parts (Some w) is none fit = record { head = w; behind = parts; is = ap (λ u. u ∷ parts) (named t w is) }

pub headed : (s : Sort) (parts : List Tree) → form_of newest s None ≡ None → FitsSort s (variant.List parts) → IsHeaded parts
headed s [] none fit = absurd (no_word s [] 0 none (list_from s [] fit))
headed s (t ∷ parts) none fit = headed_by s t parts (judged t).word refl none (list_from s (t ∷ parts) fit)

module _ (s : Sort) (w : List ℕ) (f : Form) (has : HasOneForm s w f) where
  word_by : (x : List ℕ) (parts : List Tree) (b : Bool) → bytes_eq x w ≡ b → FitsSort s (form x parts) → x ≡ w
  word_by x parts true e fit = (bytes_eq-Decides x w).0 e
  word_by x parts false e fit = absurd (no_form s x parts (
      has.some x ∙ ap (λ rows. option_and_then (form_in newest) (row_of rows x)) has.rows
      ∙ ap (λ b. option_and_then (form_in newest) (if b then Some f else None)) e) fit)

  -- its word
  pub one_word : (x : List ℕ) (parts : List Tree) → FitsSort s (form x parts) → x ≡ w
  one_word x parts fit = word_by x parts (bytes_eq x w) refl fit

  -- a list that fits begins with it
  pub one_form : (parts : List Tree) → FitsSort s (variant.List parts) → (behind : List Tree) × (parts ≡ word w ∷ behind) × FitsSort s (form w behind)
  one_form parts fit =
      let head = headed s parts has.none fit in
      let fits = subst (λ ps. FitsSort s (variant.List ps)) head.is fit in
      let same = one_word head.head head.behind fits in
      (head.behind, head.is ∙ ap (λ x. word x ∷ head.behind) same, subst (λ x. FitsSort s (form x head.behind)) same fits)

one_held : (inner : Sort) (parts : List Tree) → HasParts (inner ∷ []) parts → (part : Tree) × (parts ≡ part ∷ []) × FitsSort inner part
one_held inner [] h = absurd h.fit
one_held inner (part ∷ []) h = (part, refl, h.fit.0)
one_held inner (part ∷ more ∷ parts) h = absurd h.fit.1

module _ (s : Sort) (w : List ℕ) (inner : Sort) (has : HoldsOne s w inner) where
  -- a list that fits is the word and one part
  pub held_list : (parts : List Tree) → FitsSort s (variant.List parts) → (part : Tree) × (parts ≡ word w ∷ part ∷ []) × FitsSort inner part
  held_list parts fit =
      let found = one_form s w (exactly (sort.Word ∷ inner ∷ [])) has parts fit in
      let one = one_held inner found.0 (exact_parts s w (inner ∷ []) found.0 has.formed found.2) in
      (one.0, found.1 ∙ ap (λ ps. word w ∷ ps) one.1, one.2)

  -- the part that it holds
  pub held_part : (x : List ℕ) (tree part : Tree) → tree ≡ form x (part ∷ []) → FitsSort s tree → (form w (part ∷ []) ≡ tree) × FitsSort inner part
  held_part x tree part is fit =
      let fits = subst (FitsSort s) is fit in
      let same = one_word s w (exactly (sort.Word ∷ inner ∷ [])) has x (part ∷ []) fits in
      let h = exact_parts s w (inner ∷ []) (part ∷ []) has.formed (subst (λ v. FitsSort s (form v (part ∷ []))) same fits) in
      (sym (is ∙ ap (λ v. form v (part ∷ [])) same), h.fit.0)

pub no_atom : (s : Sort) (t : Token) → HasNoAtoms s → FitsSort s (variant.Atom t) → ⊥
no_atom s (token.Number n) lacks fit = let e = fits_of_token s (token.Number n) fit in let f = lacks.numbers n in absurd (cc)
no_atom s (token.Name x) lacks fit = let e = fits_of_token s (token.Name x) fit in let f = lacks.names x in absurd (cc)

list_layer : (s : Sort) (y : Tree-F Tree) → HasNoAtoms s → FitsSort s (roll-Tree y) → (parts : List Tree) × (roll-Tree y ≡ variant.List parts)
list_layer s (Tree-F.Atom t) lacks fit = absurd (no_atom s t lacks (subst (FitsSort s) (rolls-Atom t) fit))
list_layer s (Tree-F.List parts) lacks fit = (parts, rolls-List parts)

-- it is a list
pub is_list : (s : Sort) (tree : Tree) → HasNoAtoms s → FitsSort s tree → (parts : List Tree) × (tree ≡ variant.List parts)
is_list s tree lacks fit =
    let found = list_layer s (out-Tree tree) lacks (subst (FitsSort s) (sym (roll-out-Tree tree)) fit) in
    (found.0, sym (roll-out-Tree tree) ∙ found.1)

pub list_holder : (s : Sort) (w : List ℕ) (inner : Sort) (tree : Tree) (parts : List Tree) → HoldsOne s w inner → tree ≡ variant.List parts → FitsSort s tree → IsHolder tree
list_holder s w inner tree parts has is fit =
    let one = held_list s w inner has parts (subst (FitsSort s) is fit) in
    record { head = w; part = one.0; is = is ∙ ap variant.List one.1 }

-- a list that begins with the word of its sort
pub headed_list : (s : Sort) (w : List ℕ) (f : Form) (tree : Tree) → HasOneForm s w f → HasNoAtoms s → FitsSort s tree → IsHeadedList tree
headed_list s w f tree has lacks fit =
    let list = is_list s tree lacks fit in
    let one = one_form s w f has list.0 (subst (FitsSort s) list.1 fit) in
    record { head = w; behind = one.0; is = list.1 ∙ ap variant.List one.1 }

pub list_parts : (s : Sort) (w : List ℕ) (f : Form) (x : List ℕ) (tree : Tree) (parts : List Tree) → HasOneForm s w f → tree ≡ form x parts → FitsSort s tree →
    (form w parts ≡ tree) × FitsSort s (form w parts)
list_parts s w f x tree parts has is fit =
    let fits = subst (FitsSort s) is fit in
    let same = one_word s w f has x parts fits in
    (sym (is ∙ ap (λ v. form v parts) same), subst (λ v. FitsSort s (form v parts)) same fits)

-- a list of a word and one part
pub holder : (s : Sort) (w : List ℕ) (inner : Sort) (tree : Tree) → HoldsOne s w inner → HasNoAtoms s → FitsSort s tree → IsHolder tree
holder s w inner tree has lacks fit =
    let list = is_list s tree lacks fit in
    let one = held_list s w inner has list.0 (subst (FitsSort s) list.1 fit) in
    record { head = w; part = one.0; is = list.1 ∙ ap variant.List one.1 }

-- The other way: trees of the sorts of a form make a list that fits.
all_fit_of : (sorts : List Sort) (trees : List Tree) → AllFit sorts trees → all_fit sorts (map judged trees) ≡ true
all_fit_of [] [] all = refl
all_fit_of [] (tree ∷ trees) all = absurd all
all_fit_of (s ∷ sorts) [] all = absurd all
all_fit_of (s ∷ sorts) (tree ∷ trees) all = rw (all.0, all_fit_of sorts trees all.1) refl

pub form_fits : (s : Sort) (w : List ℕ) (parts : List Tree) (f : Form) (sorts : List Sort) → form_of newest s (Some w) ≡ Some f →
    sorts_of f (length parts + 1) ≡ Some (sort.Word ∷ sorts) → AllFit sorts parts → FitsSort s (form w parts)
form_fits s w parts f sorts formed counted all =
    ap (λ (j : Judged). j.fits s) (judged-List (word w ∷ parts))
    ∙ same_form s w parts f formed
    ∙ ap (λ found. list_fits found (judged (word w) ∷ map judged parts)) counted
    ∙ ap (λ b. b && all_fit sorts (map judged parts)) (ap (λ (j : Judged). j.fits sort.Word) (judged-Atom (token.Name w)))
    ∙ all_fit_of sorts parts all

pub place_fits : (s : Sort) (parts : List Tree) (f : Form) (sorts : List Sort) → ((found : Option (List ℕ)) → form_of newest s found ≡ Some f) →
    sorts_of f (length parts) ≡ Some sorts → AllFit sorts parts → FitsSort s (variant.List parts)
place_fits s parts f sorts formed counted all =
    ap (λ (j : Judged). j.fits s) (judged-List parts)
    ∙ ap (λ found. list_fits (option_and_then (λ g. sorts_of g (length (map judged parts))) found) (map judged parts)) (formed (first_word (map judged parts)))
    ∙ ap (λ n. list_fits (sorts_of f n) (map judged parts)) (length-map parts judged)
    ∙ ap (λ found. list_fits found (map judged parts)) counted
    ∙ all_fit_of sorts parts all

pub many_sorts : (first : List Sort) (s : Sort) (count n : ℕ) → n ≡ length first + count → sorts_of (many first s) n ≡ Some (first ++ replicate count s)
many_sorts first s count n e =
    let f : n - (length first + 0) ≡ count = omega arith in
    rw (le-leb (length first + 0) n (omega arith), f) (ap (λ sorts. Some sorts) (append-nil (first ++ replicate count s)))

pub exactly_sorts : (sorts : List Sort) (n : ℕ) → n ≡ length sorts → sorts_of (exactly sorts) n ≡ Some sorts
exactly_sorts sorts n e =
    let f : n - (length sorts + 0) ≡ 0 = omega arith in
    rw (le-leb (length sorts + 0) n (omega arith), f) (ap (λ found. Some found) (append-nil (sorts ++ []) ∙ append-nil sorts))

pub between_sorts : (first s last : Sort) (count n : ℕ) → n ≡ 2 + count →
    sorts_of (between (first ∷ []) s (last ∷ [])) n ≡ Some (first ∷ (replicate count s ++ last ∷ []))
between_sorts first s last count n e =
    let f : n - 2 ≡ count = omega arith in
    rw (le-leb 2 n (omega arith), f) refl

pub all_of_one : (s : Sort) (trees : List Tree) → AllByRecursion (FitsSort s) trees → AllFit (replicate (length trees) s) trees
all_of_one s [] all = tt
all_of_one s (tree ∷ trees) all = (all.0, all_of_one s trees all.1)

pub all_then_one : (s last : Sort) (trees : List Tree) (tree : Tree) → AllByRecursion (FitsSort s) trees → FitsSort last tree →
    AllFit (replicate (length trees) s ++ last ∷ []) (trees ++ tree ∷ [])
all_then_one s last [] tree all one = (one, tt)
all_then_one s last (t ∷ trees) tree all one = (all.0, all_then_one s last trees tree all.1 one)
