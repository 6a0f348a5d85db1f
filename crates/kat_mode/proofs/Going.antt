-- Readings one behind the other: what is left to be read makes the whole.
use Rattle.std.proofs.Common.{◌≡◌, List, [], ◌++◌, Result, Ok, Err, refl, sym, ap, subst, ◌∙◌, append_assoc}
use Rattle.std.proofs.lemmas.List.{append-nil}
use Rattle.kat_syntax.specs.Tables.{Name}
use Rattle.kat_syntax.specs.Modes.{Reading, Read, Reader, and_read}
use Rattle.kat_mode.specs.declared.stop.Stop.{Stop}
use Rattle.kat_mode.specs.declared.stop.Stop.TheVariants.{At, Memory}
use Rattle.kat_mode.specs.Reading.{AreUnbound, GoesOn, Ends, Follows}

-- a reading is that of what is left, from names that are unbound now
abbrev pub LeftAt : List Name → List Name → Reading → Reader → Type 0
LeftAt old now reading rest =
    (left : List Name) × (reading ≡ rest left) × AreUnbound left now × GoesOn old now

-- what is left makes the whole
abbrev pub IsLeft : Reader → Reader → List Name → List Name → Type 0
IsLeft whole rest old now =
    (unbound : List Name) → AreUnbound unbound old → LeftAt old now (whole unbound) rest

goes_further : (old mid new : List Name) → GoesOn old mid → GoesOn mid new → GoesOn old new
goes_further old mid new (m, is) (n, on) =
    (m ++ n, on ∙ ap (λ t. t ++ n) is ∙ append_assoc old m n)

-- in the beginning all is left
pub all_left : (reader : Reader) (old : List Name) → IsLeft reader reader old old
all_left reader old = λ unbound here. (unbound, refl, here, ([], sym (append-nil old)))

-- a reading that begins later ends alike
pub further_ends : (old mid new : List Name) (result : Result (Unit {0}) Stop) (reading : Reading) →
    GoesOn old mid → Ends mid new result reading → Ends old new result reading
further_ends old mid new (Ok x) reading on (u, read, here, more) =
    (u, read, here, goes_further old mid new on more)
further_ends old mid new (Err (At x)) reading on stops = stops
further_ends old mid new (Err Memory) reading on stops = tt

stepped : (old now new : List Name) (reading : Reading) (rest part next : Reader) (v : List Name) →
    reading ≡ rest v → rest v ≡ and_read (part v) next → GoesOn old now →
    Ends now new (Ok tt) (part v) → LeftAt old new reading next
stepped old now new reading rest part next v is splits on (w, read, here, more) =
    (w, is ∙ splits ∙ ap (λ r. and_read r next) read, here, goes_further old now new on more)

step_at : (old now new : List Name) (reading : Reading) (rest part next : Reader) →
    ((u : List Name) → rest u ≡ and_read (part u) next) → Follows part now new (Ok tt) →
    LeftAt old now reading rest → LeftAt old new reading next
step_at old now new reading rest part next splits follows (v, is, here, on) =
    stepped old now new reading rest part next v is (splits v) on (follows v here)

-- a part was read
pub step : (whole rest part next : Reader) (old now new : List Name) → IsLeft whole rest old now →
    ((u : List Name) → rest u ≡ and_read (part u) next) → Follows part now new (Ok tt) →
    IsLeft whole next old new
step whole rest part next old now new left splits follows =
    λ unbound here. step_at old now new (whole unbound) rest part next splits follows
    (left unbound here)

stopped_by : (old now new end : List Name) (reading : Reading) (rest part next : Reader)
    (v : List Name) (error : Stop) → reading ≡ rest v → rest v ≡ and_read (part v) next →
    Ends now new (Err error) (part v) → Ends old end (Err error) reading
stopped_by old now new end reading rest part next v (At x) is splits stops = is ∙ splits ∙ ap
    (λ r. and_read r next) stops
stopped_by old now new end reading rest part next v Memory is splits stops = tt

stop_at : (old now new end : List Name) (reading : Reading) (rest part next : Reader)
    (error : Stop) → ((u : List Name) → rest u ≡ and_read (part u) next) →
    Follows part now new (Err error) →
    LeftAt old now reading rest → Ends old end (Err error) reading
stop_at old now new end reading rest part next error splits follows (v, is, here, on) =
    stopped_by old now new end reading rest part next v error is (splits v) (follows v here)

-- a part stopped
pub stop : (whole rest part next : Reader) (old now new end : List Name) (error : Stop) →
    IsLeft whole rest old now → ((u : List Name) → rest u ≡ and_read (part u) next) →
    Follows part now new (Err error) → Follows whole old end (Err error)
stop whole rest part next old now new end error left splits follows =
    λ unbound here. stop_at old now new end (whole unbound) rest part next error splits follows
    (left unbound here)

last_ends : (old now new : List Name) (reading : Reading) (part : Reader) (v : List Name)
    (result : Result (Unit {0}) Stop) → reading ≡ part v → GoesOn old now →
    Ends now new result (part v) →
    Ends old new result reading
last_ends old now new reading part v (Ok x) is on (w, read, here, more) =
    (w, is ∙ read, here, goes_further old now new on more)
last_ends old now new reading part v (Err (At x)) is on stops = is ∙ stops
last_ends old now new reading part v (Err Memory) is on stops = tt

last_at : (old now new : List Name) (reading : Reading) (part : Reader)
    (result : Result (Unit {0}) Stop) → Follows part now new result → LeftAt old now reading part →
    Ends old new result reading
last_at old now new reading part result follows (v, is, here, on) =
    last_ends old now new reading part v result is on (follows v here)

-- the last part was read
pub last : (whole part : Reader) (old now new : List Name) (result : Result (Unit {0}) Stop) →
    IsLeft whole part old now → Follows part now new result → Follows whole old new result
last whole part old now new result left follows =
    λ unbound here. last_at old now new (whole unbound) part result follows (left unbound here)

-- nothing is left
pub nothing_left : (whole : Reader) (old now : List Name) → IsLeft whole (λ u. Read u) old now →
    Follows whole old now (Ok tt)
nothing_left whole old now left = λ unbound here. left unbound here

-- readings that are the same are followed alike
pub follows_as : (whole part : Reader) (old new : List Name) (result : Result (Unit {0}) Stop) →
    ((u : List Name) → whole u ≡ part u) → Follows part old new result →
    Follows whole old new result
follows_as whole part old new result same follows =
    λ unbound here. subst (Ends old new result) (sym (same unbound)) (follows unbound here)

-- two parts, of which the first was read
pub both : (part next : Reader) (old mid new : List Name) (result : Result (Unit {0}) Stop) →
    Follows part old mid (Ok tt) → Follows next mid new result →
    Follows (λ u. and_read (part u) next) old new result
both part next old mid new result first second =
    last (λ u. and_read (part u) next) next old mid new result
    (step (λ u. and_read (part u) next) (λ u. and_read (part u) next) part next old old mid
    (all_left (λ u. and_read (part u) next) old) (λ u. refl) first)
    second

stops_first : (reading : Reading) (next : Reader) (old new end : List Name) (error : Stop) →
    Ends old new (Err error) reading → Ends old end (Err error) (and_read reading next)
stops_first reading next old new end (At x) stops = ap (λ r. and_read r next) stops
stops_first reading next old new end Memory stops = tt

-- a first part that stops, whatever is behind it
pub first_stops : (part : Reader) (next : List Name → Reader) (old new end : List Name)
    (error : Stop) → Follows part old new (Err error) →
    Follows (λ u. and_read (part u) (next u)) old end (Err error)
first_stops part next old new end error first =
    λ unbound here. stops_first (part unbound) (next unbound) old new end error (first unbound here)
