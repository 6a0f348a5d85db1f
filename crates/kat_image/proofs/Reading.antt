-- The reading of the lines.
use Rattle.std.proofs.Common.{◌≡◌, ◌≢◌, ℕ, ◌+◌, ◌<◌, ◌≤◌, List, [], ◌∷◌, ◌++◌, length, map, replicate, Bool, true, false, Option, None, Some, inl, inr, ⊎_elim, refl, sym, ap, ◌∙◌, subst, arith, append_assoc}
use Rattle.std.specs.Prelude.{slice_get, IsTrue, IsFalse}
use Rattle.std.proofs.lemmas.Grind.{common_steps}
use Rattle.std.proofs.lemmas.List.{length-set, get_or-replicate, length-replicate}
use Rattle.std.proofs.lemmas.Option.{slice_get_within, get_or_from_slice_get}
use Rattle.kat_value.specs.declared.value.Value.{Value}
use Rattle.kat_ast.specs.Spec.{Spec}
use Rattle.kat_syntax.specs.Start.{start_of}
use Rattle.kat_image.specs.declared.image.Image.{Image}
use Rattle.kat_image.specs.declared.setting.Setting.{Setting}
use Rattle.kat_image.specs.declared.setting.Setting.TheVariants.{Register, Cells}
use Rattle.kat_image.specs.Lines.{setting_of}
use Rattle.kat_image.specs.Image.{Line, Place, RegisterAt, CellAt, Sets, IsUnset, MayFollow, HasItsValue, IsImageOf, IsFirstRefused, given, lines_of, value_at}
use Rattle.kat_image.specs.Reader.{HasRoom, IsReadTo, IsFree, IsSetFree, IsTaken, IsWithin, Takes, flag_at, with_setting}
use Rattle.kat_image.proofs.Settings.{some_same, IsSet-more, IsSet-last, IsUnset-push, AreSettings-push, HasItsValue-kept, HasItsValue-set, empty_sets}
use Rattle.kat_image.proofs.Places.{IsPlaced, is_placed, length-with_items, clash}

none_set : (n at : ℕ) → slice_get (replicate n false) at ≡ Some true → false ≡ true
none_set n at e =
    let lt : at < length (replicate n false) = slice_get_within (replicate n false) at true e in
    let within : at < n = omega (arith, length-replicate n false) in
    sym (get_or-replicate n at false false within) ∙ get_or_from_slice_get (replicate n false) at
    true false e

flags_differ : ◌≡◌ {A = Option Bool} (Some true) (Some false) → ⊥
flags_differ e = cc

module _ (spec : Spec) where
  not_set : (place : Place) → IsUnset spec [] place
  not_set place v h = let lt = h.1.1 in absurd (omega arith)

  no_flag : (image : Image) (place : Place) →
      image.registers_set ≡ replicate (length (start_of spec).registers) false →
      image.cells_set ≡ replicate (length (start_of spec).cells) false →
      flag_at image place ≡ Some true → false ≡ true
  no_flag image (RegisterAt at) rs cs e =
      none_set (length (start_of spec).registers) at (ap (λ l. slice_get l at) (sym rs) ∙ e)
  no_flag image (CellAt at) rs cs e =
      none_set (length (start_of spec).cells) at (ap (λ l. slice_get l at) (sym cs) ∙ e)

  pub read_none : (image : Image) → image.state ≡ start_of spec →
      image.registers_set ≡ replicate (length (start_of spec).registers) false →
      image.cells_set ≡ replicate (length (start_of spec).cells) false → IsReadTo spec [] image
  read_none image state rs cs =
      record {
        settings = λ k d lt. absurd (omega arith);
        values = λ place. inr (not_set place, ap (λ s. value_at spec s place) state);
        free = λ place e. not_set place;
        taken = λ place e unset. let no = no_flag image place rs cs e in cc;
        first = ap (λ s. s.lo) state;
      }

  pub read_empty : (lines : List Line) (line : Line) (image : Image) → line ≡ [] → IsReadTo spec
      lines image → IsReadTo spec (lines ++ line ∷ []) image
  read_empty lines line image empty read =
      record {
        settings = AreSettings-push spec lines line read.settings (inl empty);
        values = λ at. HasItsValue-kept spec lines line image.state image.state
            at (read.values at) (λ v sets. empty_sets spec line at v empty sets) refl;
        free = λ at e. IsUnset-push spec lines line at (read.free at e)
            (λ v sets. empty_sets spec line at v empty sets);
        taken = λ at e unset. read.taken at e (λ v h. unset v (IsSet-more spec lines line at v h));
        first = read.first;
      }

  -- a line gives a place what its setting does
  given_it : (line : Line) (s : Setting) (at : Place) (v : Value) → setting_of spec line ≡ Some s →
      Sets spec line at v → given spec s at ≡ Some v
  given_it line s at v said sets =
      ap (λ t. given spec t at) (some_same s sets.setting (sym said ∙ sets.said)) ∙ sets.gives

  by_given : (place : Place) (s : Setting) (P : Type 0) →
      ((v : Value) → given spec s place ≡ Some v → P) → (given spec s place ≡ None → P) →
      (o : Option Value) → given spec s place ≡ o → P
  by_given place s P some none (Some v) e = some v e
  by_given place s P some none None e = none e

  kept_first : (image : Image) (s : Setting) → (with_setting image s).state.lo ≡ image.state.lo
  kept_first image (Register at value) = refl
  kept_first image (Cells at numbers) = refl

  -- a line was taken
  pub read_set : (lines : List Line) (line : Line) (image : Image) (s : Setting) →
      IsReadTo spec lines image → HasRoom spec image → setting_of spec line ≡ Some s →
      IsWithin image s → IsFree spec image s →
      IsReadTo spec (lines ++ line ∷ []) (with_setting image s)
  read_set lines line image s read room said within free =
      let new = with_setting image s in
      let placed : (place : Place) → IsPlaced spec image s place =
      λ place. is_placed spec image s place within room.registers_set room.cells_set in
      let not_it : (place : Place) → given spec s place ≡ None → (v : Value) →
      Sets spec line place v → ⊥ =
      λ place none v sets. clash v (sym (given_it line s place v said sets) ∙ none) in
      let sets_it : (place : Place) (v : Value) → given spec s place ≡ Some v →
      Sets spec line place v =
      λ place v e. record { setting = s; said = said; gives = e } in
      record {
        settings = AreSettings-push spec lines line read.settings
            (inr (record {
              setting = s;
              said = said;
              free = λ place v e. read.free place (free place v e);
            }));
        values = λ place. by_given place s (HasItsValue spec (lines ++ line ∷ []) new.state place)
            (λ v e. HasItsValue-set spec lines line new.state place v (sets_it place v e)
            ((placed place).value v e))
            (λ none. HasItsValue-kept spec lines line image.state new.state place
            (read.values place) (not_it place none) ((placed place).kept none))
            (given spec s place) refl;
        free = λ place flag. by_given place s (IsUnset spec (lines ++ line ∷ []) place)
            (λ v e. absurd (flags_differ (sym ((placed place).flag v e) ∙ flag)))
            (λ none. IsUnset-push spec lines line place
            (read.free place (sym ((placed place).old none) ∙ flag)) (not_it place none))
            (given spec s place) refl;
        taken = λ place flag unset. by_given place s ⊥
            (λ v e. unset v (IsSet-last spec lines line place v (sets_it place v e)))
            (λ none. read.taken place (sym ((placed place).old none) ∙ flag)
            (λ v h. unset v (IsSet-more spec lines line place v h)))
            (given spec s place) refl;
        first = kept_first image s ∙ read.first;
      }

  -- a line that is not of the form, or of which a place was set
  pub refused_form : (lines : List Line) (line : Line) → line ≢ [] → setting_of spec line ≡ None →
      MayFollow spec lines line → ⊥
  refused_form lines line some none may =
      ⊎_elim some (λ h. clash h.setting (sym h.said ∙ none)) may

  pub refused_set : (lines : List Line) (line : Line) (image : Image) (s : Setting) → line ≢ [] →
      IsReadTo spec lines image → setting_of spec line ≡ Some s → IsTaken spec image s →
      MayFollow spec lines line → ⊥
  refused_set lines line image s some read said t may =
      ⊎_elim some
      (λ h.
      let same : s ≡ h.setting = some_same s h.setting (sym said ∙ h.said) in
      read.taken t.place t.taken
      (h.free t.place t.value (ap (λ r. given spec r t.place) (sym same) ∙ t.gives)))
      may

  -- what setting says of the line
  pub takes_set : (lines : List Line) (line : Line) (old new : Image) (s : Setting) (b : Bool) →
      line ≢ [] → IsReadTo spec lines old → HasRoom spec old → setting_of spec line ≡ Some s →
      IsWithin old s → (IsTrue b → IsSetFree spec old s new) → (IsFalse b → IsTaken spec old s) →
      Takes spec lines line b new
  takes_set lines line old new s true some read room said within set taken =
      let h = set refl in
      subst (IsReadTo spec (lines ++ line ∷ [])) (sym h.set)
      (read_set lines line old s read room said within h.free)
  takes_set lines line old new s false some read room said within set taken =
      refused_set lines line old s some read said (taken refl)

  -- an image keeps its room
  pub room_kept : (image : Image) (s : Setting) → HasRoom spec image →
      HasRoom spec (with_setting image s)
  room_kept image (Register at value) room =
      record {
        registers = length-set image.state.registers at value ∙ room.registers;
        cells = room.cells;
        registers_set = length-set image.registers_set at true ∙ room.registers_set
            ∙ sym (length-set image.state.registers at value);
        cells_set = room.cells_set;
        lo = room.lo;
        small = room.small;
      }
  room_kept image (Cells at numbers) room =
      let marks = map (λ (number : ℕ). true) numbers in
      let cells = length-with_items at numbers image.state.cells in
      record {
        registers = room.registers;
        cells = cells ∙ room.cells;
        registers_set = room.registers_set;
        cells_set = length-with_items at marks image.cells_set ∙ room.cells_set ∙ sym cells;
        lo = room.lo;
        small = omega (arith, cells, room.small);
      }

-- an image keeps its room, whether something was set or not
pub room_after : (spec : Spec) (old new : Image) (s : Setting) (b : Bool) → HasRoom spec old →
    (IsTrue b → (spec : Spec) → IsSetFree spec old s new) → (IsFalse b → new ≡ old) →
    HasRoom spec new
room_after spec old new s true room set kept =
    subst (HasRoom spec) (sym (set refl spec).set) (room_kept spec old s room)
room_after spec old new s false room set kept = subst (HasRoom spec) (sym (kept refl)) room

-- the lines so far, and those of what is left
pub record Reads (spec : Spec) (whole rest : List ℕ) (number : ℕ) (image : Image) : Type 0 where
  pub lines : List Line
  pub read : IsReadTo spec lines image
  pub room : HasRoom spec image
  pub split : lines_of whole ≡ lines ++ lines_of rest
  pub counted : number ≡ length lines + 1
  pub small : length lines + length rest ≤ length whole

pub reads_none : (spec : Spec) (whole : List ℕ) (image : Image) → IsReadTo spec [] image →
    HasRoom spec image → Reads spec whole whole 1 image
reads_none spec whole image read room = record {
  lines = [];
  read = read;
  room = room;
  split = refl;
  counted =
      refl;
  small = omega arith;
}

pub reads_more : (spec : Spec) (whole rest more : List ℕ) (line : Line) (number : ℕ)
    (old new : Image) → (r : Reads spec whole rest number old) → lines_of rest ≡ line ∷ lines_of
    more → length more < length rest → IsReadTo spec (r.lines ++ line ∷ []) new → HasRoom spec new →
    Reads spec whole more (number + 1) new
reads_more spec whole rest more line number old new r first shorter read room =
    record {
      lines = r.lines ++ line ∷ [];
      read = read;
      room = room;
      split = r.split ∙ ap (λ l. r.lines ++ l) first ∙ sym (append_assoc r.lines (line ∷ [])
          (lines_of more));
      counted = let e = r.counted in grind (arith, common_steps);
      small = let e = r.small in grind (arith, common_steps);
    }

pub reads_all : (spec : Spec) (whole rest : List ℕ) (line : Line) (number : ℕ) (old new : Image) →
    (r : Reads spec whole rest number old) → lines_of rest ≡ line ∷ [] → IsReadTo spec
    (r.lines ++ line ∷ []) new → IsImageOf spec whole new.state
reads_all spec whole rest line number old new r first read =
    let all : r.lines ++ line ∷ [] ≡ lines_of whole = ap (λ l. r.lines ++ l) (sym first) ∙ sym
    r.split in
    let there : IsReadTo spec (lines_of whole) new = subst (λ l. IsReadTo spec l new) all read in
    record {
      settings = there.settings;
      values = there.values;
      first = there.first;
    }

pub reads_fault : (spec : Spec) (whole rest : List ℕ) (line : Line) (more : List Line) (number : ℕ)
    (image : Image) → (r : Reads spec whole rest number image) → lines_of rest ≡ line ∷ more →
    (MayFollow spec r.lines line → ⊥) → IsFirstRefused spec whole number
reads_fault spec whole rest line more number image r first refused =
    record {
      lines = r.lines;
      line = line;
      rest = more;
      counted = r.counted;
      split = r.split ∙ ap (λ l. r.lines ++ l) first;
      taken = r.read.settings;
      refused = refused;
    }

pub no_lines : (spec : Spec) → IsImageOf spec [] (start_of spec)
no_lines spec =
    let image : Image = record {
      state = start_of spec;
      lo = 0;
      registers_set = replicate (length (start_of spec).registers) false;
      cells_set = replicate (length (start_of spec).cells) false;
    } in
    let read = read_empty spec [] [] image refl (read_none spec image refl refl refl) in
    record { settings = read.settings; values = read.values; first = read.first }
