-- Goals in frames, and what one asking makes of them.
use Rattle.std.specs.Prelude.{◌≡◌, ℕ, Bool, true, false, List, [], ◌∷◌, ◌++◌, map}
use Rattle.kat_solver.specs.declared.frames.Frame.{Frame}
use Rattle.kat_solver.specs.Prove.{Asked, ask, Next, No, More}

-- the goals of a frame: its goal, and then the others
abbrev pub asked_in : Frame → List Asked
asked_in frame = ask frame.settled frame.goal ∷ map (ask frame.settled) frame.others

-- the goals of frames, those of the last frame first
abbrev pub asked_of : List Frame → List Asked
asked_of [] = []
asked_of (frame ∷ frames) = asked_of frames ++ asked_in frame

-- what one asking says: a no, or that it goes on with further goals before the rest, and with so
-- many splits
abbrev pub IsNext : Bool → ℕ → List Frame → Next → List Asked → Type 0
IsNext goes splits frames No rest = goes ≡ false
IsNext goes splits frames (More goals left) rest =
    (goes ≡ true) × (splits ≡ left) × (asked_of frames ≡ goals ++ rest)
