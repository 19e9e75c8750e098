-- How slots looked at in order end, one slot more at a time.
use Rattle.std.specs.Prelude.{Bool, true, false, cond, List, [], ◌∷◌, ◌++◌}
use Rattle.model.specs.Slot.{Slot, empty, torn, dead, cut, wrong, live, Entry, entry_of}
use Rattle.model.specs.State.{entries, holds}
use Rattle.judge.specs.declared.Ending.{Ending}
use Rattle.judge.specs.declared.Ending.TheVariants.{Full, Room, TornLast, TwinLast, Bad}

-- a written slot may follow written ones only
unfoldable pub behind : Ending → Ending → Ending
behind Full e = e
behind Room e = Bad
behind TornLast e = Bad
behind TwinLast e = Bad
behind Bad e = Bad

-- an empty slot follows
unfoldable pub leave_room : Ending → Ending
leave_room Full = Room
leave_room Room = Room
leave_room TornLast = TornLast
leave_room TwinLast = TwinLast
leave_room Bad = Bad

-- a slot follows, behind these entries
unfoldable pub turn : Ending → List Entry → Slot → Ending
turn e p empty = leave_room e
turn e p torn = behind e TornLast
turn e p dead = behind e Full
turn e p cut = behind e Full
turn e p wrong = Bad
turn e p (live b c) = behind e (cond (holds b p) TwinLast Full)

-- a row of slots
unfoldable pub judge : Ending → List Entry → List Slot → Ending
judge e p [] = e
judge e p (k ∷ ks) = judge (turn e p k) (p ++ entry_of k) ks

-- rows, each behind those before
unfoldable pub ring : Ending → List Entry → List (List Slot) → Ending
ring e p [] = e
ring e p (r ∷ rs) = ring (behind e (judge Full p r)) (p ++ entries r) rs

-- ---- tests on endings

unfoldable pub is_full : Ending → Bool
is_full Full = true
is_full Room = false
is_full TornLast = false
is_full TwinLast = false
is_full Bad = false

unfoldable pub is_bad : Ending → Bool
is_bad Full = false
is_bad Room = false
is_bad TornLast = false
is_bad TwinLast = false
is_bad Bad = true

-- in order: every slot written, or empty ones last
unfoldable pub in_order : Ending → Bool
in_order Full = true
in_order Room = true
in_order TornLast = false
in_order TwinLast = false
in_order Bad = false

unfoldable pub ends_torn : Ending → Bool
ends_torn Full = false
ends_torn Room = false
ends_torn TornLast = true
ends_torn TwinLast = false
ends_torn Bad = false

unfoldable pub ends_twin : Ending → Bool
ends_twin Full = false
ends_twin Room = false
ends_twin TornLast = false
ends_twin TwinLast = true
ends_twin Bad = false
