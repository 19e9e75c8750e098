-- What a check tells: the state of an image, the segments in use, their slots by kind, and the top's version and tally.
use Rattle.std.specs.Prelude.{ℕ, cond, List, eqb}
use Rattle.model.specs.Header.{Version, is_former, tally_of, no_bit_left}
use Rattle.model.specs.State.{Segment, next_number, next_index, top_version, State, clean, unfinished, damaged, case_a, case_b, case_c, case_d, state_of}
use Rattle.account_text.specs.Account.{shown}
use Rattle.qbx_census.specs.Census.{census_of}
use Rattle.qbx_state.specs.declared.Condition.{Condition}
use Rattle.qbx_state.specs.declared.Condition.TheVariants.{Clean, UnfinishedA, UnfinishedB, UnfinishedC, UnfinishedD, Damaged}
use Rattle.qbx_state.specs.declared.TopSeen.{TopSeen}
use Rattle.qbx_state.specs.declared.TopSeen.TheVariants.{Missing, Version1, Version2}
use Rattle.qbx_state.specs.declared.Report.{Report}

unfoldable pub condition_of : State → Condition
condition_of clean = Clean
condition_of (unfinished case_a) = UnfinishedA
condition_of (unfinished case_b) = UnfinishedB
condition_of (unfinished case_c) = UnfinishedC
condition_of (unfinished case_d) = UnfinishedD
condition_of damaged = Damaged

-- the index of the segment that the account does not look at, or N if it looks at all
unfoldable pub aside_in : ℕ → List Segment → Condition → ℕ
aside_in N l Clean = N
aside_in N l UnfinishedA = N
aside_in N l UnfinishedB = next_index N l
aside_in N l UnfinishedC = N
aside_in N l UnfinishedD = N
aside_in N l Damaged = N

-- a version, and of version 2 the tally and whether no bit is left
unfoldable pub version_told : Version → TopSeen
version_told e = cond (is_former e) Version1 (Version2 (tally_of e) (no_bit_left e))

-- the top's, if a segment is in use, whatever the state
unfoldable pub top_told : ℕ → List Segment → TopSeen
top_told N l = cond (eqb (next_number l) 0) Missing (version_told (top_version N l))

-- the slots counted are those that the account shows: an erase that is cut makes dead slots look cut
unfoldable pub report_of : ℕ → ℕ → List Segment → Report
report_of N B l = let c = census_of (shown N B l) in
    record { condition = condition_of (state_of N B l); segments = c.segments; live = c.live; dead = c.dead; cut = c.cut; empty = c.empty; top = top_told N l }
