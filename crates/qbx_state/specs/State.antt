-- What is said of the state of an image.
use Rattle.std.specs.Prelude.{ℕ, Bool, cond, List, [], ◌++◌}
use Rattle.text.specs.Text.{text}
use Rattle.text.specs.Decimal.{decimal}
use Rattle.qbx_state.specs.declared.Condition.{Condition}
use Rattle.qbx_state.specs.declared.Condition.TheVariants.{Clean, UnfinishedA, UnfinishedB, UnfinishedC, UnfinishedD, Damaged}
use Rattle.qbx_state.specs.declared.TopSeen.{TopSeen}
use Rattle.qbx_state.specs.declared.TopSeen.TheVariants.{Missing, Version1, Version2}
use Rattle.qbx_state.specs.declared.Report.{Report}

unfoldable pub condition_text : Condition → List ℕ
condition_text Clean = text "clean"
condition_text UnfinishedA = text "unfinished (a)"
condition_text UnfinishedB = text "unfinished (b)"
condition_text UnfinishedC = text "unfinished (c)"
condition_text UnfinishedD = text "unfinished (d)"
condition_text Damaged = text "damaged"

unfoldable pub slots_text : ℕ → ℕ → ℕ → ℕ → List ℕ
slots_text live dead cut empty = (text ", slots live " ++ decimal live) ++ (text ", dead " ++ decimal dead) ++ (text ", cut " ++ decimal cut) ++ (text ", empty " ++ decimal empty)

-- version 2 with its tally, as ", version 2, tally 3"
unfoldable pub tally_text : ℕ → Bool → List ℕ
tally_text tally no_bit_left = (text ", version 2, tally " ++ decimal tally) ++ cond no_bit_left (text ", no bit left") []

unfoldable pub top_text : TopSeen → List ℕ
top_text Missing = []
top_text Version1 = text ", version 1"
top_text (Version2 tally no_bit_left) = tally_text tally no_bit_left

-- as "clean: segments in use 2, slots live 5, dead 3, cut 0, empty 22, version 2, tally 0"
unfoldable pub report_text : Report → List ℕ
report_text r =
    condition_text r.condition ++ (text ": segments in use " ++ decimal r.segments) ++ slots_text r.live r.dead r.cut r.empty ++ top_text r.top ++ text "\n"
