-- A put cut anywhere, in making room or after it: the old table, or the new one.
use Rattle.std.specs.Prelude.{ℕ, ◌≡◌, true, List, ◌++◌}
use Rattle.std.proofs.Common.{◌∙◌, inl, inr, ⊎_elim}
use Rattle.model.specs.Chip.{Image, Bytes, right_size, run}
use Rattle.model.specs.State.{entries_in, view}
use Rattle.model.specs.Steps.{room_for, write_at_top, mark_old}
use Rattle.model.specs.Table.{store, table_of}
use Rattle.model.specs.Answers.{put}
use Rattle.model.specs.Histories.{shown}
use Rattle.model.proofs.Laws.Chip.{cut_append}
use Rattle.model.proofs.Laws.Tables.{agree_trans}
use Rattle.bridge.specs.Predicted.{after_put}
use Rattle.bridge.specs.Held.{held_of_clean, clean_view}
use Rattle.bridge.specs.Requests.{put_valid, room_carries, roomed_below, roomed_held, roomed_former, roomed_clean, roomed_gap, roomed_table, after_clean, after_table, put_steps_lem}
use Rattle.crash.specs.Sound.{Clean, Accepted, CutOf, former_in, LeftWith}
use Rattle.crash.proofs.RoomMade.{room_cut}
use Rattle.crash.proofs.WriteTop.{put_into_cut}

pub put_cut : (N B : ℕ) (s u : Image) (b : ℕ) (c : List ℕ) → right_size N B s ≡ true → Bytes s → Clean N B s → Bytes c → Accepted N B s (put b c)
    → CutOf N B s (put b c) u → LeftWith N B u (table_of N B s) (store b c (table_of N B s)) (former_in N B s)
unfolding table_of after_put
put_cut N B s u b c z y h yc e k =
    let v = view N B s in
    let r = (room_for N B v).result in
    let xs = (room_for N B v).steps in
    ⊎_elim
    (λ d. let q = room_cut N B s v (held_of_clean N B s z h) y (clean_view N B s z h) (room_carries N B s z h b c y yc e) (roomed_below N B s z h b c y yc e) u d in (q.0, inl q.1, q.2))
    (λ d.
    let q = put_into_cut N B (run B xs s) r (roomed_held N B s z h b c y yc e) (roomed_clean N B s z h b c y yc e) (roomed_gap N B s z h b c y yc e)
    b c (put_valid N B s z h b c y yc e) (after_clean N B s z h b c y yc e) u d in (
      q.0,
      ⊎_elim
          (λ old. inl (agree_trans (shown N B u) (entries_in r) (entries_in v) old (roomed_table N B s z h b c y yc e)))
          (λ new. inr (agree_trans (shown N B u) (entries_in (after_put N B b c v)) (store b c (entries_in v)) new (after_table N B s z h b c y yc e)))
          q.1,
      q.2 ∙ roomed_former N B s z h b c y yc e,
    ))
    (cut_append B xs (write_at_top N B b c r ++ mark_old N B b r) s u (rw (put_steps_lem N B s z h b c y yc e) at k))
