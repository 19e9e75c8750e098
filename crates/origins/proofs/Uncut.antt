-- Sequences of demand 3 as histories of demand 2: without a cut there is no event that a slot could have been torn by.
use Rattle.std.specs.Prelude.{ℕ, refl, ◌≢◌, Bool, true, false, List, [], ◌∷◌}
use Rattle.std.proofs.Common.{sym, ap, inl, inr, true≢false}
use Rattle.model.specs.Chip.{Image, run}
use Rattle.model.specs.State.{Place}
use Rattle.model.specs.Steps.{format_steps}
use Rattle.model.specs.Answers.{Request, format, put, delete, read, read_or, recover, outcome_of}
use Rattle.model.specs.Histories.{Reply, Seen, answered, lost, reply_of, Proper, Event, History, wears}
use Rattle.model.specs.Sequences.{Call, play, observe, observed, InSequence, Uncut}
use Rattle.crash.specs.Machine.{IsCut, OnTable}
use Rattle.origins.specs.Law.{Unformatted, CutIn, NoneUncut}
use Rattle.origins.proofs.Theorem.{cut_tells}

-- the events of a sequence
unfoldable pub events_of : ℕ → ℕ → Image → List Call → List Event
events_of N B s [] = []
events_of N B s (x ∷ xs) =
    record { request = x.request; worn = wears N B s; seen = answered (reply_of N B s x.allowance x.request) } ∷ events_of N B (outcome_of N B s x.allowance x.request).image xs

in_sequence : (r : Request) → InSequence r → Proper r × OnTable r
in_sequence format h = absurd h
in_sequence (put b c) h = (h, tt)
in_sequence (delete b) h = (tt, tt)
in_sequence (read b) h = (tt, tt)
in_sequence (read_or b f) h = (tt, tt)
in_sequence recover h = (tt, tt)

abbrev pub Plain : List Call → Type 0
Plain [] = Unit {0}
Plain (x ∷ xs) = InSequence x.request × Plain xs

pub played : (N B : ℕ) (xs : List Call) (s : Image) → Plain xs → History N B s (events_of N B s xs) (play N B s xs) × Unformatted (events_of N B s xs)
unfolding events_of play
played N B [] s h = (refl, tt)
played N B (x ∷ xs) s h =
    let m = (outcome_of N B s x.allowance x.request).image in
    let r = played N B xs m h.1 in
    let i = in_sequence x.request h.0 in
    ((i.0, refl, (m, (x.allowance, refl, refl), r.0)), (i.1, r.1))

uncut_plain : (N B : ℕ) (xs : List Call) (s : Image) → Uncut (observed N B s xs) → Plain xs
unfolding observed observe
uncut_plain N B [] s h = tt
uncut_plain N B (x ∷ xs) s h = (h.0, uncut_plain N B xs (outcome_of N B s x.allowance x.request).image h.2)

-- events none of which is cut
abbrev Whole : List Event → Type 0
Whole [] = Unit {0}
Whole (e ∷ es) = (IsCut e.seen → ⊥) × Whole es

unfoldable is_lost : Seen → Bool
is_lost (answered o) = false
is_lost lost = true

unfoldable code_seen : Seen → ℕ
code_seen (answered o) = o.code
code_seen lost = 0

-- an answer other than 9 is no cut
answered_whole : (o : Reply) → o.code ≢ 9 → IsCut (answered o) → ⊥
unfolding is_lost code_seen
answered_whole o n (inl e) = true≢false (sym (ap is_lost e))
answered_whole o n (inr e) = n (ap code_seen e)

uncut_whole : (N B : ℕ) (xs : List Call) (s : Image) → Uncut (observed N B s xs) → Whole (events_of N B s xs)
unfolding events_of observed observe reply_of
uncut_whole N B [] s h = tt
uncut_whole N B (x ∷ xs) s h = (λ c. answered_whole (reply_of N B s x.allowance x.request) h.1 c, uncut_whole N B xs (outcome_of N B s x.allowance x.request).image h.2)

none_torn : (N B : ℕ) (es : List Event) (s u : Image) (h : History N B s es u) (p : Place) → Whole es → CutIn N B s es u h p → ⊥
none_torn N B [] s u h p w c = c
none_torn N B (e ∷ es) s u (proper, worn, (m, does, rest)) p w (inl (tore, marked)) = w.0 tore.cuts
none_torn N B (e ∷ es) s u (proper, worn, (m, does, rest)) p w (inr c) = none_torn N B es m u rest p w.1 c

pub none_uncut : NoneUncut
none_uncut N B s xs z uncut p h =
    let f = run B (format_steps N B) s in
    let (runs, none) = played N B xs f (uncut_plain N B xs f uncut) in
    none_torn N B (events_of N B f xs) f (play N B f xs) runs p (uncut_whole N B xs f uncut) (cut_tells N B s (play N B f xs) (events_of N B f xs) z runs none p h)
